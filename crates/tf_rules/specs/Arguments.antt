-- The name and the arguments of a call.
use Rattle.std.specs.Prelude.{ℕ, Bool, true, false, List, [], ◌∷◌, Option, Some, None}
use Rattle.hcl_grammar.specs.declared.tree.Expr.{Expr}
use Rattle.tf_rules.specs.declared.summary.Count.{Count}
use Rattle.tf_rules.specs.declared.summary.Count.TheVariants as count

-- the number of the token that is the name, if it is one token
abbrev pub sole_name : List ℕ → Option ℕ
sole_name (n ∷ []) = Some n
sole_name _ = None

-- the two arguments, where there are two
abbrev pub two_arguments : List Expr → Option (Expr × Expr)
two_arguments (a ∷ b ∷ []) = Some (a, b)
two_arguments _ = None

abbrev pub is_two : Count → Bool
is_two count.Two = true
is_two _ = false
