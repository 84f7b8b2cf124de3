-- For proofs: a chain of operators, as its levels are read from a list, one in another.
use Rattle.std.specs.Prelude.{ℕ, nat_lt, if◌then◌else◌, List, [], ◌∷◌}
use Rattle.hcl_grammar.specs.declared.tree.Operation.{Operation}
use Rattle.hcl_grammar.specs.Operators.{operator_level, levels}

-- the operators up to the first that is not of a level below n
abbrev pub before : ℕ → List Operation → List Operation
before n [] = []
before n (x ∷ xs) = if nat_lt (operator_level x.operator) n then x ∷ before n xs else []

-- and from there on
abbrev pub after : ℕ → List Operation → List Operation
after n [] = []
after n (x ∷ xs) = if nat_lt (operator_level x.operator) n then after n xs else x ∷ xs

-- the level of the first operator; the number of levels, if there is none
abbrev pub first_level : List Operation → ℕ
first_level [] = levels
first_level (x ∷ xs) = operator_level x.operator
