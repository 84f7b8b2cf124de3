-- Each node has the number of its first token and the place after its last.
use Rattle.std.proofs.Common.{◌≡◌, ℕ, Bool, true, List, refl}
use Rattle.hcl_grammar.specs.declared.tree.Expr.{Expr}
use Rattle.hcl_grammar.specs.declared.tree.Intro.{Intro}
use Rattle.hcl_grammar.specs.declared.tree.Term.{Term}
use Rattle.hcl_grammar.specs.Grammar.{IsExpr, plain, conditional, IsLevel, lowest, level, no_operations, operation, IsUnary, with_operator, post, no_tails, tails, IsTerm, number, IsIntro, intro}
use Rattle.hcl_grammar.specs.Nodes as node
use Rattle.hcl_grammar.specs.Tokens.{Token, next_index}

module _ {ts : List Token} where
  pub placed_term : {d : ℕ} {m : Bool} {e : Term} {i j : ℕ} → IsTerm ts d m e i j → (e.first ≡ next_index ts m i) × (e.past ≡ j)
  unfolding node.term
  placed_term (number p) = (refl, refl)
  placed_term _ = (refl, refl)

  pub placed_unary : {d : ℕ} {m : Bool} {e : Expr} {i j : ℕ} → IsUnary ts d m e i j → (e.first ≡ next_index ts m i) × (e.past ≡ j)
  unfolding node.expr
  placed_unary (with_operator p o x) = (refl, refl)
  placed_unary (post p no_tails) = (refl, refl)
  placed_unary (post p (tails x xs)) = (refl, refl)

  pub placed_level : {d : ℕ} {m : Bool} {n : ℕ} {e : Expr} {i j : ℕ} → IsLevel ts d m n e i j → (e.first ≡ next_index ts m i) × (e.past ≡ j)
  unfolding node.expr
  placed_level (lowest p) = placed_unary p
  placed_level (level p no_operations) = placed_level p
  placed_level (level p (operation q o x xs)) = (refl, refl)

  pub placed_expr : {d : ℕ} {m : Bool} {e : Expr} {i j : ℕ} → IsExpr ts d m e i j → (e.first ≡ next_index ts m i) × (e.past ≡ j)
  unfolding node.expr
  placed_expr (plain p) = placed_level p
  placed_expr (conditional c q x s y) = (refl, refl)

  pub placed_intro : {d : ℕ} {e : Intro} {i j : ℕ} → IsIntro ts d e i j → (e.first ≡ next_index ts true i) × (e.past ≡ j)
  unfolding node.intro
  placed_intro (intro w p s v e) = (refl, refl)
