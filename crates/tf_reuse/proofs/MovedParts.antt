-- The parts of an expression or a term whose tokens are elsewhere too.
use Rattle.std.proofs.Common.{ℕ, ◌<◌}
use Rattle.hcl_grammar.specs.Nodes as node
use Rattle.hcl_grammar.specs.declared.tree.Expr.{Expr}
use Rattle.hcl_grammar.specs.declared.tree.Term.{Term}
use Rattle.tf_reuse.proofs.RenumberedNodes as moved
use Rattle.tf_reuse.proofs.RenumberedNodes.{MovedExpr, MovedForm, MovedTerm, MovedShape}

module _ {R T : ℕ → ℕ → Type 0} where
  pub form_of : {e e' : Expr} → MovedExpr R T e e' → MovedForm R T e.kind e'.kind
  unfolding node.expr
  form_of (moved.moved_expr r s l f) = f

  pub shape_of : {t t' : Term} → MovedTerm R T t t' → MovedShape R T t.kind t'.kind
  unfolding node.term
  shape_of (moved.moved_term r s l f) = f

  pub first_here : {e e' : Expr} → MovedExpr R T e e' → R e.first e'.first
  unfolding node.expr
  first_here (moved.moved_expr r s l f) = r

  pub past_here : {e e' : Expr} → MovedExpr R T e e' → R e.past e'.past
  unfolding node.expr
  past_here (moved.moved_expr r s l f) = s

  pub some_token : {e e' : Expr} → MovedExpr R T e e' → e.first < e.past
  unfolding node.expr
  some_token (moved.moved_expr r s l f) = l
