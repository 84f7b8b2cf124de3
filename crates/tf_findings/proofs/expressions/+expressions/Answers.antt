use Rattle.std.proofs.Common.{false, [], ◌∷◌, ◌+◌, drop, map, refl, sym, ap, ◌∙◌, append-nil}
use Rattle.std.specs.List.{flat_map}
use Rattle.hcl_grammar.specs.declared.tree.ExprKind.{out-ExprKind}
use Rattle.hcl_grammar.specs.declared.tree.Operation.{Operation}
use Rattle.hcl_grammar.specs.declared.tree.Part.{out-Part}
use Rattle.hcl_grammar.specs.declared.tree.Primary.{out-Primary}
use Rattle.hcl_grammar.specs.declared.tree.Tail.{out-Tail}
use Rattle.hcl_grammar_laws.proofs.Opens.{open_conditional, open_chain, open_tailed, open_number, open_identifier, open_tuple, open_object, open_parens, open_literal, open_name, open_legacy, open_attribute_splat, open_full_splat}
use Rattle.tf_rules.specs.declared.role.Role.TheVariants as role
use Rattle.tf_rules.specs.Preorder.{expr, term, part, tail, elem_children, expr_kind_children, primary_children, tail_children, part_children, filter_children, else_children, nodes_of_tails}
use Rattle.tf_findings.proofs.LeafLemmas.{leaf, branch}
use Rattle.tf_findings.proofs.WalkLemmas.{where_ok, joined, whole, nowhere, among, loop_step, finished}
use Rattle.tf_findings.proofs.expressions.+expressions.Goals as goal

pub walk_expr-returns : goal.walk_expr-returns
walk_expr-returns t c = whole _ c.in_ok-check_expr.ensures c.in_ok-walk_expr_kind.ensures

pub walk_term-returns-in-Number : goal.walk_term-returns-in-Number
walk_term-returns-in-Number t c = leaf c.args.cx.now.lint.rules c.args.cx.now.lint.scanned.now.pairs c.args.role c.args.t.now _ (ap out-Primary c.in-Number.is ∙ open_number) refl refl

pub walk_term-returns-in-Identifier : goal.walk_term-returns-in-Identifier
walk_term-returns-in-Identifier t c = leaf c.args.cx.now.lint.rules c.args.cx.now.lint.scanned.now.pairs c.args.role c.args.t.now _ (ap out-Primary c.in-Identifier.is ∙ open_identifier) refl refl

pub walk_term-returns-in-Tuple : goal.walk_term-returns-in-Tuple
walk_term-returns-in-Tuple t c =
    where_ok c.walk_exprs.result
    (λ inside. branch c.args.cx.now.lint.rules c.args.cx.now.lint.scanned.now.pairs c.args.role c.args.t.now (ap out-Primary c.in-Tuple.is ∙ open_tuple _) refl
    (among (ap (map (expr role.Element)) (sym c.get.ensures)) inside))
    c.walk_exprs.ensures

pub walk_term-returns-in-Object : goal.walk_term-returns-in-Object
walk_term-returns-in-Object t c =
    where_ok c.walk_elems.result
    (λ inside. branch c.args.cx.now.lint.rules c.args.cx.now.lint.scanned.now.pairs c.args.role c.args.t.now (ap out-Primary c.in-Object.is ∙ open_object _) refl
    (among (ap (flat_map elem_children) (sym c.get-in-Object.ensures)) inside))
    c.walk_elems.ensures

pub walk_term-returns-in-Parens : goal.walk_term-returns-in-Parens
walk_term-returns-in-Parens t c =
    where_ok c.walk_boxed.result
    (λ inside. branch c.args.cx.now.lint.rules c.args.cx.now.lint.scanned.now.pairs c.args.role c.args.t.now (ap out-Primary c.in-Parens.is ∙ open_parens _) refl inside)
    c.walk_boxed.ensures

pub walk_term-returns-in_ok-walk_primary-in_default : goal.walk_term-returns-in_ok-walk_primary-in_default
walk_term-returns-in_ok-walk_primary-in_default t c =
    whole _ c.in_ok-check_term_beyond-in_default.ensures.found c.in_ok-walk_primary-in_default.ensures

pub walk_tail-returns : goal.walk_tail-returns
walk_tail-returns t c = whole _ c.in_ok-check_tail.ensures c.in_ok-walk_tail_children.ensures

pub walk_for_directive-returns : goal.walk_for_directive-returns
walk_for_directive-returns t c = joined c.in_ok-walk_expr.ensures c.in_ok-walk_parts.ensures

pub walk_for_tuple-returns : goal.walk_for_tuple-returns
walk_for_tuple-returns t c = joined c.in_ok-walk_expr.ensures (joined c.in_ok-walk_expr-2.ensures c.in_ok-walk_filter.ensures)

pub walk_for_object-returns : goal.walk_for_object-returns
walk_for_object-returns t c = joined c.in_ok-walk_expr.ensures (joined c.in_ok-walk_expr-2.ensures (joined c.in_ok-walk_expr-3.ensures c.in_ok-walk_filter.ensures))

pub walk_if_directive-returns : goal.walk_if_directive-returns
walk_if_directive-returns t c = joined c.in_ok-walk_expr.ensures (joined c.in_ok-walk_parts.ensures c.in_ok-walk_else_branch.ensures)

pub walk_elems-loop-x-preserved : goal.walk_elems-loop-x-preserved
walk_elems-loop-x-preserved t c =
    loop_step (flat_map elem_children) _ c.loop-x.x-index c.x-item.result _ _ c.x-item.is c.loop-x-test.true refl c.loop-x.invariant (joined c.in_ok-walk_expr.ensures c.in_ok-walk_expr-2.ensures)

pub walk_exprs-loop-e-preserved : goal.walk_exprs-loop-e-preserved
walk_exprs-loop-e-preserved t c =
    loop_step (map (expr c.args.role)) _ c.loop-e.e-index c.e-item.result _ _ c.e-item.is c.loop-e-test.true refl c.loop-e.invariant c.in_ok-walk_expr.ensures

pub walk_operations-loop-link-preserved : goal.walk_operations-loop-link-preserved
walk_operations-loop-link-preserved t c =
    loop_step (map (λ (x : Operation). expr role.Elsewhere x.operand)) _ c.loop-link.link-index c.link-item.result _ _ c.link-item.is c.loop-link-test.true refl c.loop-link.invariant
    c.in_ok-walk_expr.ensures

pub walk_parts-loop-x-preserved : goal.walk_parts-loop-x-preserved
walk_parts-loop-x-preserved t c = loop_step (map part) _ c.loop-x.x-index c.x-item.result _ _ c.x-item.is c.loop-x-test.true refl c.loop-x.invariant (whole (part c.x-item.result) (sym (append-nil _)) c.in_ok-walk_part.ensures)

pub walk_tails-loop-t-preserved : goal.walk_tails-loop-t-preserved
walk_tails-loop-t-preserved t c =
    loop_step (nodes_of_tails c.loop-t.splat) c.as_slice-t-items.result.now c.loop-t.t-index c.t-item.result (tail c.loop-t.splat c.t-item.result ∷ []) _ c.t-item.is c.loop-t-test.true
    (ap (λ s. tail c.loop-t.splat c.t-item.result ∷ nodes_of_tails s (drop (c.loop-t.t-index + 1) c.as_slice-t-items.result.now)) (sym c.splat_after-splat.ensures))
    c.loop-t.invariant c.in_ok-walk_tail.ensures

pub walk_elems-returns : goal.walk_elems-returns
walk_elems-returns t c = finished (flat_map elem_children) _ c.loop-x.x-index c.loop-x-test.false refl c.loop-x.invariant

pub walk_exprs-returns : goal.walk_exprs-returns
walk_exprs-returns t c = finished (map (expr c.args.role)) _ c.loop-e.e-index c.loop-e-test.false refl c.loop-e.invariant

pub walk_operations-returns : goal.walk_operations-returns
walk_operations-returns t c = finished (map (λ (x : Operation). expr role.Elsewhere x.operand)) _ c.loop-link.link-index c.loop-link-test.false refl c.loop-link.invariant

pub walk_parts-returns : goal.walk_parts-returns
walk_parts-returns t c = finished (map part) _ c.loop-x.x-index c.loop-x-test.false refl c.loop-x.invariant

pub walk_tails-returns : goal.walk_tails-returns
walk_tails-returns t c = finished (nodes_of_tails c.loop-t.splat) _ c.loop-t.t-index c.loop-t-test.false refl c.loop-t.invariant

pub walk_expr_kind-returns-in_ok-walk_boxed-in-Conditional-3 : goal.walk_expr_kind-returns-in_ok-walk_boxed-in-Conditional-3
walk_expr_kind-returns-in_ok-walk_boxed-in-Conditional-3 t c =
    among (ap (expr_kind_children c.args.role) (ap out-ExprKind c.in-Conditional.is ∙ open_conditional _ _ _))
    (joined c.in_ok-walk_boxed-in-Conditional.ensures (joined c.in_ok-walk_boxed-in-Conditional-2.ensures c.in_ok-walk_boxed-in-Conditional-3.ensures))

pub walk_expr_kind-returns-in_ok-walk_operations-in-Binary : goal.walk_expr_kind-returns-in_ok-walk_operations-in-Binary
walk_expr_kind-returns-in_ok-walk_operations-in-Binary t c =
    among (ap (expr_kind_children c.args.role) (ap out-ExprKind c.in-Binary.is ∙ open_chain _ _))
    (joined c.in_ok-walk_boxed-in-Binary.ensures (among (ap (map (λ (x : Operation). expr role.Elsewhere x.operand)) (sym c.get.ensures)) c.in_ok-walk_operations-in-Binary.ensures))

pub walk_expr_kind-returns-in_ok-walk_tails-in-Postfix : goal.walk_expr_kind-returns-in_ok-walk_tails-in-Postfix
walk_expr_kind-returns-in_ok-walk_tails-in-Postfix t c =
    among (ap (expr_kind_children c.args.role) (ap out-ExprKind c.in-Postfix.is ∙ open_tailed _ _))
    (joined (among (ap (λ x. term role.Elsewhere x ∷ []) (sym c.get-in-Postfix.ensures)) c.in_ok-walk_term-in-Postfix.ensures)
    (among (ap (nodes_of_tails false) (sym c.get-in-Postfix-2.ensures)) c.in_ok-walk_tails-in-Postfix.ensures))

pub walk_primary-returns-in-Number : goal.walk_primary-returns-in-Number
walk_primary-returns-in-Number t c = nowhere (ap primary_children (ap out-Primary c.in-Number.is ∙ open_number))

pub walk_primary-returns-in-Identifier : goal.walk_primary-returns-in-Identifier
walk_primary-returns-in-Identifier t c = nowhere (ap primary_children (ap out-Primary c.in-Identifier.is ∙ open_identifier))

pub walk_part-returns-in-Literal : goal.walk_part-returns-in-Literal
walk_part-returns-in-Literal t c = nowhere (ap part_children (ap out-Part c.in-Literal.is ∙ open_literal _))

pub walk_tail_children-returns-in-Name : goal.walk_tail_children-returns-in-Name
walk_tail_children-returns-in-Name t c = nowhere (ap tail_children (ap out-Tail c.in-Name.is ∙ open_name _))

pub walk_tail_children-returns-in-LegacyIndex : goal.walk_tail_children-returns-in-LegacyIndex
walk_tail_children-returns-in-LegacyIndex t c = nowhere (ap tail_children (ap out-Tail c.in-LegacyIndex.is ∙ open_legacy _))

pub walk_tail_children-returns-in-AttributeSplat : goal.walk_tail_children-returns-in-AttributeSplat
walk_tail_children-returns-in-AttributeSplat t c = nowhere (ap tail_children (ap out-Tail c.in-AttributeSplat.is ∙ open_attribute_splat))

pub walk_tail_children-returns-in-FullSplat : goal.walk_tail_children-returns-in-FullSplat
walk_tail_children-returns-in-FullSplat t c = nowhere (ap tail_children (ap out-Tail c.in-FullSplat.is ∙ open_full_splat))

pub walk_filter-returns-in-None : goal.walk_filter-returns-in-None
walk_filter-returns-in-None t c = nowhere (ap filter_children c.in-None.is)

pub walk_else_branch-returns-in-None : goal.walk_else_branch-returns-in-None
walk_else_branch-returns-in-None t c = nowhere (ap else_children c.in-None.is)
