use Rattle.std.proofs.Common.{map, false, List, drop}
use Rattle.std.specs.List.{flat_map}
use Rattle.tf_rules.specs.declared.finding.Finding.{Finding}
use Rattle.tf_rules.specs.declared.role.Role.TheVariants as role
use Rattle.tf_findings.specs.Inner.Collects.{Collects}
use Rattle.tf_rules.specs.Preorder.{expr, part, elem_children, nodes_of_tails}
use Rattle.hcl_grammar.specs.declared.tree.Operation.{Operation}
use Rattle.tf_findings.proofs.expressions.+expressions.Given as goal

abbrev pub invariant-walk_elems-loop-x : goal.invariant-walk_elems-loop-x
invariant-walk_elems-loop-x l = (zs : List Finding)
    → Collects l.fn.cx.lint.rules l.fn.cx.lint.scanned.now.pairs (flat_map elem_children (drop l.x-index l.x-items)) l.found.items zs
    → Collects l.fn.cx.lint.rules l.fn.cx.lint.scanned.now.pairs (flat_map elem_children l.fn.xs) l.fn.found.items zs

abbrev pub invariant-walk_exprs-loop-e : goal.invariant-walk_exprs-loop-e
invariant-walk_exprs-loop-e l = (zs : List Finding)
    → Collects l.fn.cx.lint.rules l.fn.cx.lint.scanned.now.pairs (map (expr l.fn.role) (drop l.e-index l.e-items)) l.found.items zs
    → Collects l.fn.cx.lint.rules l.fn.cx.lint.scanned.now.pairs (map (expr l.fn.role) l.fn.es) l.fn.found.items zs

abbrev pub invariant-walk_operations-loop-link : goal.invariant-walk_operations-loop-link
invariant-walk_operations-loop-link l = (zs : List Finding)
    → Collects l.fn.cx.lint.rules l.fn.cx.lint.scanned.now.pairs (map (λ (x : Operation). expr role.Elsewhere x.operand) (drop l.link-index l.link-items)) l.found.items zs
    → Collects l.fn.cx.lint.rules l.fn.cx.lint.scanned.now.pairs (map (λ (x : Operation). expr role.Elsewhere x.operand) l.fn.operations) l.fn.found.items zs

abbrev pub invariant-walk_parts-loop-x : goal.invariant-walk_parts-loop-x
invariant-walk_parts-loop-x l = (zs : List Finding)
    → Collects l.fn.cx.lint.rules l.fn.cx.lint.scanned.now.pairs (map part (drop l.x-index l.x-items)) l.found.items zs
    → Collects l.fn.cx.lint.rules l.fn.cx.lint.scanned.now.pairs (map part l.fn.parts) l.fn.found.items zs

abbrev pub invariant-walk_tails-loop-t : goal.invariant-walk_tails-loop-t
invariant-walk_tails-loop-t l = (zs : List Finding)
    → Collects l.fn.cx.lint.rules l.fn.cx.lint.scanned.now.pairs (nodes_of_tails l.splat (drop l.t-index l.t-items)) l.found.items zs
    → Collects l.fn.cx.lint.rules l.fn.cx.lint.scanned.now.pairs (nodes_of_tails false l.fn.tails) l.fn.found.items zs
