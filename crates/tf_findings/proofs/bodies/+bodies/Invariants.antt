use Rattle.std.proofs.Common.{map, List, drop}
use Rattle.tf_rules.specs.declared.finding.Finding.{Finding}
use Rattle.tf_findings.specs.Inner.Collects.{Collects}
use Rattle.tf_rules.specs.Preorder.{member}
use Rattle.tf_findings.proofs.bodies.+bodies.Given as goal

abbrev pub invariant-walk_members-loop-x : goal.invariant-walk_members-loop-x
invariant-walk_members-loop-x l = (zs : List Finding)
    → Collects l.fn.cx.lint.rules l.fn.cx.lint.scanned.now.pairs (map member (drop l.x-index l.x-items)) l.found.items zs
    → Collects l.fn.cx.lint.rules l.fn.cx.lint.scanned.now.pairs (map member l.fn.members) l.fn.found.items zs
