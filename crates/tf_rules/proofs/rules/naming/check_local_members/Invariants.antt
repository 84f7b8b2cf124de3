use Rattle.std.proofs.Common.{◌≡◌, ◌++◌, drop, length}
use Rattle.tf_rules.specs.Findings.{valid_findings}
use Rattle.std.specs.List.{flat_map}
use Rattle.tf_rules.specs.Attributes.{member_attributes}
use Rattle.tf_rules.specs.Rules.Naming.{local_findings}
use Rattle.tf_rules.proofs.rules.naming.check_local_members.Given as goal

abbrev pub invariant-loop-m : goal.invariant-loop-m
invariant-loop-m l =
    l.found.items ++ valid_findings (length l.fn.cx.scanned.now.pairs) (flat_map (local_findings l.fn.cx.scanned.now.pairs) (flat_map member_attributes (drop l.m-index l.fn.members)))
    ≡ l.fn.found.items ++ valid_findings (length l.fn.cx.scanned.now.pairs) (flat_map (local_findings l.fn.cx.scanned.now.pairs) (flat_map member_attributes l.fn.members))
