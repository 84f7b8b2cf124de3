use Rattle.std.proofs.Common.{◌≡◌, ◌++◌, drop, length}
use Rattle.tf_rules.specs.Findings.{valid_findings}
use Rattle.tf_rules.specs.Rules.{top_level_findings}
use Rattle.tf_rules.proofs.rules.check_members.Given as goal

abbrev pub invariant-loop-m : goal.invariant-loop-m
invariant-loop-m l =
    l.found.items ++ valid_findings (length l.fn.cx.scanned.now.pairs) (top_level_findings l.fn.cx.rules l.fn.cx.scanned.now.pairs (drop l.m-index l.fn.members))
    ≡ l.fn.found.items ++ valid_findings (length l.fn.cx.scanned.now.pairs) (top_level_findings l.fn.cx.rules l.fn.cx.scanned.now.pairs l.fn.members)
