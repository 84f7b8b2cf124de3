use Rattle.std.proofs.Common.{◌≡◌, ◌++◌, true, drop, length}
use Rattle.tf_rules.specs.Findings.{valid_findings}
use Rattle.tf_rules.specs.Rules.Equality.{chain_findings}
use Rattle.tf_rules.proofs.rules.equality.check_chain.Given as goal

abbrev pub invariant-loop-operation : goal.invariant-loop-operation
invariant-loop-operation l =
    l.found.items ++ valid_findings (length l.fn.cx.scanned.now.pairs) (chain_findings l.fn.cx.scanned.now.pairs l.fn.first l.is_first l.left (drop l.operation-index l.fn.operations))
    ≡ l.fn.found.items ++ valid_findings (length l.fn.cx.scanned.now.pairs) (chain_findings l.fn.cx.scanned.now.pairs l.fn.first true l.fn.head l.fn.operations)
