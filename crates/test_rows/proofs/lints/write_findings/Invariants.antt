use Rattle.std.proofs.Common.{◌≡◌}
use Rattle.test_rows.proofs.lints.write_findings.Given as goal

abbrev pub invariant-loop-finding : goal.invariant-loop-finding
invariant-loop-finding l = l.places ≡ l.scanned.pairs
