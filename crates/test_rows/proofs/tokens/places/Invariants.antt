use Rattle.std.proofs.Common.{◌≡◌}
use Rattle.test_rows.proofs.tokens.places.Given as goal

abbrev pub invariant-loop-i : goal.invariant-loop-i
invariant-loop-i l = (l.places ≡ l.scanned.pairs) × (l.lines ≡ l.scanned.pairs)
