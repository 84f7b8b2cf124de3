use Rattle.std.proofs.Common.{◌≡◌, ◌≤◌, count_by, take}
use Rattle.hcl_token.specs.Place.{is_lf}
use Rattle.tf_program.proofs.location.count_line_feeds.Given as goal

abbrev pub invariant-loop-byte : goal.invariant-loop-byte
invariant-loop-byte l = (l.count ≡ count_by is_lf (take l.byte-index l.text)) × (l.count ≤ l.byte-index)
