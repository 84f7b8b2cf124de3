use Rattle.std.proofs.Common.{◌≡◌, ◌≤◌, ◌-◌, length, vec_capacity}
use Rattle.hcl_scan.specs.Inner.Openings.{modes_of, places_of}
use Rattle.hcl_scan.specs.Inner.TokenizedTo.{IsTokenizedTo}
use Rattle.hcl_scan.proofs.plain.push_in_mode.Given as goal

abbrev pub invariant-loop-bytes : goal.invariant-loop-bytes
invariant-loop-bytes l = record {
  state : IsTokenizedTo l.text l.tokens.items l.at (modes_of l.openings.items) (places_of l.openings.items);
  onward : l.from ≤ l.at;
  limit_in_capacity : l.limit ≡ vec_capacity l.tokens - 2;
}

abbrev pub decreases-loop-bytes : goal.decreases-loop-bytes
decreases-loop-bytes l = length l.text - l.at
