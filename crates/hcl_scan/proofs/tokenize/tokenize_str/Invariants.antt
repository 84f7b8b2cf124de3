use Rattle.std.proofs.Common.{◌≡◌, ◌-◌, length}
use Rattle.hcl_scan.specs.Modes.{mode_of}
use Rattle.hcl_scan.specs.Inner.Openings.{region_of, modes_of, places_of}
use Rattle.hcl_scan.specs.Inner.TokenizedTo.{IsTokenizedTo}
use Rattle.hcl_scan.proofs.tokenize.tokenize_str.Given as goal

-- the text up to the place is tokenized, and the region is that of the innermost opening
abbrev pub invariant-scan : goal.invariant-scan
invariant-scan l = record {
  tokenization : IsTokenizedTo l.text l.tokens.items l.at (modes_of l.openings.items) (places_of l.openings.items);
  region : l.region ≡ region_of (mode_of (modes_of l.openings.items));
}

abbrev pub decreases-scan : goal.decreases-scan
decreases-scan l = length l.text - l.at
