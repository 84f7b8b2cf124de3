use Rattle.std.proofs.Common.{length, slice_index, ◌-◌, ◌≡◌, ◌+◌, ◌<◌, ◌≤◌, drop}
use Rattle.std.specs.List.{prefix_len}
use Rattle.hcl_scan.specs.Characters.{is_whitespace}
use Rattle.hcl_scan.proofs.bytes.skip_whitespace_bytewise.Given as goal

abbrev pub invariant-loop-first : goal.invariant-loop-first
invariant-loop-first l = record {
  value : l.at + prefix_len is_whitespace (drop l.at l.text) ≡ l.from + prefix_len is_whitespace (drop l.from l.text);
  within : l.at ≤ length l.text;
  byte : l.first ≡ slice_index l.text l.at;
  byte_within : 0 < l.first → l.at < length l.text;
}

abbrev pub decreases-loop-first : goal.decreases-loop-first
decreases-loop-first l = length l.text - l.at
