use Rattle.std.proofs.Common.{length, ◌-◌, ◌≡◌, ◌+◌, ◌≤◌, drop, IsUtf8}
use Rattle.std.specs.Str.{chars}
use Rattle.hcl_scan.specs.Inner.NextToken.{id_continue_length}
use Rattle.hcl_scan.proofs.ident.ascii_id_end_bytewise.Given as goal

abbrev pub invariant-loop-at : goal.invariant-loop-at
invariant-loop-at l = record {
  counted : l.at + id_continue_length (chars (drop l.at l.bytes)) ≡ l.from + id_continue_length (chars (drop l.from l.bytes));
  within : l.at ≤ length l.bytes;
  utf8 : IsUtf8 (drop l.at l.bytes);
}

abbrev pub decreases-loop-at : goal.decreases-loop-at
decreases-loop-at l = length l.bytes - l.at
