use Rattle.std.proofs.Common.{length, ◌-◌, ◌≡◌, ◌+◌, ◌≤◌, drop, IsUtf8}
use Rattle.std.specs.Str.{chars}
use Rattle.hcl_scan.specs.Inner.NextToken.{id_continue_length}
use Rattle.hcl_scan.proofs.ident.ascii_id_end.Given as goal

abbrev pub invariant-loop-at : goal.invariant-loop-at
invariant-loop-at l = record {
  counted : l.at + id_continue_length (chars (drop l.at l.text)) ≡ l.from + id_continue_length (chars (drop l.from l.text));
  within : l.at ≤ length l.text;
  utf8 : IsUtf8 (drop l.at l.text);
}

abbrev pub decreases-loop-at : goal.decreases-loop-at
decreases-loop-at l = length l.text - l.at
