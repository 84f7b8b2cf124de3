use Rattle.std.proofs.Common.{◌≡◌, ◌<◌, ◌≤◌, ◌^◌, drop, length, true}
use Rattle.edit_record.specs.declared.columns.TheConstants.{QUICK_DIGITS}
use Rattle.edit_record.specs.Text.{max_number, space}
use Rattle.edit_record.specs.Parsing.{number_on, number_at}
use Rattle.edit_record.proofs.short_edits.short_place.Given as goal

abbrev pub invariant-loop-i : goal.invariant-loop-i
invariant-loop-i l = record {
  same : number_on (length l.text) 0 max_number space true l.value (drop l.i l.text) ≡ number_at 0 max_number space l.text;
  positive : 0 < l.value;
  small : l.value < 10 ^ l.i;
  most : l.i ≤ QUICK_DIGITS;
}
