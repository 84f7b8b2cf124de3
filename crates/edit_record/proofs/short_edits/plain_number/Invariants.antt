use Rattle.std.proofs.Common.{◌≡◌, ◌<◌, ◌≤◌, length, true}
use Rattle.edit_record.specs.Text.{max_number}
use Rattle.edit_record.specs.Parsing.{number_on, number_at}
use Rattle.edit_record.proofs.short_edits.plain_number.Given as goal

abbrev pub invariant-loop-remaining : goal.invariant-loop-remaining
invariant-loop-remaining l = record {
  same : number_on (length l.text) 0 max_number l.terminator true l.value l.remaining ≡ number_at 0 max_number l.terminator l.text;
  positive : 0 < l.value;
  fits : l.value ≤ max_number;
}

abbrev pub decreases-loop-remaining : goal.decreases-loop-remaining
decreases-loop-remaining l = length l.remaining
