use Rattle.std.proofs.Common.{◌≡◌, ◌≤◌, length}
use Rattle.edit_record.specs.Parsing.{number_on, number_at}
use Rattle.edit_record.proofs.readers.number.Given as goal

abbrev pub invariant-loop-remaining : goal.invariant-loop-remaining
invariant-loop-remaining l = record {
  same : number_on (length l.text) l.min l.max l.terminator l.some l.value l.remaining ≡ number_at l.min l.max l.terminator l.text;
  fits : l.value ≤ l.max;
}

abbrev pub decreases-loop-remaining : goal.decreases-loop-remaining
decreases-loop-remaining l = length l.remaining
