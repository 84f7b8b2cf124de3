use Rattle.std.proofs.Common.{◌≡◌, ◌-◌, ◌⊎◌, true}
use Rattle.edit_record.specs.Inner.Allocating.{steps_allocate}
use Rattle.edit_record.proofs.Steps.{Alike, ErrorsAlike}
use Rattle.edit_record.proofs.version_1.squash_steps.Given as goal

abbrev pub invariant-loop : goal.invariant-loop
invariant-loop l = record {
  equivalent : Alike l.edits (l.count - l.counter) l.rest l.fn.first l.count l.text;
  begun : (l.rest ≡ l.text) ⊎ (steps_allocate l.count l.text ≡ true);
  errors : ErrorsAlike l.edits (l.count - l.counter) l.rest l.fn.first l.count l.text;
}
