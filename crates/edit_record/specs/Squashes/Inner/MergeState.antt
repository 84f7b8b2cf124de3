-- The code's state, as the steps on lists have it.
use Rattle.edit_record.specs.declared.squashes.merge.Merge.{Merge}
use Rattle.edit_record.specs.Squashes.Inner.Merge.{State}

abbrev pub state : Merge → State
state m = record {
  out = m.out.items;
  at = m.at;
  removed = m.removed.items;
  added = m.added.items;
  first_pending = m.first_pending.now;
  second_pending = m.second_pending.now;
  first_end = m.first_end;
  second_end = m.second_end;
  has_first = m.has_first;
  has_second = m.has_second;
}
