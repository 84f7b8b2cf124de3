use Rattle.std.proofs.Common.{◌≡◌, ◌+◌, ◌≤◌, ◌^◌, ◌-◌, List, ◌++◌, take, drop, min}
use Rattle.edit_record.specs.Lists.Pieces.{EditEntry, removed_len, added_len}
use Rattle.edit_record.specs.Lists.Validity.{first_fault, AreDisjoint}
use Rattle.edit_record.proofs.lists.edits.Edits.make.Given as goal

abbrev pub invariant-loop-i : goal.invariant-loop-i
invariant-loop-i l = record {
  faults : first_fault l.old_len l.from l.i (drop l.i l.edit-items) ≡ first_fault l.old_len 0 0 l.edit-items;
  disjoint : (tail : List EditEntry) → AreDisjoint l.old_len l.from tail → AreDisjoint l.old_len 0 ((take l.i l.edit-items) ++ tail);
  removed : l.removed + removed_len (drop l.i l.edit-items) ≡ removed_len l.edit-items;
  added : min (l.added + added_len (drop l.i l.edit-items)) (2 ^ 64 - 1) ≡ min (added_len l.edit-items) (2 ^ 64 - 1);
  within : l.from ≤ l.old_len;
  fewer : l.removed ≤ l.from;
}
