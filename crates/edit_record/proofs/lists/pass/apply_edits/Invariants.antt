use Rattle.std.proofs.Common.{◌≡◌, drop, length}
use Rattle.edit_record.specs.Lists.Validity.{AreDisjoint}
use Rattle.edit_record.specs.Lists.Apply.{walk, prepend}
use Rattle.edit_record.proofs.ListsLemmas.Placed.{SpaceLeft}
use Rattle.edit_record.proofs.lists.pass.apply_edits.Given as goal

abbrev pub invariant-loop-i : goal.invariant-loop-i
invariant-loop-i l = record {
  is_walk : prepend l.out.items (walk l.direction l.i l.old_end (drop l.i l.edits) l.rest) ≡ walk l.direction 0 0 l.edits l.text;
  disjoint : AreDisjoint l.old_len l.old_end (drop l.i l.edits);
  in_bounds : SpaceLeft l.direction l.old_len l.old_end (length l.rest) (drop l.i l.edits);
}
