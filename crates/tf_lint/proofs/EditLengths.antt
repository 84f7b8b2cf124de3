-- The numbers of bytes of an edit in a list fit 32 bits.
use Rattle.std.proofs.Common.{ℕ, zero, suc, ◌+◌, ◌^◌, ◌≤◌, ◌<◌, List, [], ◌∷◌, length, get_or, arith}
use Rattle.edit_record.specs.Lists.Pieces.{EditEntry, added_len}
use Rattle.edit_record.proofs.ListsLemmas.Placed.{placed_within}
use Rattle.edit_record.specs.Lists.Validity.{AreDisjoint, AreValidEdits}

-- the edit ends by the text's end, and adds no more than all of them
record IsWithin (old_len added : ℕ) (e : EditEntry) : Type 0 where
  ends : e.at + length e.removed ≤ old_len
  adds : length e.added ≤ added

each_within : (old_len from : ℕ) (es : List EditEntry) (i : ℕ) (d : EditEntry) → AreDisjoint old_len from es → i < length es → IsWithin old_len (added_len es) (get_or es i d)
each_within old_len from [] i d disjoint below = absurd (omega (arith, below))
each_within old_len from (e ∷ es) zero d disjoint below = record { ends = disjoint.0.within; adds = omega arith }
each_within old_len from (e ∷ es) (suc i) d disjoint below =
    let rest = each_within old_len (e.at + length e.removed) es i d disjoint.1 (omega (arith, below)) in
    record { ends = rest.ends; adds = omega (arith, rest.adds) }

pub record IsShort (e : EditEntry) : Type 0 where
  pub at : e.at < 2 ^ 32
  pub removed : length e.removed < 2 ^ 32
  pub added : length e.added < 2 ^ 32

pub short_edit : (old_len new_len : ℕ) (es : List EditEntry) (i : ℕ) (d : EditEntry) → AreValidEdits old_len new_len es → i < length es → IsShort (get_or es i d)
short_edit old_len new_len es i d valid below =
    let one = each_within old_len 0 es i d valid.disjoint below in
    let all = placed_within old_len 0 es valid.disjoint in
    record {
      at = omega (arith, one.ends, valid.old_fits);
      removed = omega (arith, one.ends, valid.old_fits);
      added = omega (arith, one.adds, all, valid.new, valid.new_fits);
    }
