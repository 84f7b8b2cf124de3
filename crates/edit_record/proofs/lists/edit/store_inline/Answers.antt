use Rattle.std.proofs.Common.{◌≡◌, ℕ, ◌+◌, List, ◌++◌, length, take, drop, refl}
use Rattle.std.proofs.lemmas.List.{take_at, drop_at, drop-take}
use Rattle.edit_record.proofs.lists.edit.store_inline.Goals as goal

-- one text and then another, as two writes leave them
prepend : (xs ys zs rest : List ℕ) → drop (length xs) (take (length xs + length ys) (take (length xs) (xs ++ zs) ++ (ys ++ rest))) ≡ ys
prepend xs ys zs rest =
    rw (take_at xs zs _ refl, drop-take, drop_at xs (ys ++ rest) _ refl) (take_at ys rest _ refl)

pub returns-clause-added : goal.returns-clause-added
returns-clause-added c = rw (c.copy_from_slice.ensures.after, c.copy_from_slice-2.ensures.after) (prepend c.args.removed.now c.args.added.now _ _)
