use Rattle.std.proofs.Common.{◌≡◌, ℕ, ◌+◌, ◌-◌, ◌≤◌, ◌^◌, List, [], ◌++◌, length, take, drop, min, arith}
use Rattle.std.proofs.lemmas.List.{append-nil, take_all, drop_all}
use Rattle.edit_record.specs.declared.lists.edits.TheConstants.{MAX_TEXT}
use Rattle.edit_record.specs.Lists.Pieces.{EditEntry, removed_len, added_len}
use Rattle.edit_record.specs.Lists.Validity.{AreDisjoint, AreValidEdits}
use Rattle.edit_record.proofs.lists.edits.Edits.make.Goals as goal

at_end : (xs : List EditEntry) (i old_len from removed added : ℕ) → length xs ≤ i → ((tail : List EditEntry) → AreDisjoint old_len from tail → AreDisjoint old_len 0 ((take i xs) ++ tail)) → removed + removed_len (drop i xs) ≡ removed_len xs → min (added + added_len (drop i xs)) (2 ^ 64 - 1) ≡ min (added_len xs) (2 ^ 64 - 1) → from ≤ old_len → removed ≤ from → old_len ≤ MAX_TEXT → added ≤ MAX_TEXT - (old_len - removed) → AreValidEdits old_len (old_len - removed + added) xs
at_end xs i old_len from removed added done placed removed_is added_is within fewer fits within_len =
    let e = take_all i xs done in
    let f = drop_all i xs done in
    let r = rw f at removed_is in
    let a = rw f at added_is in
    let p = rw (e, append-nil) at (placed [] within) in
    record { disjoint = p; new = omega arith; old_fits = omega arith; new_fits = omega arith }

pub invariant_of-result : goal.invariant_of-result
invariant_of-result c =
    let i = c.loop-i.invariant in
    rw (← c.deref-edit-items.ensures.value) (at_end c.deref-edit-items.result.now c.loop-i.i c.args.old_len c.loop-i.from c.loop-i.removed c.loop-i.added c.loop-i-test.false i.disjoint i.removed i.added i.within i.fewer (omega arith) c.if-added-old_len.false)
