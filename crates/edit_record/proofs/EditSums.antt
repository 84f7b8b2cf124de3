-- The sums of edits that are read one after another.
use Rattle.std.proofs.Common.{◌≡◌, ℕ, ◌+◌, ◌-◌, ◌^◌, ◌≤◌, ◌<◌, List, [], ◌∷◌, ◌++◌, length, min, Ok, subst, arith}
use Rattle.edit_record.specs.Lists.Pieces.{EditEntry, as_list, removed_len, added_len}
use Rattle.edit_record.specs.Lists.Validity.{make_edits, new_len, AreValidEdits, AreDisjoint}
use Rattle.edit_record.specs.declared.lists.edits.TheConstants.{MAX_TEXT}
use Rattle.edit_record.specs.declared.edit_sums.EditSums.{EditSums}
use Rattle.edit_record.specs.Inner.EditSums.{AreSummedUp}
use Rattle.edit_record.proofs.Making.{within_len, valid_again}

disjoint_push : (f g from : ℕ) (es : List EditEntry) (x : EditEntry) → AreDisjoint f from es → f ≤ x.at → x.at + length x.removed ≤ g → 0 < length x.removed + length x.added → AreDisjoint g from (es ++ x ∷ [])
disjoint_push f g from [] x p later within some = (record { later = omega (arith, p, later); within = within; some = some }, within)
disjoint_push f g from (e ∷ es) x p later within some =
    let q = p.0.within in
    (record { later = p.0.later; within = omega arith; some = p.0.some }, disjoint_push f g (e.at + length e.removed) es x p.1 later within some)

disjoint_longer : (n m from : ℕ) (es : List EditEntry) → AreDisjoint n from es → n ≤ m → AreDisjoint m from es
disjoint_longer n m from [] p le = omega (arith, p, le)
disjoint_longer n m from (e ∷ es) p le =
    let q = p.0.within in
    (record { later = p.0.later; within = omega arith; some = p.0.some }, disjoint_longer n m (e.at + length e.removed) es p.1 le)

removed_push : (es : List EditEntry) (x : EditEntry) → removed_len (es ++ x ∷ []) ≡ removed_len es + length x.removed
removed_push [] x = omega arith
removed_push (e ∷ es) x = omega (arith, removed_push es x)

added_push : (es : List EditEntry) (x : EditEntry) → added_len (es ++ x ∷ []) ≡ added_len es + length x.added
added_push [] x = omega arith
added_push (e ∷ es) x = omega (arith, added_push es x)

-- one more edit, which begins where the last one ends or later
pub one_more : (es : List EditEntry) (x : EditEntry) (s t : EditSums) → AreSummedUp es s → s.end ≤ x.at → 0 < length x.removed + length x.added
    → t.end ≡ min (x.at + length x.removed) (2 ^ 64 - 1) → t.removed ≡ min (s.removed + length x.removed) (2 ^ 64 - 1) → t.added ≡ min (s.added + length x.added) (2 ^ 64 - 1)
    → AreSummedUp (es ++ x ∷ []) t
one_more es x s t h later some end removed added small =
    let before = h (omega (arith, later, end, small)) in
    let fewer = within_len s.end 0 es before.disjoint in
    let r = removed_push es x in
    let a = added_push es x in
    record {
      disjoint = disjoint_push s.end t.end 0 es x before.disjoint later (omega (arith, end, small)) some;
      removed = omega (arith, before.removed, fewer, later, end, removed, small, r);
      added = omega (arith, before.added, added, a);
    }

-- edits with these sums are valid in a text that is long enough
pub valid : (old_len len : ℕ) (es : List EditEntry) (s : EditSums) → AreSummedUp es s → s.end ≤ old_len → old_len ≤ MAX_TEXT → len ≤ MAX_TEXT → s.added ≤ MAX_TEXT
    → len ≡ (old_len - s.removed) + s.added → AreValidEdits old_len len es
valid old_len len es s h fits small within few is =
    let sums = h (omega (arith, fits, small)) in
    let fewer = within_len s.end 0 es sums.disjoint in
    record {
      disjoint = disjoint_longer s.end old_len 0 es sums.disjoint fits;
      new = omega (arith, sums.removed, sums.added, fewer, is, few, fits);
      old_fits = small;
      new_fits = within;
    }

-- and a list is made of them
pub made : (old_len len : ℕ) (es : List EditEntry) → AreValidEdits old_len len es → make_edits old_len es ≡ Ok (as_list old_len es)
made old_len len es v =
    let n = v.new in
    let is : len ≡ new_len (as_list old_len es) = omega (arith, n) in
    valid_again (as_list old_len es) (subst (λ (k : ℕ). AreValidEdits old_len k es) is v)
