-- Which lists of edits can be made, and that their numbers can be written.
use Rattle.std.proofs.Common.{◌≡◌, ℕ, ◌+◌, ◌≤◌, List, [], ◌∷◌, length, Ok, refl, sym, subst, arith}
use Rattle.std.specs.List.{AllByRecursion}
use Rattle.edit_record.specs.Lists.Pieces.{EditEntry, EditList, as_list, removed_len, added_len}
use Rattle.edit_record.specs.Lists.Validity.{make_edits, new_len, AreValidEdits, AreDisjoint, IsValidList}
use Rattle.edit_record.specs.declared.lists.edits.TheConstants.{MAX_TEXT}
use Rattle.edit_record.proofs.ListsLemmas.ListLemmas.{make_is_exact}
use Rattle.edit_record.specs.Text.{max_number, NumbersFit}

pub valid_is : (old_len : ℕ) (es : List EditEntry) (e : EditList) → make_edits old_len es ≡ Ok e → (as_list old_len es ≡ e) × IsValidList e
valid_is old_len es e h =
    let p = (make_is_exact old_len es e).0 h in
    (sym p.0, subst IsValidList (sym p.0) (subst (λ (x : EditList). AreValidEdits old_len (new_len x) es) p.0 p.1))

pub valid_again : (e : EditList) → IsValidList e → make_edits e.old_len e.entries ≡ Ok e
valid_again e m = (make_is_exact e.old_len e.entries e).1 (refl, m)

-- edits remove no more bytes than there are
pub within_len : (old_len from : ℕ) (es : List EditEntry) → AreDisjoint old_len from es → from + removed_len es ≤ old_len
within_len old_len from [] p = omega (arith, p)
within_len old_len from (e ∷ es) p = let r = within_len old_len (e.at + length e.removed) es p.1 in let q = p.0.later in omega arith

have_text : (old_len from : ℕ) (es : List EditEntry) → AreDisjoint old_len from es → old_len ≤ MAX_TEXT → added_len es ≤ MAX_TEXT → AllByRecursion NumbersFit es × (length es ≤ removed_len es + added_len es)
have_text old_len from [] p old_fits new_fits = (tt, omega arith)
have_text old_len from (e ∷ es) p old_fits new_fits =
    let i = have_text old_len (e.at + length e.removed) es p.1 old_fits (omega (arith, new_fits)) in
    let within = p.0.within in
    let some = p.0.some in
    ((record { at = omega arith; removed = omega arith; added = omega (arith, new_fits) }, i.0), omega (arith, i.1))

-- what is known of the numbers of a list that can be made
pub record HasNumbers (e : EditList) : Type 0 where
  pub old_len : e.old_len ≤ max_number
  pub count : length e.entries ≤ max_number
  pub edits : AllByRecursion NumbersFit e.entries

pub has_numbers : (e : EditList) → IsValidList e → HasNumbers e
has_numbers e m =
    let new = m.new in
    let old_fits = m.old_fits in
    let new_fits = m.new_fits in
    let fewer = within_len e.old_len 0 e.entries m.disjoint in
    let h = have_text e.old_len 0 e.entries m.disjoint m.old_fits (omega (arith, fewer)) in
    record { old_len = omega arith; count = omega (arith, h.1, fewer); edits = h.0 }
