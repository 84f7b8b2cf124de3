-- Which edits are made into a list, and how long the texts on both sides of edits are.
use Rattle.std.proofs.Common.{◌≡◌, ℕ, ◌+◌, ◌≤◌, ◌==◌, ◌&&◌, Bool, true, false, List, [], ◌∷◌, length, Option, Some, None, Result, Ok, Err, if◌then◌else◌, refl, arith, nat_lt, rules}
use Rattle.std.proofs.lemmas.Bool.{ltb-false}
use Rattle.edit_record.specs.declared.lists.edit.BadEdits.{BadEdits}
use Rattle.edit_record.specs.declared.lists.edit.BadEdits.TheVariants.{EmptyEdit, OutOfOrder, PastEnd, TooLong}
use Rattle.edit_record.specs.declared.lists.edits.TheConstants.{MAX_TEXT}
use Rattle.edit_record.specs.Lists.Pieces.{EditEntry, EditList, Transforms, as_list, removed_len, added_len}
use Rattle.edit_record.specs.Lists.Validity.{make_edits, first_fault, edit_fault, new_len, IsValidAfter, AreDisjoint, AreValidEdits, MakeIsExact, LengthsMatch}
use Rattle.edit_record.specs.Lists.Inner.WalkExact.{lengths}
use Rattle.edit_record.specs.Lists.Inner.Exact.{walks_from_transforms}
use Rattle.edit_record.proofs.ListsLemmas.PieceLemmas.{right_fault}
use Rattle.edit_record.proofs.ListsLemmas.Placed.{placed_within}

pub have_lengths : (e : EditList) (t u : List ℕ) → Transforms e t u → LengthsMatch e t u
have_lengths e t u h =
    let sums = lengths 0 e.entries t u (walks_from_transforms e t u h) in
    let old = h.len in
    (h.len, omega (arith, sums, old))

-- ---- edits without an error are disjoint, and disjoint edits have no error

-- an edit that has no error, test by test
placed_tests : (empty before past : Bool) (old_len from i : ℕ) (e : EditEntry) → ((length e.removed == 0) && (length e.added == 0)) ≡ empty → nat_lt e.at from ≡ before → nat_lt old_len (e.at + length e.removed) ≡ past
    → (if empty then Some (EmptyEdit i) else (if before then Some (OutOfOrder i) else (if past then Some (PastEnd i) else None))) ≡ None → IsValidAfter old_len from e
placed_tests true before past old_len from i e a b c none = absurd cc
placed_tests false true past old_len from i e a b c none = absurd cc
placed_tests false false true old_len from i e a b c none = absurd cc
placed_tests false false false old_len from i e a b c none = record {
  later = ltb-false e.at from b;
  within = ltb-false old_len (e.at + length e.removed) c;
  some = grind (arith, a);
}

placed_here : (old_len from i : ℕ) (e : EditEntry) → edit_fault old_len from i e ≡ None → IsValidAfter old_len from e
placed_here old_len from i e none =
    placed_tests ((length e.removed == 0) && (length e.added == 0)) (nat_lt e.at from) (nat_lt old_len (e.at + length e.removed)) old_len from i e refl refl refl none

first_none : (here : Option BadEdits) (old_len from i : ℕ) (es : List EditEntry) → elim here as (λ h. Option BadEdits) [ Some f ↦ Some f | None ↦ first_fault old_len from i es ] ≡ None → (here ≡ None) × (first_fault old_len from i es ≡ None)
first_none None old_len from i es none = (refl, none)
first_none (Some f) old_len from i es none = absurd cc

placed_from_none : (old_len from i : ℕ) (es : List EditEntry) → from ≤ old_len → first_fault old_len from i es ≡ None → AreDisjoint old_len from es
placed_from_none old_len from i [] le none = le
placed_from_none old_len from i (e ∷ es) le none =
    let both = first_none (edit_fault old_len from i e) old_len (e.at + length e.removed) (i + 1) es none in
    let here = placed_here old_len from i e both.0 in
    (here, placed_from_none old_len (e.at + length e.removed) (i + 1) es here.within both.1)

none_from_placed : (old_len from i : ℕ) (es : List EditEntry) → AreDisjoint old_len from es → first_fault old_len from i es ≡ None
none_from_placed old_len from i [] p = refl
none_from_placed old_len from i (e ∷ es) p =
    rw (first_fault, right_fault old_len from i e p.0.later p.0.within p.0.some) (none_from_placed old_len (e.at + length e.removed) (i + 1) es p.1)

-- ---- so what is made is a list of edits, and each such list is made

make_tests : (long : Bool) (first : Option BadEdits) (longer : Bool) (old_len : ℕ) (es : List EditEntry) (e : EditList)
    → (if long then Err TooLong else (elim first as (λ f. Result EditList BadEdits) [ Some f ↦ Err f | None ↦ if longer then Err TooLong else Ok (as_list old_len es) ])) ≡ Ok e
    → (long ≡ false) × (first ≡ None) × (longer ≡ false) × (e ≡ as_list old_len es)
make_tests true first longer old_len es e is = absurd cc
make_tests false (Some f) longer old_len es e is = absurd cc
make_tests false None true old_len es e is = absurd cc
make_tests false None false old_len es e is = (refl, refl, refl, cc)

from_make : (old_len : ℕ) (es : List EditEntry) (e : EditList) → make_edits old_len es ≡ Ok e → (e ≡ as_list old_len es) × AreValidEdits old_len (new_len e) es
from_make old_len es e is =
    let t = make_tests (nat_lt MAX_TEXT old_len) (first_fault old_len 0 0 es) (nat_lt (MAX_TEXT + removed_len es) (old_len + added_len es)) old_len es e is in
    let fits = ltb-false MAX_TEXT old_len t.0 in
    let longer = ltb-false (MAX_TEXT + removed_len es) (old_len + added_len es) t.2 in
    let placed = placed_from_none old_len 0 0 es (omega arith) t.1 in
    let within_len = placed_within old_len 0 es placed in
    (t.3, rw t.3 (record { disjoint = placed; new = omega arith; old_fits = fits; new_fits = omega arith }))

to_make : (old_len : ℕ) (es : List EditEntry) → AreValidEdits old_len (new_len (as_list old_len es)) es → make_edits old_len es ≡ Ok (as_list old_len es)
to_make old_len es h =
    let short = h.old_fits in
    let new = h.new in
    let fits = h.new_fits in
    let not_long : nat_lt MAX_TEXT old_len ≡ false = search (rules, short) in
    let none = none_from_placed old_len 0 0 es h.disjoint in
    let sum : old_len + added_len es ≤ MAX_TEXT + removed_len es = omega arith in
    let not_longer : nat_lt (MAX_TEXT + removed_len es) (old_len + added_len es) ≡ false = search (rules, sum) in
    rw (not_long, none, not_longer) refl

pub make_is_exact : (old_len : ℕ) (es : List EditEntry) → MakeIsExact old_len es
make_is_exact old_len es e = (
  λ is. from_make old_len es e is,
  λ h. rw h.0 (to_make old_len es (rw h.0 at h.1)),
)
