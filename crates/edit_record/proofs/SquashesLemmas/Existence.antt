-- Two lists that can follow each other have one in their place: the merge comes to its end, since bytes that differ would
-- contradict.
use Rattle.std.proofs.Common.{◌≡◌, ◌∙◌, ℕ, zero, suc, ◌+◌, ◌≤◌, ◌<◌, List, [], ◌∷◌, length, take, Bool, true, false, refl, sym, subst, arith}
use Rattle.std.proofs.lemmas.Bool.{false≢true}
use Rattle.std.proofs.lemmas.Slice.Eq.{bytes_eq-Decides}
use Rattle.std.specs.Prelude.{bytes_eq}
use Rattle.edit_record.specs.Lists.Pieces.{EditEntry, EditList, as_list}
use Rattle.edit_record.specs.Lists.Validity.{AreValidEdits, new_len, IsValidList}
use Rattle.edit_record.specs.Lists.Inner.WalkExact.{lengths}
use Rattle.edit_record.specs.Lists.Inner.Exact.{walks_from_transforms}
use Rattle.edit_record.specs.Squashes.Squash.{AreComposable, IsSquash, ComposableListsSquash}
use Rattle.edit_record.specs.Squashes.Inner.Merge.{State, initial, common_len, cancel_common, prepare_next, take_next, finish_edit}
use Rattle.edit_record.proofs.SquashesLemmas.Merged.{Kept, Progress, progress_start, takes_one, continues_with, contradicts, ends_well}

module _ (la lb lc : ℕ) (a b : List EditEntry) (first : AreValidEdits la lb a) (second : AreValidEdits lb lc b) (follows : new_len (as_list la a) ≡ lb) (can_follow : AreComposable (as_list la a) (as_list lb b)) where
  abbrev Squashed : Type 0
  Squashed = (c : List EditEntry) × AreValidEdits la lc c × IsSquash (as_list la a) (as_list lb b) (as_list la c)

  meets_if : (s : State) (xs ys : List EditEntry) (same : Bool) → Kept la lb a b s xs ys → bytes_eq (take (common_len s) s.first_pending) (take (common_len s) s.second_pending) ≡ same
      → take (common_len s) s.first_pending ≡ take (common_len s) s.second_pending
  meets_if s xs ys true k e = (bytes_eq-Decides (take (common_len s) s.first_pending) (take (common_len s) s.second_pending)).0 e
  meets_if s xs ys false k e =
      let differ : take (common_len s) s.first_pending ≡ take (common_len s) s.second_pending → ⊥ = λ h. false≢true (sym e ∙ (bytes_eq-Decides (take (common_len s) s.first_pending) (take (common_len s) s.second_pending)).1 h) in
      absurd ((contradicts la lb a b s xs ys k differ).none can_follow)

  -- one more edit is taken
  taken : (n : ℕ) (s : State) (xs ys : List EditEntry) → 0 < length xs + length ys → length xs + length ys ≤ suc n → Progress la lb a b s xs ys
      → ((t : State) (us vs : List EditEntry) → length us + length vs ≤ n → Progress la lb a b t us vs → Squashed) → Squashed
  taken n s xs ys more le p go =
      let e = prepare_next s xs ys in
      let q = take_next e.0 e.1 xs ys in
      let k = takes_one la lb a b s e.1 xs ys e.0 q more p refl refl in
      let less = k.1 in
      go (cancel_common q.0) q.1 q.2 (omega (arith, less, le)) (continues_with la lb a b q.0 (cancel_common q.0) q.1 q.2 k.0 (meets_if q.0 q.1 q.2 _ k.0 refl) refl)

  squashed : (n : ℕ) (s : State) (xs ys : List EditEntry) → length xs + length ys ≤ n → Progress la lb a b s xs ys → Squashed
  squashed n s [] [] le p = let h = ends_well la lb lc a b (finish_edit s).out s first second p refl follows in ((finish_edit s).out, h.0, h.1)
  squashed zero s (x ∷ xs) ys le p = absurd (omega (arith, le))
  squashed zero s [] (y ∷ ys) le p = absurd (omega (arith, le))
  squashed (suc n) s (x ∷ xs) ys le p = taken n s (x ∷ xs) ys (omega arith) le p (squashed n)
  squashed (suc n) s [] (y ∷ ys) le p = taken n s [] (y ∷ ys) (omega arith) le p (squashed n)

  all_squashed : Squashed
  all_squashed = squashed (length a + length b) initial a b (omega arith) (progress_start la lb lc a b first second)

-- the texts that the first list makes have the length that the second requires
lengths_follow : (a b : EditList) → IsValidList a → AreComposable a b → new_len a ≡ b.old_len
lengths_follow a b is (t, u, v, p, q) =
    let here = lengths 0 a.entries t u (walks_from_transforms a t u p) in
    let old = p.len in
    let between = q.len in
    let new = is.new in
    omega (arith, here, old, between, new)

pub followers_squash : ComposableListsSquash
followers_squash a b first second can_follow =
    let follows = lengths_follow a b first can_follow in
    let made : AreValidEdits a.old_len b.old_len a.entries = subst (λ (n : ℕ). AreValidEdits a.old_len n a.entries) follows first in
    let (c, are, is) = all_squashed a.old_len b.old_len (new_len b) a.entries b.entries made second follows can_follow in
    let new = are.new in
    let len : new_len b ≡ new_len (as_list a.old_len c) = omega (arith, new) in
    (as_list a.old_len c, subst (λ (n : ℕ). AreValidEdits a.old_len n c) len are, is)
