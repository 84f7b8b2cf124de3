-- A list whose edits go, one after another, before edits whose ends are kept.
use Rattle.std.proofs.Common.{◌≡◌, ℕ, ◌+◌, ◌-◌, ◌^◌, ◌≤◌, ◌<◌, List, [], ◌∷◌, ◌++◌, length, map, take, drop, true, false, Option, refl, arith, sym, ap, ◌∙◌, subst, append_assoc, length-append, inl, inr}
use Rattle.std.specs.List.{AllByRecursion}
use Rattle.std.proofs.lemmas.List.{take_at, drop_at, append-nil, nil_from_length}
use Rattle.std.proofs.lemmas.Bool.{ltb-true, lt-ltb, le-ltb}
use Rattle.edit_record.specs.Lists.Pieces.{EditEntry, as_list, removed_len, added_len}
use Rattle.edit_record.specs.Swaps.Swap.{FirstMeeting}
use Rattle.edit_record.specs.Lists.Validity.{AreValidEdits}
use Rattle.edit_record.proofs.ListsLemmas.Placed.{placed_within}
use Rattle.edit_record.specs.declared.swaps.relative_ends.EndOffset.{EndOffset}
use Rattle.edit_record.specs.Swaps.Inner.SwapState.{relocate, State, first_is_next, second_is_next, take_first, take_second, with_first, with_second, initial}
use Rattle.edit_record.specs.Swaps.Inner.RelativeEnds.{no_offset, IsSmall, shifted, shifted_from, EndsAfterBy, CanShift, LastEndsBefore, NextEndsAt, IsPartition}
use Rattle.edit_record.specs.Swaps.Inner.EditEnds.{ends_at}
use Rattle.edit_record.proofs.SwapsLemmas.SwapSteps.{Under, under_take_first, under_take_second, under_start, under_meets}
use Rattle.edit_record.proofs.SwapsLemmas.Spans.{all_map}
use Rattle.edit_record.proofs.SwapsLemmas.RelativeEnds.RelativeEndsLemmas.{all_right, all_both}
use Rattle.edit_record.proofs.SwapsLemmas.RelativeEnds.PendingEnds.{later, later_on, later_same, ends_append, ends_len_at, shift_later, late, small_later, all_before, Done, done_push, done_more, done_ends, done_last, following, is_before, split_order, last_of, head_new}

pub sum_added : (vs : List EditEntry) (v : EditEntry) → added_len (vs ++ v ∷ []) ≡ added_len vs + length v.added
sum_added [] v = omega arith
sum_added (w ∷ vs) v = let i = sum_added vs v in omega (arith, i)

pub sum_removed : (vs : List EditEntry) (v : EditEntry) → removed_len (vs ++ v ∷ []) ≡ removed_len vs + length v.removed
sum_removed [] v = omega arith
sum_removed (w ∷ vs) v = let i = sum_removed vs v in omega (arith, i)

-- Between two steps: the edits of the second list that are done added `inserted_len` bytes and removed
-- `deleted_len`, and each edit of the first list that is done ends before bound, less what was removed.
pub record Going (la lb ab rb : ℕ) (a b : List EditEntry) (s : State) (xs ys : List EditEntry) (es : List EndOffset) (inserted_len deleted_len bound : ℕ) : Type 0 where
  pub under : Under la lb ab rb a b s xs ys
  pub ends : es ≡ ends_at 0 0 s.vs ++ ends_at (added_len s.vs) (removed_len s.vs) (later s.old s.other xs)
  pub done : Done s.other bound deleted_len 0 0 s.vs
  pub mid_balance : s.mid + removed_len s.vs ≡ s.old + added_len s.vs
  pub other_balance : s.other + deleted_len ≡ s.old + inserted_len
  pub enough : deleted_len ≤ s.mid
  pub all_added : added_len s.vs + added_len xs ≡ added_len a

module _ (la lb ab rb : ℕ) (a b : List EditEntry) where
  pub going_start : (s : State) (lc : ℕ) → AreValidEdits la lb a → AreValidEdits lb lc b → ab ≡ added_len b → rb ≡ removed_len b → s ≡ initial → Going la lb ab rb a b s a b (ends_at 0 0 a) 0 0 0
  going_start s lc p q e1 e2 is =
      rw is (record {
        under = under_start la lb ab rb a b initial lc p q e1 e2 refl;
        ends = ap (ends_at 0 0) (sym (later_same a));
        done = tt;
        mid_balance = refl;
        other_balance = refl;
        enough = omega arith;
        all_added = omega arith;
      })

  -- the next edit of the first list ends before the next one of the second begins
  pub skip_one : (s : State) (x : EditEntry) (xs : List EditEntry) (y : EditEntry) (ys : List EditEntry) (es : List EndOffset) (inserted_len deleted_len : ℕ) → Going la lb ab rb a b s (x ∷ xs) (y ∷ ys) es inserted_len deleted_len (y.at + inserted_len)
      → first_is_next s (x ∷ xs) (y ∷ ys) ≡ true → Going la lb ab rb a b (with_first x s) xs (y ∷ ys) es inserted_len deleted_len (y.at + inserted_len)
  skip_one s x xs y ys es inserted_len deleted_len g t =
      let u = (under_take_first la lb ab rb a b s (x ∷ xs) (y ∷ ys) (take_first s (x ∷ xs) (y ∷ ys)) g.under t refl).0 in
      let p = g.under.fair.first_placed in
      let w = p.0.later in
      let lt = ltb-true ((x.at - s.old) + length x.added) (y.at - s.mid) t in
      let sa = sum_added s.vs (relocate s.old x s.other) in
      let sr = sum_removed s.vs (relocate s.old x s.other) in
      let ahead = g.mid_balance in let aside = g.other_balance in let enough = g.enough in let all = g.all_added in
      let v = relocate s.old x s.other in
      let same : later s.old s.other xs ≡ later (x.at + length x.removed) (s.other + (x.at - s.old) + length x.removed) xs =
      later_on la s.old s.other (x.at + length x.removed) (s.other + (x.at - s.old) + length x.removed) xs p.1 (omega (arith, w)) (omega (arith, w)) in
      let leading : ends_at 0 0 (s.vs ++ v ∷ []) ≡ ends_at 0 0 s.vs ++ ends_at (added_len s.vs) (removed_len s.vs) (v ∷ []) =
      ends_append 0 0 s.vs (v ∷ []) ∙ (let e1 : 0 + added_len s.vs ≡ added_len s.vs = omega arith in let e2 : 0 + removed_len s.vs ≡ removed_len s.vs = omega arith in λ i. ends_at 0 0 s.vs ++ ends_at (e1 i) (e2 i) (v ∷ [])) in
      let h : EndOffset = record { old = v.at + length x.removed; new = (v.at + added_len s.vs + length x.added) - removed_len s.vs } in
      record {
        under = u;
        ends = g.ends ∙ (λ i. ends_at 0 0 s.vs ++ h ∷ ends_at (sym sa i) (sym sr i) (same i)) ∙ sym (append_assoc (ends_at 0 0 s.vs) (h ∷ []) _) ∙ ap (λ (z : List EndOffset). z ++ ends_at (added_len (s.vs ++ v ∷ [])) (removed_len (s.vs ++ v ∷ [])) (later (x.at + length x.removed) (s.other + (x.at - s.old) + length x.removed) xs)) (sym leading);
        done = done_push (s.other + (x.at - s.old) + length x.removed) (y.at + inserted_len) deleted_len 0 0 s.vs v (done_more s.other (y.at + inserted_len) deleted_len (s.other + (x.at - s.old) + length x.removed) (y.at + inserted_len) deleted_len 0 0 s.vs g.done (omega arith) (omega arith))
            (omega (arith, ahead, aside, enough), omega arith, omega (arith, ahead, aside, enough, lt));
        mid_balance = omega (arith, ahead, sa, sr, w);
        other_balance = omega (arith, aside, w);
        enough = omega (arith, enough);
        all_added = omega (arith, sa, all);
      }

  pub going_more : (s : State) (xs ys : List EditEntry) (es : List EndOffset) (inserted_len deleted_len bound more : ℕ) → bound ≤ more → Going la lb ab rb a b s xs ys es inserted_len deleted_len bound → Going la lb ab rb a b s xs ys es inserted_len deleted_len more
  going_more s xs ys es inserted_len deleted_len bound more le g = record {
    under = g.under;
    ends = g.ends;
    done = done_more s.other bound deleted_len s.other more deleted_len 0 0 s.vs g.done (omega arith) (omega (arith, le));
    mid_balance = g.mid_balance;
    other_balance = g.other_balance;
    enough = g.enough;
    all_added = g.all_added;
  }

  -- the ends of those that are still to come, once the first of them has gone
  tail_same : (s : State) (x : EditEntry) (xs ys : List EditEntry) (es : List EndOffset) (inserted_len deleted_len bound : ℕ) → Going la lb ab rb a b s (x ∷ xs) ys es inserted_len deleted_len bound
      → ends_at (added_len (with_first x s).vs) (removed_len (with_first x s).vs) (later (with_first x s).old (with_first x s).other xs) ≡ ends_at (added_len s.vs + length x.added) (removed_len s.vs + length x.removed) (later s.old s.other xs)
  tail_same s x xs ys es inserted_len deleted_len bound g =
      let p = g.under.fair.first_placed in
      let w = p.0.later in
      let sa = sum_added s.vs (relocate s.old x s.other) in
      let sr = sum_removed s.vs (relocate s.old x s.other) in
      let same : later s.old s.other xs ≡ later (x.at + length x.removed) (s.other + (x.at - s.old) + length x.removed) xs =
      later_on la s.old s.other (x.at + length x.removed) (s.other + (x.at - s.old) + length x.removed) xs p.1 (omega (arith, w)) (omega (arith, w)) in
      λ i. ends_at (sa i) (sr i) (sym same i)

  -- those that end before the next edit of the second list begins have gone
  pub record Skipped (s : State) (y : EditEntry) (ys : List EditEntry) (es : List EndOffset) (inserted_len deleted_len : ℕ) (mids back : List EndOffset) : Type 0 where
    pub place : State
    pub left : List EditEntry
    pub going : Going la lb ab rb a b place left (y ∷ ys) es inserted_len deleted_len (y.at + inserted_len)
    pub us_are : place.us ≡ s.us
    pub rest : ends_at (added_len place.vs) (removed_len place.vs) (later place.old place.other left) ≡ back
    pub len : length place.vs ≡ length s.vs + length mids

  pub skip : (s : State) (xs : List EditEntry) (y : EditEntry) (ys : List EditEntry) (es : List EndOffset) (inserted_len deleted_len : ℕ) (mids back : List EndOffset) → Going la lb ab rb a b s xs (y ∷ ys) es inserted_len deleted_len (y.at + inserted_len)
      → ends_at (added_len s.vs) (removed_len s.vs) (later s.old s.other xs) ≡ mids ++ back → AllByRecursion (λ e. e.new + deleted_len < y.at + inserted_len) mids → Skipped s y ys es inserted_len deleted_len mids back
  skip s xs y ys es inserted_len deleted_len [] back g e h = record { place = s; left = xs; going = g; us_are = refl; rest = e; len = omega arith }
  skip s [] y ys es inserted_len deleted_len (m ∷ mids) back g e h = let l = ap length e in absurd (omega (arith, l))
  skip s (x ∷ xs) y ys es inserted_len deleted_len (m ∷ mids) back g e h =
      let v = relocate s.old x s.other in
      let first : (v.at + added_len s.vs + length x.added) - removed_len s.vs ≡ m.new = ap (head_new 0) e in
      let lt = h.0 in
      let ahead = g.mid_balance in let aside = g.other_balance in let enough = g.enough in
      let w = g.under.fair.first_placed.0.later in
      let t : first_is_next s (x ∷ xs) (y ∷ ys) ≡ true = lt-ltb ((x.at - s.old) + length x.added) (y.at - s.mid) (omega (arith, first, lt, ahead, aside, enough, w)) in
      let n = skip_one s x xs y ys es inserted_len deleted_len g t in
      let k = skip (with_first x s) xs y ys es inserted_len deleted_len mids back n (tail_same s x xs (y ∷ ys) es inserted_len deleted_len (y.at + inserted_len) g ∙ ap (drop 1) e) h.1 in
      let len = k.len in
      let more = length-append s.vs (v ∷ []) in
      record { place = k.place; left = k.left; going = k.going; us_are = k.us_are; rest = k.rest; len = omega (arith, len, more) }

  -- the next edit of the second list ends before the next one of the first begins
  pub second_one : (s : State) (xs : List EditEntry) (y : EditEntry) (ys : List EditEntry) (es next : List EndOffset) (inserted_len deleted_len : ℕ) → Going la lb ab rb a b s xs (y ∷ ys) es inserted_len deleted_len (y.at + inserted_len)
      → second_is_next s xs (y ∷ ys) ≡ true → next ≡ shifted_from (length s.vs) (record { old = length y.added; new = length y.added }) (length y.removed) es
      → Going la lb ab rb a b (with_second y s) xs ys next (inserted_len + length y.added) (deleted_len + length y.removed) ((y.at + inserted_len) + length y.removed)
  second_one s xs y ys es next inserted_len deleted_len g t is =
      let u = (under_take_second la lb ab rb a b s xs (y ∷ ys) (take_second s xs (y ∷ ys)) g.under t refl).0 in
      let w = g.under.fair.second_placed.0.later in
      let ahead = g.mid_balance in let aside = g.other_balance in let enough = g.enough in
      let leading = ends_at 0 0 s.vs in
      let back = ends_at (added_len s.vs) (removed_len s.vs) (later s.old s.other xs) in
      let sh : EndOffset → EndOffset = shifted (record { old = length y.added; new = length y.added }) (length y.removed) in
      let n = ends_len_at 0 0 s.vs in
      let t1 : take (length s.vs) es ≡ leading = ap (take (length s.vs)) g.ends ∙ take_at leading back (length s.vs) n in
      let d1 : drop (length s.vs) es ≡ back = ap (drop (length s.vs)) g.ends ∙ drop_at leading back (length s.vs) n in
      let moves : map sh back ≡ ends_at (added_len s.vs) (removed_len s.vs) (later (s.old + (y.at - s.mid) + length y.removed) (s.other + (y.at - s.mid) + length y.added) xs) =
      shift_later la s.old s.other (s.old + (y.at - s.mid) + length y.removed) (s.other + (y.at - s.mid) + length y.added) (added_len s.vs) (removed_len s.vs) (length y.added) (length y.removed) xs u.fair.first_placed (omega arith) (omega arith) (omega arith) (omega (arith, ahead, aside, enough)) in
      record {
        under = u;
        ends = is ∙ (λ i. t1 i ++ map sh (d1 i)) ∙ ap (λ (z : List EndOffset). leading ++ z) moves;
        done = done_more s.other (y.at + inserted_len) deleted_len (s.other + (y.at - s.mid) + length y.added) ((y.at + inserted_len) + length y.removed) (deleted_len + length y.removed) 0 0 s.vs g.done (omega arith) (omega arith);
        mid_balance = omega (arith, ahead, w);
        other_balance = omega (arith, aside, w);
        enough = omega (arith, enough, w);
        all_added = g.all_added;
      }

  pub going_small : (s : State) (xs ys : List EditEntry) (es : List EndOffset) (inserted_len deleted_len bound : ℕ) → Going la lb ab rb a b s xs ys es inserted_len deleted_len bound → bound ≤ 2 ^ 38 → added_len a ≤ 2 ^ 35 → AllByRecursion IsSmall es
  going_small s xs ys es inserted_len deleted_len bound g small few =
      let f = g.under.fair in
      let aside = f.other_balance in let all = g.all_added in
      let la_fits = f.a_fits in let lb_fits = f.b_fits in let w_fits = f.w_fits in
      let r1 = placed_within la s.old xs f.first_placed in
      let r2 = placed_within lb s.mid ys f.second_placed in
      let other : s.other ≤ 2 ^ 35 = omega (arith, aside, la_fits, lb_fits, w_fits, r1, r2) in
      let one = all_map (λ e. (e.old ≤ s.other) × (e.new + deleted_len < bound)) IsSmall (λ e k. let p = k.0 in let q = k.1 in (omega (arith, p, other), omega (arith, q, small))) (ends_at 0 0 s.vs) (done_ends s.other bound deleted_len 0 0 s.vs g.done) in
      let two = small_later la s.old s.old s.other (added_len s.vs) (removed_len s.vs) xs f.first_placed (omega arith) (omega (arith, other, la_fits)) (omega (arith, all, few)) in
      subst (λ (l : List EndOffset). AllByRecursion IsSmall l) (sym g.ends) (all_both IsSmall (ends_at 0 0 s.vs) _ one two)

  pub moving_can_shift : (s : State) (xs : List EditEntry) (y : EditEntry) (ys : List EditEntry) (es : List EndOffset) (inserted_len deleted_len : ℕ) → Going la lb ab rb a b s xs (y ∷ ys) es inserted_len deleted_len (y.at + inserted_len) → second_is_next s xs (y ∷ ys) ≡ true
      → CanShift (length y.removed) (length s.vs) es
  moving_can_shift s xs y ys es inserted_len deleted_len g t =
      let u = (under_take_second la lb ab rb a b s xs (y ∷ ys) (take_second s xs (y ∷ ys)) g.under t refl).0 in
      let p = u.fair.first_placed in
      let w = g.under.fair.second_placed.0.later in
      let ahead = g.mid_balance in let aside = g.other_balance in let enough = g.enough in
      let leading = ends_at 0 0 s.vs in
      let back = ends_at (added_len s.vs) (removed_len s.vs) (later s.old s.other xs) in
      let n = ends_len_at 0 0 s.vs in
      let t1 : take (length s.vs) es ≡ leading = ap (take (length s.vs)) g.ends ∙ take_at leading back (length s.vs) n in
      let d1 : drop (length s.vs) es ≡ back = ap (drop (length s.vs)) g.ends ∙ drop_at leading back (length s.vs) n in
      let d = length y.removed in
      let at = (y.at + inserted_len) - deleted_len in
      let far = late la (s.old + (y.at - s.mid) + d) s.old s.other (added_len s.vs) (removed_len s.vs) (s.other + d) (at + d) xs p (omega arith) (omega arith) (omega (arith, ahead, aside, enough, w)) in
      let done = done_ends s.other (y.at + inserted_len) deleted_len 0 0 s.vs g.done in
      let starts = all_map (λ e. (s.other + d ≤ e.old) × (at + d ≤ e.new)) (EndsAfterBy d no_offset) (λ e k. let h = k.0 in let l = k.1 in (omega (arith, h), omega (arith, l))) back far in
      let following = all_map (λ f. (f.old ≤ s.other) × (f.new + deleted_len < y.at + inserted_len)) (λ f. AllByRecursion (EndsAfterBy d f) back)
      (λ f m. let o = m.0 in let q = m.1 in all_map (λ e. (s.other + d ≤ e.old) × (at + d ≤ e.new)) (EndsAfterBy d f) (λ e k. let h = k.0 in let l = k.1 in (omega (arith, h, o), omega (arith, l, q))) back far) leading done in
      record {
        start = subst (λ (l : List EndOffset). AllByRecursion (EndsAfterBy d no_offset) l) (sym d1) starts;
        after_others = subst (λ (l : List EndOffset). AllByRecursion (λ f. AllByRecursion (EndsAfterBy d f) l) (take (length s.vs) es)) (sym d1) (subst (λ (l : List EndOffset). AllByRecursion (λ f. AllByRecursion (EndsAfterBy d f) back) l) (sym t1) following);
      }

  -- what is found about the next edit of the second list
  pub record Decided (s : State) (y : EditEntry) (ys : List EditEntry) (es : List EndOffset) (inserted_len deleted_len at count : ℕ) (last : EndOffset) (next : Option ℕ) : Type 0 where
    pub place : State
    pub left : List EditEntry
    pub going : Going la lb ab rb a b place left (y ∷ ys) es inserted_len deleted_len (y.at + inserted_len)
    pub us_are : place.us ≡ s.us
    pub count_is : count ≡ length place.vs
    pub last_before : last.new ≤ at
    pub moved_place_is : last.old + (at - last.new) + deleted_len ≡ place.old + (y.at - place.mid) + inserted_len
    pub next_is : NextEndsAt at (ends_at (added_len place.vs) (removed_len place.vs) (later place.old place.other left)) next

  mids_before : (s : State) (xs : List EditEntry) (y : EditEntry) (ys : List EditEntry) (es : List EndOffset) (inserted_len deleted_len at : ℕ) (leading mids back : List EndOffset) (last : EndOffset) → Going la lb ab rb a b s xs (y ∷ ys) es inserted_len deleted_len (y.at + inserted_len)
      → at + deleted_len ≡ y.at + inserted_len → LastEndsBefore at leading last → leading ≡ ends_at 0 0 s.vs ++ mids → ends_at (added_len s.vs) (removed_len s.vs) (later s.old s.other xs) ≡ mids ++ back → AllByRecursion (λ e. e.new + deleted_len < y.at + inserted_len) mids
  mids_before s xs y ys es inserted_len deleted_len at leading [] back last g at_is e f h = tt
  mids_before s xs y ys es inserted_len deleted_len at leading (m ∷ mids) back last g at_is (inl none) f h = let l = ap length (sym none.0 ∙ f) in let k = length-append (ends_at 0 0 s.vs) (m ∷ mids) in absurd (omega (arith, l, k))
  mids_before s xs y ys es inserted_len deleted_len at leading (m ∷ mids) back last g at_is (inr some) f h =
      let ahead = g.mid_balance in let aside = g.other_balance in let enough = g.enough in
      let l = last_of (ends_at 0 0 s.vs) (m ∷ mids) some.0 last (omega arith) (sym f ∙ some.1) in
      let is_before = all_before la s.old s.old s.other (added_len s.vs) (removed_len s.vs) at xs (m ∷ mids) back last g.under.fair.first_placed (omega arith) (omega (arith, ahead, aside, enough)) h l.0 l.1 some.2 in
      all_map (λ e. e.new < at) (λ e. e.new + deleted_len < y.at + inserted_len) (λ e lt. omega (arith, lt, at_is)) (m ∷ mids) is_before

  ends_last : (s : State) (xs ys : List EditEntry) (es : List EndOffset) (inserted_len deleted_len bound at : ℕ) (leading : List EndOffset) (last : EndOffset) → Going la lb ab rb a b s xs ys es inserted_len deleted_len bound → ends_at 0 0 s.vs ≡ leading → LastEndsBefore at leading last
      → (last.new + removed_len s.vs ≡ last.old + added_len s.vs) × (last.new ≤ at)
  ends_last s xs ys es inserted_len deleted_len bound at leading last g is (inl none) =
      let l = ap length (is ∙ none.0) in
      let n = ends_len_at 0 0 s.vs in
      let empty : s.vs ≡ [] = nil_from_length s.vs (omega (arith, l, n)) in
      let o = ap (λ (r : EndOffset). r.old) none.1 in
      let w = ap (λ (r : EndOffset). r.new) none.1 in
      let r = ap removed_len empty in
      let d = ap added_len empty in
      (omega (arith, o, w, r, d), omega (arith, w))
  ends_last s xs ys es inserted_len deleted_len bound at leading last g is (inr some) =
      let lt = some.2 in
      let k = done_last s.other bound deleted_len 0 0 s.vs some.0 last g.done (is ∙ some.1) in
      (omega (arith, k), omega (arith, lt))

  decided_after : (s : State) (xs : List EditEntry) (y : EditEntry) (ys : List EditEntry) (es : List EndOffset) (inserted_len deleted_len at count : ℕ) (last : EndOffset) (next : Option ℕ) (leading mids back : List EndOffset) → Going la lb ab rb a b s xs (y ∷ ys) es inserted_len deleted_len (y.at + inserted_len)
      → at + deleted_len ≡ y.at + inserted_len → es ≡ leading ++ back → count ≡ length leading → LastEndsBefore at leading last → NextEndsAt at back next → leading ≡ ends_at 0 0 s.vs ++ mids → ends_at (added_len s.vs) (removed_len s.vs) (later s.old s.other xs) ≡ mids ++ back
      → Decided s y ys es inserted_len deleted_len at count last next
  decided_after s xs y ys es inserted_len deleted_len at count last next leading mids back g at_is split_is count_is ends_with continues_with f h =
      let all = mids_before s xs y ys es inserted_len deleted_len at leading mids back last g at_is ends_with f h in
      let k = skip s xs y ys es inserted_len deleted_len mids back g h all in
      let len = k.len in
      let n = ends_len_at 0 0 s.vs in
      let fl = ap length f in
      let al = length-append (ends_at 0 0 s.vs) mids in
      let m = ends_len_at 0 0 k.place.vs in
      let whole : leading ++ back ≡ ends_at 0 0 k.place.vs ++ back = sym split_is ∙ k.going.ends ∙ ap (λ (z : List EndOffset). ends_at 0 0 k.place.vs ++ z) k.rest in
      let same_len : length (ends_at 0 0 k.place.vs) ≡ length leading = omega (arith, len, n, fl, al, m) in
      let same : ends_at 0 0 k.place.vs ≡ leading = sym (take_at (ends_at 0 0 k.place.vs) back (length leading) same_len) ∙ ap (take (length leading)) (sym whole) ∙ take_at leading back (length leading) refl in
      let l = ends_last k.place k.left (y ∷ ys) es inserted_len deleted_len (y.at + inserted_len) at leading last k.going same ends_with in
      let ahead = k.going.mid_balance in
      let w = k.going.under.fair.second_placed.0.later in
      let q = l.0 in let lt = l.1 in
      record {
        place = k.place;
        left = k.left;
        going = k.going;
        us_are = k.us_are;
        count_is = omega (arith, count_is, same_len, m);
        last_before = lt;
        moved_place_is = omega (arith, q, lt, ahead, at_is, w);
        next_is = subst (λ (z : List EndOffset). NextEndsAt at z next) (sym k.rest) continues_with;
      }

  pub decided : (s : State) (xs : List EditEntry) (y : EditEntry) (ys : List EditEntry) (es : List EndOffset) (inserted_len deleted_len bound at count : ℕ) (last : EndOffset) (next : Option ℕ) → Going la lb ab rb a b s xs (y ∷ ys) es inserted_len deleted_len bound → bound ≤ s.mid + inserted_len
      → at + deleted_len ≡ y.at + inserted_len → IsPartition at es count last next → Decided s y ys es inserted_len deleted_len at count last next
  decided s xs y ys es inserted_len deleted_len bound at count last next g0 le at_is p =
      let w = g0.under.fair.second_placed.0.later in
      let g = going_more s xs (y ∷ ys) es inserted_len deleted_len bound (y.at + inserted_len) (omega (arith, le, w)) g0 in
      elim (split_order (ends_at 0 0 s.vs) (ends_at (added_len s.vs) (removed_len s.vs) (later s.old s.other xs)) p.prefix p.suffix (sym g.ends ∙ p.split)) [
        | following mids f h ↦ decided_after s xs y ys es inserted_len deleted_len at count last next p.prefix mids p.suffix g at_is p.split p.count_is p.last_is p.next_is f h
        | is_before z zs f h ↦
            let d = done_ends s.other (y.at + inserted_len) deleted_len 0 0 s.vs g.done in
            let z_before = (all_right (λ e. (e.old ≤ s.other) × (e.new + deleted_len < y.at + inserted_len)) p.prefix (z ∷ zs) (subst (λ (l : List EndOffset). AllByRecursion (λ e. (e.old ≤ s.other) × (e.new + deleted_len < y.at + inserted_len)) l) f d)).0.1 in
            let k = subst (λ (l : List EndOffset). NextEndsAt at l next) h p.next_is in
            let z_following = k.1 in
            absurd (omega (arith, z_before, z_following, at_is))
      ]

  -- where the next edit of the first list does not meet it
  pub may_move : (s : State) (x : EditEntry) (xs : List EditEntry) (y : EditEntry) (ys : List EditEntry) (es : List EndOffset) (inserted_len deleted_len at end : ℕ) → Going la lb ab rb a b s (x ∷ xs) (y ∷ ys) es inserted_len deleted_len (y.at + inserted_len) → at + deleted_len ≡ y.at + inserted_len
      → end ≡ ((relocate s.old x s.other).at + added_len s.vs + length x.added) - removed_len s.vs → at + length y.removed < end - length x.added → second_is_next s (x ∷ xs) (y ∷ ys) ≡ true
  may_move s x xs y ys es inserted_len deleted_len at end g at_is end_is lt =
      let ahead = g.mid_balance in let aside = g.other_balance in let enough = g.enough in
      let w = g.under.fair.second_placed.0.later in
      let v = g.under.fair.first_placed.0.later in
      lt-ltb ((y.at - s.mid) + length y.removed) (x.at - s.old) (omega (arith, ahead, aside, enough, w, v, at_is, end_is, lt))

  pub holds_added : (s : State) (x : EditEntry) (xs : List EditEntry) (ys : List EditEntry) (es : List EndOffset) (inserted_len deleted_len bound end : ℕ) → Going la lb ab rb a b s (x ∷ xs) ys es inserted_len deleted_len bound
      → end ≡ ((relocate s.old x s.other).at + added_len s.vs + length x.added) - removed_len s.vs → length x.added ≤ end
  holds_added s x xs ys es inserted_len deleted_len bound end g end_is =
      let ahead = g.mid_balance in let aside = g.other_balance in let enough = g.enough in
      omega (arith, ahead, aside, enough, end_is)

  -- where it does
  pub they_meet : (s : State) (x : EditEntry) (xs : List EditEntry) (y : EditEntry) (ys : List EditEntry) (es : List EndOffset) (inserted_len deleted_len at end : ℕ) → Going la lb ab rb a b s (x ∷ xs) (y ∷ ys) es inserted_len deleted_len (y.at + inserted_len) → at + deleted_len ≡ y.at + inserted_len
      → end ≡ ((relocate s.old x s.other).at + added_len s.vs + length x.added) - removed_len s.vs → at ≤ end → end - length x.added ≤ at + length y.removed
      → (i : ℕ) × (j : ℕ) × FirstMeeting (as_list la a) (as_list lb b) i j
  they_meet s x xs y ys es inserted_len deleted_len at end g at_is end_is le meet =
      let ahead = g.mid_balance in let aside = g.other_balance in let enough = g.enough in
      let w = g.under.fair.second_placed.0.later in
      let v = g.under.fair.first_placed.0.later in
      let f : first_is_next s (x ∷ xs) (y ∷ ys) ≡ false = le-ltb ((x.at - s.old) + length x.added) (y.at - s.mid) (omega (arith, ahead, aside, enough, w, v, at_is, end_is, le)) in
      let e : second_is_next s (x ∷ xs) (y ∷ ys) ≡ false = le-ltb ((y.at - s.mid) + length y.removed) (x.at - s.old) (omega (arith, ahead, aside, enough, w, v, at_is, end_is, meet)) in
      (_, _, under_meets la lb ab rb a b s (x ∷ xs) (y ∷ ys) g.under (omega arith) f e)

  -- all edits of the second list have gone, so those of the first list that are left go too
  pub record Finished (es : List EndOffset) (us : List EditEntry) : Type 0 where
    pub place : State
    pub under : Under la lb ab rb a b place [] []
    pub us_are : place.us ≡ us
    pub ends : es ≡ ends_at 0 0 place.vs

  pub finish : (s : State) (xs : List EditEntry) (es : List EndOffset) → Under la lb ab rb a b s xs [] → es ≡ ends_at 0 0 s.vs ++ ends_at (added_len s.vs) (removed_len s.vs) (later s.old s.other xs) → Finished es s.us
  finish s [] es u e = record { place = s; under = u; us_are = refl; ends = e ∙ append-nil (ends_at 0 0 s.vs) }
  finish s (x ∷ xs) es u e =
      let n = (under_take_first la lb ab rb a b s (x ∷ xs) [] (take_first s (x ∷ xs) []) u refl refl).0 in
      let p = u.fair.first_placed in
      let w = p.0.later in
      let v = relocate s.old x s.other in
      let sa = sum_added s.vs v in
      let sr = sum_removed s.vs v in
      let same : later s.old s.other xs ≡ later (x.at + length x.removed) (s.other + (x.at - s.old) + length x.removed) xs =
      later_on la s.old s.other (x.at + length x.removed) (s.other + (x.at - s.old) + length x.removed) xs p.1 (omega (arith, w)) (omega (arith, w)) in
      let leading : ends_at 0 0 (s.vs ++ v ∷ []) ≡ ends_at 0 0 s.vs ++ ends_at (added_len s.vs) (removed_len s.vs) (v ∷ []) =
      ends_append 0 0 s.vs (v ∷ []) ∙ (let e1 : 0 + added_len s.vs ≡ added_len s.vs = omega arith in let e2 : 0 + removed_len s.vs ≡ removed_len s.vs = omega arith in λ i. ends_at 0 0 s.vs ++ ends_at (e1 i) (e2 i) (v ∷ [])) in
      let h : EndOffset = record { old = v.at + length x.removed; new = (v.at + added_len s.vs + length x.added) - removed_len s.vs } in
      let k = finish (with_first x s) xs es n
      (e ∙ (λ i. ends_at 0 0 s.vs ++ h ∷ ends_at (sym sa i) (sym sr i) (same i)) ∙ sym (append_assoc (ends_at 0 0 s.vs) (h ∷ []) _) ∙ ap (λ (z : List EndOffset). z ++ ends_at (added_len (s.vs ++ v ∷ [])) (removed_len (s.vs ++ v ∷ [])) (later (x.at + length x.removed) (s.other + (x.at - s.old) + length x.removed) xs)) (sym leading)) in
      record { place = k.place; under = k.under; us_are = k.us_are; ends = k.ends }
