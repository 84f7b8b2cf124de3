-- The whole exchange, step by step.
use Rattle.std.proofs.Common.{◌≡◌, ℕ, ◌+◌, ◌-◌, ◌^◌, ◌≤◌, ◌<◌, List, [], ◌∷◌, ◌++◌, length, Bool, true, false, refl, arith, sym, ap, ◌∙◌, append_assoc, length-append, subst, ◌⊎◌, inl, inr}
use Rattle.std.proofs.lemmas.List.{append-nil}
use Rattle.std.proofs.lemmas.Bool.{ltb-true, ltb-false}
use Rattle.edit_record.specs.Lists.Pieces.{EditEntry, EditList, as_list, removed_len, added_len}
use Rattle.edit_record.specs.Lists.Validity.{AreDisjoint, AreValidEdits, new_len}
use Rattle.edit_record.specs.declared.lists.edits.TheConstants.{MAX_TEXT}
use Rattle.edit_record.specs.Swaps.Inner.SwapState.{StartsAfter, relocate, IsSwapTrace, State, first_is_next, second_is_next, take_first, take_second, with_edits, skip_first, skip_second, SwapInvariant, HoldsInvariant, IsSwapDone, initial}
use Rattle.edit_record.specs.Squashes.Groups.{Span, span_end, added_spans, removed_spans}
use Rattle.edit_record.specs.Swaps.Swap.{IsItem, Meet, FirstMeeting, IsSwap, IsWithinLimit, AreRelocated}
use Rattle.std.specs.Prelude.{sum_by, Result, Ok, Err, IfErr}
use Rattle.std.specs.List.{AllByRecursion}
use Rattle.std.proofs.lemmas.List.Sums.{sum_by_push}
use Rattle.edit_record.proofs.SwapsLemmas.Spans.{at_within, item_after_prefix, at_first, removed_after, added_after, added_moved, before_or_same, all_map, all_push, removed_all_after, added_all_after, before_some, moved_push, same_sums}
use Rattle.edit_record.proofs.ListsLemmas.Placed.{placed_within}
use Rattle.edit_record.proofs.SwapsLemmas.SwapTrace.{left, disjoint_from_later}
use Rattle.edit_record.proofs.ListsLemmas.Composition.{both_from_turns, turns_from_both}

-- the relation from the start, after what is done
pub record FromStart (a b us vs : List EditEntry) : Type 0 where
  pub moves : List Bool
  pub swaps : IsSwapTrace moves 0 0 0 a b us vs

pub record Under (la lb ab rb : ℕ) (a b : List EditEntry) (s : State) (xs ys : List EditEntry) : Type 0 where
  pub fair : SwapInvariant la lb ab rb s xs ys
  pub swaps : (ms : List Bool) (us vs : List EditEntry) → IsSwapTrace ms s.old s.mid s.other xs ys us vs → FromStart a b (s.us ++ us) (s.vs ++ vs)
  -- what is done of both lists
  pub done_firsts : List Span
  pub first_entries : List EditEntry
  pub firsts_are : added_spans 0 0 a ≡ done_firsts ++ added_spans s.old s.mid xs
  pub first_entries_are : a ≡ first_entries ++ xs
  pub firsts_done : length done_firsts + length xs ≡ length a
  pub done_seconds : List Span
  pub second_entries : List EditEntry
  pub seconds_are : removed_spans b ≡ done_seconds ++ removed_spans ys
  pub second_entries_are : b ≡ second_entries ++ ys
  pub seconds_done : length done_seconds + length ys ≡ length b
  -- where it is in the other order
  pub firsts_moved : AreRelocated (removed_spans b) done_firsts first_entries s.vs
  pub seconds_moved : AreRelocated (added_spans 0 0 a) done_seconds second_entries s.us
  -- it ends before the others of the other list begin
  pub firsts_before : AllByRecursion (λ x. AllByRecursion (λ y. span_end x < y.from) (removed_spans ys)) done_firsts
  pub seconds_before : AllByRecursion (λ y. AllByRecursion (λ x. span_end y < x.from) (added_spans s.old s.mid xs)) done_seconds
  -- the places after it, by what it removes and adds
  pub mid_is : s.mid + sum_by (λ x. x.other) done_firsts ≡ s.old + sum_by (λ x. x.len) done_firsts
  pub other_is : s.other + sum_by (λ x. x.len) done_seconds ≡ s.old + sum_by (λ x. x.other) done_seconds
  -- of what is done nothing meets
  pub apart : (i j : ℕ) → Meet (as_list la a) (as_list lb b) i j → (length done_firsts ≤ i) × (length done_seconds ≤ j)

-- the same where nothing is kept of what is done
abbrev pub Passed : ℕ → ℕ → ℕ → ℕ → List EditEntry → List EditEntry → State → List EditEntry → List EditEntry → Type 0
Passed la lb ab rb a b p xs ys = (us : List EditEntry) × (vs : List EditEntry) × Under la lb ab rb a b (with_edits us vs p) xs ys

pub invariant_place : (la lb ab rb : ℕ) (a b : List EditEntry) (p : State) (xs ys : List EditEntry) → Passed la lb ab rb a b p xs ys → HoldsInvariant p xs ys
invariant_place la lb ab rb a b p xs ys u =
    let h = u.2.fair in
    (la, lb, ab, rb, record { a_fits = h.a_fits; b_fits = h.b_fits; w_fits = h.w_fits; first_placed = h.first_placed; second_placed = h.second_placed; mid_balance = h.mid_balance; other_balance = h.other_balance })

pub first_is_next_done : (us vs : List EditEntry) (p : State) (xs ys : List EditEntry) → first_is_next (with_edits us vs p) xs ys ≡ first_is_next p xs ys
first_is_next_done us vs p [] ys = refl
first_is_next_done us vs p (x ∷ xs) [] = refl
first_is_next_done us vs p (x ∷ xs) (y ∷ ys) = refl

pub second_is_next_done : (us vs : List EditEntry) (p : State) (xs ys : List EditEntry) → second_is_next (with_edits us vs p) xs ys ≡ second_is_next p xs ys
second_is_next_done us vs p [] [] = refl
second_is_next_done us vs p (x ∷ xs) [] = refl
second_is_next_done us vs p [] (y ∷ ys) = refl
second_is_next_done us vs p (x ∷ xs) (y ∷ ys) = refl

starts_after_first : (s : State) (x : EditEntry) (xs ys : List EditEntry) → first_is_next s (x ∷ xs) ys ≡ true → StartsAfter (s.mid + (x.at - s.old) + length x.added) ys
starts_after_first s x xs [] t = tt
starts_after_first s x xs (y ∷ ys) t = let l = ltb-true ((x.at - s.old) + length x.added) (y.at - s.mid) t in omega arith

starts_after_second : (s : State) (xs : List EditEntry) (y : EditEntry) (ys : List EditEntry) → second_is_next s xs (y ∷ ys) ≡ true → StartsAfter (s.old + (y.at - s.mid) + length y.removed) xs
starts_after_second s [] y ys t = tt
starts_after_second s (x ∷ xs) y ys t = let l = ltb-true ((y.at - s.mid) + length y.removed) (x.at - s.old) t in omega arith

whole_moved : (others all xs : List Span) (whole olds news : List EditEntry) → all ≡ xs → whole ≡ olds → AreRelocated others xs olds news → AreRelocated others all whole news
whole_moved others all xs whole olds news e f h = rw (e, f) h

added_len_of : (old mid : ℕ) (es : List EditEntry) → length (added_spans old mid es) ≡ length es
added_len_of old mid [] = refl
added_len_of old mid (e ∷ es) = let i = added_len_of (e.at + length e.removed) (mid + (e.at - old) + length e.added) es in omega (arith, i)

module _ (la lb ab rb : ℕ) (a b : List EditEntry) where
  -- the next edit of the first list meets none of the second, whose next one begins after it
  first_apart : (s : State) (x : EditEntry) (xs ys : List EditEntry) (u : Under la lb ab rb a b s (x ∷ xs) ys) → StartsAfter (s.mid + (x.at - s.old) + length x.added) ys
      → (i j : ℕ) → Meet (as_list la a) (as_list lb b) i j → (length u.done_firsts + 1 ≤ i) × (length u.done_seconds ≤ j)
  first_apart s x xs ys u beh i j m =
      let before = u.apart i j m in
      let one : IsItem (i - length u.done_firsts) m.one (added_spans s.old s.mid (x ∷ xs)) = item_after_prefix i m.one u.done_firsts (added_spans s.old s.mid (x ∷ xs)) before.0 (subst (λ (l : List Span). IsItem i m.one l) u.firsts_are m.one_is) in
      let other : IsItem (j - length u.done_seconds) m.other (removed_spans ys) = item_after_prefix j m.other u.done_seconds (removed_spans ys) before.1 (subst (λ (l : List Span). IsItem j m.other l) u.seconds_are m.other_is) in
      let later = removed_after lb s.mid (s.mid + (x.at - s.old) + length x.added) ys (j - length u.done_seconds) m.other u.fair.second_placed beh other in (
        elim (before_or_same (length u.done_firsts) i before.0) as (λ _. length u.done_firsts + 1 ≤ i) [
          | inl lt ↦ omega (arith, lt)
          | inr same ↦
              let at : m.one ≡ record { from = s.mid + (x.at - s.old); len = length x.added; other = length x.removed } =
              subst (λ (k : ℕ). IsItem k m.one (added_spans s.old s.mid (x ∷ xs))) (let z : i - length u.done_firsts ≡ 0 = omega (arith, same) in z) one in
              let from = ap (λ (z : Span). z.from) at in
              let len = ap (λ (z : Span). z.len) at in
              let l = m.linked.other_way in
              absurd (omega (arith, from, len, l, later))
        ],
        before.1,
      )

  pub under_take_first : (s : State) (xs ys : List EditEntry) (q : State × List EditEntry) → Under la lb ab rb a b s xs ys → first_is_next s xs ys ≡ true → q ≡ take_first s xs ys → Under la lb ab rb a b q.0 q.1 ys × (length q.1 < length xs)
  under_take_first s [] ys q u t e = absurd cc
  under_take_first s (x ∷ xs) ys q u t e =
      let f = u.fair in
      let p = f.first_placed in
      let later = p.0.later in
      let g = x.at - s.old in
      let n1 = f.mid_balance in let n2 = f.other_balance in
      let within_len = placed_within la (x.at + length x.removed) xs p.1 in
      let beh = starts_after_first s x xs ys t in
      let span : Span = record { from = s.mid + g; len = length x.added; other = length x.removed } in
      let done_len : length (u.done_firsts ++ span ∷ []) ≡ length u.done_firsts + 1 = length-append u.done_firsts (span ∷ []) in
      let so_far = u.firsts_done in
      let all_following : AllByRecursion (λ y. span_end span < y.from) (removed_spans ys) = removed_all_after lb s.mid (span_end span) ys f.second_placed beh in
      let seconds_done : AllByRecursion (λ y. span_end y < span.from) u.done_seconds = all_map (λ y. AllByRecursion (λ z. span_end y < z.from) (added_spans s.old s.mid (x ∷ xs))) (λ y. span_end y < span.from) (λ y h. h.0) u.done_seconds u.seconds_before in
      let lens = before_some (λ y. y.len) span (span_end span) (removed_spans b) u.done_seconds (removed_spans ys) u.seconds_are (omega arith) seconds_done all_following in
      let others = before_some (λ y. y.other) span (span_end span) (removed_spans b) u.done_seconds (removed_spans ys) u.seconds_are (omega arith) seconds_done all_following in
      let other_is = u.other_is in
      let mid_is = u.mid_is in
      let len_more = sum_by_push (λ z. z.len) u.done_firsts span in
      let other_more = sum_by_push (λ z. z.other) u.done_firsts span in
      rw e (
        record {
          fair = record {
            a_fits = f.a_fits;
            b_fits = f.b_fits;
            w_fits = f.w_fits;
            first_placed = p.1;
            second_placed = disjoint_from_later lb s.mid (s.mid + g + length x.added) ys f.second_placed beh (λ k. omega arith);
            mid_balance = omega arith;
            other_balance = omega arith;
          };
          swaps = λ ms us vs h. rw append_assoc (u.swaps (true ∷ ms) us (relocate s.old x s.other ∷ vs) (refl, beh, h));
          done_firsts = u.done_firsts ++ span ∷ [];
          firsts_are = u.firsts_are ∙ sym (append_assoc u.done_firsts (span ∷ []) (added_spans (x.at + length x.removed) (s.mid + g + length x.added) xs));
          firsts_done = omega (arith, done_len);
          first_entries = u.first_entries ++ x ∷ [];
          first_entries_are = u.first_entries_are ∙ sym (append_assoc u.first_entries (x ∷ []) xs);
          done_seconds = u.done_seconds;
          second_entries = u.second_entries;
          seconds_are = u.seconds_are;
          second_entries_are = u.second_entries_are;
          seconds_done = u.seconds_done;
          firsts_moved = moved_push (removed_spans b) u.done_firsts u.first_entries s.vs span x (relocate s.old x s.other) u.firsts_moved (record { at = omega (arith, lens, others, other_is); removed = refl; added = refl });
          seconds_moved = u.seconds_moved;
          firsts_before = all_push (λ z. AllByRecursion (λ y. span_end z < y.from) (removed_spans ys)) u.done_firsts span u.firsts_before all_following;
          seconds_before = all_map (λ y. AllByRecursion (λ z. span_end y < z.from) (added_spans s.old s.mid (x ∷ xs))) (λ y. AllByRecursion (λ z. span_end y < z.from) (added_spans (x.at + length x.removed) (s.mid + g + length x.added) xs)) (λ y h. h.1) u.done_seconds u.seconds_before;
          mid_is = omega (arith, mid_is, len_more, other_more);
          other_is = omega (arith, other_is);
          apart = λ i j m. let k = first_apart s x xs ys u beh i j m in (omega (arith, done_len, k.0), k.1);
        },
        omega arith,
      )

  -- the next edit of the second list meets none of the first, whose next one begins after it
  second_apart : (s : State) (xs : List EditEntry) (y : EditEntry) (ys : List EditEntry) (u : Under la lb ab rb a b s xs (y ∷ ys)) → StartsAfter (s.old + (y.at - s.mid) + length y.removed) xs
      → (i j : ℕ) → Meet (as_list la a) (as_list lb b) i j → (length u.done_firsts ≤ i) × (length u.done_seconds + 1 ≤ j)
  second_apart s xs y ys u beh i j m =
      let before = u.apart i j m in
      let q = u.fair.second_placed in
      let mid_le = q.0.later in
      let one : IsItem (i - length u.done_firsts) m.one (added_spans s.old s.mid xs) = item_after_prefix i m.one u.done_firsts (added_spans s.old s.mid xs) before.0 (subst (λ (l : List Span). IsItem i m.one l) u.firsts_are m.one_is) in
      let other : IsItem (j - length u.done_seconds) m.other (removed_spans (y ∷ ys)) = item_after_prefix j m.other u.done_seconds (removed_spans (y ∷ ys)) before.1 (subst (λ (l : List Span). IsItem j m.other l) u.seconds_are m.other_is) in
      let later = added_after la s.old s.mid (s.old + (y.at - s.mid) + length y.removed) xs (i - length u.done_firsts) m.one u.fair.first_placed (omega arith) beh one in (
        before.0,
        elim (before_or_same (length u.done_seconds) j before.1) as (λ _. length u.done_seconds + 1 ≤ j) [
          | inl lt ↦ omega (arith, lt)
          | inr same ↦
              let at : m.other ≡ record { from = y.at; len = length y.removed; other = length y.added } =
              subst (λ (k : ℕ). IsItem k m.other (removed_spans (y ∷ ys))) (let z : j - length u.done_seconds ≡ 0 = omega (arith, same) in z) other in
              let from = ap (λ (z : Span). z.from) at in
              let len = ap (λ (z : Span). z.len) at in
              let l = m.linked.one_way in
              absurd (omega (arith, from, len, l, later, mid_le))
        ],
      )

  pub under_take_second : (s : State) (xs ys : List EditEntry) (q : State × List EditEntry) → Under la lb ab rb a b s xs ys → second_is_next s xs ys ≡ true → q ≡ take_second s xs ys → Under la lb ab rb a b q.0 xs q.1 × (length q.1 < length ys)
  under_take_second s xs [] q u t e = absurd cc
  under_take_second s xs (y ∷ ys) q u t e =
      let f = u.fair in
      let p = f.second_placed in
      let later = p.0.later in
      let g = y.at - s.mid in
      let n1 = f.mid_balance in let n2 = f.other_balance in
      let within_len = placed_within lb (y.at + length y.removed) ys p.1 in
      let beh = starts_after_second s xs y ys t in
      let span : Span = record { from = y.at; len = length y.removed; other = length y.added } in
      let done_len : length (u.done_seconds ++ span ∷ []) ≡ length u.done_seconds + 1 = length-append u.done_seconds (span ∷ []) in
      let so_far = u.seconds_done in
      let firsts_placed : AreDisjoint la (s.old + g + length y.removed) xs = disjoint_from_later la s.old (s.old + g + length y.removed) xs f.first_placed beh (λ k. let r0 = ap removed_len k in let a0 = ap added_len k in omega arith) in
      let old_is : s.old + g + length y.removed ≡ s.old + (g + length y.removed) = omega arith in
      let mid_is : s.mid + (g + length y.removed) ≡ y.at + length y.removed = omega arith in
      let spans_same : added_spans (s.old + g + length y.removed) (y.at + length y.removed) xs ≡ added_spans s.old s.mid xs =
      ap (λ (o : ℕ). added_spans o (y.at + length y.removed) xs) old_is ∙ ap (λ (m : ℕ). added_spans (s.old + (g + length y.removed)) m xs) (sym mid_is)
      ∙ added_moved la s.old s.mid (g + length y.removed) xs (subst (λ (o : ℕ). AreDisjoint la o xs) old_is firsts_placed) in
      let all_following : AllByRecursion (λ z. span_end span < z.from) (added_spans s.old s.mid xs) = added_all_after la s.old s.mid (s.old + g + length y.removed) (span_end span) xs (omega arith) (omega arith) f.first_placed beh in
      let all_later : AllByRecursion (λ z. span_end span < z.from) (added_spans (s.old + g + length y.removed) (y.at + length y.removed) xs) = subst (λ (l : List Span). AllByRecursion (λ z. span_end span < z.from) l) (sym spans_same) all_following in
      let firsts_done : AllByRecursion (λ x. span_end x < span.from) u.done_firsts = all_map (λ x. AllByRecursion (λ z. span_end x < z.from) (removed_spans (y ∷ ys))) (λ x. span_end x < span.from) (λ x h. h.0) u.done_firsts u.firsts_before in
      let lens = before_some (λ x. x.len) span (span_end span) (added_spans 0 0 a) u.done_firsts (added_spans s.old s.mid xs) u.firsts_are (omega arith) firsts_done all_following in
      let others = before_some (λ x. x.other) span (span_end span) (added_spans 0 0 a) u.done_firsts (added_spans s.old s.mid xs) u.firsts_are (omega arith) firsts_done all_following in
      let mid_by = u.mid_is in
      let other_is = u.other_is in
      let len_more = sum_by_push (λ z. z.len) u.done_seconds span in
      let other_more = sum_by_push (λ z. z.other) u.done_seconds span in
      rw e (
        record {
          fair = record {
            a_fits = f.a_fits;
            b_fits = f.b_fits;
            w_fits = f.w_fits;
            second_placed = p.1;
            first_placed = firsts_placed;
            mid_balance = omega arith;
            other_balance = omega arith;
          };
          swaps = λ ms us vs h. rw append_assoc (u.swaps (false ∷ ms) (relocate s.mid y s.old ∷ us) vs (refl, beh, h));
          done_firsts = u.done_firsts;
          first_entries = u.first_entries;
          first_entries_are = u.first_entries_are;
          firsts_are = u.firsts_are ∙ ap (λ (l : List Span). u.done_firsts ++ l) (sym spans_same);
          firsts_done = u.firsts_done;
          done_seconds = u.done_seconds ++ span ∷ [];
          seconds_are = u.seconds_are ∙ sym (append_assoc u.done_seconds (span ∷ []) (removed_spans ys));
          seconds_done = omega (arith, done_len);
          second_entries = u.second_entries ++ y ∷ [];
          second_entries_are = u.second_entries_are ∙ sym (append_assoc u.second_entries (y ∷ []) ys);
          firsts_moved = u.firsts_moved;
          seconds_moved = moved_push (added_spans 0 0 a) u.done_seconds u.second_entries s.us span y (relocate s.mid y s.old) u.seconds_moved (record { at = omega (arith, lens, others, mid_by); removed = refl; added = refl });
          firsts_before = all_map (λ x. AllByRecursion (λ z. span_end x < z.from) (removed_spans (y ∷ ys))) (λ x. AllByRecursion (λ z. span_end x < z.from) (removed_spans ys)) (λ x h. h.1) u.done_firsts u.firsts_before;
          seconds_before = all_push (λ z. AllByRecursion (λ x. span_end z < x.from) (added_spans (s.old + g + length y.removed) (y.at + length y.removed) xs)) u.done_seconds span
              (subst (λ (l : List Span). AllByRecursion (λ z. AllByRecursion (λ x. span_end z < x.from) l) u.done_seconds) (sym spans_same) u.seconds_before) all_later;
          mid_is = omega (arith, mid_by);
          other_is = omega (arith, other_is, len_more, other_more);
          apart = λ i j m. let k = second_apart s xs y ys u beh i j m in (k.0, omega (arith, done_len, k.1));
        },
        omega arith,
      )

  -- where an edit goes, the first two do not meet, and there is memory to be refused
  pub under_start : (s : State) (lc : ℕ) → AreValidEdits la lb a → AreValidEdits lb lc b → ab ≡ added_len b → rb ≡ removed_len b → s ≡ initial → Under la lb ab rb a b s a b
  under_start s lc p q e1 e2 is =
      let n = p.new in let m = q.new in
      let lf = p.old_fits in let mf = q.old_fits in let cf = q.new_fits in
      let r = placed_within lb 0 b q.disjoint in
      rw is (record {
        fair = record { a_fits = omega arith; b_fits = omega arith; w_fits = omega arith; first_placed = p.disjoint; second_placed = q.disjoint; mid_balance = omega arith; other_balance = omega arith };
        swaps = λ ms us vs h. record { moves = ms; swaps = h };
        done_firsts = [];
        firsts_are = refl;
        firsts_done = omega arith;
        done_seconds = [];
        seconds_are = refl;
        seconds_done = omega arith;
        first_entries = [];
        first_entries_are = refl;
        second_entries = [];
        second_entries_are = refl;
        firsts_moved = tt;
        seconds_moved = tt;
        firsts_before = tt;
        seconds_before = tt;
        mid_is = refl;
        other_is = refl;
        apart = λ i j m. (omega arith, omega arith);
      })

  -- neither goes: the next edits meet
  pub under_meets : (s : State) (xs ys : List EditEntry) (u : Under la lb ab rb a b s xs ys) → 0 < length xs + length ys → first_is_next s xs ys ≡ false → second_is_next s xs ys ≡ false
      → FirstMeeting (as_list la a) (as_list lb b) (length a - length xs) (length b - length ys)
  under_meets s [] [] u some f g = absurd (omega arith)
  under_meets s [] (y ∷ ys) u some f g = absurd cc
  under_meets s (x ∷ xs) [] u some f g = absurd cc
  under_meets s (x ∷ xs) (y ∷ ys) u some f g =
      let nf = ltb-false ((x.at - s.old) + length x.added) (y.at - s.mid) f in
      let ng = ltb-false ((y.at - s.mid) + length y.removed) (x.at - s.old) g in
      let mid_le = u.fair.second_placed.0.later in
      let one : Span = record { from = s.mid + (x.at - s.old); len = length x.added; other = length x.removed } in
      let other : Span = record { from = y.at; len = length y.removed; other = length y.added } in
      let fd = u.firsts_done in let sd = u.seconds_done in
      let i_is : length u.done_firsts ≡ length a - length (x ∷ xs) = omega arith in
      let j_is : length u.done_seconds ≡ length b - length (y ∷ ys) = omega arith in
      let one_at = subst (λ (l : List Span). IsItem (length u.done_firsts) one l) (sym u.firsts_are) (at_first one u.done_firsts (added_spans (x.at + length x.removed) (s.mid + (x.at - s.old) + length x.added) xs)) in
      let other_at = subst (λ (l : List Span). IsItem (length u.done_seconds) other l) (sym u.seconds_are) (at_first other u.done_seconds (removed_spans ys)) in
      record {
        meet = record {
          one = one;
          other = other;
          one_is = subst (λ (k : ℕ). IsItem k one (added_spans 0 0 a)) i_is one_at;
          other_is = subst (λ (k : ℕ). IsItem k other (removed_spans b)) j_is other_at;
          linked = record { one_way = omega arith; other_way = omega arith };
        };
        lowest = λ i j m.
            let k = u.apart i j m in
            elim (before_or_same (length u.done_seconds) j k.1) as (λ _. (length b - length (y ∷ ys) < j) ⊎ ((length b - length (y ∷ ys) ≡ j) × (length a - length (x ∷ xs) ≤ i))) [
              | inl lt ↦ inl (omega (arith, lt))
              | inr same ↦ inr (omega (arith, same), omega (arith, k.0))
            ];
      }

  pub under_end : (s : State) (lc : ℕ) → AreValidEdits la lb a → AreValidEdits lb lc b → ab ≡ added_len b → rb ≡ removed_len b → Under la lb ab rb a b s [] [] → lb ≡ new_len (as_list la a) → lc ≡ new_len (as_list lb b) → IsSwapDone (as_list la a) (as_list lb b) s
  under_end s lc p q e1 e2 u le ce =
      let f = u.swaps [] [] [] tt in
      let within : s.old ≤ la = u.fair.first_placed in
      let aside = u.fair.other_balance in
      let wf = u.fair.w_fits in let af = u.fair.a_fits in
      let lw = la - s.old + s.other in
      let e : lw + removed_len b ≡ la + added_len b = omega arith in
      let n = p.new in
      let l = left la lb lw f.moves 0 0 0 a b (s.us ++ []) (s.vs ++ []) f.swaps p.disjoint q.disjoint (omega arith) (omega arith) in
      let al = rw (append-nil, append-nil) at l.equivalent in
      let fd = u.firsts_done in let sd = u.seconds_done in
      record {
        first_made = subst (λ (n : ℕ). AreValidEdits la n a) le p;
        second_made = subst (λ (n : ℕ). AreValidEdits lb n b) ce q;
        apart = λ i j m.
            let k = u.apart i j m in
            let i_lt = at_within i m.one (added_spans 0 0 a) m.one_is in
            let i_len = added_len_of 0 0 a in
            omega (arith, k.0, i_lt, i_len);
        within = within;
        small = omega arith;
        len = e;
        seconds = whole_moved (added_spans 0 0 a) (removed_spans b) u.done_seconds b u.second_entries s.us (u.seconds_are ∙ append-nil u.done_seconds) (u.second_entries_are ∙ append-nil u.second_entries) u.seconds_moved;
        firsts = whole_moved (removed_spans b) (added_spans 0 0 a) u.done_firsts a u.first_entries s.vs (u.firsts_are ∙ append-nil u.done_firsts) (u.first_entries_are ∙ append-nil u.first_entries) u.firsts_moved;
        us_placed = rw append-nil at l.us_placed;
        vs_placed = rw append-nil at l.vs_placed;
        equivalent = λ t w. (
          λ h. turns_from_both la lw s.us s.vs t w (al.go t w (both_from_turns la lb a b t h.0 w h.1 h.2)),
          λ h. turns_from_both la lb a b t w (al.back t w (both_from_turns la lw s.us s.vs t h.0 w h.1 h.2)),
        );
      }

  -- an edit is still to come
  pub some_edit : (s : State) (xs ys : List EditEntry) → Under la lb ab rb a b s xs ys → 0 < length xs + length ys → 0 < length a + length b
  some_edit s xs ys u some = let f = u.firsts_done in let g = u.seconds_done in omega arith

  -- where nothing meets, one of the two goes
  pub second_must : (s : State) (xs ys : List EditEntry) → Under la lb ab rb a b s xs ys → ((i j : ℕ) → Meet (as_list la a) (as_list lb b) i j → ⊥) → 0 < length xs + length ys → first_is_next s xs ys ≡ false → second_is_next s xs ys ≡ true
  second_must s xs ys u apart some f =
      elim (second_is_next s xs ys) as (λ g. second_is_next s xs ys ≡ g → g ≡ true) [
        | true ↦ λ e. refl
        | false ↦ λ e. absurd (apart _ _ (under_meets s xs ys u some f e).meet)
      ] refl

  -- nothing is left, so nothing meets
  pub nothing_meets : (s : State) → Under la lb ab rb a b s [] [] → (i j : ℕ) → Meet (as_list la a) (as_list lb b) i j → ⊥
  nothing_meets s u i j m =
      let k = u.apart i j m in
      let i_lt = at_within i m.one (added_spans 0 0 a) m.one_is in
      let i_len = added_len_of 0 0 a in
      let fd = u.firsts_done in
      omega (arith, k.0, i_lt, i_len)

  pub pass_one : (p : State) (xs ys : List EditEntry) (q : State × List EditEntry) → Passed la lb ab rb a b p xs ys → first_is_next p xs ys ≡ true → q ≡ skip_first p xs → Passed la lb ab rb a b q.0 q.1 ys × (length q.1 < length xs)
  pass_one p [] ys q h t e = absurd cc
  pass_one p (x ∷ xs) ys q h t e =
      let s : State = with_edits h.0 h.1 p in
      let g = under_take_first s (x ∷ xs) ys (take_first s (x ∷ xs) ys) h.2 (first_is_next_done h.0 h.1 p (x ∷ xs) ys ∙ t) refl in
      subst (λ (z : State × List EditEntry). Passed la lb ab rb a b z.0 z.1 ys × (length z.1 < length (x ∷ xs))) (sym e) ((h.0, h.1 ++ relocate p.old x p.other ∷ [], g.0), g.1)

  pub pass_other : (p : State) (xs ys : List EditEntry) (q : State × List EditEntry) → Passed la lb ab rb a b p xs ys → second_is_next p xs ys ≡ true → q ≡ skip_second p ys → Passed la lb ab rb a b q.0 xs q.1 × (length q.1 < length ys)
  pass_other p xs [] q h t e = absurd cc
  pass_other p xs (y ∷ ys) q h t e =
      let s : State = with_edits h.0 h.1 p in
      let g = under_take_second s xs (y ∷ ys) (take_second s xs (y ∷ ys)) h.2 (second_is_next_done h.0 h.1 p xs (y ∷ ys) ∙ t) refl in
      subst (λ (z : State × List EditEntry). Passed la lb ab rb a b z.0 xs z.1 × (length z.1 < length (y ∷ ys))) (sym e) ((h.0 ++ relocate p.mid y p.old ∷ [], h.1, g.0), g.1)

-- ---- the sums of the code

pub record Small (n m : ℕ) : Type 0 where
  pub one : n < 2 ^ 40
  pub two : m < 2 ^ 40

pub fits_first : (s : State) (x : EditEntry) (xs ys zs : List EditEntry) → HoldsInvariant s zs ys → zs ≡ x ∷ xs → Small (s.mid + (x.at - s.old) + length x.added) (s.other + (x.at - s.old) + length x.removed)
fits_first s x xs ys zs h e =
    let f = h.4 in
    let p = rw e at f.first_placed in
    let later = p.0.later in
    let within_len = placed_within h.0 (x.at + length x.removed) xs p.1 in
    let r2 = placed_within h.1 s.mid ys f.second_placed in
    let n1 = rw e at f.mid_balance in let n2 = f.other_balance in
    let a = f.a_fits in let b = f.b_fits in let w = f.w_fits in
    record { one = omega arith; two = omega arith }

pub fits_second : (s : State) (xs : List EditEntry) (y : EditEntry) (ys zs : List EditEntry) → HoldsInvariant s xs zs → zs ≡ y ∷ ys → Small (s.old + (y.at - s.mid) + length y.removed) (s.other + (y.at - s.mid) + length y.added)
fits_second s xs y ys zs h e =
    let f = h.4 in
    let p = rw e at f.second_placed in
    let later = p.0.later in
    let within_len = placed_within h.1 (y.at + length y.removed) ys p.1 in
    let r2 = placed_within h.0 s.old xs f.first_placed in
    let n1 = f.mid_balance in let n2 = rw e at f.other_balance in
    let a = f.a_fits in let b = f.b_fits in let w = f.w_fits in
    record { one = omega arith; two = omega arith }

-- ---- what the calls return

pub any_fault : {X E P : Type 0} (r : Result X E) → P → IfErr r (λ _. P)
any_fault (Ok x) h = tt
any_fault (Err e) h = h

pub made_as : (e : EditList) (es : List EditEntry) (n : ℕ) → es ≡ e.entries → new_len e ≡ n → AreValidEdits e.old_len (new_len e) es → AreValidEdits e.old_len n e.entries
made_as e es n is new h = subst (λ (k : ℕ). AreValidEdits e.old_len k e.entries) new (subst (λ (l : List EditEntry). AreValidEdits e.old_len (new_len e) l) is h)

pub meet_at : (a b : EditList) (i j k l : ℕ) → i ≡ k → j ≡ l → FirstMeeting a b i j → FirstMeeting a b k l
meet_at a b i j k l e f m = subst (λ (z : ℕ). FirstMeeting a b z l) e (subst (λ (z : ℕ). FirstMeeting a b i z) f m)

pub follow : (a b : EditList) (n m : ℕ) → n + removed_len a.entries ≡ a.old_len + added_len a.entries → m ≡ b.old_len → n ≡ m → new_len a ≡ b.old_len
follow a b n m n_is m_is same = omega (arith, n_is)

module _ (a b : EditList) (s : State) (follows : new_len a ≡ b.old_len) (x : IsSwapDone a b s) (len : ℕ) (len_is : len ≡ a.old_len - s.old + s.other) (fits : len ≤ MAX_TEXT) where
  pub before_made : (old : ℕ) (us : List EditEntry) → old ≡ a.old_len → us ≡ s.us → AreValidEdits old len us
  before_made old us old_is us_are =
      let k = same_sums (added_spans 0 0 a.entries) (removed_spans b.entries) b.entries s.us x.seconds in
      let l = x.len in
      rw (us_are, old_is) (record { disjoint = x.us_placed; new = omega (arith, k.0, k.1, len_is); old_fits = x.first_made.old_fits; new_fits = fits })

  pub after_made : (n : ℕ) (vs : List EditEntry) → n + removed_len b.entries ≡ b.old_len + added_len b.entries → vs ≡ s.vs → AreValidEdits len n vs
  after_made n vs n_is vs_are =
      let k = same_sums (removed_spans b.entries) (added_spans 0 0 a.entries) a.entries s.vs x.firsts in
      let l = x.len in
      let m = x.first_made.new in
      let o = x.second_made.new in
      let f = x.second_made.new_fits in
      rw vs_are (record { disjoint = subst (λ (z : ℕ). AreDisjoint z 0 s.vs) (sym len_is) x.vs_placed; new = omega (arith, k.0, k.1, len_is, n_is, follows); old_fits = fits; new_fits = omega (arith, n_is) })

  pub is_swap : (old : ℕ) (us vs : List EditEntry) (b2 a2 : EditList) → old ≡ a.old_len → us ≡ s.us → vs ≡ s.vs → b2 ≡ as_list old us → a2 ≡ as_list len vs → IsSwap a b b2 a2
  is_swap old us vs b2 a2 old_is us_are vs_are b2_is a2_is =
      let k = same_sums (added_spans 0 0 a.entries) (removed_spans b.entries) b.entries s.us x.seconds in
      let l = x.len in
      rw (b2_is, a2_is, us_are, vs_are, old_is, len_is) (record { old_len_is = refl; mid_len_is = omega (arith, k.0, k.1); seconds = x.seconds; firsts = x.firsts; equivalent = x.equivalent })

pub fits : (a b : EditList) (s : State) (x : IsSwapDone a b s) (len : ℕ) → len ≡ a.old_len - s.old + s.other → IsWithinLimit a b → len ≤ MAX_TEXT
fits a b s x len len_is within = let l = x.len in omega (arith, l, len_is, within)

-- with other edits done it is as before
pub fair_done : (us vs : List EditEntry) (s : State) (xs ys : List EditEntry) → HoldsInvariant s xs ys → HoldsInvariant (with_edits us vs s) xs ys
fair_done us vs s xs ys (la, lb, ab, rb, f) = (
  la,
  lb,
  ab,
  rb,
  record {
    a_fits = f.a_fits;
    b_fits = f.b_fits;
    w_fits = f.w_fits;
    first_placed = f.first_placed;
    second_placed = f.second_placed;
    mid_balance = f.mid_balance;
    other_balance = f.other_balance;
  },
)
