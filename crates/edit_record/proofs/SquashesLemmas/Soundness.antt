-- Each step keeps the state sound.
use Rattle.std.proofs.Common.{◌≡◌, ℕ, ◌+◌, ◌-◌, ◌≤◌, ◌<◌, List, [], ◌∷◌, ◌++◌, length, min, Bool, true, false, cond, eqb, leb, refl, arith, length-append, ◌&&◌}
use Rattle.std.proofs.lemmas.Bool.{leb-false, eqb-false}
use Rattle.std.proofs.lemmas.List.{length-drop, length-take-le}
use Rattle.std.specs.Prelude.{◌==◌}
use Rattle.edit_record.specs.Lists.Pieces.{EditEntry}
use Rattle.edit_record.specs.Lists.Validity.{AreDisjoint}
use Rattle.edit_record.specs.Squashes.Inner.Merge.{State, finish_edit, skip_kept, with_first, with_second, common_len, cancel_common, joins_first, joins_second, MergeInvariant, OneIsDone}
use Rattle.edit_record.proofs.ListsLemmas.Placed.{placed_within}
use Rattle.edit_record.proofs.ListsLemmas.Parts.{placed_longer, placed_push}

apart : (has : Bool) (n m k : ℕ) → (has ≡ false → m ≡ 0) → min n m ≡ 0 → (has && (eqb n 0 && leb k m)) ≡ false → m ≤ k
apart false n m k none one h = let z = none refl in omega arith
apart true n m k none one h =
    elim (eqb n 0) as (λ b. eqb n 0 ≡ b → (b && leb k m) ≡ false → m ≤ k) [
      | true ↦ λ e f. let z = leb-false k m f in omega arith
      | false ↦ λ e f. let z = eqb-false n 0 e in omega arith
    ] refl h

module _ (la lb : ℕ) where
  pub apart_first : (s : State) (xs ys : List EditEntry) → MergeInvariant la lb s xs ys → OneIsDone s → joins_first s xs ≡ false → AreDisjoint la (s.first_end + length s.second_pending) xs
  apart_first s [] ys h one away =
      let p = h.first_placed in let r = placed_within lb s.second_end ys h.second_placed in let b = h.balance in
      omega (arith, p)
  apart_first s (e ∷ xs) ys h one away =
      let p = h.first_placed in
      let later = p.0.later in
      let l = apart s.has_second (length s.first_pending) (length s.second_pending) (e.at - s.first_end) h.no_second one away in
      (record { later = omega arith; within = p.0.within; some = p.0.some }, p.1)

  pub apart_second : (s : State) (xs ys : List EditEntry) → MergeInvariant la lb s xs ys → OneIsDone s → joins_second s ys ≡ false → AreDisjoint lb (s.second_end + length s.first_pending) ys
  apart_second s xs [] h one away =
      let p = h.second_placed in let r = placed_within la s.first_end xs h.first_placed in let b = h.balance in
      omega (arith, p)
  apart_second s xs (e ∷ ys) h one away =
      let p = h.second_placed in
      let later = p.0.later in
      let other : min (length s.second_pending) (length s.first_pending) ≡ 0 = omega arith in
      let l = apart s.has_first (length s.second_pending) (length s.first_pending) (e.at - s.second_end) h.no_first other away in
      (record { later = omega arith; within = p.0.within; some = p.0.some }, p.1)

  some : (n m : ℕ) → ((n == 0) && (m == 0)) ≡ false → 0 < n + m
  some n m t =
      elim (eqb n 0) as (λ b. eqb n 0 ≡ b → (b && eqb m 0) ≡ false → 0 < n + m) [
        | true ↦ λ e f. let z = eqb-false m 0 f in omega arith
        | false ↦ λ e f. let z = eqb-false n 0 e in omega arith
      ] refl t

  put_placed : (n : ℕ) (out : List EditEntry) (e : EditEntry) (b : Bool) → ((length e.removed == 0) && (length e.added == 0)) ≡ b → AreDisjoint n 0 out → n ≤ e.at → AreDisjoint (e.at + length e.removed) 0 (cond b out (out ++ e ∷ []))
  put_placed n out e true t p l = placed_longer n (e.at + length e.removed) 0 out (omega arith) p
  put_placed n out e false t p l = placed_push n 0 out e p l (some (length e.removed) (length e.added) t)

  pub sound_closed : (s : State) (xs ys : List EditEntry) → MergeInvariant la lb s xs ys → AreDisjoint la (s.first_end + length s.second_pending) xs → AreDisjoint lb (s.second_end + length s.first_pending) ys → MergeInvariant la lb (finish_edit s) xs ys
  sound_closed s xs ys h p q =
      let b = h.balance in let i = h.at_is in
      let g : EditEntry = record { at = s.at; removed = s.removed ++ s.second_pending; added = s.added ++ s.first_pending } in
      let e : s.at + length (s.removed ++ s.second_pending) ≡ s.first_end + length s.second_pending = rw length-append (omega arith) in
      let d = put_placed s.at s.out g ((length g.removed == 0) && (length g.added == 0)) refl h.done (omega arith) in
      record {
        first_fits = h.first_fits;
        second_fits = h.second_fits;
        first_placed = p;
        second_placed = q;
        at_is = omega arith;
        done = rw (← e) d;
        balance = omega arith;
        no_first = λ _. refl;
        no_second = λ _. refl;
      }

  pub sound_skipped : (n : ℕ) (s : State) (xs ys : List EditEntry) → MergeInvariant la lb s xs ys → length s.removed ≡ 0 → AreDisjoint la (s.first_end + n) xs → AreDisjoint lb (s.second_end + n) ys → MergeInvariant la lb (skip_kept n s) xs ys
  sound_skipped n s xs ys h z p q =
      let b = h.balance in let i = h.at_is in
      record {
        first_fits = h.first_fits;
        second_fits = h.second_fits;
        first_placed = p;
        second_placed = q;
        at_is = omega arith;
        done = placed_longer s.at (s.at + n) 0 s.out (omega arith) h.done;
        balance = omega arith;
        no_first = h.no_first;
        no_second = h.no_second;
      }

  pub sound_first : (e : EditEntry) (s : State) (xs ys : List EditEntry) → MergeInvariant la lb s (e ∷ xs) ys → length s.first_pending ≡ 0 → e.at - s.first_end ≤ length s.second_pending → MergeInvariant la lb (with_first e s) xs ys
  sound_first e s xs ys h z w =
      let b = h.balance in let i = h.at_is in let p = h.first_placed in let later = p.0.later in
      let l = length-drop (e.at - s.first_end) s.second_pending in
      let k = length-take-le (e.at - s.first_end) s.second_pending w in
      record {
        first_fits = h.first_fits;
        second_fits = h.second_fits;
        first_placed = p.1;
        second_placed = h.second_placed;
        at_is = rw (length-append, length-append) (omega arith);
        done = h.done;
        balance = omega arith;
        no_first = λ f. absurd cc;
        no_second = λ f. let y = h.no_second f in omega arith;
      }

  pub sound_second : (e : EditEntry) (s : State) (xs ys : List EditEntry) → MergeInvariant la lb s xs (e ∷ ys) → length s.second_pending ≡ 0 → e.at - s.second_end ≤ length s.first_pending → MergeInvariant la lb (with_second e s) xs ys
  sound_second e s xs ys h z w =
      let b = h.balance in let p = h.second_placed in let later = p.0.later in
      let l = length-drop (e.at - s.second_end) s.first_pending in
      record {
        first_fits = h.first_fits;
        second_fits = h.second_fits;
        first_placed = h.first_placed;
        second_placed = p.1;
        at_is = h.at_is;
        done = h.done;
        balance = omega arith;
        no_first = λ f. let y = h.no_first f in omega arith;
        no_second = λ f. absurd cc;
      }

  pub sound_met : (s : State) (xs ys : List EditEntry) → MergeInvariant la lb s xs ys → MergeInvariant la lb (cancel_common s) xs ys
  sound_met s xs ys h =
      let b = h.balance in
      let l = length-drop (common_len s) s.first_pending in
      let k = length-drop (common_len s) s.second_pending in
      record {
        first_fits = h.first_fits;
        second_fits = h.second_fits;
        first_placed = h.first_placed;
        second_placed = h.second_placed;
        at_is = h.at_is;
        done = h.done;
        balance = omega arith;
        no_first = λ f. let y = h.no_first f in omega arith;
        no_second = λ f. let y = h.no_second f in omega arith;
      }

pub one_cancelled : (s : State) → OneIsDone (cancel_common s)
one_cancelled s =
    let l = length-drop (common_len s) s.first_pending in
    let k = length-drop (common_len s) s.second_pending in
    omega arith
