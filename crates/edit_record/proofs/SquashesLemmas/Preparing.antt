-- What is made ready means the same, and can be taken.
use Rattle.std.proofs.Common.{◌≡◌, ℕ, ◌+◌, ◌-◌, ◌≤◌, List, [], ◌∷◌, length, Bool, true, false, cond, refl, arith, ◌&&◌, add-zero}
use Rattle.std.specs.Prelude.{◌==◌}
use Rattle.std.proofs.lemmas.Bool.{leb-true, leb-false, eqb-true, and_parts}
use Rattle.edit_record.specs.Lists.Pieces.{EditEntry}
use Rattle.edit_record.specs.Lists.Validity.{AreDisjoint}
use Rattle.edit_record.specs.Squashes.Inner.Merge.{State, finish_edit, skip_kept, reaches, gap, joins_first, joins_second, first_is_next, start_edit, prepare_next, MergeInvariant, OneIsDone, CanTakeFirst, CanTakeSecond, CanTake}
use Rattle.edit_record.proofs.ListsLemmas.Placed.{placed_within}
use Rattle.edit_record.proofs.ListsLemmas.Parts.{placed_earlier}
use Rattle.edit_record.proofs.ListsLemmas.Pairs.{Alike, alike_then}
use Rattle.edit_record.proofs.SquashesLemmas.Soundness.{apart_first, apart_second, sound_closed, sound_skipped}
use Rattle.edit_record.proofs.SquashesLemmas.Means.{Means, empty_at, means_closed, means_skipped}

pub record Readied (la lb : ℕ) (s : State) (r : Bool × State) (xs ys : List EditEntry) : Type 0 where
  pub sound : MergeInvariant la lb r.1 xs ys
  pub one : OneIsDone r.1
  pub takes : CanTake r.0 r.1 xs ys
  pub later : s.second_end ≤ r.1.second_end
  pub shorter : length r.1.second_pending ≤ length s.second_pending
  pub equivalent : (tail : List EditEntry) → AreDisjoint lb r.1.second_end tail → Alike (Means la lb s xs tail) (Means la lb r.1 xs tail)

module _ (la lb : ℕ) where
  placed_first : (s : State) (e : EditEntry) (xs ys : List EditEntry) → MergeInvariant la lb s (e ∷ xs) ys → first_is_next s (e ∷ xs) ys ≡ true → length s.first_pending ≡ 0 → length s.second_pending ≡ 0 → AreDisjoint lb (s.second_end + (e.at - s.first_end)) ys
  placed_first s e xs [] h t za zb =
      let b = h.balance in let p = h.first_placed in let later = p.0.later in let within = p.0.within in
      let r = placed_within la (e.at + length e.removed) xs p.1 in
      omega arith
  placed_first s e xs (d ∷ ys) h t za zb =
      let l = leb-true (e.at - s.first_end) (d.at - s.second_end) t in
      let p = h.second_placed in let later = p.0.later in
      (record { later = omega arith; within = p.0.within; some = p.0.some }, p.1)

  placed_second : (s : State) (xs : List EditEntry) (d : EditEntry) (ys : List EditEntry) → MergeInvariant la lb s xs (d ∷ ys) → first_is_next s xs (d ∷ ys) ≡ false → length s.first_pending ≡ 0 → length s.second_pending ≡ 0 → AreDisjoint la (s.first_end + (d.at - s.second_end)) xs
  placed_second s [] d ys h t za zb =
      let b = h.balance in let p = h.second_placed in let later = p.0.later in let within = p.0.within in
      let r = placed_within lb (d.at + length d.removed) ys p.1 in
      omega arith
  placed_second s (e ∷ xs) d ys h t za zb =
      let l = leb-false (e.at - s.first_end) (d.at - s.second_end) t in
      let p = h.first_placed in let later = p.0.later in
      (record { later = omega arith; within = p.0.within; some = p.0.some }, p.1)

  open_first : (out : List EditEntry) (at af bf : ℕ) (xs ys : List EditEntry) → MergeInvariant la lb (empty_at la lb out at af bf) xs ys → first_is_next (empty_at la lb out at af bf) xs ys ≡ true
      → Readied la lb (empty_at la lb out at af bf) (true, skip_kept (gap af xs) (empty_at la lb out at af bf)) xs ys
  open_first out at af bf [] ys h t = absurd cc
  open_first out at af bf (e ∷ xs) ys h t =
      let s = empty_at la lb out at af bf in
      let p = h.first_placed in let l = p.0.later in
      let pa : AreDisjoint la (af + (e.at - af)) (e ∷ xs) = (record { later = omega arith; within = p.0.within; some = p.0.some }, p.1) in
      let pb = placed_first s e xs ys h t refl refl in
      record {
        sound = sound_skipped la lb (e.at - af) s (e ∷ xs) ys h refl pa pb;
        one = refl;
        takes = (refl, omega arith);
        later = omega arith;
        shorter = omega arith;
        equivalent = λ tail q. means_skipped la lb (e.at - af) out at af bf (e ∷ xs) tail h.done pa q;
      }

  open_second : (out : List EditEntry) (at af bf : ℕ) (xs ys : List EditEntry) → MergeInvariant la lb (empty_at la lb out at af bf) xs ys → first_is_next (empty_at la lb out at af bf) xs ys ≡ false
      → Readied la lb (empty_at la lb out at af bf) (false, skip_kept (gap bf ys) (empty_at la lb out at af bf)) xs ys
  open_second out at af bf [] [] h t =
      let s = empty_at la lb out at af bf in
      let pa : AreDisjoint la (af + 0) [] = rw add-zero h.first_placed in
      let pb : AreDisjoint lb (bf + 0) [] = rw add-zero h.second_placed in
      record {
        sound = sound_skipped la lb 0 s [] [] h refl pa pb;
        one = refl;
        takes = refl;
        later = omega arith;
        shorter = omega arith;
        equivalent = λ tail q. means_skipped la lb 0 out at af bf [] tail h.done pa q;
      }
  open_second out at af bf (e ∷ xs) [] h t = absurd cc
  open_second out at af bf xs (d ∷ ys) h t =
      let s = empty_at la lb out at af bf in
      let p = h.second_placed in let l = p.0.later in
      let pb : AreDisjoint lb (bf + (d.at - bf)) (d ∷ ys) = (record { later = omega arith; within = p.0.within; some = p.0.some }, p.1) in
      let pa = placed_second s xs d ys h t refl refl in
      record {
        sound = sound_skipped la lb (d.at - bf) s xs (d ∷ ys) h refl pa pb;
        one = refl;
        takes = (refl, omega arith);
        later = omega arith;
        shorter = omega arith;
        equivalent = λ tail q. means_skipped la lb (d.at - bf) out at af bf xs tail h.done pa q;
      }

  opens : (out : List EditEntry) (at af bf : ℕ) (xs ys : List EditEntry) → MergeInvariant la lb (empty_at la lb out at af bf) xs ys → (b : Bool) → first_is_next (empty_at la lb out at af bf) xs ys ≡ b
      → Readied la lb (empty_at la lb out at af bf) (cond b (true, skip_kept (gap af xs) (empty_at la lb out at af bf)) (false, skip_kept (gap bf ys) (empty_at la lb out at af bf))) xs ys
  opens out at af bf xs ys h true t = open_first out at af bf xs ys h t
  opens out at af bf xs ys h false t = open_second out at af bf xs ys h t

  reached : (xs : List EditEntry) (from n : ℕ) → reaches xs from n ≡ true → (e : EditEntry) × (es : List EditEntry) × (xs ≡ e ∷ es) × (e.at - from ≤ n)
  reached [] from n t = absurd cc
  reached (e ∷ es) from n t = (e, es, refl, leb-true (e.at - from) n t)

  takes_first : (s : State) (xs : List EditEntry) → joins_first s xs ≡ true → CanTakeFirst s xs
  takes_first s xs t =
      let p = and_parts s.has_second ((length s.first_pending == 0) && reaches xs s.first_end (length s.second_pending)) t in
      let q = and_parts (length s.first_pending == 0) (reaches xs s.first_end (length s.second_pending)) p.1 in
      let r = reached xs s.first_end (length s.second_pending) q.1 in
      rw r.2 (eqb-true (length s.first_pending) 0 q.0, r.3)

  takes_second : (s : State) (xs ys : List EditEntry) → joins_second s ys ≡ true → CanTakeSecond s xs ys
  takes_second s xs ys t =
      let p = and_parts s.has_first ((length s.second_pending == 0) && reaches ys s.second_end (length s.first_pending)) t in
      let q = and_parts (length s.second_pending == 0) (reaches ys s.second_end (length s.first_pending)) p.1 in
      let r = reached ys s.second_end (length s.first_pending) q.1 in
      rw r.2 (eqb-true (length s.second_pending) 0 q.0, r.3)

  stays : (s : State) (b : Bool) (xs ys : List EditEntry) → MergeInvariant la lb s xs ys → OneIsDone s → CanTake b s xs ys → Readied la lb s (b, s) xs ys
  stays s b xs ys h one t = record { sound = h; one = one; takes = t; later = omega arith; shorter = omega arith; equivalent = λ tail q. record { go = λ t v k. k; back = λ t v k. k } }

  closes : (s : State) (xs ys : List EditEntry) → MergeInvariant la lb s xs ys → OneIsDone s → joins_first s xs ≡ false → joins_second s ys ≡ false → Readied la lb s (start_edit (finish_edit s) xs ys) xs ys
  closes s xs ys h one na nb =
      let pa = apart_first la lb s xs ys h one na in
      let pb = apart_second la lb s xs ys h one nb in
      let r = opens (finish_edit s).out (finish_edit s).at (finish_edit s).first_end (finish_edit s).second_end xs ys (sound_closed la lb s xs ys h pa pb) (first_is_next (finish_edit s) xs ys) refl in
      let l = r.later in
      let n = r.shorter in
      record {
        sound = r.sound;
        one = r.one;
        takes = r.takes;
        later = omega arith;
        shorter = omega arith;
        equivalent = λ tail q. alike_then _ _ _ (means_closed la lb s xs tail h.at_is one pa (placed_earlier lb (s.second_end + length s.first_pending) (start_edit (finish_edit s) xs ys).1.second_end tail l q)) (r.equivalent tail q);
      }

  pub readies : (s : State) (xs ys : List EditEntry) → MergeInvariant la lb s xs ys → OneIsDone s → Readied la lb s (prepare_next s xs ys) xs ys
  readies s xs ys h one =
      elim (joins_first s xs) as (λ b. joins_first s xs ≡ b → Readied la lb s (cond b (true, s) (cond (joins_second s ys) (false, s) (start_edit (finish_edit s) xs ys))) xs ys) [
        | true ↦ λ t. stays s true xs ys h one (takes_first s xs t)
        | false ↦ λ na. elim (joins_second s ys) as (λ b. joins_second s ys ≡ b → Readied la lb s (cond b (false, s) (start_edit (finish_edit s) xs ys)) xs ys) [
          | true ↦ λ t. stays s false xs ys h one (takes_second s xs ys t)
          | false ↦ λ nb. closes s xs ys h one na nb
        ] refl
      ] refl
