-- Lists of edits that change places turn the same texts.
use Rattle.std.proofs.Common.{◌≡◌, ℕ, ◌+◌, ◌-◌, ◌≤◌, List, [], ◌∷◌, ◌++◌, length, Bool, true, false, refl, arith, sym, ap, ◌∙◌, append_assoc}
use Rattle.edit_record.specs.Lists.Pieces.{EditEntry, removed_len, added_len}
use Rattle.edit_record.specs.Lists.Validity.{AreDisjoint}
use Rattle.edit_record.specs.Swaps.Inner.SwapState.{StartsAfter, relocate, IsSwapTrace}
use Rattle.edit_record.proofs.ListsLemmas.Placed.{placed_within}
use Rattle.edit_record.proofs.ListsLemmas.Parts.{placed_earlier}
use Rattle.edit_record.proofs.ListsLemmas.Pairs.{Both, Moved, Passes, passes_first, passes_second, passes_first_left, passes_second_left, Skips, skips, Alike}

-- g bytes stay, r becomes n, and then L
record Via (g : ℕ) (r n : List ℕ) (K L : List ℕ → List ℕ → Type 0) : Type 0 where
  go : (t v : List ℕ) → K t v → (w : List ℕ) × (length w ≡ g) × Moved (w ++ r) (w ++ n) L t v
  back : (w t v : List ℕ) → length w ≡ g → L t v → K ((w ++ r) ++ t) ((w ++ n) ++ v)

via : (la lb g : ℕ) (r n : List ℕ) (K M L : List ℕ → List ℕ → Type 0) → Skips la lb g K M → Passes r n M L → Via g r n K L
via la lb g r n K M L s p = record {
  go = λ t v h.
      let x = s.skip_moves t v h in
      let y = p.go x.2.t_rest x.2.v_rest x.2.rest in (
        x.0,
        x.1,
        record {
          t_rest = y.t_rest;
          v_rest = y.v_rest;
          t_is = x.2.t_is ∙ ap (λ (z : List ℕ). x.0 ++ z) y.t_is ∙ sym (append_assoc x.0 r y.t_rest);
          v_is = x.2.v_is ∙ ap (λ (z : List ℕ). x.0 ++ z) y.v_is ∙ sym (append_assoc x.0 n y.v_rest);
          rest = y.rest;
        },
      );
  back = λ w t v l h. rw (append_assoc, append_assoc) (s.skip_back w (r ++ t) (n ++ v) l (p.back t v h));
}

via_back : (g : ℕ) (r n : List ℕ) (L M : List ℕ → List ℕ → Type 0) → Via g r n L M → (t v : List ℕ) → (w : List ℕ) × (length w ≡ g) × Moved (w ++ r) (w ++ n) M t v → L t v
via_back g r n L M q t v x = rw (x.2.t_is, x.2.v_is) (q.back x.0 x.2.t_rest x.2.v_rest x.1 x.2.rest)

moved_on : (r n : List ℕ) (K L : List ℕ → List ℕ → Type 0) → ((t v : List ℕ) → K t v → L t v) → (t v : List ℕ) → Moved r n K t v → Moved r n L t v
moved_on r n K L f t v m = record { t_rest = m.t_rest; v_rest = m.v_rest; t_is = m.t_is; v_is = m.v_is; rest = f m.t_rest m.v_rest m.rest }

alike_via : (g : ℕ) (r n : List ℕ) (K L K' L' : List ℕ → List ℕ → Type 0) → Via g r n K K' → Via g r n L L' → Alike K' L' → Alike K L
alike_via g r n K L K' L' p q a = record {
  go = λ t v h. let x = p.go t v h in via_back g r n L L' q t v (x.0, x.1, moved_on (x.0 ++ r) (x.0 ++ n) K' L' a.go t v x.2);
  back = λ t v h. let x = q.go t v h in via_back g r n K K' p t v (x.0, x.1, moved_on (x.0 ++ r) (x.0 ++ n) L' K' a.back t v x.2);
}

passes_both : (r n : List ℕ) (K M L : List ℕ → List ℕ → Type 0) → Passes r [] K M → Passes [] n M L → Passes r n K L
passes_both r n K M L p q = record {
  go = λ t v h.
      let x = p.go t v h in let y = q.go x.t_rest x.v_rest x.rest in
      record { t_rest = y.t_rest; v_rest = y.v_rest; t_is = x.t_is ∙ ap (λ (z : List ℕ). r ++ z) y.t_is; v_is = x.v_is ∙ y.v_is; rest = y.rest };
  back = λ t v h. p.back t (n ++ v) (q.back t v h);
}

passes_both' : (r n : List ℕ) (K M L : List ℕ → List ℕ → Type 0) → Passes [] n K M → Passes r [] M L → Passes r n K L
passes_both' r n K M L p q = record {
  go = λ t v h.
      let x = p.go t v h in let y = q.go x.t_rest x.v_rest x.rest in
      record { t_rest = y.t_rest; v_rest = y.v_rest; t_is = x.t_is ∙ y.t_is; v_is = x.v_is ∙ ap (λ (z : List ℕ). n ++ z) y.v_is; rest = y.rest };
  back = λ t v h. p.back (r ++ t) v (q.back t v h);
}

module _ (la lb : ℕ) where
  -- an edit of the first list, all of whose added bytes the second keeps
  whole_a : (e : EditEntry) (xs : List EditEntry) (at bf : ℕ) (ys : List EditEntry) → e.at ≡ at → AreDisjoint lb (bf + length e.added) ys
      → Passes e.removed e.added (Both la lb [] at (e ∷ xs) [] bf ys) (Both la lb [] (e.at + length e.removed) xs [] (bf + length e.added) ys)
  whole_a e xs at bf ys is q =
      let d : e.at - at ≡ 0 = omega arith in
      let p = passes_first la lb e xs [] at bf ys (omega arith) (omega arith) in
      let p' : Passes e.removed [] (Both la lb [] at (e ∷ xs) [] bf ys) (Both la lb e.added (e.at + length e.removed) xs [] bf ys) = rw d at p in
      passes_both e.removed e.added _ _ _ p' (passes_first_left la lb e.added (e.at + length e.removed) xs bf ys q)

  -- an edit of the second list, all of whose removed bytes the first keeps
  whole_b : (e : EditEntry) (ys : List EditEntry) (af at : ℕ) (xs : List EditEntry) → e.at ≡ at → AreDisjoint la (af + length e.removed) xs
      → Passes e.removed e.added (Both la lb [] af xs [] at (e ∷ ys)) (Both la lb [] (af + length e.removed) xs [] (e.at + length e.removed) ys)
  whole_b e ys af at xs is q =
      let d : e.at - at ≡ 0 = omega arith in
      let p = passes_second la lb e ys [] af at xs (omega arith) (omega arith) in
      let p' : Passes [] e.added (Both la lb [] af xs [] at (e ∷ ys)) (Both la lb [] af xs e.removed (e.at + length e.removed) ys) = rw d at p in
      passes_both' e.removed e.added _ _ _ p' (passes_second_left la lb e.removed af xs (e.at + length e.removed) ys q)

-- what holds of what is left
pub record Left (la lb lw old mid other : ℕ) (xs ys us vs : List EditEntry) : Type 0 where
  pub us_placed : AreDisjoint la old us
  pub vs_placed : AreDisjoint lw other vs
  pub equivalent : Alike (Both la lb [] old xs [] mid ys) (Both la lw [] old us [] other vs)

at_nil : (la lb lw old mid other : ℕ) → AreDisjoint la old [] → mid + la ≡ lb + old → other + la ≡ lw + old → Alike (Both la lb [] old [] [] mid []) (Both la lw [] old [] [] other [])
at_nil la lb lw old mid other p b d = record {
  go = λ t v h.
      let f = h.first in let l = f.1 in
      record { mid_first = t; mid_second = t; same = refl; first = (refl, l); second = (f.0 ∙ h.same ∙ h.second.0, omega arith) };
  back = λ t v h.
      let f = h.first in let l = f.1 in
      record { mid_first = t; mid_second = t; same = refl; first = (refl, l); second = (f.0 ∙ h.same ∙ h.second.0, omega arith) };
}

pub disjoint_from_later : (n from to : ℕ) (ys : List EditEntry) → AreDisjoint n from ys → StartsAfter to ys → (ys ≡ [] → to ≤ n) → AreDisjoint n to ys
disjoint_from_later n from to [] p b f = f refl
disjoint_from_later n from to (e ∷ ys) p b f = (record { later = omega (arith, b); within = p.0.within; some = p.0.some }, p.1)

module _ (la lb lw : ℕ) where
  step_a : (old mid other : ℕ) (x : EditEntry) (xs ys us vs : List EditEntry) → AreDisjoint la old (x ∷ xs) → AreDisjoint lb mid ys → AreDisjoint lb (mid + (x.at - old) + length x.added) ys
      → Left la lb lw (x.at + length x.removed) (mid + (x.at - old) + length x.added) (other + (x.at - old) + length x.removed) xs ys us vs → Left la lb lw old mid other (x ∷ xs) ys us (relocate old x other ∷ vs)
  step_a old mid other x xs ys us vs p q q' h =
      let later = p.0.later in let within = p.0.within in let some = p.0.some in
      let g = x.at - old in
      let v = relocate old x other in
      let e : old + (x.at - old) ≡ x.at = omega arith in
      let r = placed_within lw (other + g + length x.removed) vs h.vs_placed in
      let pa : AreDisjoint la (old + g) (x ∷ xs) = (record { later = omega arith; within = within; some = some }, p.1) in
      let pb : AreDisjoint lb (mid + g) ys = placed_earlier lb (mid + g) (mid + g + length x.added) ys (omega arith) q' in
      let ua : AreDisjoint la (old + g) us = placed_earlier la (old + g) (x.at + length x.removed) us (omega arith) h.us_placed in
      let va : AreDisjoint lw (other + g) (v ∷ vs) = (record { later = omega arith; within = omega arith; some = some }, h.vs_placed) in
      let k1 : Skips la lb g (Both la lb [] old (x ∷ xs) [] mid ys) (Both la lb [] x.at (x ∷ xs) [] (mid + g) ys) = rw e at (skips la lb g old mid (x ∷ xs) ys pa pb) in
      let k2 = whole_a la lb x xs x.at (mid + g) ys refl q' in
      let l1 : Skips la lw g (Both la lw [] old us [] other (v ∷ vs)) (Both la lw [] x.at us [] (other + g) (v ∷ vs)) = rw e at (skips la lw g old other us (v ∷ vs) ua va) in
      let l2 = whole_b la lw v vs x.at (other + g) us refl h.us_placed in
      record {
        us_placed = placed_earlier la old (x.at + length x.removed) us (omega arith) h.us_placed;
        vs_placed = placed_earlier lw other (other + g) (v ∷ vs) (omega arith) va;
        equivalent = alike_via g x.removed x.added _ _ _ _ (via la lb g x.removed x.added _ _ _ k1 k2) (via la lw g x.removed x.added _ _ _ l1 l2) h.equivalent;
      }

  step_b : (old mid other : ℕ) (y : EditEntry) (xs ys us vs : List EditEntry) → AreDisjoint la old xs → AreDisjoint la (old + (y.at - mid) + length y.removed) xs → AreDisjoint lb mid (y ∷ ys)
      → Left la lb lw (old + (y.at - mid) + length y.removed) (y.at + length y.removed) (other + (y.at - mid) + length y.added) xs ys us vs → Left la lb lw old mid other xs (y ∷ ys) (relocate mid y old ∷ us) vs
  step_b old mid other y xs ys us vs p p' q h =
      let later = q.0.later in let within = q.0.within in let some = q.0.some in
      let g = y.at - mid in
      let u = relocate mid y old in
      let e : mid + (y.at - mid) ≡ y.at = omega arith in
      let r = placed_within la (old + g + length y.removed) us h.us_placed in
      let pa : AreDisjoint la (old + g) xs = placed_earlier la (old + g) (old + g + length y.removed) xs (omega arith) p' in
      let pb : AreDisjoint lb (mid + g) (y ∷ ys) = (record { later = omega arith; within = within; some = some }, q.1) in
      let ua : AreDisjoint la (old + g) (u ∷ us) = (record { later = omega arith; within = omega arith; some = some }, h.us_placed) in
      let va : AreDisjoint lw (other + g) vs = placed_earlier lw (other + g) (other + g + length y.added) vs (omega arith) h.vs_placed in
      let k1 : Skips la lb g (Both la lb [] old xs [] mid (y ∷ ys)) (Both la lb [] (old + g) xs [] y.at (y ∷ ys)) = rw e at (skips la lb g old mid xs (y ∷ ys) pa pb) in
      let k2 = whole_b la lb y ys (old + g) y.at xs refl p' in
      let l1 = skips la lw g old other (u ∷ us) vs ua va in
      let l2 = whole_a la lw u us (old + g) (other + g) vs refl h.vs_placed in
      record {
        us_placed = placed_earlier la old (old + g) (u ∷ us) (omega arith) ua;
        vs_placed = placed_earlier lw other (other + g) vs (omega arith) va;
        equivalent = alike_via g y.removed y.added _ _ _ _ (via la lb g y.removed y.added _ _ _ k1 k2) (via la lw g y.removed y.added _ _ _ l1 l2) h.equivalent;
      }

  pub left : (ms : List Bool) (old mid other : ℕ) (xs ys us vs : List EditEntry) → IsSwapTrace ms old mid other xs ys us vs → AreDisjoint la old xs → AreDisjoint lb mid ys
      → mid + la + added_len xs ≡ lb + old + removed_len xs → other + la + added_len ys ≡ lw + old + removed_len ys → Left la lb lw old mid other xs ys us vs
  left [] old mid other [] [] [] [] s p q b d =
      let l : old ≤ la = p in
      record { us_placed = p; vs_placed = omega arith; equivalent = at_nil la lb lw old mid other p (omega arith) (omega arith) }
  left (true ∷ ms) old mid other (x ∷ xs) ys us (v ∷ vs) s p q b d =
      let later = p.0.later in
      let g = x.at - old in
      let within_len = placed_within la (x.at + length x.removed) xs p.1 in
      let q' : AreDisjoint lb (mid + g + length x.added) ys = disjoint_from_later lb mid (mid + g + length x.added) ys q s.1 (λ k. omega arith) in
      let h = left ms (x.at + length x.removed) (mid + g + length x.added) (other + g + length x.removed) xs ys us vs s.2 p.1 q' (omega arith) (omega arith) in
      rw s.0 (step_a old mid other x xs ys us vs p q q' h)
  left (false ∷ ms) old mid other xs (y ∷ ys) (u ∷ us) vs s p q b d =
      let later = q.0.later in
      let g = y.at - mid in
      let within_len = placed_within lb (y.at + length y.removed) ys q.1 in
      let p' : AreDisjoint la (old + g + length y.removed) xs = disjoint_from_later la old (old + g + length y.removed) xs p s.1 (λ k. let r0 = ap removed_len k in let a0 = ap added_len k in omega arith) in
      let h = left ms (old + g + length y.removed) (y.at + length y.removed) (other + g + length y.added) xs ys us vs s.2 p' q.1 (omega arith) (omega arith) in
      rw s.0 (step_b old mid other y xs ys us vs p p' q h)
  left [] old mid other [] [] [] (v ∷ vs) s p q b d = elim s [ ]
  left [] old mid other [] [] (u ∷ us) vs s p q b d = elim s [ ]
  left [] old mid other [] (y ∷ ys) us vs s p q b d = elim s [ ]
  left [] old mid other (x ∷ xs) ys us vs s p q b d = elim s [ ]
  left (false ∷ ms) old mid other xs [] us vs s p q b d = elim s [ ]
  left (false ∷ ms) old mid other xs (y ∷ ys) [] vs s p q b d = elim s [ ]
  left (true ∷ ms) old mid other [] ys us vs s p q b d = elim s [ ]
  left (true ∷ ms) old mid other (x ∷ xs) ys us [] s p q b d = elim s [ ]
