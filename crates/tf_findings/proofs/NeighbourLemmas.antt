-- Neighbours that change places, of which the second is less: those that tie stay in their order.
use Rattle.std.proofs.Common.{◌≡◌, ℕ, zero, suc, ◌<◌, Bool, true, false, List, [], ◌∷◌, length, take, drop, ◌++◌, get_or, filter, refl, sym, ap, subst, ◌∙◌, arith, not, ◌&&◌}
use Rattle.std.specs.Cmp.{IsStrictWeakOrder}
use Rattle.std.specs.List.{swap}
use Rattle.std.specs.List.Sorted.{IsStableBy, ties}
use Rattle.std.proofs.lemmas.List.Edits.{swap_is}
use Rattle.std.proofs.Math.Seq.{take-append_seam}

untied : (a b : Bool) → (not a && not b) ≡ true → (a ≡ false) × (b ≡ false)
untied true b e = absurd (cc)
untied false true e = absurd (cc)
untied false false e = (refl, refl)

module _ {X : Type 0} (lt : X → X → Bool) (o : IsStrictWeakOrder lt) where
  differ : {b : Bool} → b ≡ true → b ≡ false → ⊥
  differ t f = absurd (cc)

  pair : (z x y : X) (zs : List X) → lt y x ≡ true → filter (ties lt z) (y ∷ x ∷ zs) ≡ filter (ties lt z) (x ∷ y ∷ zs)
  pair z x y zs less = go (ties lt z x) (ties lt z y) refl refl
    where
      go : (a b : Bool) → ties lt z x ≡ a → ties lt z y ≡ b → filter (ties lt z) (y ∷ x ∷ zs) ≡ filter (ties lt z) (x ∷ y ∷ zs)
      go true true e f = absurd (differ less (o.chain y z x (untied (lt z y) (lt y z) f).1 (untied (lt z x) (lt x z) e).0))
      go true false e f = rw (e, f) refl
      go false true e f = rw (e, f) refl
      go false false e f = rw (e, f) refl

  next_to : (xs : List X) (k : ℕ) → suc k < length xs → ((d : X) → lt (get_or xs (suc k) d) (get_or xs k d) ≡ true) → IsStableBy lt xs (swap xs k (suc k))
  next_to [] k p less = absurd (omega arith)
  next_to (x ∷ []) k p less = absurd (omega arith)
  next_to (x ∷ y ∷ zs) zero p less = λ z. pair z x y zs (less x)
  next_to (x ∷ y ∷ zs) (suc k) p less = λ z.
      ap (λ ws. filter (ties lt z) (x ∷ ws)) (swap_is (y ∷ zs) k (suc k) x (omega arith) (omega arith))
      ∙ go z (ties lt z x) refl (next_to (y ∷ zs) k (omega arith) less z)
    where
      go : (z : X) (b : Bool) → ties lt z x ≡ b → filter (ties lt z) (swap (y ∷ zs) k (suc k)) ≡ filter (ties lt z) (y ∷ zs)
          → filter (ties lt z) (x ∷ swap (y ∷ zs) k (suc k)) ≡ filter (ties lt z) (x ∷ y ∷ zs)
      go z true e h = rw e (ap (λ ws. x ∷ ws) h)
      go z false e h = rw e h

  pub exchanged : (xs : List X) (k j : ℕ) → j ≡ suc k → j < length xs → ((d : X) → lt (get_or xs j d) (get_or xs k d) ≡ true) → IsStableBy lt xs (swap xs k j)
  exchanged xs k j e =
      subst (λ i. i < length xs → ((d : X) → lt (get_or xs i d) (get_or xs k d) ≡ true) → IsStableBy lt xs (swap xs k i)) (sym e) (next_to xs k)

-- a part that is all of a list, put back
pub whole_row : {X : Type 0} (xs ys : List X) (n : ℕ) → n ≡ length ys → length ys ≡ length xs → take n (ys ++ drop (length ys) xs) ≡ ys
whole_row xs ys n all same =
    ap (λ (m : ℕ). take m (ys ++ drop (length ys) xs)) all ∙ take-append_seam ys (drop (length ys) xs)
