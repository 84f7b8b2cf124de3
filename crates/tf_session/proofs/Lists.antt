-- The last member of a list.
use Rattle.std.proofs.Common.{◌≡◌, ◌∙◌, ◌+◌, ◌-◌, List, [], ◌∷◌, ◌++◌, length, take, get_or, Option, Some, None, IsNone, slice_get, arith, ap, sym, refl, inl, inr}
use Rattle.std.specs.Option.{option_to_list}
use Rattle.std.proofs.lemmas.Option.{slice_get_cases}
use Rattle.std.proofs.lemmas.List.{take_more}
use Rattle.std.proofs.Math.Seq.{take-length}

-- a list with a last member is what precedes it, and it
pub ends_with_last : {X : Type 0} (xs : List X) (x : X) → slice_get xs (length xs - 1) ≡ Some x → xs ≡ take (length xs - 1) xs ++ x ∷ []
ends_with_last xs x h =
    elim (slice_get_cases xs (length xs - 1)).1 [
      | inl w ↦
          let n : length xs - 1 + 1 ≡ length xs = omega (arith, w.1) in
          let same : get_or xs (length xs - 1) w.0 ≡ x = (let e = w.2 in let g = w.3 in cc) in
          sym (take-length xs) ∙ ap (λ k. take k xs) (sym n) ∙ take_more xs (length xs - 1) w.0 w.1 ∙ ap (λ y. take (length xs - 1) xs ++ y ∷ []) same
      | inr w ↦ let e = w.1 in cc
    ]

pub not_nil : {X : Type 0} (xs : List X) (x : X) → xs ++ x ∷ [] ≡ [] → ⊥
not_nil [] x e = cc
not_nil (y ∷ ys) x e = cc

pub has_last : {X : Type 0} (xs : List X) (x : X) → slice_get xs (length xs - 1) ≡ Some x → xs ≡ [] → ⊥
has_last xs x h e = not_nil (take (length xs - 1) xs) x (sym (ends_with_last xs x h) ∙ e)

-- lists that are one, with a last member each, have the same members before it, and the same last one
pub same_last : {X : Type 0} (xs ys : List X) (x y : X) → xs ++ x ∷ [] ≡ ys ++ y ∷ [] → (xs ≡ ys) × (x ≡ y)
same_last [] [] x y e = (refl, cc)
same_last [] (b ∷ ys) x y e = let t : ys ++ y ∷ [] ≡ [] = cc in absurd (not_nil ys y t)
same_last (a ∷ xs) [] x y e = let t : xs ++ x ∷ [] ≡ [] = cc in absurd (not_nil xs x t)
same_last (a ∷ xs) (b ∷ ys) x y e =
    let t : xs ++ x ∷ [] ≡ ys ++ y ∷ [] = cc in
    let h = same_last xs ys x y t in
    let same : xs ≡ ys = h.0 in
    let head : a ≡ b = cc in
    (cc, h.1)

-- the last member is what was popped
pub popped : {X : Type 0} (xs rest : List X) (o : Option X) (x : X) → slice_get xs (length xs - 1) ≡ Some x → xs ≡ rest ++ option_to_list o → (IsNone o → xs ≡ []) → xs ≡ rest ++ x ∷ []
popped xs rest None x h e n = absurd (has_last xs x h (n refl))
popped xs rest (Some y) x h e n =
    let whole = ends_with_last xs x h in
    let lasts = same_last rest (take (length xs - 1) xs) y x (sym e ∙ whole) in
    e ∙ ap (λ z. rest ++ z ∷ []) lasts.1
