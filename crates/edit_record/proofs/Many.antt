-- Many of one kind, one after another.
use Rattle.std.proofs.Common.{◌≡◌, ℕ, zero, suc, ◌+◌, ◌-◌, ◌≤◌, ◌<◌, List, [], ◌∷◌, ◌++◌, length, Bool, true, Result, Ok, Err, refl, sym, ap, subst, ◌∙◌, append_assoc, arith}
use Rattle.std.specs.List.{flat_map, AllByRecursion}
use Rattle.std.proofs.lemmas.List.{append-nil}
use Rattle.std.proofs.lemmas.List.Concat.{flat_map-cons}
use Rattle.edit_record.specs.declared.fault.DecodeStop.{DecodeStop}
use Rattle.edit_record.specs.declared.fault.DecodeStop.TheVariants as stops
use Rattle.edit_record.specs.Inner.ParseResults.{IsStop}
use Rattle.edit_record.specs.declared.fault.TextError.{TextError}
use Rattle.edit_record.specs.Parsing.{◌>>=◌, repeat_at}
use Rattle.edit_record.proofs.Choices.{ok_is, through, continues_with}

module _ {X : Type 0} (p : List ℕ → Result (X × List ℕ) TextError) (text : X → List ℕ) (Fits : X → Type 0) where
  pub many_take : ((t : List ℕ) (x : X) (rest : List ℕ) → p t ≡ Ok (x, rest) → (t ≡ text x ++ rest) × Fits x)
      → (n : ℕ) (t : List ℕ) (xs : List X) (rest : List ℕ) → repeat_at p n t ≡ Ok (xs, rest) → (t ≡ flat_map text xs ++ rest) × (length xs ≡ n) × AllByRecursion Fits xs
  many_take takes zero t xs rest e =
      subst (λ (y : List X × List ℕ). (t ≡ flat_map text y.0 ++ y.1) × (length y.0 ≡ 0) × AllByRecursion Fits y.0) (ok_is ([], t) (xs, rest) e) (refl, refl, tt)
  many_take takes (suc n) t xs rest e =
      through (p t) _ (xs, rest) e λ first t1 first_is e1.
      through (repeat_at p n t1) _ (xs, rest) e1 λ others t2 others_are e2.
      let f = takes t first t1 first_is in
      let i = many_take takes n t1 others t2 others_are in
      let whole : t ≡ flat_map text (first ∷ others) ++ t2 =
      f.0 ∙ ap (λ (y : List ℕ). text first ++ y) i.0 ∙ sym (append_assoc (text first) (flat_map text others) t2)
      ∙ ap (λ (y : List ℕ). y ++ t2) (sym (flat_map-cons text first others)) in
      subst (λ (y : List X × List ℕ). (t ≡ flat_map text y.0 ++ y.1) × (length y.0 ≡ suc n) × AllByRecursion Fits y.0) (ok_is (first ∷ others, t2) (xs, rest) e2) (whole, ap suc i.1, (f.1, i.2))

  pub many_again : ((x : X) (rest : List ℕ) → Fits x → p (text x ++ rest) ≡ Ok (x, rest))
      → (xs : List X) (rest : List ℕ) → AllByRecursion Fits xs → repeat_at p (length xs) (flat_map text xs ++ rest) ≡ Ok (xs, rest)
  many_again again [] rest fits = refl
  many_again again (x ∷ xs) rest fits =
      let t1 = flat_map text xs ++ rest in
      let parts : flat_map text (x ∷ xs) ++ rest ≡ text x ++ t1 = ap (λ (y : List ℕ). y ++ rest) (flat_map-cons text x xs) ∙ append_assoc (text x) (flat_map text xs) rest in
      ap (repeat_at p (suc (length xs))) parts
      ∙ continues_with (p (text x ++ t1)) _ (x, t1) _ (again x t1 fits.0)
      (continues_with (repeat_at p (length xs) t1) _ (xs, rest) _ (many_again again xs rest fits.1) refl)

-- what was read before, and what is still read
abbrev pub with_prefix : {X : Type 0} → List X → Result (List X × List ℕ) TextError → Result (List X × List ℕ) TextError
with_prefix leading read = read >>= λ x. Ok (leading ++ x.0, x.1)

regroup : {X : Type 0} (leading : List X) (x : X) (read : Result (List X × List ℕ) TextError) → with_prefix leading (read >>= λ y. Ok (x ∷ y.0, y.1)) ≡ with_prefix (leading ++ x ∷ []) read
regroup leading x (Ok y) = ap (λ xs. Ok (xs, y.1)) (sym (append_assoc leading (x ∷ []) y.0))
regroup leading x (Err e) = refl

module _ {X : Type 0} (p : List ℕ → Result (X × List ℕ) TextError) (leading : List X) (count i : ℕ) (t : List ℕ) (total : Result (List X × List ℕ) TextError) where
  pub one_more : (x : X) (after : List ℕ) → i < count → p t ≡ Ok (x, after) → with_prefix leading (repeat_at p (count - i) t) ≡ total → with_prefix (leading ++ x ∷ []) (repeat_at p (count - (i + 1)) after) ≡ total
  one_more x after lt is so_far =
      let k : count - i ≡ suc (count - (i + 1)) = omega arith in
      let one : with_prefix leading (repeat_at p (count - i) t) ≡ with_prefix (leading ++ x ∷ []) (repeat_at p (count - (i + 1)) after) = rw (k, is) (regroup leading x (repeat_at p (count - (i + 1)) after)) in
      sym one ∙ so_far

  pub no_more : (here takes : Bool) (e : DecodeStop) → i < count → (here ≡ true → takes ≡ true) → IsStop here e (p t) → with_prefix leading (repeat_at p (count - i) t) ≡ total → IsStop takes e total
  no_more here takes stops.Memory lt more is so_far = more is
  no_more here takes (stops.Bad bad) lt more is so_far =
      let k : count - i ≡ suc (count - (i + 1)) = omega arith in
      let one : with_prefix leading (repeat_at p (count - i) t) ≡ Err bad = rw (k, is) refl in
      sym so_far ∙ one

  pub all_done : count ≤ i → with_prefix leading (repeat_at p (count - i) t) ≡ total → total ≡ Ok (leading, t)
  all_done le so_far =
      let k : count - i ≡ 0 = omega arith in
      let one : with_prefix leading (repeat_at p (count - i) t) ≡ Ok (leading, t) = rw k (ap (λ xs. Ok (xs, t)) (append-nil leading)) in
      sym so_far ∙ one
