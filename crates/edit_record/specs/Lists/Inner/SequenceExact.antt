-- Changes one after another answer what each of them turns, if each change does.
use Rattle.std.proofs.Common.{◌≡◌, ◌≢◌, ◌↔◌, ℕ, List, [], ◌∷◌, Result, Ok, Err, refl, sym, ap}
use Rattle.edit_record.specs.declared.lists.change.Refused.{Refused}
use Rattle.edit_record.specs.declared.lists.change.Refused.TheVariants.{Memory}
use Rattle.edit_record.specs.Lists.Sequence.{TransformsInOrder, ◌>>=◌, forward_all, backward_all}

bind_ok : (r : Result (List ℕ) Refused) (f : List ℕ → Result (List ℕ) Refused) (u : List ℕ)
    → (r >>= f) ≡ Ok u → (x : List ℕ) × (r ≡ Ok x) × (f x ≡ Ok u)
bind_ok (Ok x) f u e = (x, refl, e)
bind_ok (Err d) f u e = absurd cc

module _ {C : Type 0} (turns : C → List ℕ → List ℕ → Type 0)
    (answer : C → List ℕ → Result (List ℕ) Refused) where
  pub forward_all_exact : ((c : C) (t u : List ℕ) → (answer c t ≡ Ok u) ↔ turns c t u)
      → (cs : List C) (t u : List ℕ) → (forward_all answer cs t ≡ Ok u)
      ↔ TransformsInOrder turns cs t u
  forward_all_exact exact [] t u = (λ e. cc, λ e. ap (λ (x : List ℕ). Ok x) e)
  forward_all_exact exact (c ∷ cs) t u = (
    λ e. let p = bind_ok (answer c t) (forward_all answer cs) u e in
        (p.0, (exact c t p.0).0 p.1, (forward_all_exact exact cs p.0 u).0 p.2),
    λ h. rw ((exact c t h.0).1 h.1) ((forward_all_exact exact cs h.0 u).1 h.2),
  )

  pub backward_all_exact : ((c : C) (t u : List ℕ) → (answer c u ≡ Ok t) ↔ turns c t u)
      → (cs : List C) (t u : List ℕ) → (backward_all answer cs u ≡ Ok t)
      ↔ TransformsInOrder turns cs t u
  backward_all_exact exact [] t u = (λ e. cc, λ e. ap (λ (x : List ℕ). Ok x) (sym e))
  backward_all_exact exact (c ∷ cs) t u = (
    λ e. let p = bind_ok (backward_all answer cs u) (answer c) t e in
        (p.0, (exact c t p.0).0 p.2, (backward_all_exact exact cs p.0 u).0 p.1),
    λ h. rw ((backward_all_exact exact cs h.0 u).1 h.2) ((exact c t h.0).1 h.1),
  )

never_bound : (r : Result (List ℕ) Refused) (f : List ℕ → Result (List ℕ) Refused)
    → (r ≢ Err Memory) → ((x : List ℕ) → f x ≢ Err Memory) → (r >>= f) ≢ Err Memory
never_bound (Ok x) f r_never f_never = f_never x
never_bound (Err e) f r_never f_never = r_never

module _ {C : Type 0} (answer : C → List ℕ → Result (List ℕ) Refused)
    (never : (c : C) (t : List ℕ) → answer c t ≢ Err Memory) where
  pub forward_all_never : (cs : List C) (t : List ℕ) → forward_all answer cs t ≢ Err Memory
  forward_all_never [] t = λ e. cc
  forward_all_never (c ∷ cs) t =
      never_bound (answer c t) (forward_all answer cs) (never c t) (forward_all_never cs)

  pub backward_all_never : (cs : List C) (t : List ℕ) → backward_all answer cs t ≢ Err Memory
  backward_all_never [] t = λ e. cc
  backward_all_never (c ∷ cs) t =
      never_bound (backward_all answer cs t) (answer c) (backward_all_never cs t) (never c)
