-- Changes undone from the last to the first.
use Rattle.std.proofs.Common.{◌≡◌, ℕ, ◌+◌, ◌-◌, ◌≤◌, List, [], ◌∷◌, ◌++◌, length, take, get_or, Result, Ok, Err, refl, arith, sym, ap, ◌∙◌}
use Rattle.std.proofs.lemmas.List.{take_more, take_all}
use Rattle.edit_record.specs.declared.lists.change.Refused.{Refused}
use Rattle.edit_record.specs.declared.lists.change.Refused.TheVariants.{Length, Differs, Memory}
use Rattle.edit_record.specs.Lists.Sequence.{◌>>=◌, backward_all}
use Rattle.edit_record.specs.Lists.ChangeResults.{AgreesWith}

bind_bind : (r : Result (List ℕ) Refused) (f g : List ℕ → Result (List ℕ) Refused) → ((r >>= f) >>= g) ≡ (r >>= λ x. f x >>= g)
bind_bind (Ok x) f g = refl
bind_bind (Err e) f g = refl

module _ {C : Type 0} (backward : C → List ℕ → Result (List ℕ) Refused) where
  backward_push : (cs : List C) (c : C) (u : List ℕ) → backward_all backward (cs ++ c ∷ []) u ≡ (backward c u >>= backward_all backward cs)
  backward_push [] c u = elim (backward c u) as (λ r. r ≡ (r >>= λ x. Ok x)) [ Ok x ↦ refl | Err e ↦ refl ]
  backward_push (d ∷ cs) c u = rw (backward_push cs c u) (bind_bind (backward c u) (backward_all backward cs) (backward d))

  pub last_item : (cs : List C) (c : C) → 1 ≤ length cs → c ≡ get_or cs (length cs - 1) c → cs ≡ take (length cs - 1) cs ++ c ∷ []
  last_item cs c n is =
      let m = take_more cs (length cs - 1) c (omega arith) in
      let k : length cs - 1 + 1 ≡ length cs = omega arith in
      let e = take_all (length cs) cs (omega arith) in
      sym e ∙ ap (λ i. take i cs) (sym k) ∙ m ∙ ap (λ x. take (length cs - 1) cs ++ x ∷ []) (sym is)

  at_last : (cs : List C) (c : C) (u : List ℕ) → 1 ≤ length cs → c ≡ get_or cs (length cs - 1) c → backward_all backward cs u ≡ (backward c u >>= backward_all backward (take (length cs - 1) cs))
  at_last cs c u n is = ap (λ x. backward_all backward x u) (last_item cs c n is) ∙ backward_push (take (length cs - 1) cs) c u

  pub undo_last : (cs : List C) (c : C) (u v : List ℕ) (all : Result (List ℕ) Refused) → 1 ≤ length cs → c ≡ get_or cs (length cs - 1) c → backward c u ≡ Ok v → backward_all backward cs u ≡ all → backward_all backward (take (length cs - 1) cs) v ≡ all
  undo_last cs c u v all n is e h = sym (at_last cs c u n is ∙ ap (λ r. r >>= backward_all backward (take (length cs - 1) cs)) e) ∙ h

  pub undo_stops : (cs : List C) (c : C) (u : List ℕ) (all : Result (List ℕ) Refused) (e : Refused) → 1 ≤ length cs → c ≡ get_or cs (length cs - 1) c → AgreesWith (Err e) (backward c u) → backward_all backward cs u ≡ all → AgreesWith (Err e) all
  undo_stops cs c u all Memory n is g h = tt
  undo_stops cs c u all (Length a b) n is g h = sym h ∙ at_last cs c u n is ∙ ap (λ r. r >>= backward_all backward (take (length cs - 1) cs)) g
  undo_stops cs c u all (Differs a b) n is g h = sym h ∙ at_last cs c u n is ∙ ap (λ r. r >>= backward_all backward (take (length cs - 1) cs)) g
