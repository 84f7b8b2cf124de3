-- Two lists have one swap at most, and what follows for many.
use Rattle.std.proofs.Common.{◌≡◌, ◌↔◌, ℕ, List, [], ◌∷◌, refl, sym, ap, ◌∙◌, subst}
use Rattle.edit_record.specs.Lists.Pieces.{EditList, Transforms}
use Rattle.edit_record.specs.Lists.Validity.{new_len}
use Rattle.edit_record.specs.Lists.Sequence.{TransformsInOrder}
use Rattle.edit_record.specs.Squashes.Groups.{added_spans, removed_spans}
use Rattle.edit_record.specs.Swaps.Swap.{IsSwap}
use Rattle.edit_record.specs.Swaps.MoveToEnd.{IsMovedToEnd, MovesToEndUniquely}
use Rattle.edit_record.proofs.SwapsLemmas.Spans.{moved_one}

one_list : (e f : EditList) → e.old_len ≡ f.old_len → e.entries ≡ f.entries → e ≡ f
one_list e f l s = λ i. record { old_len = l i; entries = s i }

pub one_swap : (a b b2 a2 d2 c2 : EditList) → IsSwap a b b2 a2 → IsSwap a b d2 c2 → (b2 ≡ d2) × (a2 ≡ c2)
one_swap a b b2 a2 d2 c2 h k =
    let seconds = moved_one (added_spans 0 0 a.entries) (removed_spans b.entries) b.entries b2.entries d2.entries h.seconds k.seconds in
    let firsts = moved_one (removed_spans b.entries) (added_spans 0 0 a.entries) a.entries a2.entries c2.entries h.firsts k.firsts in
    let before = one_list b2 d2 (h.old_len_is ∙ sym k.old_len_is) seconds in
    (before, one_list a2 c2 (h.mid_len_is ∙ ap new_len before ∙ sym k.mid_len_is) firsts)

one : (a : EditList) (bs cs ds : List EditList) (last other : EditList) → IsMovedToEnd a bs cs last → IsMovedToEnd a bs ds other → (cs ≡ ds) × (last ≡ other)
one a [] [] [] last other h k = (refl, sym h ∙ k)
one a [] [] (d ∷ ds) last other h k = absurd k
one a [] (c ∷ cs) ds last other h k = absurd h
one a (b ∷ bs) [] ds last other h k = absurd h
one a (b ∷ bs) (c ∷ cs) [] last other h k = absurd k
one a (b ∷ bs) (c ∷ cs) (d ∷ ds) last other h k =
    let s = one_swap a b c h.0 d k.0 h.1.swap k.1.swap in
    let i = one h.0 bs cs ds last other h.2 (subst (λ (x : EditList). IsMovedToEnd x bs ds other) (sym s.1) k.2) in
    ((λ j. s.0 j ∷ i.0 j), i.1)

alike : (a : EditList) (bs cs : List EditList) (last : EditList) → IsMovedToEnd a bs cs last → (t v : List ℕ) → ((u : List ℕ) × Transforms a t u × TransformsInOrder Transforms bs u v) ↔ ((w : List ℕ) × TransformsInOrder Transforms cs t w × Transforms last w v)
alike a [] [] last h t v = (
  λ p. (t, refl, subst (λ (x : EditList). Transforms x t v) h (subst (λ (x : List ℕ). Transforms a t x) p.2 p.1)),
  λ p. (v, subst (λ (x : List ℕ). Transforms a x v) (sym p.1) (subst (λ (x : EditList). Transforms x p.0 v) (sym h) p.2), refl),
)
alike a [] (c ∷ cs) last h t v = absurd h
alike a (b ∷ bs) [] last h t v = absurd h
alike a (b ∷ bs) (c ∷ cs) last h t v = (
  λ p.
      let m = p.2.0 in
      let s = (h.1.swap.equivalent t m).0 (p.0, p.1, p.2.1) in
      let i = (alike h.0 bs cs last h.2 s.0 v).0 (m, s.2, p.2.2) in
      (i.0, (s.0, s.1, i.1), i.2),
  λ p.
      let i = (alike h.0 bs cs last h.2 p.1.0 v).1 (p.0, p.1.2, p.2) in
      let s = (h.1.swap.equivalent t i.0).1 (p.1.0, p.1.1, i.1) in
      (s.0, s.1, (i.0, s.2, i.2)),
)

pub takes_one : (a : EditList) (bs : List EditList) → MovesToEndUniquely a bs
takes_one a bs = record { one = one a bs; equivalent = alike a bs }
