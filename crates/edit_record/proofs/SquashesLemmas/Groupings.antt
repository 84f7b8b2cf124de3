-- Squashing is associative on what it turns, and lists one after another squash to one.
use Rattle.std.proofs.Common.{◌≡◌, ◌↔◌, ℕ, List, [], ◌∷◌, refl, sym, ◌∙◌}
use Rattle.edit_record.specs.Lists.Pieces.{EditList, Transforms}
use Rattle.edit_record.specs.Lists.Sequence.{TransformsInOrder}
use Rattle.edit_record.specs.Squashes.Squash.{AreComposable, IsComposition}
use Rattle.edit_record.specs.Squashes.SquashLists.{SquashIsAssociative, SquashAll, SquashAllIsUnique}
use Rattle.edit_record.proofs.SquashesLemmas.Uniqueness.{determined}

module _ (a b c ab bc : EditList) (ab_is : IsComposition ab a b) (bc_is : IsComposition bc b c) where
  moved_right : (t v : List ℕ) → (u : List ℕ) × Transforms ab t u × Transforms c u v → (u : List ℕ) × Transforms a t u × Transforms bc u v
  moved_right t v h =
      let m = (ab_is t h.0).0 h.1 in
      (m.0, m.1, (bc_is m.0 v).1 (h.0, m.2, h.2))

  moved_left : (t v : List ℕ) → (u : List ℕ) × Transforms a t u × Transforms bc u v → (u : List ℕ) × Transforms ab t u × Transforms c u v
  moved_left t v h =
      let m = (bc_is h.0 v).0 h.2 in
      (m.0, (ab_is t m.0).1 (h.0, h.1, m.1), m.2)

  both : AreComposable ab c ↔ AreComposable a bc
  both = (
    λ h. let m = moved_right h.0 h.2 (h.1, h.3, h.4) in (h.0, m.0, h.2, m.1, m.2),
    λ h. let m = moved_left h.0 h.2 (h.1, h.3, h.4) in (h.0, m.0, h.2, m.1, m.2),
  )

  same : (left right : EditList) → IsComposition left ab c → IsComposition right a bc → (t v : List ℕ) → Transforms left t v ↔ Transforms right t v
  same left right left_is right_is t v = (
    λ h. (right_is t v).1 (moved_right t v ((left_is t v).0 h)),
    λ h. (left_is t v).1 (moved_left t v ((right_is t v).0 h)),
  )

pub associates : (a b c : EditList) → SquashIsAssociative a b c
associates a b c = record {
  last_composable = λ ab ab_is h. let m = (ab_is h.0 h.1).0 h.3 in (m.0, h.1, h.2, m.2, h.4);
  first_composable = λ bc bc_is h. let m = (bc_is h.1 h.2).0 h.4 in (h.0, h.1, m.0, h.3, m.1);
  both_composable = λ ab bc ab_is bc_is. both a b c ab bc ab_is bc_is;
  equivalent = λ ab bc left right ab_is bc_is left_is right_is t v. same a b c ab bc ab_is bc_is left right left_is right_is t v;
}

all_from : (a a' : EditList) (bs : List EditList) (c : EditList) → a ≡ a' → SquashAll a' bs c → SquashAll a bs c
all_from a a' bs c e h = rw e h

one : (a : EditList) (bs : List EditList) (c d : EditList) → SquashAll a bs c → SquashAll a bs d → c ≡ d
one a [] c d h k = sym h ∙ k
one a (b ∷ bs) c d h k = one h.0 bs c d h.2 (all_from h.0 k.0 bs d (determined a b h.0 k.0 h.1 k.1) k.2)

only : (a c : EditList) (t v : List ℕ) → a ≡ c → Transforms c t v ↔ TransformsInOrder Transforms (a ∷ []) t v
only a c t v e = (λ h. (v, rw e h, refl), λ h. rw (← e, ← h.2) h.1)

all_alike : (a : EditList) (bs : List EditList) (c : EditList) → SquashAll a bs c → (t v : List ℕ) → Transforms c t v ↔ TransformsInOrder Transforms (a ∷ bs) t v
all_alike a [] c h t v = only a c t v h
all_alike a (b ∷ bs) c h t v =
    let rest = all_alike h.0 bs c h.2 t v in (
      λ p. let q = rest.0 p in let r = (h.1.equivalent t q.0).0 q.1 in (r.0, r.1, (q.0, r.2, q.2)),
      λ p. let q = p.2 in rest.1 (q.0, (h.1.equivalent t q.0).1 (p.0, p.1, q.1), q.2),
    )

pub squash_as_one : (a : EditList) (bs : List EditList) → SquashAllIsUnique a bs
squash_as_one a bs = record { one = one a bs; equivalent = all_alike a bs }
