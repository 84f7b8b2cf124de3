-- What is inserted is settled alike with the gaps next to it and without.
use Rattle.std.proofs.Common.{◌≡◌, ℕ, List, [], ◌∷◌, ◌++◌, refl, ap, ◌∙◌}
use Rattle.std.proofs.lemmas.List.{append-nil}
use Rattle.hcl_token.specs.Tokens.{Pair}
use Rattle.tf_rules.specs.declared.fix.Insertion.{Insertion}
use Rattle.tf_rules.specs.declared.fix.Insertion.TheVariants.{Nothing}
use Rattle.tf_fix.specs.Inner.Views.{replacement_parts}
use Rattle.tf_fix.specs.Insertions.{inserted}
use Rattle.tf_fix.specs.Edits.FindingReplacements.{pairs_parts, before_token, inserted_parts}
use Rattle.tf_fix.specs.Edits.Parts.{TextPart, text_of_parts}
use Rattle.tf_fix.specs.Edits.Parts.TextPart.{Gap, Token}
use Rattle.tf_fix.specs.Edits.Replacements.{added, space_before}
use Rattle.tf_fix.specs.JoinedTokens.{Prev}
use Rattle.tf_fix.specs.Edits.SettledSpaces.{prev_of_parts, settled}
use Rattle.tf_fix.specs.declared.boundary.Boundary.{Boundary}
use Rattle.tf_fix.specs.declared.boundary.Boundary.TheVariants.{Gap as BeforeGap, Token as BeforeToken}
use Rattle.tf_fix.proofs.SettledLemmas.{written-append, settled-append, after-append}

tail_settled : (prev : Prev) (xs : List TextPart) (to : Boundary) → text_of_parts (settled prev (xs ++ before_token to)) ≡ text_of_parts (settled prev xs)
tail_settled prev xs (BeforeGap i) = ap (λ t. text_of_parts (settled prev t)) (append-nil xs)
tail_settled prev xs (BeforeToken i) = ap text_of_parts (settled-append prev xs (Gap [] ∷ [])) ∙ written-append (settled prev xs) (Gap [] ∷ []) ∙ append-nil (text_of_parts (settled prev xs))

tail_after : (prev : Prev) (xs : List TextPart) (to : Boundary) → prev_of_parts prev (xs ++ before_token to) ≡ prev_of_parts prev xs
tail_after prev xs (BeforeGap i) = ap (prev_of_parts prev) (append-nil xs)
tail_after prev xs (BeforeToken i) = after-append prev xs (Gap [] ∷ [])

-- no gap is before what is written
pub data Bare : List Pair → Type 0 where
  bare : {p : Pair} {ps : List Pair} → p.gap ≡ [] → Bare (p ∷ ps)
  none : Bare []

bare_is : (pairs : List Pair) (first : ℕ) (w : Insertion) → Bare (inserted pairs first w)
bare_is pairs first Nothing = none
bare_is pairs first w = bare refl

insert_settled : (prev : Prev) (from to : Boundary) (ps : List Pair) → Bare ps → text_of_parts (settled prev (inserted_parts from to ps)) ≡ text_of_parts (settled prev (pairs_parts ps))
insert_settled prev (BeforeGap i) to ps is = tail_settled prev (pairs_parts ps) to
insert_settled prev (BeforeToken i) (BeforeGap j) [] is = refl
insert_settled prev (BeforeToken i) (BeforeToken j) [] is = refl
insert_settled prev (BeforeToken i) to (p ∷ ps) (bare e) = tail_settled prev (Token p.kind p.spelling ∷ pairs_parts ps) to ∙ rw e refl

insert_after : (prev : Prev) (from to : Boundary) (ps : List Pair) → Bare ps → prev_of_parts prev (inserted_parts from to ps) ≡ prev_of_parts prev (pairs_parts ps)
insert_after prev (BeforeGap i) to ps is = tail_after prev (pairs_parts ps) to
insert_after prev (BeforeToken i) (BeforeGap j) [] is = refl
insert_after prev (BeforeToken i) (BeforeToken j) [] is = refl
insert_after prev (BeforeToken i) to (p ∷ ps) (bare e) = tail_after prev (Token p.kind p.spelling ∷ pairs_parts ps) to ∙ rw e refl

pub insertion_settled : (pairs : List Pair) (prev : Prev) (from to : Boundary) (first : ℕ) (w : Insertion) → text_of_parts (settled prev (replacement_parts pairs from to first w)) ≡ text_of_parts (settled prev (pairs_parts (inserted pairs first w)))
insertion_settled pairs prev from to first w = insert_settled prev from to (inserted pairs first w) (bare_is pairs first w)

pub insertion_after : (pairs : List Pair) (prev : Prev) (from to : Boundary) (first : ℕ) (w : Insertion) → prev_of_parts prev (replacement_parts pairs from to first w) ≡ prev_of_parts prev (pairs_parts (inserted pairs first w))
insertion_after pairs prev from to first w = insert_after prev from to (inserted pairs first w) (bare_is pairs first w)

-- so the same is added
pub insertion_added : (pairs : List Pair) (prev : Prev) (from to : Boundary) (first : ℕ) (w : Insertion) (stay : List TextPart)
    → added prev (replacement_parts pairs from to first w) stay ≡ added prev (pairs_parts (inserted pairs first w)) stay
insertion_added pairs prev from to first w stay =
    ap (λ t. t ++ space_before (prev_of_parts prev (replacement_parts pairs from to first w)) stay) (insertion_settled pairs prev from to first w)
    ∙ ap (λ n. text_of_parts (settled prev (pairs_parts (inserted pairs first w))) ++ space_before n stay) (insertion_after pairs prev from to first w)
