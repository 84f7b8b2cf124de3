-- What is open before a token, from what is open before the next; and what a token closes of it.
use Rattle.std.proofs.Common.{◌≡◌, ℕ, zero, suc, true, false, List, [], ◌∷◌, Option, Some, None}
use Rattle.std.proofs.Common.{refl, sym, subst, ap, drop, slice_get, inl, inr, if◌then◌else◌}
use Rattle.hcl_token.specs.declared.kind.Kind.{Kind}
use Rattle.hcl_token.specs.Tokens.{Pair}
use Rattle.hcl_token.specs.TokenizedText.{kind_of}
use Rattle.hcl_explain.specs.Openings.{opens, closes, open_after, open_before, innermost_open}
use Rattle.hcl_explain.specs.Openings.{IsClosedBy, ClosesOneOf, ClosesAny}

-- what is open before token j, which follows token i
pub before_next : (pairs : List Pair) (j i : ℕ) (kind : Kind) → j ≡ suc i
    → Some kind ≡ kind_of pairs i
    → open_before pairs j ≡ open_after (Some kind) i (open_before pairs i)
before_next pairs j i kind follows is = rw (follows, ← is) refl

-- a token that neither opens nor closes leaves all as it is
pub at_other : (pairs : List Pair) (j i : ℕ) (kind : Kind) → j ≡ suc i → Some kind ≡ kind_of pairs i
    → opens kind ≡ false → closes kind ≡ false → open_before pairs j ≡ open_before pairs i
at_other pairs j i kind follows is other neither =
    rw (before_next pairs j i kind follows is, other, neither) refl

-- ---- the openings as a chain: after each come those that were open before it

abbrev pub IsChain : List Pair → List ℕ → Type 0
IsChain pairs [] = Unit {0}
IsChain pairs (o ∷ os) = (os ≡ open_before pairs o) × IsChain pairs os

chain_drop : (pairs : List Pair) (os : List ℕ) → IsChain pairs os → IsChain pairs (drop 1 os)
chain_drop pairs [] h = h
chain_drop pairs (o ∷ os) h = h.1

chain_after : (pairs : List Pair) (kind : Option Kind) (i : ℕ) → IsChain pairs (open_before pairs i)
    → IsChain pairs (open_after kind i (open_before pairs i))
chain_after pairs None i h = h
chain_after pairs (Some kind) i h =
    let os = open_before pairs i in
    elim (opens kind) as (λ v. IsChain pairs
    (if v then i ∷ os else if closes kind then drop 1 os else os)) [
      | true ↦ (refl, h)
      | false ↦ elim (closes kind) as (λ v. IsChain pairs (if v then drop 1 os else os)) [
        | true ↦ chain_drop pairs os h
        | false ↦ h
      ]
    ]

chain : (pairs : List Pair) (n : ℕ) → IsChain pairs (open_before pairs n)
chain pairs zero = tt
chain pairs (suc i) = chain_after pairs (kind_of pairs i) i (chain pairs i)

first_is : (pairs : List Pair) (os : List ℕ) (o : ℕ) → IsChain pairs os → slice_get os 0 ≡ Some o
    → os ≡ o ∷ open_before pairs o
first_is pairs [] o chained h = absurd (cc)
first_is pairs (p ∷ os) o chained h =
    let same : p ≡ o = cc in
    subst (λ (x : ℕ). p ∷ os ≡ x ∷ open_before pairs x) same (ap (λ x. p ∷ x) chained.0)

-- what is open before token n, of which this is the innermost
from_innermost : (pairs : List Pair) (n o : ℕ) → innermost_open pairs n ≡ Some o
    → open_before pairs n ≡ o ∷ open_before pairs o
from_innermost pairs n o h = first_is pairs (open_before pairs n) o (chain pairs n) h

none_is : (os : List ℕ) → slice_get os 0 ≡ None → os ≡ []
none_is [] h = refl
none_is (o ∷ os) h = absurd (cc)

pub closes_first : (pairs : List Pair) (closing : Kind) (n o : ℕ) → innermost_open pairs n ≡ Some o
    → IsClosedBy pairs o closing → ClosesAny pairs n closing
closes_first pairs closing n o is h =
    subst (λ (x : List ℕ). ClosesOneOf pairs x closing) (sym (from_innermost pairs n o is)) (inl h)

pub closes_rest : (pairs : List Pair) (closing : Kind) (n o : ℕ) → innermost_open pairs n ≡ Some o
    → ClosesAny pairs o closing → ClosesAny pairs n closing
closes_rest pairs closing n o is h =
    subst (λ (x : List ℕ). ClosesOneOf pairs x closing) (sym (from_innermost pairs n o is)) (inr h)

not_first : (pairs : List Pair) (closing : Kind) (o : ℕ) → (IsClosedBy pairs o closing → ⊥)
    → ClosesOneOf pairs (o ∷ open_before pairs o) closing → ClosesAny pairs o closing
not_first pairs closing o other (inl h) = absurd (other h)
not_first pairs closing o other (inr h) = h

pub of_rest : (pairs : List Pair) (closing : Kind) (n o : ℕ) → innermost_open pairs n ≡ Some o
    → (IsClosedBy pairs o closing → ⊥) → ClosesAny pairs n closing → ClosesAny pairs o closing
of_rest pairs closing n o is other h = not_first pairs closing o other
    (subst (λ (x : List ℕ). ClosesOneOf pairs x closing) (from_innermost pairs n o is) h)

pub closes_none : (pairs : List Pair) (closing : Kind) (n : ℕ) → innermost_open pairs n ≡ None
    → ClosesAny pairs n closing → ⊥
closes_none pairs closing n is h =
    subst (λ (x : List ℕ). ClosesOneOf pairs x closing) (none_is (open_before pairs n) is) h
