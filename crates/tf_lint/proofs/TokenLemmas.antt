-- Tokens of two texts, one by one.
use Rattle.std.proofs.Common.{◌≡◌, ℕ, zero, suc, ◌+◌, List, [], ◌∷◌, take, drop, slice_get, refl, sym, ap, ◌∙◌, arith}
use Rattle.hcl_grammar.specs.Tokens.{Token}
use Rattle.hcl_scan.specs.Follows.{tokens_of}
use Rattle.hcl_token.specs.TokenizedText.{pairs_in_range, without_first_gap}
use Rattle.hcl_token.specs.Tokens.{Pair}
use Rattle.std.proofs.lemmas.List.{drop-map, take-map}
use Rattle.tf_reuse.proofs.RenumberedTrivia.{token_of}
use Rattle.tf_reuse.proofs.Window.{get_drop}

-- prefixes that are the same, and one more token that is
prefix_more : (xs ys : List Token) (k : ℕ) → take k xs ≡ take k ys → slice_get xs k ≡ slice_get ys k → take (suc k) xs ≡ take (suc k) ys
prefix_more [] [] k a b = refl
prefix_more [] (y ∷ ys) zero a b = absurd (cc)
prefix_more [] (y ∷ ys) (suc k) a b = absurd (cc)
prefix_more (x ∷ xs) [] zero a b = absurd (cc)
prefix_more (x ∷ xs) [] (suc k) a b = absurd (cc)
prefix_more (x ∷ xs) (y ∷ ys) zero a b = cc
prefix_more (x ∷ xs) (y ∷ ys) (suc k) a b = let e : x ≡ y = cc in let h : take k xs ≡ take k ys = cc in rw e (ap (λ zs. y ∷ zs) (prefix_more xs ys k h b))

-- k tokens that are the same from two places on, and one more
pub same_more : (xs ys : List Token) (a b k : ℕ) → take k (drop a xs) ≡ take k (drop b ys) → slice_get xs (a + k) ≡ slice_get ys (b + k)
    → take (k + 1) (drop a xs) ≡ take (k + 1) (drop b ys)
same_more xs ys a b k e h = let one : k + 1 ≡ suc k = omega arith in rw one (prefix_more (drop a xs) (drop b ys) k e (get_drop a k xs ∙ (h ∙ sym (get_drop b k ys))))

gapless : (ps : List Pair) → tokens_of (without_first_gap ps) ≡ tokens_of ps
gapless [] = refl
gapless (p ∷ ps) = refl

tokens_in : (ps : List Pair) (from n : ℕ) → take n (drop from (tokens_of ps)) ≡ tokens_of (pairs_in_range ps from n)
tokens_in ps from n =
    ap (take n) (drop-map token_of from ps) ∙ take-map token_of n (drop from ps)
    ∙ sym (gapless (take n (drop from ps)))

-- where the pairs are the same but for the first gap, the tokens are
pub stretch_tokens : (ps qs : List Pair) (from to n : ℕ) → pairs_in_range ps from n ≡ pairs_in_range qs to n → take n (drop from (tokens_of ps)) ≡ take n (drop to (tokens_of qs))
stretch_tokens ps qs from to n same = tokens_in ps from n ∙ ap tokens_of same ∙ sym (tokens_in qs to n)
