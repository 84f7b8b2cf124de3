-- The next token from a place on, over a text with its tokens.
use Rattle.std.proofs.Common.{◌≡◌, ℕ, zero, suc, ◌+◌, ◌<◌, ◌≤◌, Bool, true, false, List, [], ◌∷◌, length, get_or, slice_get, Option, Some, None, option_map, refl, sym, ap, ◌∙◌, arith}
use Rattle.std.proofs.lemmas.List.Sums.{prefix_len-drop_all, prefix_len-drop_no, prefix_len-drop_yes}
use Rattle.std.proofs.lemmas.Option.{slice_get_past}
use Rattle.hcl_token.specs.declared.kind.Kind.{Kind}
use Rattle.hcl_token.specs.TokenizedText.{kind_of}
use Rattle.hcl_token.specs.Tokens.{Pair}
use Rattle.hcl_scan.specs.Follows.{tokens_of}
use Rattle.hcl_grammar.specs.Pure.Reading.{next_is_word}
use Rattle.hcl_grammar.specs.Tokens.{Token, is_skipped, is_word, next_index, next_token, next_kind}

-- ---- tokens of pairs

pub length-tokens : (pairs : List Pair) → length (tokens_of pairs) ≡ length pairs
length-tokens [] = refl
length-tokens (p ∷ ps) = ap suc (length-tokens ps)

pub token-kind : (pairs : List Pair) (i : ℕ) → option_map (λ (t : Token). t.0) (slice_get (tokens_of pairs) i) ≡ kind_of pairs i
token-kind [] i = refl
token-kind (p ∷ ps) zero = refl
token-kind (p ∷ ps) (suc i) = token-kind ps i

-- ---- the steps of the loop that skips the tokens that are dropped

at_kind : (ts : List Token) (i : ℕ) (d : Token) (k : Kind) → option_map (λ (t : Token). t.0) (slice_get ts i) ≡ Some k → (i < length ts) × ((get_or ts i d).0 ≡ k)
at_kind [] i d k h = absurd (cc)
at_kind (t ∷ ts) zero d k h = (omega arith, cc)
at_kind (t ∷ ts) (suc i) d k h = let r = at_kind ts i d k h in (omega (arith, r.0), r.1)

pub start-at-end : (pairs : List Pair) (skip_newlines : Bool) (i : ℕ) → length pairs ≤ i → next_index (tokens_of pairs) skip_newlines i ≡ i
unfolding next_index
start-at-end pairs skip_newlines i h = omega (arith, prefix_len-drop_all (λ (t : Token). is_skipped skip_newlines t.0) (tokens_of pairs) i (omega (arith, h, length-tokens pairs)))

pub start-kept : (pairs : List Pair) (skip_newlines : Bool) (i : ℕ) (k : Kind) → Some k ≡ kind_of pairs i → is_skipped skip_newlines k ≡ false → next_index (tokens_of pairs) skip_newlines i ≡ i
unfolding next_index
start-kept pairs skip_newlines i k h e =
    let d : Token = (k, []) in
    let r = at_kind (tokens_of pairs) i d k (token-kind pairs i ∙ sym h) in
    omega (arith, prefix_len-drop_no (λ (t : Token). is_skipped skip_newlines t.0) (tokens_of pairs) i d r.0 (ap (is_skipped skip_newlines) r.1 ∙ e))

pub start-dropped : (pairs : List Pair) (skip_newlines : Bool) (i : ℕ) (k : Kind) → Some k ≡ kind_of pairs i → is_skipped skip_newlines k ≡ true → next_index (tokens_of pairs) skip_newlines (i + 1) ≡ next_index (tokens_of pairs) skip_newlines i
unfolding next_index
start-dropped pairs skip_newlines i k h e =
    let d : Token = (k, []) in
    let r = at_kind (tokens_of pairs) i d k (token-kind pairs i ∙ sym h) in
    omega (arith, prefix_len-drop_yes (λ (t : Token). is_skipped skip_newlines t.0) (tokens_of pairs) i d r.0 (ap (is_skipped skip_newlines) r.1 ∙ e))

pub ruleset places = (start-at-end, start-kept, start-dropped, token-kind)

-- after the last token there is no next one
pub next-at-end : (pairs : List Pair) (skip_newlines : Bool) (at i : ℕ) → next_index (tokens_of pairs) skip_newlines i ≡ next_index (tokens_of pairs) skip_newlines at → length pairs ≤ i → next_kind (tokens_of pairs) skip_newlines at ≡ None
unfolding next_kind next_token
next-at-end pairs skip_newlines at i e h = rw (sym e ∙ start-at-end pairs skip_newlines i h) (token-kind pairs i ∙ ap (option_map (λ (p : Pair). p.kind)) (slice_get_past pairs i h))

-- where no token comes next, no word does
pub unread : (ts : List Token) (skip_newlines : Bool) (w : List ℕ) (i : ℕ) → next_kind ts skip_newlines i ≡ None → next_is_word ts skip_newlines w i ≡ false
unfolding next_kind next_is_word
unread ts skip_newlines w i h = go (next_token ts skip_newlines i) h
  where
    go : (o : Option Token) → option_map (λ (t : Token). t.0) o ≡ None → is_word w o ≡ false
    go None h = refl
    go (Some t) h = absurd (cc)
