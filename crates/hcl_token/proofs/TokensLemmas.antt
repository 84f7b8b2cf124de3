-- What is known of token i.
use Rattle.std.proofs.Common.{◌≡◌, ℕ, ◌<◌, ◌==◌, ◌↔◌, Bool, false, IsTrue, List, [], ◌∷◌, length, get_or, slice_get, Some, sym, ap, ◌∙◌, arith}
use Rattle.std.specs.Option.{option_map}
use Rattle.hcl_token.specs.declared.item.Item.{Item}
use Rattle.hcl_token.specs.declared.span.Span.{Span}
use Rattle.hcl_token.specs.Pairs.{tokenized_text, pair_at, pairs_of, gap_at}
use Rattle.hcl_token.specs.TokenizedText.{TokenizedText, item_of}
use Rattle.hcl_token.specs.Inner.LineColumn.{IsWellFormed}
use Rattle.hcl_token.proofs.OrderLemmas.{IsTokenAt, token_at, item_is, length-pairs}

-- the value is a view of a text with its tokens
pub record IsViewOf (text : List ℕ) (tokens : List Span) (last_gap_at : ℕ) (value : TokenizedText) : Type 0 where
  pub view : tokenized_text text tokens last_gap_at ≡ value
  pub ordered : IsWellFormed text tokens last_gap_at

pub number_is : (text : List ℕ) (tokens : List Span) (last_gap_at : ℕ) (value : TokenizedText) → IsViewOf text tokens last_gap_at value → length tokens ≡ length value.pairs
number_is text tokens last_gap_at value v = sym (length-pairs text tokens 0) ∙ ap (λ (x : TokenizedText). length x.pairs) v.view

pub known_token : (text : List ℕ) (tokens : List Span) (last_gap_at i : ℕ) (value : TokenizedText) (token : Span) → IsViewOf text tokens last_gap_at value → i < length value.pairs
    → token ≡ get_or tokens i token → IsTokenAt text tokens i token
known_token text tokens last_gap_at i value token v h e =
    token_at text tokens last_gap_at i token token v.ordered (omega (arith, h, number_is text tokens last_gap_at value v)) e

-- a part of token i, as the value has it
pub known_pair : (text : List ℕ) (tokens : List Span) (last_gap_at i : ℕ) (value : TokenizedText) (token : Span) → IsViewOf text tokens last_gap_at value → IsTokenAt text tokens i token
    → slice_get value.pairs i ≡ Some (pair_at text (gap_at tokens i) token)
known_pair text tokens last_gap_at i value token v k = ap (λ (x : TokenizedText). slice_get x.pairs i) (sym v.view) ∙ k.pair

pub known_place : (text : List ℕ) (tokens : List Span) (last_gap_at i at : ℕ) (value : TokenizedText) (token : Span) → IsViewOf text tokens last_gap_at value → at ≡ gap_at tokens i
    → IsTokenAt text tokens i token
    → let item : Item = record { gap_at = at; start = token.start; stop = token.stop; kind = token.kind } in Some item ≡ item_of value.pairs i
known_place text tokens last_gap_at i at value token v begins k =
    ap (λ (x : Item). Some x) (item_is text tokens last_gap_at i at token v.ordered begins k)
    ∙ sym (ap (option_map _) k.pair)
    ∙ ap (λ (x : TokenizedText). item_of x.pairs i) v.view

pub empty_is : (text : List ℕ) (tokens : List Span) (last_gap_at : ℕ) (value : TokenizedText) (empty : Bool) → IsViewOf text tokens last_gap_at value
    → empty ≡ (length tokens == 0) → IsTrue empty ↔ (value.pairs ≡ [])
empty_is text [] last_gap_at value empty v e = (λ _. ap (λ (x : TokenizedText). x.pairs) (sym v.view), λ _. e)
empty_is text (t ∷ tokens) last_gap_at value empty v e =
    let other : value.pairs ≡ pairs_of text (t ∷ tokens) = ap (λ (x : TokenizedText). x.pairs) (sym v.view) in
    let some : (length (t ∷ tokens) == 0) ≡ false = grind arith in
    (λ h. absurd (cc), λ none. absurd (cc))
