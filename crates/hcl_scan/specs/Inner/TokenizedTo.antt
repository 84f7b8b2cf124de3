-- A text that is tokenized up to a place.
use Rattle.std.specs.Prelude.{◌≡◌, ℕ, ◌≤◌, [], List, length, drop, IsUtf8}
use Rattle.hcl_token.specs.declared.span.Span.{Span}
use Rattle.hcl_token.specs.Pairs.{pairs_of, InOrder}
use Rattle.hcl_scan.specs.Modes.{Mode}
use Rattle.hcl_scan.specs.Tokenization.{TokenizesPrefix}
use Rattle.hcl_scan.specs.Inner.OpeningPlaces.{opening_places_after_pairs}

-- up to this place the text has these tokens, after which the modes are these, whose openings are
-- at these places
pub record IsTokenizedTo (text : List ℕ) (tokens : List Span) (at : ℕ) (modes : List Mode)
    (openings : List ℕ) : Type 0 where
  pub within : at ≤ length text
  pub utf8 : IsUtf8 (drop at text)
  pub tokenizes : TokenizesPrefix text (pairs_of text tokens) (drop at text) modes
  pub places : openings ≡ opening_places_after_pairs 0 [] [] (pairs_of text tokens)
  pub order : InOrder 0 tokens at
