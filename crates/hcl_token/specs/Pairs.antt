-- Which gaps and tokens are meant by a text and by where its tokens start and stop.
use Rattle.std.specs.Prelude.{◌≡◌, ℕ, zero, suc, ◌+◌, ◌<◌, ◌≤◌, List, [], ◌∷◌, length, drop, slice_range}
use Rattle.hcl_token.specs.declared.span.Span.{Span}
use Rattle.hcl_token.specs.declared.limit.TheConstants.{MAX_TEXT}
use Rattle.hcl_token.specs.TokenizedText.{TokenizedText, AreUtf8}
use Rattle.hcl_token.specs.Tokens.{Pair}

-- the bytes from a place to where the token starts, and those from there to where it stops
abbrev pub pair_at : List ℕ → ℕ → Span → Pair
pair_at text at token =
    record {
      gap = slice_range text at token.start;
      kind = token.kind;
      spelling = slice_range text token.start token.stop;
    }

-- the gap before the first of the tokens begins at a place, each other one where the token before
-- it stops
abbrev pub pairs_from : List ℕ → ℕ → List Span → List Pair
pairs_from text at [] = []
pairs_from text at (token ∷ tokens) = pair_at text at token ∷ pairs_from text token.stop tokens

abbrev pub pairs_of : List ℕ → List Span → List Pair
pairs_of text tokens = pairs_from text 0 tokens

-- the tokens of pairs that are in a text from this place on
abbrev pub spans_from : ℕ → List Pair → List Span
spans_from at [] = []
spans_from at (p ∷ ps) =
    record {
      start = at + length p.gap;
      stop = at + length p.gap + length p.spelling;
      kind = p.kind;
    }
    ∷ spans_from (at + length p.gap + length p.spelling) ps

-- where the gap before token i begins, or the gap after the last token, if the first gap begins at
-- a place
abbrev pub gap_from : ℕ → List Span → ℕ → ℕ
gap_from at [] i = at
gap_from at (token ∷ tokens) zero = at
gap_from at (token ∷ tokens) (suc i) = gap_from token.stop tokens i

abbrev pub gap_at : List Span → ℕ → ℕ
gap_at tokens i = gap_from 0 tokens i

-- the text with its tokens, and with what follows the last of them
abbrev pub tokenized_text : List ℕ → List Span → ℕ → TokenizedText
tokenized_text text tokens last_gap_at =
    record { text = text; pairs = pairs_of text tokens; last = drop last_gap_at text }

-- the gaps and the tokens are consecutive, from this place to that
abbrev pub InOrder : ℕ → List Span → ℕ → Type 0
InOrder at [] last = at ≡ last
InOrder at (token ∷ tokens) last =
    (at ≤ token.start) × (token.start ≤ token.stop) × InOrder token.stop tokens last

-- a text of at most MAX_TEXT bytes with tokens in order, and where the gap after the last of them
-- begins; each gap and each spelling is UTF-8
pub record IsWellFormed (text : List ℕ) (tokens : List Span) (last_gap_at : ℕ) : Type 0 where
  pub order : InOrder 0 tokens last_gap_at
  pub within : last_gap_at ≤ length text
  pub short : length text ≤ MAX_TEXT
  pub utf8 : AreUtf8 (pairs_of text tokens)

-- consecutive tokens of a text, at least one
pub record IsTokenRun (text : List ℕ) (tokens : List Span) : Type 0 where
  pub some : 0 < length tokens
  pub order : (at : ℕ) × (last : ℕ) × InOrder at tokens last × (last ≤ length text)
  pub short : length text ≤ MAX_TEXT

-- the tokens with the gaps between them
abbrev pub token_run : List ℕ → List Span → List Pair
token_run text [] = []
token_run text (x ∷ tokens) = pairs_from text x.start (x ∷ tokens)
