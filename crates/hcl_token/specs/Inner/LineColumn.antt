-- Places found by going forward over the tokens.
use Rattle.std.specs.Prelude.{◌≡◌, ℕ, ◌+◌, ◌≤◌, ◌==◌, Bool, false, List, [], ◌∷◌, length, take, count_by}
use Rattle.std.specs.Prelude.{if◌then◌else◌, slice_range}
use Rattle.std.specs.List.{list_any}
use Rattle.hcl_token.specs.declared.place.Place.{Place}
use Rattle.hcl_token.specs.declared.span.Span.{Span}
use Rattle.hcl_token.specs.declared.limit.TheConstants.{MAX_TEXT}
use Rattle.hcl_token.specs.Tokens.{Pair}
use Rattle.hcl_token.specs.Pairs.{pairs_from, pairs_of, InOrder}
pub use Rattle.hcl_token.specs.Pairs.{IsWellFormed}
use Rattle.hcl_token.specs.TokenizedText.{AreUtf8}
use Rattle.hcl_token.specs.Place.{MarksHaveNoLf, clusters, is_lf, is_mark, last_line}

-- the place at the start of a text
abbrev pub first_place : Place
first_place = record { line = 1; column = 1 }

-- the place after a piece of text
abbrev pub place_after_piece : Place → List ℕ → Place
place_after_piece at piece = record {
  line = at.line + count_by is_lf piece;
  column = if count_by is_lf piece == 0 then at.column + clusters piece
      else 1 + clusters (last_line piece);
}

abbrev pub place_after_pair : Place → Pair → Place
place_after_pair at p =
    if is_mark p.kind
    then place_after_piece at p.gap
    else place_after_piece (place_after_piece at p.gap) p.spelling

abbrev pub place_after_pairs : Place → List Pair → Place
place_after_pairs at [] = at
place_after_pairs at (p ∷ ps) = place_after_pairs (place_after_pair at p) ps

abbrev pub has_mark : List Span → Bool
has_mark tokens = list_any (λ (token : Span). is_mark token.kind) tokens

-- a place that can be reached after this number of bytes
pub record IsPlaceBounded (at : Place) (bytes : ℕ) : Type 0 where
  pub line : at.line ≤ 1 + bytes
  pub column : at.column ≤ 1 + bytes

-- the tokens of a text between two places in bytes, and line and column of the first place
pub record IsTokenRange (text : List ℕ) (tokens : List Span) (from to : ℕ) (at : Place) : Type 0 where
  pub order : InOrder from tokens to
  pub within : to ≤ length text
  pub short : length text ≤ MAX_TEXT
  pub utf8 : AreUtf8 (pairs_from text from tokens)
  pub bounded : IsPlaceBounded at from

-- tokens without a byte order mark, and the place in bytes at which the last line of theirs begins
pub record IsLastLine (text : List ℕ) (tokens : List Span) (from to begin : ℕ) (at : Place) : Type 0 where
  pub range : IsTokenRange text tokens from to at
  pub unmarked : has_mark tokens ≡ false
  pub ends : begin + length (last_line (slice_range text from to)) ≡ to

-- the place of the gap before a token, counted from the start of the text
pub record IsGapPlace (text : List ℕ) (tokens : List Span) (last_gap_at from : ℕ) (at : Place) : Type 0 where
  pub ordered : IsWellFormed text tokens last_gap_at
  pub is : at ≡ place_after_pairs first_place (take from (pairs_of text tokens))

-- the line of the gap before a token, counted from the start of the text
pub record IsOnLine (text : List ℕ) (tokens : List Span) (last_gap_at from line : ℕ) : Type 0 where
  pub ordered : IsWellFormed text tokens last_gap_at
  pub marks : MarksHaveNoLf (pairs_of text tokens)
  pub is : line ≡ (place_after_pairs first_place (take from (pairs_of text tokens))).line
