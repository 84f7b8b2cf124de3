-- Tokens that lie alike in two texts.
use Rattle.std.specs.Prelude.{◌≡◌, ℕ, ◌+◌, ◌-◌, ◌%◌, ◌^◌, ◌<◌, List, length, slice_index_or}
use Rattle.hcl_token.specs.declared.kind.Kind.TheVariants.{Mark}
use Rattle.hcl_token.specs.declared.span.Span.{Span}
use Rattle.hcl_token.specs.Inner.TokenWord.{word_of}

-- what a look-up names where there is no token
abbrev pub none : Span
none = record { start = 0; stop = 0; kind = Mark }

-- a token is of the kind of another, and begins and ends this many bytes after it, modulo 2 ^ 32
pub record IsShiftedBy (distance : ℕ) (x y : Span) : Type 0 where
  pub kind : x.kind ≡ y.kind
  pub start : (distance + y.start) % 2 ^ 32 ≡ x.start
  pub stop : (distance + y.stop) % 2 ^ 32 ≡ x.stop

-- each token lies so as the one of the same number
abbrev pub AreShiftedBy : ℕ → List Span → List Span → Type 0
AreShiftedBy distance xs ys =
    (k : ℕ) → k < length xs → IsShiftedBy distance (slice_index_or xs k none) (slice_index_or ys k none)

-- the word of a token is that of another plus this number, modulo 2 ^ 64
abbrev pub IsWordShiftedBy : ℕ → Span → Span → Type 0
IsWordShiftedBy shift x y = (word_of x + 2 ^ 64 - word_of y) % 2 ^ 64 ≡ shift

abbrev pub AreWordsShiftedBy : ℕ → List Span → List Span → Type 0
AreWordsShiftedBy shift xs ys =
    (k : ℕ) → k < length xs → IsWordShiftedBy shift (slice_index_or xs k none) (slice_index_or ys k none)
