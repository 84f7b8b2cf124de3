-- Whole lines of tokens, and a text that begins with whole lines.
use Rattle.std.specs.Prelude.{◌≡◌, ℕ, ◌+◌, ◌-◌, ◌≤◌, min, List, [], ◌∷◌, length, take, drop, slice_range, ⊤}
use Rattle.hcl_token.specs.declared.span.Span.{Span}
use Rattle.hcl_token.specs.declared.kind.Kind.{Kind}
use Rattle.hcl_token.specs.declared.kind.Kind.TheVariants.{LineEnd, OpenBrace, CloseBrace, QuoteOpen}
use Rattle.hcl_token.specs.declared.kind.Kind.TheVariants.{QuoteClose, HereOpen, HereClose, InterpOpen}
use Rattle.hcl_token.specs.declared.kind.Kind.TheVariants.{DirectiveOpen, SeqClose}
use Rattle.hcl_token.specs.TokenizedText.{TokenizedText}
use Rattle.hcl_token.specs.Pairs.{pairs_of, InOrder}
use Rattle.hcl_token.specs.Tokens.{Pair, whole_text}
use Rattle.hcl_scan.specs.Tokenization.{IsTokenization}
use Rattle.hcl_scan.specs.Follows.{FollowsFrom, AreApart}

-- how many openings are open after a token of the kind, if `depth` are before it: a `{` is one only
-- inside another
abbrev pub openings_after : Kind → ℕ → ℕ
openings_after QuoteOpen depth = depth + 1
openings_after HereOpen depth = depth + 1
openings_after InterpOpen depth = depth + 1
openings_after DirectiveOpen depth = depth + 1
openings_after OpenBrace depth = depth + min depth 1
openings_after QuoteClose depth = depth - 1
openings_after HereClose depth = depth - 1
openings_after SeqClose depth = depth - 1
openings_after CloseBrace depth = depth - 1
openings_after kind depth = depth

-- nothing, or the last token ends a line
abbrev pub EndsWithLineEnd : List Pair → Type 0
EndsWithLineEnd [] = ⊤
EndsWithLineEnd (p ∷ []) = p.kind ≡ LineEnd
EndsWithLineEnd (p ∷ q ∷ ps) = EndsWithLineEnd (q ∷ ps)

-- tokens up to a line end, with no opening open before and after them
pub record AreWholeLines (pairs : List Pair) : Type 0 where
  pub follow : FollowsFrom [] pairs [] []
  pub ended : EndsWithLineEnd pairs
  pub apart : AreApart pairs

-- tokens and a last gap, with no opening open before them
pub record AreSelfContained (pairs : List Pair) (last : List ℕ) : Type 0 where
  pub follow : FollowsFrom [] pairs last []
  pub apart : AreApart pairs

-- a line of the text begins with token `index`, and `at` bytes are before it
pub record IsLineStart (scanned : TokenizedText) (index at : ℕ) : Type 0 where
  pub within : index ≤ length scanned.pairs
  pub place : at ≡ length (whole_text (take index scanned.pairs) [])
  pub rest : AreSelfContained (drop index scanned.pairs) scanned.last

-- the tokens from one number on, up to another, are whole lines
pub record IsLineRange (pairs : List Pair) (from to : ℕ) : Type 0 where
  pub ordered : from ≤ to
  pub lines : AreWholeLines (slice_range pairs from to)

-- the text up to a place is whole lines, of which these are the tokens
pub record IsRescannedTo (text : List ℕ) (tokens : List Span) (at : ℕ) : Type 0 where
  pub within : at ≤ length text
  pub lines : AreWholeLines (pairs_of text tokens)
  pub text_is : text ≡ whole_text (pairs_of text tokens) (drop at text)
  pub order : InOrder 0 tokens at

-- the text has these tokens, and its last gap begins at this place
pub record IsRescanned (text : List ℕ) (tokens : List Span) (last_gap_at : ℕ) : Type 0 where
  pub tokenization : IsTokenization text (pairs_of text tokens) (drop last_gap_at text)
  pub order : InOrder 0 tokens last_gap_at
  pub within : last_gap_at ≤ length text
