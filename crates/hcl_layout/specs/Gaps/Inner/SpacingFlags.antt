-- What is known of the gap between two tokens before all rows of the table are gone through. For
-- proofs: nothing here has to be believed.
use Rattle.std.specs.Prelude.{◌≡◌, ◌<◌, ◌≤◌, ℕ, ◌-◌, Bool, true, false, not, ◌&&◌, ◌||◌, List, [], ◌∷◌}
use Rattle.std.specs.Prelude.{slice_range, slice_get, Option, Some, option_map}
use Rattle.hcl_token.specs.declared.kind.Kind.{Kind}
use Rattle.hcl_token.specs.declared.kind.Kind.TheVariants.{Mark, LineEnd, LineComment, Identifier, Number}
use Rattle.hcl_token.specs.declared.kind.Kind.TheVariants.{DotIndex, Minus, Star, Slash, Bang, Less, Greater}
use Rattle.hcl_token.specs.declared.kind.Kind.TheVariants.{Colon, DoubleColon, Equal, OpenBrace, CloseBrace}
use Rattle.hcl_token.specs.declared.kind.Kind.TheVariants.{OpenBracket, CloseBracket, OpenParen, CloseParen}
use Rattle.hcl_token.specs.declared.kind.Kind.TheVariants.{Comma, Dot, Ellipsis, SeqClose, QuoteClose}
use Rattle.hcl_token.specs.declared.kind.Kind.TheVariants.{InterpOpen, DirectiveOpen, QuoteLit, HereClose}
use Rattle.hcl_token.specs.declared.kind.Kind.TheVariants.{HereLit}
use Rattle.hcl_token.specs.Tokens.{Pair}
use Rattle.hcl_token.specs.TokenizedText.{kind_of}
use Rattle.hcl_layout.specs.Gaps.Kinds.{among, is_identifier}
use Rattle.hcl_layout.specs.Gaps.Space.{prev_after_all, is_in_keyword, is_spaced}
use Rattle.hcl_layout.specs.Gaps.Inner.Stages.{token}

-- what a token's kind says of the gap after it, as flags
abbrev pub flags_after : Kind → ℕ
flags_after Identifier = 153
flags_after Number = 281
flags_after DotIndex = 281
flags_after CloseParen = 281
flags_after CloseBracket = 281
flags_after QuoteClose = 281
flags_after Dot = 72
flags_after OpenBrace = 26
flags_after OpenParen = 56
flags_after OpenBracket = 56
flags_after InterpOpen = 56
flags_after DirectiveOpen = 56
flags_after Minus = 24
flags_after DoubleColon = 24
flags_after Mark = 8
flags_after Bang = 8
flags_after HereLit = 8
flags_after Less = 13
flags_after Greater = 13
flags_after Equal = 13
flags_after Colon = 13
flags_after Slash = 13
flags_after Star = 25
flags_after CloseBrace = 25
flags_after kind = 29

-- what it says of the gap before it
abbrev pub flags_before : Kind → ℕ
flags_before Mark = 8
flags_before QuoteClose = 8
flags_before QuoteLit = 8
flags_before InterpOpen = 8
flags_before DirectiveOpen = 8
flags_before HereClose = 8
flags_before HereLit = 8
flags_before LineEnd = 48
flags_before DoubleColon = 48
flags_before Comma = 48
flags_before Dot = 48
flags_before Ellipsis = 48
flags_before Identifier = 99
flags_before OpenParen = 164
flags_before OpenBracket = 292
flags_before CloseParen = 288
flags_before CloseBracket = 288
flags_before SeqClose = 256
flags_before CloseBrace = 1
flags_before LineComment = 3
flags_before OpenBrace = 3
flags_before DotIndex = 32
flags_before kind = 35

abbrev pub is_star : Kind → Bool
is_star Star = true
is_star kind = false

-- a row depends on the tokens before this one
abbrev pub needs_context : Pair → Bool
needs_context a = among (Minus ∷ []) a.kind || (is_star a.kind || is_in_keyword a)

-- a token of kind b closes or indexes this name, which is not `in`
abbrev pub closes_or_indexes_name : Pair → Kind → Bool
closes_or_indexes_name a b =
    is_identifier a.kind
    && ((among (CloseParen ∷ CloseBracket ∷ SeqClose ∷ []) b || among (OpenBracket ∷ []) b)
    && not (is_in_keyword a))

-- whether there is a space between token i, of kind b, and the one before it
abbrev pub spaced_at : List Kind → List Pair → ℕ → Kind → Option Bool
spaced_at before pairs i b =
    option_map (λ (a : Pair). is_spaced before (token a.kind a.spelling) (token b []))
    (slice_get pairs (i - 1))

-- the tokens from number `past` on are skipped, and the one before it is not, if it is not first
pub record IsEndOfNearest (pairs : List Pair) (first to past : ℕ) : Type 0 where
  pub ordered : first ≤ past
  pub before : past ≤ to
  pub none : past ≡ first → prev_after_all (slice_range pairs first to) [] ≡ []
  pub some : first < past → (k : Kind) → Some k ≡ kind_of pairs (past - 1)
      → prev_after_all (slice_range pairs first to) []
      ≡ k ∷ prev_after_all (slice_range pairs first (past - 1)) []
