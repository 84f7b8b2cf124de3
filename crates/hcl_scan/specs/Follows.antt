-- Lists of gaps and tokens that can be written in order: the tokens are then those of the text that
-- was written.
-- HCL native syntax specification, Lexical Elements and Templates.
use Rattle.std.specs.Prelude.{◌≡◌, ◌≢◌, ℕ, Bool, true, false, ◌||◌, List, [], ◌∷◌, ◌++◌, map, IsUtf8, ◌⊎◌, ⊤}
use Rattle.std.specs.List.{list_all}
use Rattle.hcl_token.specs.declared.kind.Kind.{Kind}
use Rattle.hcl_token.specs.declared.kind.Kind.TheVariants.{Mark, LineEnd, LineComment, QuoteClose, QuoteLit}
use Rattle.hcl_token.specs.declared.kind.Kind.TheVariants.{InterpOpen, DirectiveOpen, HereClose, HereLit}
use Rattle.hcl_token.specs.Tokens.{Pair}
use Rattle.hcl_token.specs.Joins.{joins_with}
use Rattle.hcl_scan.specs.Characters.{is_whitespace}
use Rattle.hcl_scan.specs.Modes.{Mode, mode_of, modes_after}
use Rattle.hcl_scan.specs.Lexeme.{IsLexeme}
use Rattle.hcl_scan.specs.Tokenization.{IsGap, byte_order_mark}

-- the gap and the token after a token; the last gap, if there is none
abbrev pub following_text : List Pair → List ℕ → List ℕ
following_text [] last = last
following_text (p ∷ ps) last = p.gap ++ p.spelling

-- the line ends here: a line end is here, or nothing
abbrev pub LineEndsHere : List Pair → List ℕ → Type 0
LineEndsHere [] last = last ≡ []
LineEndsHere (p ∷ ps) last = (p.gap ≡ []) × (p.kind ≡ LineEnd)

-- the next token is of another kind
abbrev pub NextIsNot : Kind → List Pair → Type 0
NextIsNot kind [] = ⊤
NextIsNot kind (p ∷ ps) = p.kind ≢ kind

-- what a token of the kind requires of those after it, besides its spelling: a comment extends to
-- the end of its line, and no two literals are adjacent
abbrev pub AllowsNext : Kind → List Pair → List ℕ → Type 0
AllowsNext LineComment ps last = LineEndsHere ps last
AllowsNext QuoteLit ps last = NextIsNot QuoteLit ps
AllowsNext HereLit ps last = NextIsNot HereLit ps
AllowsNext kind ps last = ⊤

-- From these modes on, each gap is one of its mode, each token is a lexeme of its mode, given what
-- follows it, and the modes that are left are these. So a `}` has the kind that its mode requires;
-- no LF alone follows a comment that ends in CR; no opening follows text that ends in the byte, `$`
-- or `%`, with which the opening begins; the text of a heredoc has no closing line; and a closing
-- line begins where a line does, and its line end, or nothing, follows it.
abbrev pub FollowsFrom : List Mode → List Pair → List ℕ → List Mode → Type 0
FollowsFrom modes [] last left = modes ≡ left
FollowsFrom modes (p ∷ ps) last left =
    IsGap (mode_of modes) p.gap
    × IsUtf8 p.spelling
    × IsLexeme (mode_of modes) p.kind p.spelling (following_text ps last)
    × AllowsNext p.kind ps last
    × FollowsFrom (modes_after p.kind p.spelling modes) ps last left

abbrev pub mark : Pair
mark = record { gap = []; kind = Mark; spelling = byte_order_mark }

-- gaps and tokens, perhaps after a byte order mark, that leave these modes, and a last gap
pub record Follows (pairs : List Pair) (last : List ℕ) (left : List Mode) : Type 0 where
  pub body : List Pair
  pub prefix : (pairs ≡ body) ⊎ (pairs ≡ mark ∷ body)
  pub follows : FollowsFrom [] body last left
  pub whitespace : list_all is_whitespace last ≡ true

-- a token of the kind, so spelled, does not join with the one after it, if the gap between them is
-- empty
abbrev pub IsApart : Kind → List ℕ → List Pair → Type 0
IsApart kind spelling [] = ⊤
IsApart kind spelling (q ∷ qs) = q.gap ≡ [] → joins_with kind spelling q.kind q.spelling ≡ false

-- no gap between two tokens that join is empty
abbrev pub AreApart : List Pair → Type 0
AreApart [] = ⊤
AreApart (p ∷ ps) = IsApart p.kind p.spelling ps × AreApart ps

-- ---- the same tokens with other gaps

abbrev pub tokens_of : List Pair → List (Kind × List ℕ)
tokens_of pairs = map (λ (p : Pair). (p.kind, p.spelling)) pairs

-- the byte order mark and the tokens that are in literal text, or end it, have no gap before them
abbrev pub has_no_gap_before : Kind → Bool
has_no_gap_before Mark = true
has_no_gap_before QuoteClose = true
has_no_gap_before QuoteLit = true
has_no_gap_before InterpOpen = true
has_no_gap_before DirectiveOpen = true
has_no_gap_before HereClose = true
has_no_gap_before HereLit = true
has_no_gap_before kind = false

-- comments and closing lines have none after them
abbrev pub has_no_gap_after : Kind → Bool
has_no_gap_after LineComment = true
has_no_gap_after HereClose = true
has_no_gap_after kind = false

-- Each gap is whitespace, and empty if the kind of the token before or after it requires that; the
-- token before the first gap does, or does not.
abbrev pub AreAllowedGaps : Bool → List Pair → List ℕ → Type 0
AreAllowedGaps must_be_empty [] last =
    (list_all is_whitespace last ≡ true)
    × (must_be_empty ≡ true → last ≡ [])
AreAllowedGaps must_be_empty (p ∷ ps) last =
    (list_all is_whitespace p.gap ≡ true)
    × ((must_be_empty || has_no_gap_before p.kind) ≡ true → p.gap ≡ [])
    × AreAllowedGaps (has_no_gap_after p.kind) ps last
