-- Which gaps may be between two tokens; those of a tokenization may. Each token is compared with
-- the one before it, without reference to a tokenization.
use Rattle.std.proofs.Common.{◌≡◌, ℕ, true, false, ◌||◌, List, [], ◌∷◌, ◌++◌, refl, sym, ap, ◌∙◌}
use Rattle.std.proofs.lemmas.Bool.{and_parts, both_ways, false≢true, not-true}
use Rattle.std.specs.List.{list_all}
use Rattle.hcl_token.specs.declared.kind.Kind.{Kind}
use Rattle.hcl_token.specs.declared.kind.Kind.TheVariants.{Mark, LineEnd, LineComment, Identifier, Number, DotIndex, Bang, Less, Greater, Equal, Colon, Dot, Slash, QuoteClose, QuoteLit, InterpOpen, DirectiveOpen, HereClose, HereLit}
use Rattle.hcl_token.specs.Tokens.{Pair}
use Rattle.hcl_token.specs.Joins.{joins_with}
use Rattle.hcl_token.specs.Kinds.{is_line_end}
use Rattle.hcl_scan.specs.Characters.{is_whitespace}
use Rattle.hcl_scan.specs.Closing.{is_at_line_end_or_eof}
use Rattle.hcl_scan.specs.Modes.{Mode, mode_of, is_literal, is_at_line_start, modes_after}
use Rattle.hcl_scan.specs.Modes.Mode.{Quoted, Heredoc}
use Rattle.hcl_scan.specs.Lexeme.{is_quoted, is_heredoc, is_allowed_in, Spells}
use Rattle.hcl_scan.specs.Follows.{following_text, AllowsNext, FollowsFrom, IsApart, AreApart, has_no_gap_before, has_no_gap_after, AreAllowedGaps}
use Rattle.hcl_layout.proofs.LineEnds.{line_token}

-- A token after another: its gap may be there, and, whatever the gap, what is before literal text
-- joins with nothing and ends no line, and after what allows no gap is literal text or a line end.
pub record IsAllowedAfter (k : Kind) (s : List ℕ) (p : Pair) : Type 0 where
  pub whitespace : list_all is_whitespace p.gap ≡ true
  pub none : (has_no_gap_after k || has_no_gap_before p.kind) ≡ true → p.gap ≡ []
  pub apart : p.gap ≡ [] → joins_with k s p.kind p.spelling ≡ false
  pub literal : has_no_gap_before p.kind ≡ true → (joins_with k s p.kind p.spelling ≡ false) × (is_line_end k ≡ false)
  pub shut : has_no_gap_after k ≡ true → has_no_gap_before p.kind ≡ false → is_line_end p.kind ≡ true

-- each token after the one before it, the first after this one
abbrev pub AllAllowedAfter : Kind → List ℕ → List Pair → Type 0
AllAllowedAfter k s [] = Unit {0}
AllAllowedAfter k s (p ∷ ps) = IsAllowedAfter k s p × AllAllowedAfter p.kind p.spelling ps

pub allowed_gaps : (k : Kind) (s : List ℕ) (ps : List Pair) → AllAllowedAfter k s ps → AreAllowedGaps (has_no_gap_after k) ps []
allowed_gaps k s [] h = (refl, λ _. refl)
allowed_gaps k s (p ∷ ps) h = (h.0.whitespace, h.0.none, allowed_gaps p.kind p.spelling ps h.1)

pub allowed_apart : (k : Kind) (s : List ℕ) (ps : List Pair) → AllAllowedAfter k s ps → IsApart k s ps × AreApart ps
allowed_apart k s [] h = (tt, tt)
allowed_apart k s (p ∷ ps) h = (h.0.apart, allowed_apart p.kind p.spelling ps h.1)

-- ---- of a tokenization

-- what is before literal text joins with nothing, and is no line end
literal_after : (kind : Kind) (s : List ℕ) (modes : List Mode) → is_allowed_in (mode_of modes) kind ≡ true → is_literal (mode_of (modes_after kind s modes)) ≡ true
    → ((k : Kind) (t : List ℕ) → joins_with kind s k t ≡ false) × (is_line_end kind ≡ false)
literal_after LineEnd s modes st l = absurd (both_ways _ (not-true (is_literal (mode_of modes)) st) l)
literal_after Identifier s modes st l = absurd (both_ways _ (not-true (is_literal (mode_of modes)) st) l)
literal_after Number s modes st l = absurd (both_ways _ (not-true (is_literal (mode_of modes)) st) l)
literal_after DotIndex s modes st l = absurd (both_ways _ (not-true (is_literal (mode_of modes)) st) l)
literal_after Less s modes st l = absurd (both_ways _ (not-true (is_literal (mode_of modes)) st) l)
literal_after Greater s modes st l = absurd (both_ways _ (not-true (is_literal (mode_of modes)) st) l)
literal_after Equal s modes st l = absurd (both_ways _ (not-true (is_literal (mode_of modes)) st) l)
literal_after Bang s modes st l = absurd (both_ways _ (not-true (is_literal (mode_of modes)) st) l)
literal_after Colon s modes st l = absurd (both_ways _ (not-true (is_literal (mode_of modes)) st) l)
literal_after Dot s modes st l = absurd (both_ways _ (not-true (is_literal (mode_of modes)) st) l)
literal_after Slash s modes st l = absurd (both_ways _ (not-true (is_literal (mode_of modes)) st) l)
literal_after InterpOpen s modes st l = absurd (false≢true l)
literal_after DirectiveOpen s modes st l = absurd (false≢true l)
literal_after kind s modes st l = (λ k t. refl, refl)

in_quotes : (mode : Mode) → is_quoted mode ≡ true → is_literal mode ≡ true
in_quotes Quoted h = refl
in_quotes mode h = absurd (false≢true h)

in_heredoc : (mode : Mode) → is_heredoc mode ≡ true → is_literal mode ≡ true
in_heredoc (Heredoc name fresh) h = refl
in_heredoc mode h = absurd (false≢true h)

-- a token of a kind that has no gap is in literal text
in_literal : (mode : Mode) (kind : Kind) → is_allowed_in mode kind ≡ true → has_no_gap_before kind ≡ true → is_literal mode ≡ true
in_literal mode Mark st h = absurd (false≢true st)
in_literal mode QuoteClose st h = in_quotes mode st
in_literal mode QuoteLit st h = in_quotes mode st
in_literal mode InterpOpen st h = st
in_literal mode DirectiveOpen st h = st
in_literal mode HereClose st h = in_heredoc mode (and_parts (is_heredoc mode) (is_at_line_start mode) st).0
in_literal mode HereLit st h = in_heredoc mode st
in_literal mode kind st h = absurd (false≢true h)

-- the next token is literal text or a line end
abbrev NextEnds : List Pair → Type 0
NextEnds [] = Unit {0}
NextEnds (p ∷ ps) = has_no_gap_before p.kind ≡ false → is_line_end p.kind ≡ true

here_ends : (modes left : List Mode) (ps : List Pair) (last : List ℕ) → FollowsFrom modes ps last left → AreAllowedGaps true ps last → is_at_line_end_or_eof (following_text ps last) ≡ true → NextEnds ps
here_ends modes left [] last f gaps ends = tt
here_ends modes left (p ∷ ps) last f gaps ends =
    λ gap. line_token (mode_of modes) p.kind p.spelling (following_text ps last) f.2 gap (ap (λ (g : List ℕ). is_at_line_end_or_eof (g ++ p.spelling)) (sym (gaps.1 refl)) ∙ ends)

comment_ends : (ps : List Pair) (last : List ℕ) → AllowsNext LineComment ps last → NextEnds ps
comment_ends [] last h = tt
comment_ends (p ∷ ps) last h = λ gap. ap is_line_end h.1

shut_ends : (mode : Mode) (k : Kind) (s : List ℕ) (modes left : List Mode) (ps : List Pair) (last : List ℕ) → Spells mode k s (following_text ps last) → AllowsNext k ps last
    → FollowsFrom modes ps last left → AreAllowedGaps (has_no_gap_after k) ps last → has_no_gap_after k ≡ true → NextEnds ps
shut_ends mode LineComment s modes left ps last h following f gaps e = comment_ends ps last following
shut_ends mode HereClose s modes left ps last h following f gaps e = here_ends modes left ps last f gaps h.5
shut_ends mode k s modes left ps last h following f gaps e = absurd (false≢true e)

next_shut : (k : Kind) (p : Pair) (ps : List Pair) → (has_no_gap_after k ≡ true → NextEnds (p ∷ ps)) → has_no_gap_after k ≡ true → has_no_gap_before p.kind ≡ false → is_line_end p.kind ≡ true
next_shut k p ps h e = h e

pub tokens_are_allowed : (k : Kind) (s : List ℕ) (modes left : List Mode) (ps : List Pair) (last : List ℕ)
    → (is_literal (mode_of modes) ≡ true → ((j : Kind) (t : List ℕ) → joins_with k s j t ≡ false) × (is_line_end k ≡ false))
    → (has_no_gap_after k ≡ true → NextEnds ps)
    → FollowsFrom modes ps last left → AreAllowedGaps (has_no_gap_after k) ps last → IsApart k s ps → AreApart ps → AllAllowedAfter k s ps
tokens_are_allowed k s modes left [] last literal shut f gaps first apart = tt
tokens_are_allowed k s modes left (p ∷ ps) last literal shut f gaps first apart = (
  record {
    whitespace = gaps.0;
    none = gaps.1;
    apart = first;
    literal = λ h. let l = literal (in_literal (mode_of modes) p.kind f.2.0 h) in (l.0 p.kind p.spelling, l.1);
    shut = next_shut k p ps shut;
  },
  tokens_are_allowed p.kind p.spelling (modes_after p.kind p.spelling modes) left ps last
      (literal_after p.kind p.spelling modes f.2.0)
      (shut_ends (mode_of modes) p.kind p.spelling (modes_after p.kind p.spelling modes) left ps last f.2.1 f.3 f.4 gaps.2)
      f.4 gaps.2 apart.0 apart.1,
)

-- from the start of a text on, as after a line end
pub text_is_allowed : (body : List Pair) (last : List ℕ) → FollowsFrom [] body last [] → AreAllowedGaps false body last → AreApart body → AllAllowedAfter LineEnd [] body
text_is_allowed body last f gaps apart =
    tokens_are_allowed LineEnd [] [] [] body last (λ h. absurd (false≢true h)) (λ h. absurd (false≢true h)) f gaps (first body) apart
  where
    first : (ps : List Pair) → IsApart LineEnd [] ps
    first [] = tt
    first (p ∷ ps) = λ _. refl
