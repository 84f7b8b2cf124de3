-- What the code keeps of tokens and cells, as lists. For proofs: nothing here has to be believed.
use Rattle.std.specs.Prelude.{◌≡◌, ◌==◌, ◌&&◌, ◌||◌, ◌/◌, ◌≤◌, nat_le, nat_lt, ℕ, suc, Bool, true, false, not}
use Rattle.std.specs.Prelude.{slice_get, slice_range, List, [], ◌∷◌, ◌++◌, length, map, drop, reverse, ◌<◌}
use Rattle.std.specs.Prelude.{Option, Some, None, ⊤}
use Rattle.std.specs.List.{list_any, list_all}
use Rattle.hcl_token.specs.declared.kind.Kind.{Kind}
use Rattle.hcl_token.specs.declared.kind.Kind.TheVariants.{HereOpen}
use Rattle.hcl_token.specs.Kinds.{is_line_comment, is_comment}
use Rattle.hcl_layout.specs.Gaps.Kinds.{is_equal}
use Rattle.hcl_layout.specs.Gaps.Lines.{Line}
use Rattle.hcl_token.specs.Tokens.{Pair}
use Rattle.hcl_token.specs.TokenizedText.{gap_of, spelling_of}
use Rattle.hcl_token.specs.Place.{clusters}
use Rattle.hcl_layout.specs.Gaps.Cells.{is_balanced, assignment, closing_comment}
use Rattle.hcl_layout.specs.Gaps.Inner.Stages.{prev_kinds_of, SplitsLine, lines_from, open_heredocs_of}
use Rattle.hcl_layout.specs.Gaps.Inner.Stages.{all_gap_lens, widths, cell_tokens, with_gaps}
use Rattle.hcl_layout.specs.Gaps.Space.{prev_after_all, spaces}
use Rattle.hcl_layout.specs.declared.gaps.lines.LineSpan.{LineSpan}
use Rattle.hcl_layout.specs.declared.gaps.space.PrevKinds.{PrevKinds}
use Rattle.hcl_layout.specs.declared.gaps.cells.Cell.{Cell}
use Rattle.hcl_layout.specs.declared.gaps.cells.Cell.TheVariants.{Assignment, ClosingComment}
use Rattle.hcl_layout.specs.declared.gaps.cells.CellStart.{CellStart}

abbrev pub prev_kinds : PrevKinds → List Kind
prev_kinds before = prev_kinds_of before.nearest before.second

abbrev pub starts_cell : Cell → Kind → Bool
starts_cell Assignment kind = is_equal kind
starts_cell ClosingComment kind = is_line_comment kind

abbrev pub cell_of : Cell → Line → Option ℕ
cell_of Assignment line = assignment line
cell_of ClosingComment line = closing_comment line

-- whether a cell that begins with these tokens counts
abbrev pub is_valid_cell : Cell → List Pair → Bool
is_valid_cell Assignment ps = is_balanced ps
is_valid_cell ClosingComment ps = true

abbrev pub width_in : Option CellStart → Option ℕ
width_in None = None
width_in (Some p) = Some p.width

abbrev pub token_in : Option CellStart → Option ℕ
token_in None = None
token_in (Some p) = Some p.token

abbrev pub widths_of : List (Option CellStart) → List (Option ℕ)
widths_of starts = map width_in starts

abbrev pub tokens_in : List (Option CellStart) → List (Option ℕ)
tokens_in starts = map token_in starts

-- each cell begins at one of the first `count` tokens
abbrev pub AreInside : ℕ → List (Option CellStart) → Type 0
AreInside count [] = ⊤
AreInside count (None ∷ starts) = AreInside count starts
AreInside count (Some p ∷ starts) = (p.token < count) × AreInside count starts

abbrev pub is_here_open : Kind → Bool
is_here_open HereOpen = true
is_here_open kind = false

-- a token that meets the test is among these
abbrev pub are_some : (Kind → Bool) → List Pair → Bool
are_some test pairs = list_any (λ (p : Pair). test p.kind) pairs

-- what the flags of a line that begins at a token say of its tokens
pub record HasFlags (pairs : List Pair) (at : ℕ) (line : LineSpan) : Type 0 where
  pub is_balanced : line.is_balanced ≡ is_balanced (slice_range pairs at line.past)
  pub has_comment : line.has_comment ≡ are_some is_comment (slice_range pairs at line.past)
  pub has_equals : line.has_equals ≡ are_some is_equal (slice_range pairs at line.past)

-- a line can have a token that begins such a cell
abbrev pub can_have_cell : Cell → LineSpan → Bool
can_have_cell Assignment line = line.has_equals
can_have_cell ClosingComment line = line.has_comment

-- a line that begins at a token, in a heredoc or not; the flags of a frozen line say nothing
pub record IsLine (pairs : List Pair) (at : ℕ) (frozen : Bool) (line : LineSpan) : Type 0 where
  pub split : SplitsLine pairs at frozen line.past line.next_frozen
  pub flags : frozen ≡ false → HasFlags pairs at line

-- the token that span i begins at, where the first span begins at this one, and whether it begins
-- in a heredoc
abbrev pub line_start : ℕ → List LineSpan → ℕ → ℕ
line_start at (line ∷ lines) (suc i) = line_start line.past lines i
line_start at lines i = at

abbrev pub is_start_frozen : Bool → List LineSpan → ℕ → Bool
is_start_frozen frozen (line ∷ lines) (suc i) = is_start_frozen line.next_frozen lines i
is_start_frozen frozen lines i = frozen

-- by their flags these spans have no token that begins such a cell
abbrev pub LackCell : Cell → List LineSpan → ℕ → ℕ → Type 0
LackCell cell lines from to =
    (k : ℕ) (line : LineSpan) → from ≤ k → k < to
    → Some line ≡ slice_get lines k → can_have_cell cell line ≡ false

-- by its flags this span can have one
abbrev pub CanHaveCell : Cell → List LineSpan → ℕ → Type 0
CanHaveCell cell lines i = (line : LineSpan) → Some line ≡ slice_get lines i → can_have_cell cell line ≡ true

-- the numbers of gaps up to a token, with those of the lines from there on, where these lines are
-- open before it
abbrev pub gaps_left : List Pair → ℕ → ℕ → Bool → List ℕ → List ℕ → List ℕ
gaps_left pairs first at frozen gaps surplus =
    gaps ++ all_gap_lens (reverse surplus) (prev_after_all (slice_range pairs first at) [])
    (lines_from (open_heredocs_of frozen) (drop at pairs))

-- ---- cells without repeats

abbrev pub is_cell : Option CellStart → Bool
is_cell None = false
is_cell (Some p) = true

-- the cells of lines, where of several lines without a cell one is kept, and after a cell alone
abbrev pub without_repeats : Bool → List (Option CellStart) → List (Option CellStart)
without_repeats in_run [] = []
without_repeats in_run (Some p ∷ starts) = Some p ∷ without_repeats true starts
without_repeats true (None ∷ starts) = None ∷ without_repeats false starts
without_repeats false (None ∷ starts) = without_repeats false starts

-- cells that are those of the lines of a text from a token on, without repeats
pub record AreStarts (cell : Cell) (gaps : List ℕ) (pairs : List Pair) (first : ℕ)
    (starts : List (Option CellStart)) : Type 0 where
  pub all : List (Option CellStart)
  pub kept : starts ≡ without_repeats false all
  pub sizes : widths_of all ≡ widths (cell_of cell) (lines_from 0 (drop first (with_gaps gaps pairs)))
  pub numbers : tokens_in all
      ≡ cell_tokens first (cell_of cell) (lines_from 0 (drop first (with_gaps gaps pairs)))
  pub inside : AreInside (length pairs) all

-- ---- what all bytes of a text say

-- it has many tokens for its length
abbrev pub has_short_tokens : List ℕ → List Pair → Bool
has_short_tokens text pairs = nat_le (length text / 32) (length pairs)

-- ASCII from the space on and LF alone
abbrev pub is_plain : List ℕ → Bool
is_plain text = list_all (λ b. (nat_le 32 b && nat_lt b 128) || b == 10) text

abbrev pub is_without_tab : List ℕ → Bool
is_without_tab text = list_all (λ b. not (b == 9)) text

-- if this is so, each gap is spaces
abbrev pub AreSpaces : Bool → List Pair → Type 0
AreSpaces known pairs = (i : ℕ) (g : List ℕ) → Some g ≡ gap_of pairs i → known ≡ true → g ≡ spaces (length g)

-- if this is so, each byte of a token is a cluster
abbrev pub AreByteClusters : Bool → List Pair → Type 0
AreByteClusters known pairs =
    (i : ℕ) (s : List ℕ) → Some s ≡ spelling_of pairs i → known ≡ true → clusters s ≡ length s
