-- Lines in turn that can have no cell, as one span. For proofs: nothing here has to be believed.
use Rattle.std.specs.Prelude.{◌≡◌, ◌&&◌, ◌||◌, ℕ, suc, zero, Bool, true, false, not, List, [], ◌∷◌, length}
use Rattle.std.specs.Prelude.{slice_range, Option, None, if◌then◌else◌}
use Rattle.hcl_token.specs.Kinds.{is_line_comment, is_line_end}
use Rattle.hcl_token.specs.Tokens.{Pair}
use Rattle.hcl_layout.specs.Gaps.Inner.Stages.{SplitsLine}
use Rattle.hcl_layout.specs.Gaps.Inner.CodeViews.{cell_of, can_have_cell, IsLine}
use Rattle.hcl_layout.specs.declared.gaps.lines.LineSpan.{LineSpan}
use Rattle.hcl_layout.specs.declared.gaps.cells.Cell.{Cell}

-- a comment with its line end, and nothing else
abbrev pub is_comment_alone : List Pair → Bool
is_comment_alone [] = false
is_comment_alone (p ∷ []) = false
is_comment_alone (p ∷ q ∷ []) = is_line_comment p.kind && is_line_end q.kind
is_comment_alone (p ∷ q ∷ r ∷ ps) = false

-- a line from one token up to another that has no such cell
pub record HasNoCell (cell : Cell) (pairs : List Pair) (at : ℕ) (frozen : Bool)
    (past : ℕ) (next : Bool) : Type 0 where
  pub split : SplitsLine pairs at frozen past next
  pub none : cell_of cell (record { frozen = frozen; pairs = slice_range pairs at past }) ≡ None

-- lines from one token up to another that have no such cell: one, and `more` after it
abbrev pub HaveNoCell : Cell → ℕ → List Pair → ℕ → Bool → ℕ → Bool → Type 0
HaveNoCell cell zero pairs at frozen past next = HasNoCell cell pairs at frozen past next
HaveNoCell cell (suc more) pairs at frozen past next =
    (to : ℕ) × (f : Bool) × HaveNoCell cell more pairs at frozen to f × HasNoCell cell pairs to f past next

-- A span that begins at a token, in a heredoc or not: a line, or several that have no cell. Where a
-- flag is set it is a line with these flags.
pub record IsSpan (pairs : List Pair) (at : ℕ) (frozen : Bool) (span : LineSpan) : Type 0 where
  pub line : (cell : Cell) → can_have_cell cell span ≡ true → IsLine pairs at frozen span
  pub lacks : (cell : Cell) → can_have_cell cell span ≡ false
      → (more : ℕ) × HaveNoCell cell more pairs at frozen span.past span.next_frozen

-- the spans of a text from a token on, where that begins in a heredoc or not
abbrev pub AreSpans : List Pair → ℕ → Bool → List LineSpan → Type 0
AreSpans pairs at frozen [] = at ≡ length pairs
AreSpans pairs at frozen (span ∷ spans) =
    IsSpan pairs at frozen span × AreSpans pairs span.past span.next_frozen spans

-- by its flags a span has no cell of either sort
abbrev pub can_be_joined : LineSpan → Bool
can_be_joined span = not (span.has_comment || span.has_equals)

-- the last of spans has none
abbrev pub can_last_be_joined : List LineSpan → Bool
can_last_be_joined [] = false
can_last_be_joined (last ∷ []) = can_be_joined last
can_last_be_joined (first ∷ next ∷ spans) = can_last_be_joined (next ∷ spans)

-- spans and one more, which takes the place of the last if neither can have a cell
abbrev pub add_span : List LineSpan → LineSpan → List LineSpan
add_span [] span = span ∷ []
add_span (last ∷ []) span =
    if can_be_joined span && can_be_joined last then span ∷ [] else last ∷ span ∷ []
add_span (first ∷ next ∷ spans) span = first ∷ add_span (next ∷ spans) span
