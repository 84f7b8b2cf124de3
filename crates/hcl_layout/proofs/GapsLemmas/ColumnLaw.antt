-- The cells of a run begin in one column: after its greatest width and one space.
use Rattle.std.proofs.Common.{◌≡◌, ℕ, zero, suc, ◌+◌, ◌-◌, ◌<◌, ◌≤◌, List, [], ◌∷◌, length, take, Option, Some, None, refl, sym, ap, subst, ◌∙◌, arith}
use Rattle.std.specs.Option.{option_map}
use Rattle.hcl_token.specs.Tokens.{Pair}
use Rattle.hcl_layout.specs.Gaps.Lines.{Line}
use Rattle.hcl_layout.specs.Gaps.Space.{spaces}
use Rattle.hcl_layout.specs.Gaps.Cells.{width, with_gap, with_cell_gap, aligned}
use Rattle.hcl_layout.specs.Gaps.Columns.{column_at, column, SameColumn, AreAligned}
use Rattle.hcl_layout.specs.Gaps.Inner.CodeViews.{cell_of}
use Rattle.hcl_layout.specs.Gaps.Inner.Stages.{widths, greatest, with_cell_gaps, cell_gaps_from_width}
use Rattle.hcl_layout.specs.declared.gaps.cells.Cell.{Cell}
use Rattle.hcl_layout.specs.declared.gaps.cells.Cell.TheVariants.{Assignment, ClosingComment}
use Rattle.hcl_layout.proofs.GapsLemmas.GapLaw.{length_replicate}
use Rattle.hcl_layout.proofs.GapsLemmas.TokensKept.{SameTokens, gap_same}
use Rattle.hcl_layout.proofs.GapsLemmas.CellLaw.{aligned_is}
use Rattle.hcl_layout.proofs.GapsLemmas.CellGaps.{assignment_same, comment_same}
use Rattle.hcl_layout.proofs.GapsLemmas.CellCode.{cell_inside}
use Rattle.hcl_layout.proofs.GapsLemmas.LineWidths.{width_cons}

column_moved : (n c : ℕ) (ps : List Pair) → n < length ps → column_at n (with_gap n (spaces c) ps) ≡ width (take n ps) + c
column_moved n c [] h = absurd (omega arith)
column_moved zero c (p ∷ ps) h = omega (arith, length_replicate c 32)
column_moved (suc n) c (p ∷ ps) h = omega (arith, width_cons p (take n ps), column_moved n c ps (omega (arith, h)))

cell_same : (cell : Cell) (line : Line) (qs : List Pair) → SameTokens qs line.pairs → cell_of cell (record line { pairs = qs }) ≡ cell_of cell line
cell_same Assignment line qs h = assignment_same line.frozen qs line.pairs h
cell_same ClosingComment line qs h = comment_same line.frozen qs line.pairs h

moved_column : (cell : Cell) (line : Line) (n c : ℕ) → cell_of cell line ≡ Some n → column (cell_of cell) (with_cell_gap (Some n) (Some c) line) ≡ Some (width (take n line.pairs) + c)
moved_column cell line n c found =
    let qs : List Pair = with_gap n (spaces c) line.pairs in
    ap (option_map (λ m. column_at m qs)) (cell_same cell line qs (gap_same n (spaces c) line.pairs) ∙ found)
    ∙ ap Some (column_moved n c line.pairs (cell_inside cell line.frozen line.pairs n found))

-- a run goes on with this greatest width: if the first line has the cell, it begins after that and
-- one space
abbrev InColumn : ℕ → Option ℕ → Type 0
InColumn top None = Unit {0}
InColumn top (Some c) = c ≡ 1 + top

abbrev FirstIn : ℕ → (Line → Option ℕ) → List Line → Type 0
FirstIn top cell [] = Unit {0}
FirstIn top cell (x ∷ lines) = InColumn top (column cell x)

record IsRun (top : ℕ) (cell : Line → Option ℕ) (lines : List Line) : Type 0 where
  aligned : AreAligned cell lines
  first : FirstIn top cell lines

none_first : (cell : Line → Option ℕ) (x : Line) (lines : List Line) → column cell x ≡ None → AreAligned cell lines → AreAligned cell (x ∷ lines)
none_first cell x [] e h = tt
none_first cell x (y ∷ lines) e h = (subst (λ c. SameColumn c (column cell y)) (sym e) tt, h)

in_one : (top : ℕ) (d : Option ℕ) → InColumn top d → SameColumn (Some (1 + top)) d
in_one top None h = tt
in_one top (Some d) h = sym h

some_first : (cell : Line → Option ℕ) (x : Line) (top : ℕ) (lines : List Line) → column cell x ≡ Some (1 + top) → IsRun top cell lines → AreAligned cell (x ∷ lines)
some_first cell x top [] e h = tt
some_first cell x top (y ∷ lines) e h = (subst (λ c. SameColumn c (column cell y)) (sym e) (in_one top (column cell y) h.first), h.aligned)

-- one line before a run, or before lines that follow
next_line : (cell : Cell) (top : ℕ) (line : Line) (lines : List Line) (found : Option ℕ) → cell_of cell line ≡ found
    → ((t : ℕ) → greatest (widths (cell_of cell) lines) ≤ t → IsRun t (cell_of cell) (with_cell_gaps (cell_of cell) (cell_gaps_from_width t (widths (cell_of cell) lines)) lines))
    → greatest (option_map (λ n. width (take n line.pairs)) found ∷ widths (cell_of cell) lines) ≤ top
    → IsRun top (cell_of cell) (with_cell_gaps (cell_of cell) (cell_gaps_from_width top (option_map (λ n. width (take n line.pairs)) found ∷ widths (cell_of cell) lines)) (line ∷ lines))
next_line cell top line lines None e more h =
    let ws : List (Option ℕ) = widths (cell_of cell) lines in
    let rest = more (greatest ws) (omega arith) in
    let none : column (cell_of cell) (with_cell_gap (cell_of cell line) None line) ≡ None =
    ap (λ o. column (cell_of cell) (with_cell_gap o None line)) e ∙ ap (option_map (λ m. column_at m line.pairs)) e in
    record {
      aligned = none_first (cell_of cell) (with_cell_gap (cell_of cell line) None line) (with_cell_gaps (cell_of cell) (cell_gaps_from_width (greatest ws) ws) lines) none rest.aligned;
      first = subst (InColumn top) (sym none) tt;
    }
next_line cell top line lines (Some n) e more h =
    let ws : List (Option ℕ) = widths (cell_of cell) lines in
    let w : ℕ = width (take n line.pairs) in
    let rest = more top (omega (arith, h)) in
    let here : column (cell_of cell) (with_cell_gap (cell_of cell line) (Some (1 + (top - w))) line) ≡ Some (1 + top) =
    ap (λ o. column (cell_of cell) (with_cell_gap o (Some (1 + (top - w))) line)) e ∙ moved_column cell line n (1 + (top - w)) e ∙ ap Some (omega (arith, h)) in
    record {
      aligned = some_first (cell_of cell) (with_cell_gap (cell_of cell line) (Some (1 + (top - w))) line) top (with_cell_gaps (cell_of cell) (cell_gaps_from_width top ws) lines) here rest;
      first = subst (InColumn top) (sym here) refl;
    }

all_lines : (cell : Cell) (lines : List Line) (top : ℕ) → greatest (widths (cell_of cell) lines) ≤ top
    → IsRun top (cell_of cell) (with_cell_gaps (cell_of cell) (cell_gaps_from_width top (widths (cell_of cell) lines)) lines)
all_lines cell [] top h = record { aligned = tt; first = tt }
all_lines cell (line ∷ lines) top h = next_line cell top line lines (cell_of cell line) refl (all_lines cell lines) h

pub cells_aligned : (cell : Cell) (lines : List Line) → AreAligned (cell_of cell) (aligned (cell_of cell) lines)
cells_aligned cell lines =
    let ws : List (Option ℕ) = widths (cell_of cell) lines in
    let run = all_lines cell lines (greatest ws) (omega arith) in
    subst (AreAligned (cell_of cell)) (sym (aligned_is (cell_of cell) lines)) run.aligned
