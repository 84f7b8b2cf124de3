-- Cells: in consecutive lines the assignments begin in one column, and so do the comments at their
-- ends.
-- Terraform style conventions (aligned equals signs on consecutive lines); what counts as a cell,
-- and the comments, are this project's own profile. Columns are extended grapheme clusters, Unicode
-- Standard Annex #29.
use Rattle.std.specs.Prelude.{ℕ, zero, suc, ◌+◌, ◌-◌, ◌==◌, Bool, not, ◌&&◌, max, List, [], ◌∷◌, length, map}
use Rattle.std.specs.Prelude.{flat_map, take, drop, sum_by, Option, Some, None, option_map, unwrap_or}
use Rattle.std.specs.Prelude.{if◌then◌else◌}
use Rattle.std.specs.List.{list_any}
use Rattle.hcl_token.specs.Tokens.{Pair}
use Rattle.hcl_token.specs.Place.{clusters, is_lf}
use Rattle.hcl_token.specs.Kinds.{is_line_comment}
use Rattle.hcl_layout.specs.Gaps.Kinds.{is_inline_comment, is_equal}
use Rattle.hcl_layout.specs.Gaps.Lines.{Line, prepend}
use Rattle.hcl_layout.specs.Gaps.Indent.{openings, closings}
use Rattle.hcl_layout.specs.Gaps.Space.{spaces}

-- how many tokens are before the first that meets the test
abbrev pub index_of_first : (Pair → Bool) → List Pair → Option ℕ
index_of_first test [] = None
index_of_first test (p ∷ ps) = if test p then Some 0 else option_map suc (index_of_first test ps)

-- how many tokens are before the first that meets the test; the list's first token is not tested
abbrev pub index_after_first : (Pair → Bool) → List Pair → Option ℕ
index_after_first test [] = None
index_after_first test (p ∷ ps) = option_map suc (index_of_first test ps)

-- a frozen line has no cells, nor has one with an inline comment that holds a line end
abbrev pub has_cells : Line → Bool
has_cells line = not line.frozen
    && not (list_any (λ (p : Pair). is_inline_comment p.kind
    && list_any is_lf p.spelling) line.pairs)

-- as many brackets are opened as closed
abbrev pub is_balanced : List Pair → Bool
is_balanced pairs = openings pairs == closings pairs

-- A cell is given by the number of tokens before it on its line.
-- An assignment begins at the first `=` after the line's first token, if what begins there closes
-- what it opens.
abbrev pub assignment : Line → Option ℕ
assignment line =
    if has_cells line
    then (elim (index_after_first (λ (p : Pair). is_equal p.kind) line.pairs) [
      | None ↦ None
      | Some n ↦ if is_balanced (drop n line.pairs) then Some n else None
    ])
    else None

-- a closing comment: the line comment of a line, if it is not the line's first token
abbrev pub closing_comment : Line → Option ℕ
closing_comment line =
    if has_cells line then index_after_first (λ (p : Pair). is_line_comment p.kind) line.pairs else None

-- how wide tokens are: the bytes of each gap, as the layout has set it up to there, and the
-- clusters of each token
abbrev pub width : List Pair → ℕ
width pairs = sum_by (λ (p : Pair). length p.gap + clusters p.spelling) pairs

-- the width of what is before the cell
abbrev pub width_before : (Line → Option ℕ) → Line → Option ℕ
width_before cell line = option_map (λ n. width (take n line.pairs)) (cell line)

-- a line before the runs that follow it: it is in the first of them if it and the next line, which
-- that begins with, both have the cell
abbrev pub join_run : Option ℕ → Option ℕ → Line → List (List Line) → List (List Line)
join_run (Some n) (Some next) line others = prepend line others
join_run own next line others = (line ∷ []) ∷ others

-- The runs of lines: consecutive lines that have the cell, as many as there are, or one line that
-- has none.
abbrev pub runs : (Line → Option ℕ) → List Line → List (List Line)
runs cell [] = []
runs cell (line ∷ []) = (line ∷ []) ∷ []
runs cell (line ∷ next ∷ lines) = join_run (cell line) (cell next) line (runs cell (next ∷ lines))

-- the greatest width of what is before the cells of a run
abbrev pub run_width : (Line → Option ℕ) → List Line → ℕ
run_width cell [] = 0
run_width cell (line ∷ run) = max (unwrap_or (width_before cell line) 0) (run_width cell run)

-- tokens, of which the one after n others gets this gap
abbrev pub with_gap : ℕ → List ℕ → List Pair → List Pair
with_gap n gap [] = []
with_gap zero gap (p ∷ ps) = record p { gap = gap } ∷ ps
with_gap (suc n) gap (p ∷ ps) = p ∷ with_gap n gap ps

-- a line with this number of spaces before its cell
abbrev pub with_cell_gap : Option ℕ → Option ℕ → Line → Line
with_cell_gap (Some n) (Some count) line = record line { pairs = with_gap n (spaces count) line.pairs }
with_cell_gap cell count line = line

-- a line of a run of this greatest width: the gap before its cell is one space, and what its own
-- width lacks to that
abbrev pub set_cell : (Line → Option ℕ) → ℕ → Line → Line
set_cell cell greatest line =
    with_cell_gap (cell line) (option_map (λ own. 1 + (greatest - own)) (width_before cell line)) line

-- a run with its cells in one column
abbrev pub set_run : (Line → Option ℕ) → List Line → List Line
set_run cell run = map (set_cell cell (run_width cell run)) run

-- lines with the cells of each run in one column
abbrev pub aligned : (Line → Option ℕ) → List Line → List Line
aligned cell lines = flat_map (set_run cell) (runs cell lines)
