-- The cells of runs in columns: a look ahead to the greatest width of each run is enough.
use Rattle.std.proofs.Common.{◌≡◌, ℕ, ◌+◌, ◌-◌, max, List, [], ◌∷◌, ◌++◌, take, Option, Some, None, refl, sym, ap, ◌∙◌}
use Rattle.std.specs.Prelude.{map, flat_map, unwrap_or}
use Rattle.std.specs.Option.{option_map}
use Rattle.hcl_layout.specs.Gaps.Lines.{Line, prepend}
use Rattle.hcl_layout.specs.Gaps.Cells.{width, width_before, join_run, runs, run_width, with_cell_gap, set_cell, set_run, aligned}
use Rattle.hcl_layout.specs.Gaps.Inner.Stages.{widths, greatest, with_cell_gaps, cell_gaps_from_width}

-- the width of what is before a cell, if there is one
abbrev own : Line → Option ℕ → Option ℕ
own line found = option_map (λ n. width (take n line.pairs)) found

-- the greatest width of the run of the next line
abbrev next_top : Option ℕ → ℕ → List (Option ℕ) → ℕ
next_top None top ws = greatest ws
next_top (Some n) top ws = top

first_by : (cell : Line → Option ℕ) (x : Line) (lines : List Line) (top : ℕ) (ws : List (Option ℕ)) (found : Option ℕ)
    → with_cell_gaps cell (cell_gaps_from_width top (own x found ∷ ws)) (x ∷ lines)
    ≡ with_cell_gap (cell x) (option_map (λ w. 1 + (top - w)) (own x found)) x ∷ with_cell_gaps cell (cell_gaps_from_width (next_top found top ws) ws) lines
first_by cell x lines top ws None = refl
first_by cell x lines top ws (Some n) = refl

first_line : (cell : Line → Option ℕ) (x : Line) (lines : List Line) (top : ℕ) (ws : List (Option ℕ))
    → with_cell_gaps cell (cell_gaps_from_width top (width_before cell x ∷ ws)) (x ∷ lines)
    ≡ set_cell cell top x ∷ with_cell_gaps cell (cell_gaps_from_width (next_top (cell x) top ws) ws) lines
first_line cell x lines top ws = first_by cell x lines top ws (cell x)

-- runs, of which the first has this greatest width
abbrev set_from : (Line → Option ℕ) → ℕ → List (List Line) → List Line
set_from cell top [] = []
set_from cell top (run ∷ others) = map (set_cell cell top) run ++ flat_map (set_run cell) others

abbrev first_width : (Line → Option ℕ) → List (List Line) → ℕ
first_width cell [] = 0
first_width cell (run ∷ others) = run_width cell run

set_own : (cell : Line → Option ℕ) (rs : List (List Line)) → set_from cell (first_width cell rs) rs ≡ flat_map (set_run cell) rs
set_own cell [] = refl
set_own cell (run ∷ others) = refl

set_prepend : (cell : Line → Option ℕ) (top : ℕ) (x : Line) (rs : List (List Line)) → set_from cell top (prepend x rs) ≡ set_cell cell top x ∷ set_from cell top rs
set_prepend cell top x [] = refl
set_prepend cell top x (run ∷ others) = refl

width_prepend : (cell : Line → Option ℕ) (x : Line) (rs : List (List Line)) → first_width cell (prepend x rs) ≡ max (unwrap_or (width_before cell x) 0) (first_width cell rs)
width_prepend cell x [] = refl
width_prepend cell x (run ∷ others) = refl

-- for lines, one by one and run by run
record Agree (cell : Line → Option ℕ) (lines : List Line) : Type 0 where
  cells : (top : ℕ) → with_cell_gaps cell (cell_gaps_from_width top (widths cell lines)) lines ≡ set_from cell top (runs cell lines)
  greatest_is : greatest (widths cell lines) ≡ first_width cell (runs cell lines)

-- the lines after the first are runs of their own
apart : (cell : Line → Option ℕ) (x : Line) (lines : List Line) (top : ℕ) → Agree cell lines
    → set_cell cell top x ∷ with_cell_gaps cell (cell_gaps_from_width (greatest (widths cell lines)) (widths cell lines)) lines ≡ set_cell cell top x ∷ flat_map (set_run cell) (runs cell lines)
apart cell x lines top h =
    ap (λ (ls : List Line). set_cell cell top x ∷ ls)
    (h.cells (greatest (widths cell lines)) ∙ ap (λ t. set_from cell t (runs cell lines)) h.greatest_is ∙ set_own cell (runs cell lines))

-- before a line with no cell the run ends
any_top : (y : Line) (ws : List (Option ℕ)) (s t : ℕ) (found : Option ℕ) → found ≡ None → cell_gaps_from_width s (own y found ∷ ws) ≡ cell_gaps_from_width t (own y found ∷ ws)
any_top y ws s t found e =
    ap (λ o. cell_gaps_from_width s (own y o ∷ ws)) e ∙ sym (ap (λ o. cell_gaps_from_width t (own y o ∷ ws)) e)

cells_by : (cell : Line → Option ℕ) (x y : Line) (lines : List Line) (top : ℕ) → Agree cell (y ∷ lines) → (o o' : Option ℕ) → cell y ≡ o'
    → set_cell cell top x ∷ with_cell_gaps cell (cell_gaps_from_width (next_top o top (widths cell (y ∷ lines))) (widths cell (y ∷ lines))) (y ∷ lines)
    ≡ set_from cell top (join_run o o' x (runs cell (y ∷ lines)))
cells_by cell x y lines top h None None e = apart cell x (y ∷ lines) top h
cells_by cell x y lines top h None (Some m) e = apart cell x (y ∷ lines) top h
cells_by cell x y lines top h (Some n) None e =
    ap (λ (gs : List (Option ℕ)). set_cell cell top x ∷ with_cell_gaps cell gs (y ∷ lines)) (any_top y (widths cell lines) top (greatest (widths cell (y ∷ lines))) (cell y) e)
    ∙ apart cell x (y ∷ lines) top h
cells_by cell x y lines top h (Some n) (Some m) e =
    ap (λ (ls : List Line). set_cell cell top x ∷ ls) (h.cells top) ∙ sym (set_prepend cell top x (runs cell (y ∷ lines)))

own_width : (cell : Line → Option ℕ) (x : Line) (others : ℕ) (found : Option ℕ) → cell x ≡ found → max (unwrap_or (own x found) 0) others ≡ max (unwrap_or (width_before cell x) 0) others
own_width cell x others found e = ap (λ o. max (unwrap_or (own x o) 0) others) (sym e)

greatest_by : (cell : Line → Option ℕ) (x y : Line) (lines : List Line) → Agree cell (y ∷ lines) → (o o' : Option ℕ) → cell x ≡ o → cell y ≡ o'
    → greatest (own x o ∷ widths cell (y ∷ lines)) ≡ first_width cell (join_run o o' x (runs cell (y ∷ lines)))
greatest_by cell x y lines h None None e e' = own_width cell x 0 None e
greatest_by cell x y lines h None (Some m) e e' = own_width cell x 0 None e
greatest_by cell x y lines h (Some n) None e e' =
    ap (λ o. max (width (take n x.pairs)) (greatest (own y o ∷ widths cell lines))) e' ∙ own_width cell x 0 (Some n) e
greatest_by cell x y lines h (Some n) (Some m) e e' =
    ap (λ t. max (width (take n x.pairs)) t) h.greatest_is ∙ own_width cell x (first_width cell (runs cell (y ∷ lines))) (Some n) e ∙ sym (width_prepend cell x (runs cell (y ∷ lines)))

greatest_of_one : (x : Line) (found : Option ℕ) → greatest (own x found ∷ []) ≡ max (unwrap_or (own x found) 0) 0
greatest_of_one x None = refl
greatest_of_one x (Some n) = refl

agree : (cell : Line → Option ℕ) (lines : List Line) → Agree cell lines
agree cell [] = record { cells = λ top. refl; greatest_is = refl }
agree cell (x ∷ []) = record { cells = λ top. first_line cell x [] top []; greatest_is = greatest_of_one x (cell x) }
agree cell (x ∷ y ∷ lines) =
    let h = agree cell (y ∷ lines) in
    record {
      cells = λ top. first_line cell x (y ∷ lines) top (widths cell (y ∷ lines)) ∙ cells_by cell x y lines top h (cell x) (cell y) refl;
      greatest_is = greatest_by cell x y lines h (cell x) (cell y) refl refl;
    }

pub aligned_is : (cell : Line → Option ℕ) (lines : List Line) → aligned cell lines ≡ with_cell_gaps cell (cell_gaps_from_width (greatest (widths cell lines)) (widths cell lines)) lines
aligned_is cell lines =
    let h = agree cell lines in
    sym (h.cells (greatest (widths cell lines)) ∙ ap (λ t. set_from cell t (runs cell lines)) h.greatest_is ∙ set_own cell (runs cell lines))
