-- Lines without a cell, of which several are kept as one. For speed alone.
use Rattle.std.proofs.Common.{◌≡◌, ℕ, ◌+◌, ◌-◌, ◌<◌, ◌≤◌, Bool, true, false, List, [], ◌∷◌, ◌++◌, length, Option, Some, None, max, refl, sym, ap, subst, ◌∙◌}
use Rattle.std.specs.Option.{option_map, IfSome}
use Rattle.std.specs.Prelude.{slice_set}
use Rattle.hcl_token.specs.Tokens.{Pair}
use Rattle.hcl_layout.specs.Gaps.Cells.{width_before}
use Rattle.hcl_layout.specs.Gaps.Inner.CodeViews.{cell_of, width_in, token_in, widths_of, tokens_in, is_cell, without_repeats, AreInside, AreStarts}
use Rattle.hcl_layout.specs.Gaps.Inner.Stages.{greatest, set_cell_gaps, cell_gaps_from_width, AreAtMost, SplitsLine}
use Rattle.hcl_layout.specs.declared.gaps.cells.Cell.{Cell}
use Rattle.hcl_layout.specs.declared.gaps.cells.CellStart.{CellStart}
use Rattle.hcl_layout.proofs.GapsLemmas.CellCode.{StartsSoFar, gapped_line, starts_step, starts_end}

-- ---- pushing

-- whether the last line has a cell
abbrev pub ends_in_run : Bool → List (Option CellStart) → Bool
ends_in_run in_run [] = in_run
ends_in_run in_run (start ∷ starts) = ends_in_run (is_cell start) starts

kept_push : (b : Bool) (starts : List (Option CellStart)) (start : Option CellStart)
    → without_repeats b (starts ++ start ∷ []) ≡ without_repeats b starts ++ without_repeats (ends_in_run b starts) (start ∷ [])
kept_push b [] start = refl
kept_push b (Some p ∷ starts) start = ap (λ (ss : List (Option CellStart)). Some p ∷ ss) (kept_push true starts start)
kept_push true (None ∷ starts) start = ap (λ (ss : List (Option CellStart)). None ∷ ss) (kept_push false starts start)
kept_push false (None ∷ starts) start = kept_push false starts start

run_push : (b : Bool) (starts : List (Option CellStart)) (start : Option CellStart) → ends_in_run b (starts ++ start ∷ []) ≡ is_cell start
run_push b [] start = refl
run_push b (s ∷ starts) start = run_push (is_cell s) starts start

-- the cells up to here, without repeats
pub record KeptSoFar (cell : Cell) (ns : List ℕ) (ps : List Pair) (first at : ℕ) (f in_run : Bool) (starts : List (Option CellStart)) : Type 0 where
  pub all : List (Option CellStart)
  pub so_far : StartsSoFar cell ns ps first at f all
  pub kept : starts ≡ without_repeats false all
  pub run : in_run ≡ ends_in_run false all

pub kept_begins : (cell : Cell) (ns : List ℕ) (ps : List Pair) (first : ℕ) (starts : List (Option CellStart)) → starts ≡ [] → StartsSoFar cell ns ps first first false [] → KeptSoFar cell ns ps first first false false starts
kept_begins cell ns ps first starts none so_far = record { all = []; so_far = so_far; kept = none; run = refl }

pub kept_step : (cell : Cell) (ns : List ℕ) (ps : List Pair) (first at : ℕ) (f in_run : Bool) (starts more : List (Option CellStart)) (past : ℕ) (next now : Bool) (p : Option CellStart) → length ns ≡ length ps
    → SplitsLine ps at f past next → KeptSoFar cell ns ps first at f in_run starts → more ≡ starts ++ without_repeats in_run (p ∷ []) → now ≡ is_cell p
    → width_in p ≡ width_before (cell_of cell) (gapped_line ns ps at past f) → token_in p ≡ option_map (λ n. at + n) (cell_of cell (gapped_line ns ps at past f)) → IfSome p (λ q. q.token < length ps)
    → KeptSoFar cell ns ps first past next now more
kept_step cell ns ps first at f in_run starts more past next now p size split old more_is now_is w_is t_is inside = record {
  all = old.all ++ p ∷ [];
  so_far = starts_step cell ns ps first at f old.all (old.all ++ p ∷ []) past next p size split old.so_far refl w_is t_is inside;
  kept = more_is ∙ ap (λ (ss : List (Option CellStart)). ss ++ without_repeats in_run (p ∷ [])) old.kept
      ∙ ap (λ b. without_repeats false old.all ++ without_repeats b (p ∷ [])) old.run ∙ sym (kept_push false old.all p);
  run = now_is ∙ sym (run_push false old.all p);
}

pub kept_end : (cell : Cell) (ns : List ℕ) (ps : List Pair) (first at : ℕ) (f in_run : Bool) (starts : List (Option CellStart)) → length ns ≡ length ps → length ps ≤ at → KeptSoFar cell ns ps first at f in_run starts
    → AreStarts cell ns ps first starts
kept_end cell ns ps first at f in_run starts size past old =
    let both = starts_end cell ns ps first at f old.all size past old.so_far in
    record { all = old.all; kept = old.kept; sizes = both.0; numbers = both.1; inside = old.so_far.inside }

-- ---- what is kept

inside_kept : (count : ℕ) (b : Bool) (starts : List (Option CellStart)) → AreInside count starts → AreInside count (without_repeats b starts)
inside_kept count b [] h = h
inside_kept count b (Some p ∷ starts) h = (h.0, inside_kept count true starts h.1)
inside_kept count true (None ∷ starts) h = inside_kept count false starts h
inside_kept count false (None ∷ starts) h = inside_kept count false starts h

most_kept : (most : ℕ) (b : Bool) (starts : List (Option CellStart)) → AreAtMost most (widths_of starts) → AreAtMost most (widths_of (without_repeats b starts))
most_kept most b [] h = h
most_kept most b (Some p ∷ starts) h = (h.0, most_kept most true starts h.1)
most_kept most true (None ∷ starts) h = most_kept most false starts h
most_kept most false (None ∷ starts) h = most_kept most false starts h

pub starts_inside : (cell : Cell) (ns : List ℕ) (ps : List Pair) (first : ℕ) (starts : List (Option CellStart)) → AreStarts cell ns ps first starts → AreInside (length ps) starts
starts_inside cell ns ps first starts a = subst (AreInside (length ps)) (sym a.kept) (inside_kept (length ps) false a.all a.inside)

pub starts_most : (cell : Cell) (ns : List ℕ) (ps : List Pair) (first most : ℕ) (starts : List (Option CellStart)) (a : AreStarts cell ns ps first starts) → AreAtMost most (widths_of a.all) → AreAtMost most (widths_of starts)
starts_most cell ns ps first most starts a h = subst (λ (ss : List (Option CellStart)). AreAtMost most (widths_of ss)) (sym a.kept) (most_kept most false a.all h)

-- ---- the gaps that they set are the same

greatest_kept : (starts : List (Option CellStart)) → greatest (widths_of starts) ≡ greatest (widths_of (without_repeats true starts))
greatest_kept [] = refl
greatest_kept (None ∷ starts) = refl
greatest_kept (Some p ∷ starts) = ap (λ n. max p.width n) (greatest_kept starts)

abbrev all_set : List ℕ → ℕ → List (Option CellStart) → List ℕ
all_set gaps top starts = set_cell_gaps gaps (tokens_in starts) (cell_gaps_from_width top (widths_of starts))

-- after a line with a cell, for any width of its run, and after one without
set_both : (starts : List (Option CellStart))
    → ((gaps : List ℕ) (top : ℕ) → all_set gaps top (without_repeats true starts) ≡ all_set gaps top starts)
    × ((gaps : List ℕ) → all_set gaps (greatest (widths_of (without_repeats false starts))) (without_repeats false starts) ≡ all_set gaps (greatest (widths_of starts)) starts)
set_both [] = (λ gaps top. refl, λ gaps. refl)
set_both (None ∷ starts) = let h = set_both starts in (λ gaps top. h.1 gaps, λ gaps. h.1 gaps)
set_both (Some p ∷ starts) =
    let h = set_both starts in (
      λ gaps top. h.0 (slice_set gaps p.token (1 + (top - p.width))) top,
      λ gaps.
          ap (λ n. all_set gaps (max p.width n) (Some p ∷ without_repeats true starts)) (sym (greatest_kept starts))
          ∙ h.0 (slice_set gaps p.token (1 + (max p.width (greatest (widths_of starts)) - p.width))) (max p.width (greatest (widths_of starts))),
    )

pub starts_set : (cell : Cell) (ns : List ℕ) (ps : List Pair) (first : ℕ) (starts : List (Option CellStart)) (new : List ℕ) (a : AreStarts cell ns ps first starts)
    → new ≡ set_cell_gaps ns (tokens_in starts) (cell_gaps_from_width (greatest (widths_of starts)) (widths_of starts))
    → new ≡ set_cell_gaps ns (tokens_in a.all) (cell_gaps_from_width (greatest (widths_of a.all)) (widths_of a.all))
starts_set cell ns ps first starts new a is =
    is ∙ ap (λ (ss : List (Option CellStart)). all_set ns (greatest (widths_of ss)) ss) a.kept ∙ (set_both a.all).1 ns
