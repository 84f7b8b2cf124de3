-- Where the spans of a text begin, and those without a cell that are passed at once. For speed alone.
use Rattle.std.proofs.Common.{◌≡◌, ℕ, zero, suc, ◌+◌, ◌-◌, ◌<◌, ◌≤◌, Bool, true, false, List, [], ◌∷◌, ◌++◌, length, drop, get_or, Option, Some, None, refl, sym, ap, subst, ◌∙◌, arith, inl, inr}
use Rattle.std.specs.Prelude.{slice_get}
use Rattle.std.specs.Option.{option_map, IfSome}
use Rattle.hcl_layout.specs.Gaps.Cells.{width_before}
use Rattle.std.proofs.lemmas.Bool.{cases_eq}
use Rattle.std.proofs.lemmas.List.{append-nil}
use Rattle.hcl_token.specs.Tokens.{Pair}
use Rattle.hcl_layout.specs.Gaps.Inner.CodeViews.{can_have_cell, cell_of, width_in, token_in, is_cell, without_repeats, line_start, is_start_frozen, LackCell, CanHaveCell, IsLine, AreStarts}
use Rattle.hcl_layout.specs.Gaps.Inner.LineSpans.{HasNoCell, HaveNoCell, IsSpan, AreSpans}
use Rattle.hcl_layout.specs.declared.gaps.cells.Cell.{Cell}
use Rattle.hcl_layout.specs.declared.gaps.cells.CellStart.{CellStart}
use Rattle.hcl_layout.specs.declared.gaps.lines.LineSpan.{LineSpan}
use Rattle.hcl_layout.proofs.GapsLemmas.LineSpans.{no_span, span_at, no_span_left}
use Rattle.hcl_layout.proofs.GapsLemmas.CellCode.{gapped_line, no_start}
use Rattle.hcl_layout.proofs.GapsLemmas.Repeats.{KeptSoFar, kept_step, kept_end}

-- ---- where spans begin

start_after : (at : ℕ) (spans : List LineSpan) (i : ℕ) → i < length spans → line_start at spans (suc i) ≡ (get_or spans i no_span).past
start_after at [] i h = absurd (omega (arith, h))
start_after at (line ∷ []) zero h = refl
start_after at (line ∷ next ∷ spans) zero h = refl
start_after at (line ∷ spans) (suc i) h = start_after line.past spans i (omega (arith, h))

frozen_after : (frozen : Bool) (spans : List LineSpan) (i : ℕ) → i < length spans → is_start_frozen frozen spans (suc i) ≡ (get_or spans i no_span).next_frozen
frozen_after frozen [] i h = absurd (omega (arith, h))
frozen_after frozen (line ∷ []) zero h = refl
frozen_after frozen (line ∷ next ∷ spans) zero h = refl
frozen_after frozen (line ∷ spans) (suc i) h = frozen_after line.next_frozen spans i (omega (arith, h))

pub start_is : (at : ℕ) (spans : List LineSpan) (i : ℕ) → 0 < i → i ≤ length spans → line_start at spans i ≡ (get_or spans (i - 1) no_span).past
start_is at spans i more within =
    let e : i ≡ suc (i - 1) = omega arith in
    ap (line_start at spans) e ∙ start_after at spans (i - 1) (omega (arith, more, within))

pub frozen_is : (frozen : Bool) (spans : List LineSpan) (i : ℕ) → 0 < i → i ≤ length spans → is_start_frozen frozen spans i ≡ (get_or spans (i - 1) no_span).next_frozen
frozen_is frozen spans i more within =
    let e : i ≡ suc (i - 1) = omega arith in
    ap (is_start_frozen frozen spans) e ∙ frozen_after frozen spans (i - 1) (omega (arith, more, within))

start_zero : (at : ℕ) (spans : List LineSpan) → at ≡ line_start at spans zero
start_zero at [] = refl
start_zero at (line ∷ spans) = refl

frozen_zero : (frozen : Bool) (spans : List LineSpan) → frozen ≡ is_start_frozen frozen spans zero
frozen_zero frozen [] = refl
frozen_zero frozen (line ∷ spans) = refl

pub start_first : (at : ℕ) (spans : List LineSpan) (i : ℕ) → i ≡ 0 → at ≡ line_start at spans i
start_first at spans i none = start_zero at spans ∙ ap (line_start at spans) (sym none)

pub frozen_first : (frozen : Bool) (spans : List LineSpan) (i : ℕ) → i ≡ 0 → frozen ≡ is_start_frozen frozen spans i
frozen_first frozen spans i none = frozen_zero frozen spans ∙ ap (is_start_frozen frozen spans) (sym none)

pub spans_there : (ps : List Pair) (at : ℕ) (frozen : Bool) (spans : List LineSpan) (i : ℕ) → i ≤ length spans → AreSpans ps at frozen spans
    → AreSpans ps (line_start at spans i) (is_start_frozen frozen spans i) (drop i spans)
spans_there ps at frozen [] zero h are = are
spans_there ps at frozen [] (suc i) h are = absurd (omega (arith, h))
spans_there ps at frozen (line ∷ spans) zero h are = are
spans_there ps at frozen (line ∷ spans) (suc i) h are = spans_there ps line.past line.next_frozen spans i (omega (arith, h)) are.1

-- ---- spans that lack a cell

got : (spans : List LineSpan) (i : ℕ) → i < length spans → Some (get_or spans i no_span) ≡ slice_get spans i
got [] i h = absurd (omega (arith, h))
got (line ∷ spans) zero h = refl
got (line ∷ spans) (suc i) h = got spans i (omega (arith, h))

pub lack_more : (cell : Cell) (spans : List LineSpan) (from i : ℕ) → i < length spans → can_have_cell cell (get_or spans i no_span) ≡ false → LackCell cell spans from i → LackCell cell spans from (i + 1)
lack_more cell spans from i inside lacks before = λ k line later less is. elim (cases_eq k i) [
  | inl same ↦
      let both : Some line ≡ Some (get_or spans i no_span) = is ∙ ap (slice_get spans) same ∙ sym (got spans i inside) in
      let e : line ≡ get_or spans i no_span = cc in
      ap (can_have_cell cell) e ∙ lacks
  | inr other ↦ before k line later (omega arith) is
]

pub can_have : (cell : Cell) (spans : List LineSpan) (i : ℕ) → i < length spans → can_have_cell cell (get_or spans i no_span) ≡ true → CanHaveCell cell spans i
can_have cell spans i inside can = λ line is.
    let both : Some line ≡ Some (get_or spans i no_span) = is ∙ sym (got spans i inside) in
    let e : line ≡ get_or spans i no_span = cc in
    ap (can_have_cell cell) e ∙ can

-- where span `next` is the first from i on that can have one
pub can_here : (cell : Cell) (spans : List LineSpan) (i next : ℕ) → i ≤ next → next ≤ i → i < length spans → (next < length spans → CanHaveCell cell spans next) → CanHaveCell cell spans i
can_here cell spans i next later not_later inside found =
    let same : next ≡ i = omega arith in
    subst (CanHaveCell cell spans) same (found (omega (arith, inside)))

none_kept : (starts : List (Option CellStart)) → starts ≡ starts ++ without_repeats false (None ∷ [])
none_kept starts = sym (append-nil starts)

module _ (cell : Cell) (ns : List ℕ) (ps : List Pair) (first : ℕ) (spans : List LineSpan) (size : length ns ≡ length ps) (are : AreSpans ps first false spans) where
  abbrev KeptAt : ℕ → Bool → List (Option CellStart) → Type 0
  KeptAt i in_run starts = KeptSoFar cell ns ps first (line_start first spans i) (is_start_frozen false spans i) in_run starts

  is_span : (i at : ℕ) (f : Bool) → at ≡ line_start first spans i → f ≡ is_start_frozen false spans i → i < length spans → IsSpan ps at f (get_or spans i no_span)
  is_span i at f at_is f_is inside =
      let span = get_or spans i no_span in
      let there = (span_at ps (line_start first spans i) (is_start_frozen false spans i) spans i inside (spans_there ps first false spans i (omega (arith, inside)) are)).0 in
      subst (λ a. IsSpan ps a f span) (sym at_is) (subst (λ b. IsSpan ps (line_start first spans i) b span) (sym f_is) there)

  -- a span that can have a cell
  pub is_line : (i at : ℕ) (f : Bool) → at ≡ line_start first spans i → f ≡ is_start_frozen false spans i → i < length spans → CanHaveCell cell spans i → IsLine ps at f (get_or spans i no_span)
  is_line i at f at_is f_is inside can = (is_span i at f at_is f_is inside).line cell (can (get_or spans i no_span) (got spans i inside))

  pub kept_here : (i at : ℕ) (f in_run : Bool) (starts : List (Option CellStart)) → at ≡ line_start first spans i → f ≡ is_start_frozen false spans i → KeptAt i in_run starts → KeptSoFar cell ns ps first at f in_run starts
  kept_here i at f in_run starts at_is f_is kept =
      subst (λ a. KeptSoFar cell ns ps first a f in_run starts) (sym at_is) (subst (λ b. KeptSoFar cell ns ps first (line_start first spans i) b in_run starts) (sym f_is) kept)

  -- after span i
  past_span : (i to : ℕ) (now : Bool) (more : List (Option CellStart)) → to ≡ i + 1 → i < length spans
      → KeptSoFar cell ns ps first (get_or spans i no_span).past (get_or spans i no_span).next_frozen now more → KeptAt to now more
  past_span i to now more to_is inside past =
      let span = get_or spans i no_span in
      let e : suc i ≡ to = omega (arith, to_is) in
      subst (λ k. KeptAt k now more) e
      (subst (λ a. KeptSoFar cell ns ps first a (is_start_frozen false spans (suc i)) now more) (sym (start_after first spans i inside))
      (subst (λ b. KeptSoFar cell ns ps first span.past b now more) (sym (frozen_after false spans i inside)) past))

  -- after one line
  pub kept_one : (i to at : ℕ) (f in_run now : Bool) (starts more : List (Option CellStart)) (p : Option CellStart) → at ≡ line_start first spans i → f ≡ is_start_frozen false spans i
      → to ≡ i + 1 → i < length spans → CanHaveCell cell spans i → more ≡ starts ++ without_repeats in_run (p ∷ []) → now ≡ is_cell p
      → width_in p ≡ width_before (cell_of cell) (gapped_line ns ps at (get_or spans i no_span).past f)
      → token_in p ≡ option_map (λ n. at + n) (cell_of cell (gapped_line ns ps at (get_or spans i no_span).past f))
      → IfSome p (λ q. q.token < length ps) → KeptAt i in_run starts → KeptAt to now more
  kept_one i to at f in_run now starts more p at_is f_is to_is inside can more_is now_is w_is t_is p_inside kept =
      let line = get_or spans i no_span in
      past_span i to now more to_is inside
      (kept_step cell ns ps first at f in_run starts more line.past line.next_frozen now p size (is_line i at f at_is f_is inside can).split (kept_here i at f in_run starts at_is f_is kept) more_is now_is w_is t_is p_inside)

  -- after lines without a cell, one after another
  kept_none : (at : ℕ) (f : Bool) (past : ℕ) (next in_run : Bool) (starts more : List (Option CellStart)) → HasNoCell cell ps at f past next → more ≡ starts ++ without_repeats in_run (None ∷ [])
      → KeptSoFar cell ns ps first at f in_run starts → KeptSoFar cell ns ps first past next false more
  kept_none at f past next in_run starts more h more_is kept =
      let none = no_start cell ns ps at past f size (sym (ap (option_map (λ n. at + n)) h.none)) in
      kept_step cell ns ps first at f in_run starts more past next false None size h.split kept more_is refl none.0 none.1 tt

  kept_chain : (n at : ℕ) (f : Bool) (past : ℕ) (next in_run : Bool) (starts more : List (Option CellStart)) → HaveNoCell cell n ps at f past next → more ≡ starts ++ without_repeats in_run (None ∷ [])
      → KeptSoFar cell ns ps first at f in_run starts → KeptSoFar cell ns ps first past next false more
  kept_chain zero at f past next in_run starts more h more_is kept = kept_none at f past next in_run starts more h more_is kept
  kept_chain (suc n) at f past next in_run starts more (to, g, rest, last) more_is kept =
      kept_none to g past next false more more last (none_kept more) (kept_chain n at f to g in_run starts more rest more_is kept)

  -- after a span without a cell
  kept_lacking : (i to : ℕ) (in_run : Bool) (starts more : List (Option CellStart)) → to ≡ i + 1 → i < length spans → can_have_cell cell (get_or spans i no_span) ≡ false → more ≡ starts ++ without_repeats in_run (None ∷ [])
      → KeptAt i in_run starts → KeptAt to false more
  kept_lacking i to in_run starts more to_is inside lacks more_is kept =
      let span = get_or spans i no_span in
      let (n, without) = (is_span i (line_start first spans i) (is_start_frozen false spans i) refl refl inside).lacks cell lacks in
      past_span i to false more to_is inside
      (kept_chain n (line_start first spans i) (is_start_frozen false spans i) span.past span.next_frozen in_run starts more without more_is kept)

  -- after spans that lack a cell, after one without
  kept_out : (n i to : ℕ) (starts : List (Option CellStart)) → to ≡ i + n → to ≤ length spans → LackCell cell spans i to → KeptAt i false starts → KeptAt to false starts
  kept_out zero i to starts e within lack kept = let same : i ≡ to = omega (arith, e) in subst (λ k. KeptAt k false starts) same kept
  kept_out (suc n) i to starts e within lack kept =
      let inside : i < length spans = omega (arith, e, within) in
      let lacks = lack i (get_or spans i no_span) (omega arith) (omega (arith, e)) (got spans i inside) in
      kept_out n (i + 1) to starts (omega (arith, e)) within (λ k line later before is. lack k line (omega (arith, later)) before is)
      (kept_lacking i (i + 1) false starts starts refl inside lacks (none_kept starts) kept)

  -- after any line
  pub kept_passed : (i to : ℕ) (in_run : Bool) (starts more : List (Option CellStart)) → i < to → to ≤ length spans → LackCell cell spans i to → more ≡ starts ++ without_repeats in_run (None ∷ [])
      → KeptAt i in_run starts → KeptAt to false more
  kept_passed i to in_run starts more before within lack more_is kept =
      let inside : i < length spans = omega (arith, before, within) in
      let lacks = lack i (get_or spans i no_span) (omega arith) before (got spans i inside) in
      kept_out (to - (i + 1)) (i + 1) to more (omega (arith, before)) within (λ k line later less is. lack k line (omega (arith, later)) less is)
      (kept_lacking i (i + 1) in_run starts more refl inside lacks more_is kept)

  pub kept_same : (i to : ℕ) (in_run now : Bool) (starts more : List (Option CellStart)) → i ≡ to → in_run ≡ now → starts ≡ more → KeptAt to now more → KeptAt i in_run starts
  kept_same i to in_run now starts more i_is in_run_is starts_is kept =
      subst (λ k. KeptAt k in_run starts) (sym i_is) (subst (λ b. KeptAt to b starts) (sym in_run_is) (subst (KeptAt to now) (sym starts_is) kept))

  -- after the last
  pub kept_all : (i : ℕ) (in_run : Bool) (starts : List (Option CellStart)) → length spans ≤ i → i ≤ length spans → KeptAt i in_run starts → AreStarts cell ns ps first starts
  kept_all i in_run starts past within kept =
      let end = no_span_left ps (line_start first spans i) (is_start_frozen false spans i) spans i past (spans_there ps first false spans i within are) in
      kept_end cell ns ps first (line_start first spans i) (is_start_frozen false spans i) in_run starts size (omega (arith, end)) kept
