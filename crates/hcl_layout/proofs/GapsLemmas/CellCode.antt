-- Looking for cells, token by token.
use Rattle.std.proofs.lemmas.List.Sums.{sum_by-append}
use Rattle.std.proofs.lemmas.Bool.Decides.{nat_tests}
use Rattle.hcl_token.specs.Kinds.{is_line_comment, is_opening, is_closing}
use Rattle.hcl_layout.specs.Gaps.Indent.{openings, closings}
use Rattle.std.proofs.Common.{cond, ◌==◌, ◌≡◌, ℕ, zero, suc, ◌+◌, ◌-◌, ◌<◌, ◌≤◌, Bool, true, false, not, ◌&&◌, ◌||◌, List, [], ◌∷◌, length, take, drop, slice_range, Some, None, Option, if◌then◌else◌, refl, sym, ap, ap₂, subst, ◌∙◌, arith}
use Rattle.std.specs.Prelude.{slice_get, slice_set}
use Rattle.std.proofs.lemmas.Option.{slice_get_cases}
use Rattle.std.specs.Option.{option_map}
use Rattle.std.specs.List.{list_any}
use Rattle.hcl_layout.proofs.GapsLemmas.CellLaw.{aligned_is}
use Rattle.hcl_layout.proofs.GapsLemmas.GapLaw.{pairs_of_lines}
use Rattle.std.proofs.Common.{take_at, drop_at, inl, inr, length-take, map, ◌++◌, append_assoc}
use Rattle.std.specs.Option.{IfSome}
use Rattle.std.proofs.lemmas.Bool.{cases_lt}
use Rattle.std.proofs.lemmas.List.{take-append-drop, drop_more, append-nil, length-take-le, length-drop, drop_all, drop-drop, drop-take, take-take}
use Rattle.hcl_token.specs.declared.kind.Kind.{Kind}
use Rattle.hcl_token.specs.Tokens.{Pair}
use Rattle.hcl_token.specs.Place.{is_lf}
use Rattle.hcl_token.specs.TokenizedText.{kind_of, spelling_of}
use Rattle.hcl_layout.specs.Gaps.Kinds.{is_inline_comment, is_equal}
use Rattle.hcl_layout.specs.Gaps.Lines.{Line, pairs_in}
use Rattle.hcl_layout.specs.Gaps.Cells.{index_of_first, index_after_first, has_cells, is_balanced}
use Rattle.hcl_layout.specs.Gaps.Inner.CodeViews.{starts_cell, cell_of, is_valid_cell, width_in, token_in, widths_of, tokens_in, can_have_cell, are_some, HasFlags, AreInside}
use Rattle.hcl_layout.specs.declared.gaps.lines.LineSpan.{LineSpan}
use Rattle.hcl_layout.specs.declared.gaps.cells.CellStart.{CellStart}
use Rattle.hcl_layout.specs.declared.gaps.cells.Cell.{Cell}
use Rattle.hcl_layout.specs.declared.gaps.cells.Cell.TheVariants.{Assignment, ClosingComment}
use Rattle.hcl_layout.specs.Gaps.Cells.{width, width_before, aligned}
use Rattle.hcl_layout.specs.Gaps.Inner.Stages.{widths, greatest, lines_from, set_cell_gaps, cell_gaps_from_width, with_gaps, AreAtMost, SplitsLine, open_heredocs_of, cell_tokens, MAX_WIDTH}
use Rattle.hcl_layout.proofs.GapsLemmas.TokensKept.{SameTokens}
use Rattle.hcl_layout.proofs.GapsLemmas.CellGaps.{AreInLines, AreSmall, moved_gaps, greatest_within, within_drop, gaps_same, gaps_length, splits_same, same_range, assignment_same, comment_same}
use Rattle.hcl_layout.proofs.GapsLemmas.LineLemmas.{token_here, kind_is, spelling_is, range_split}
use Rattle.hcl_layout.proofs.GapsLemmas.LineFlagLemmas.{none_later, quiet_comments}

none_left : (pairs : List Pair) (i past : ℕ) → past ≤ i → slice_range pairs i past ≡ []
none_left pairs i past h = let none : past - i ≡ 0 = omega arith in ap (λ n. take n (drop i pairs)) none

-- ---- comments that break a line

abbrev breaks_here : Pair → Bool
breaks_here p = is_inline_comment p.kind && list_any is_lf p.spelling

pub breaks_from : List Pair → ℕ → ℕ → Bool
breaks_from pairs i past = list_any breaks_here (slice_range pairs i past)

pub breaks_is : (pairs : List Pair) (i past : ℕ) → breaks_from pairs i past ≡ list_any (λ (p : Pair). is_inline_comment p.kind && list_any is_lf p.spelling) (slice_range pairs i past)
unfolding breaks_from
breaks_is pairs i past = refl

breaks_if : (p : Pair) (ps : List Pair) (c : Bool) → breaks_here p ≡ c → list_any breaks_here (p ∷ ps) ≡ (if c then true else list_any breaks_here ps)
breaks_if p ps true e = rw e refl
breaks_if p ps false e = rw e refl

breaks_step : (pairs : List Pair) (i past : ℕ) (b : Bool) → i < past → past ≤ length pairs
    → Some b ≡ option_map (λ (p : Pair). is_inline_comment p.kind && list_any is_lf p.spelling) (slice_get pairs i) → breaks_from pairs i past ≡ (if b then true else breaks_from pairs (i + 1) past)
unfolding breaks_from
breaks_step pairs i past b less within is =
    let t = token_here pairs i past less within in
    let same : breaks_here t.pair ≡ b = let e = is ∙ ap (option_map breaks_here) t.at in cc in
    ap (list_any breaks_here) t.range ∙ breaks_if t.pair (slice_range pairs (i + 1) past) b same

pub breaks_next : (pairs : List Pair) (i past : ℕ) (b : Bool) → i < past → past ≤ length pairs
    → Some b ≡ option_map (λ (p : Pair). is_inline_comment p.kind && list_any is_lf p.spelling) (slice_get pairs i) → b ≡ false → breaks_from pairs i past ≡ breaks_from pairs (i + 1) past
breaks_next pairs i past b less within is test = breaks_step pairs i past b less within is ∙ ap (λ c. if c then true else breaks_from pairs (i + 1) past) test

pub breaks_found : (pairs : List Pair) (i past : ℕ) (b : Bool) → i < past → past ≤ length pairs
    → Some b ≡ option_map (λ (p : Pair). is_inline_comment p.kind && list_any is_lf p.spelling) (slice_get pairs i) → b ≡ true → breaks_from pairs i past ≡ true
breaks_found pairs i past b less within is test = breaks_step pairs i past b less within is ∙ ap (λ c. if c then true else breaks_from pairs (i + 1) past) test

-- one token
pub commented : (pairs : List Pair) (i : ℕ) (k : Kind) (s : List ℕ) (b : Bool) → i < length pairs → Some k ≡ kind_of pairs i → Some s ≡ spelling_of pairs i → is_inline_comment k ≡ true → b ≡ list_any is_lf s
    → Some b ≡ option_map (λ (p : Pair). is_inline_comment p.kind && list_any is_lf p.spelling) (slice_get pairs i)
commented pairs i k s b inside k_is s_is test b_is =
    let t = token_here pairs i (length pairs) inside (omega arith) in
    let here : breaks_here t.pair ≡ b =
    ap₂ (λ x y. is_inline_comment x && list_any is_lf y) (sym (kind_is pairs i (length pairs) k t k_is)) (sym (spelling_is pairs i (length pairs) s t s_is))
    ∙ ap (λ c. c && list_any is_lf s) test ∙ sym b_is in
    sym (ap (option_map breaks_here) t.at ∙ ap Some here)

pub uncommented : (pairs : List Pair) (i : ℕ) (k : Kind) → i < length pairs → Some k ≡ kind_of pairs i → is_inline_comment k ≡ false
    → Some false ≡ option_map (λ (p : Pair). is_inline_comment p.kind && list_any is_lf p.spelling) (slice_get pairs i)
uncommented pairs i k inside k_is test =
    let t = token_here pairs i (length pairs) inside (omega arith) in
    let here : breaks_here t.pair ≡ false =
    ap (λ x. is_inline_comment x && list_any is_lf t.pair.spelling) (sym (kind_is pairs i (length pairs) k t k_is)) ∙ ap (λ c. c && list_any is_lf t.pair.spelling) test in
    sym (ap (option_map breaks_here) t.at ∙ ap Some here)

pub breaks_none : (pairs : List Pair) (i past : ℕ) → past ≤ i → breaks_from pairs i past ≡ false
unfolding breaks_from
breaks_none pairs i past h = ap (list_any breaks_here) (none_left pairs i past h)

-- ---- where a cell begins

abbrev shift : ℕ → Option ℕ → Option ℕ
shift i None = None
shift i (Some n) = Some (i + n)

shift_is : (i : ℕ) (o : Option ℕ) → shift i o ≡ option_map (λ n. i + n) o
shift_is i None = refl
shift_is i (Some n) = refl

shift_suc : (i m : ℕ) (o : Option ℕ) → m ≡ i + 1 → shift i (option_map suc o) ≡ shift m o
shift_suc i m None e = refl
shift_suc i m (Some n) e = ap Some (omega arith)

pub found_from : Cell → List Pair → ℕ → ℕ → Option ℕ
found_from cell pairs i past = shift i (index_of_first (λ (p : Pair). starts_cell cell p.kind) (slice_range pairs i past))

first_if : (test : Pair → Bool) (p : Pair) (ps : List Pair) (b : Bool) → test p ≡ b → index_of_first test (p ∷ ps) ≡ (if b then Some 0 else option_map suc (index_of_first test ps))
first_if test p ps true e = rw e refl
first_if test p ps false e = rw e refl

pub found_from_next : (cell : Cell) (pairs : List Pair) (i past : ℕ) (k : Kind) → i < past → past ≤ length pairs → Some k ≡ kind_of pairs i → starts_cell cell k ≡ false → found_from cell pairs i past ≡ found_from cell pairs (i + 1) past
unfolding found_from
found_from_next cell pairs i past k less within is test =
    let t = token_here pairs i past less within in
    let miss : starts_cell cell t.pair.kind ≡ false = ap (starts_cell cell) (sym (kind_is pairs i past k t is)) ∙ test in
    ap (λ ps. shift i (index_of_first (λ (p : Pair). starts_cell cell p.kind) ps)) t.range
    ∙ ap (shift i) (first_if (λ (p : Pair). starts_cell cell p.kind) t.pair (slice_range pairs (i + 1) past) false miss)
    ∙ shift_suc i (i + 1) (index_of_first (λ (p : Pair). starts_cell cell p.kind) (slice_range pairs (i + 1) past)) refl

pub found_here : (cell : Cell) (pairs : List Pair) (i past : ℕ) (k : Kind) → i < past → past ≤ length pairs → Some k ≡ kind_of pairs i → starts_cell cell k ≡ true → found_from cell pairs i past ≡ Some i
unfolding found_from
found_here cell pairs i past k less within is test =
    let t = token_here pairs i past less within in
    let hit : starts_cell cell t.pair.kind ≡ true = ap (starts_cell cell) (sym (kind_is pairs i past k t is)) ∙ test in
    let zero_more : i + 0 ≡ i = omega arith in
    ap (λ ps. shift i (index_of_first (λ (p : Pair). starts_cell cell p.kind) ps)) t.range
    ∙ ap (shift i) (first_if (λ (p : Pair). starts_cell cell p.kind) t.pair (slice_range pairs (i + 1) past) true hit)
    ∙ ap Some zero_more

pub found_none : (cell : Cell) (pairs : List Pair) (i past : ℕ) → past ≤ i → found_from cell pairs i past ≡ None
unfolding found_from
found_none cell pairs i past h = ap (λ ps. shift i (index_of_first (λ (p : Pair). starts_cell cell p.kind) ps)) (none_left pairs i past h)

pub found_begins : (cell : Cell) (pairs : List Pair) (at past m : ℕ) → at < past → past ≤ length pairs → m ≡ at + 1
    → found_from cell pairs m past ≡ option_map (λ n. at + n) (index_after_first (λ (p : Pair). starts_cell cell p.kind) (slice_range pairs at past))
unfolding found_from
found_begins cell pairs at past m less within e =
    let t = token_here pairs at past less within in
    let rest : Option ℕ = index_of_first (λ (p : Pair). starts_cell cell p.kind) (slice_range pairs (at + 1) past) in
    ap (λ x. shift x (index_of_first (λ (p : Pair). starts_cell cell p.kind) (slice_range pairs x past))) e
    ∙ sym (shift_suc at (at + 1) rest refl)
    ∙ shift_is at (option_map suc rest)
    ∙ ap (λ ps. option_map (λ n. at + n) (index_after_first (λ (p : Pair). starts_cell cell p.kind) ps)) (sym t.range)

-- ---- what a cell opens and closes

same_sum : (n x y : ℕ) → (n + x == n + y) ≡ (x == y)
same_sum n x y = grind (arith, nat_tests)

-- after tokens that close what they open, it is balanced if the line is
pub balanced_after : (pairs : List Pair) (at i past opened closed : ℕ) (line : Bool) → at ≤ i → i ≤ past → opened ≡ openings (slice_range pairs at i) → closed ≡ closings (slice_range pairs at i) → opened ≡ closed
    → line ≡ is_balanced (slice_range pairs at past) → line ≡ is_balanced (slice_range pairs i past)
balanced_after pairs at i past opened closed line later less opened_is closed_is same line_is =
    let leading : List Pair = slice_range pairs at i in
    let rest : List Pair = slice_range pairs i past in
    let whole = range_split pairs at i past later less in
    let opens : openings (slice_range pairs at past) ≡ openings leading + openings rest = ap openings whole ∙ sum_by-append (λ (p : Pair). cond (is_opening p.kind) 1 0) leading rest in
    let closes : closings (slice_range pairs at past) ≡ closings leading + closings rest = ap closings whole ∙ sum_by-append (λ (p : Pair). cond (is_closing p.kind) 1 0) leading rest in
    let even : closings (slice_range pairs at past) ≡ openings leading + closings rest = omega (arith, closes, opened_is, closed_is, same) in
    line_is ∙ ap₂ (λ x y. x == y) opens even ∙ same_sum (openings leading) (openings rest) (closings rest)

-- ---- the cell of a line

abbrev pub broken : List Pair → Bool
broken ps = list_any (λ (p : Pair). is_inline_comment p.kind && list_any is_lf p.spelling) ps

has_cells_if : (frozen b : Bool) (ps : List Pair) → b ≡ broken ps → has_cells (record { frozen = frozen; pairs = ps }) ≡ not (frozen || b)
has_cells_if true b ps e = refl
has_cells_if false b ps e = ap not (sym e)

pub blocked : (cell : Cell) (frozen b : Bool) (ps : List Pair) → b ≡ broken ps → (frozen || b) ≡ true → cell_of cell (record { frozen = frozen; pairs = ps }) ≡ None
blocked Assignment frozen b ps e h = let none : has_cells (record { frozen = frozen; pairs = ps }) ≡ false = has_cells_if frozen b ps e ∙ ap not h in rw none refl
blocked ClosingComment frozen b ps e h = let none : has_cells (record { frozen = frozen; pairs = ps }) ≡ false = has_cells_if frozen b ps e ∙ ap not h in rw none refl

abbrev pub if_counts : Cell → List Pair → Option ℕ → Option ℕ
if_counts cell ps None = None
if_counts cell ps (Some n) = if is_valid_cell cell (drop n ps) then Some n else None

comment_counts : (ps : List Pair) (o : Option ℕ) → o ≡ if_counts ClosingComment ps o
comment_counts ps None = refl
comment_counts ps (Some n) = refl

equals_counts : (ps : List Pair) (o : Option ℕ) → (elim o [ None ↦ None | Some n ↦ if is_balanced (drop n ps) then Some n else None ]) ≡ if_counts Assignment ps o
equals_counts ps None = refl
equals_counts ps (Some n) = refl

pub free : (cell : Cell) (frozen b : Bool) (ps : List Pair) → b ≡ broken ps → (frozen || b) ≡ false
    → cell_of cell (record { frozen = frozen; pairs = ps }) ≡ if_counts cell ps (index_after_first (λ (p : Pair). starts_cell cell p.kind) ps)
free Assignment frozen b ps e h =
    let some : has_cells (record { frozen = frozen; pairs = ps }) ≡ true = has_cells_if frozen b ps e ∙ ap not h in
    rw some (equals_counts ps (index_after_first (λ (p : Pair). is_equal p.kind) ps))
free ClosingComment frozen b ps e h =
    let some : has_cells (record { frozen = frozen; pairs = ps }) ≡ true = has_cells_if frozen b ps e ∙ ap not h in
    rw some (comment_counts ps (index_after_first (λ (p : Pair). is_line_comment p.kind) ps))

back : (pairs : List Pair) (at past n : ℕ) → drop n (slice_range pairs at past) ≡ slice_range pairs (at + n) past
back pairs at past n = elim (cases_lt (past - at) n) [
  | inl over ↦
      let none : past - (at + n) ≡ 0 = omega arith in
      let short : length (slice_range pairs at past) ≤ n = omega (arith, length-take (past - at) (drop at pairs)) in
      drop_all n (slice_range pairs at past) short ∙ sym (ap (λ k. take k (drop (at + n) pairs)) none)
  | inr inside ↦
      let parts : past - at ≡ n + (past - (at + n)) = omega arith in
      ap (λ k. drop n (take k (drop at pairs))) parts ∙ drop-take n (past - (at + n)) (drop at pairs) ∙ ap (take (past - (at + n))) (drop-drop n at pairs)
]

-- what is answered where a cell is found
pub counted_cell : (cell : Cell) (pairs : List Pair) (at past : ℕ) (frozen b : Bool) (i : ℕ) → b ≡ broken (slice_range pairs at past) → (frozen || b) ≡ false
    → Some i ≡ option_map (λ n. at + n) (index_after_first (λ (p : Pair). starts_cell cell p.kind) (slice_range pairs at past))
    → (if is_valid_cell cell (slice_range pairs i past) then Some i else None) ≡ option_map (λ n. at + n) (cell_of cell (record { frozen = frozen; pairs = slice_range pairs at past }))
counted_cell cell pairs at past frozen b i e h found =
    at_found (index_after_first (λ (p : Pair). starts_cell cell p.kind) (slice_range pairs at past)) found ∙ ap (option_map (λ n. at + n)) (sym (free cell frozen b (slice_range pairs at past) e h))
  where
    at_found : (o : Option ℕ) → Some i ≡ option_map (λ n. at + n) o → (if is_valid_cell cell (slice_range pairs i past) then Some i else None) ≡ option_map (λ n. at + n) (if_counts cell (slice_range pairs at past) o)
    at_found None k = absurd (cc)
    at_found (Some n) k =
        let i_is : i ≡ at + n = cc in
        rw (i_is, back pairs at past n) (either (is_valid_cell cell (slice_range pairs (at + n) past)) n)
      where
        either : (c : Bool) (n : ℕ) → (if c then Some (at + n) else None) ≡ option_map (λ m. at + m) (if c then Some n else None)
        either true n = refl
        either false n = refl

pub no_cell : (cell : Cell) (pairs : List Pair) (at past : ℕ) (frozen b : Bool) → b ≡ broken (slice_range pairs at past) → (frozen || b) ≡ false
    → None ≡ option_map (λ n. at + n) (index_after_first (λ (p : Pair). starts_cell cell p.kind) (slice_range pairs at past))
    → None ≡ option_map (λ n. at + n) (cell_of cell (record { frozen = frozen; pairs = slice_range pairs at past }))
no_cell cell pairs at past frozen b e h found =
    at_none (index_after_first (λ (p : Pair). starts_cell cell p.kind) (slice_range pairs at past)) found ∙ ap (option_map (λ n. at + n)) (sym (free cell frozen b (slice_range pairs at past) e h))
  where
    at_none : (o : Option ℕ) → None ≡ option_map (λ n. at + n) o → None ≡ option_map (λ n. at + n) (if_counts cell (slice_range pairs at past) o)
    at_none None k = refl
    at_none (Some n) k = absurd (cc)

-- the line is frozen, or a comment breaks it
pub frozen_none : (cell : Cell) (pairs : List Pair) (at past : ℕ) (frozen : Bool) → frozen ≡ true
    → None ≡ option_map (λ n. at + n) (cell_of cell (record { frozen = frozen; pairs = slice_range pairs at past }))
frozen_none cell pairs at past frozen h =
    let ps = slice_range pairs at past in
    sym (ap (option_map (λ n. at + n)) (blocked cell frozen (broken ps) ps refl (ap (λ f. f || broken ps) h)))

pub broken_none : (cell : Cell) (pairs : List Pair) (at past : ℕ) (frozen b : Bool) → b ≡ broken (slice_range pairs at past) → frozen ≡ false → b ≡ true
    → None ≡ option_map (λ n. at + n) (cell_of cell (record { frozen = frozen; pairs = slice_range pairs at past }))
broken_none cell pairs at past frozen b e f h =
    sym (ap (option_map (λ n. at + n)) (blocked cell frozen b (slice_range pairs at past) e (ap₂ (λ x y. x || y) f h)))

pub none_begins : (cell : Cell) (pairs : List Pair) (at : ℕ) (line : LineSpan) → HasFlags pairs at line → can_have_cell cell line ≡ false → are_some (starts_cell cell) (slice_range pairs at line.past) ≡ false
none_begins Assignment pairs at line m h = sym m.has_equals ∙ h
none_begins ClosingComment pairs at line m h = quiet_comments (slice_range pairs at line.past) (sym m.has_comment ∙ h)

pub none_found : (cell : Cell) (pairs : List Pair) (at past : ℕ) (frozen b : Bool) → b ≡ broken (slice_range pairs at past) → frozen ≡ false
    → None ≡ option_map (λ n. at + n) (index_after_first (λ (p : Pair). starts_cell cell p.kind) (slice_range pairs at past))
    → None ≡ option_map (λ n. at + n) (cell_of cell (record { frozen = frozen; pairs = slice_range pairs at past }))
none_found cell pairs at past frozen true e f found = broken_none cell pairs at past frozen true e f refl
none_found cell pairs at past frozen false e f found = no_cell cell pairs at past frozen false e (ap (λ x. x || false) f) found

-- ---- where a cell begins

pub cell_gaps : (cell : Cell) (f : Bool) (ps qs : List Pair) → SameTokens ps qs → cell_of cell (record { frozen = f; pairs = ps }) ≡ cell_of cell (record { frozen = f; pairs = qs })
cell_gaps Assignment f ps qs h = assignment_same f ps qs h
cell_gaps ClosingComment f ps qs h = comment_same f ps qs h

-- the line from one token to another, with other gaps
abbrev pub gapped_line : List ℕ → List Pair → ℕ → ℕ → Bool → Line
gapped_line ns ps at past f = record { frozen = f; pairs = slice_range (with_gaps ns ps) at past }

abbrev pub plain_line : List Pair → ℕ → ℕ → Bool → Line
plain_line ps at past f = record { frozen = f; pairs = slice_range ps at past }

same_cell : (cell : Cell) (ns : List ℕ) (ps : List Pair) (at past : ℕ) (f : Bool) → length ns ≡ length ps → cell_of cell (plain_line ps at past f) ≡ cell_of cell (gapped_line ns ps at past f)
same_cell cell ns ps at past f size = sym (cell_gaps cell f (slice_range (with_gaps ns ps) at past) (slice_range ps at past) (same_range (with_gaps ns ps) ps at past (gaps_same ns ps size)))

found_none_is : (at : ℕ) (o : Option ℕ) → None ≡ option_map (λ n. at + n) o → o ≡ None
found_none_is at None h = refl
found_none_is at (Some n) h = absurd (cc)

pub no_start : (cell : Cell) (ns : List ℕ) (ps : List Pair) (at past : ℕ) (f : Bool) → length ns ≡ length ps → None ≡ option_map (λ n. at + n) (cell_of cell (plain_line ps at past f))
    → (None ≡ width_before (cell_of cell) (gapped_line ns ps at past f)) × (None ≡ option_map (λ n. at + n) (cell_of cell (gapped_line ns ps at past f)))
no_start cell ns ps at past f size h =
    let none : cell_of cell (gapped_line ns ps at past f) ≡ None = sym (same_cell cell ns ps at past f size) ∙ found_none_is at (cell_of cell (plain_line ps at past f)) h in
    (sym (ap (option_map (λ n. width (take n (slice_range (with_gaps ns ps) at past)))) none), sym (ap (option_map (λ n. at + n)) none))

-- a line that is frozen, or has no token that can begin one
pub lacks_cell : (cell : Cell) (ps : List Pair) (at : ℕ) (line : LineSpan) (f : Bool) → (f ≡ false → HasFlags ps at line) → can_have_cell cell line ≡ false
    → cell_of cell (plain_line ps at line.past f) ≡ None
lacks_cell cell ps at line true flags h = found_none_is at (cell_of cell (plain_line ps at line.past true)) (frozen_none cell ps at line.past true refl)
lacks_cell cell ps at line false flags h =
    let none = none_later (starts_cell cell) at (slice_range ps at line.past) (none_begins cell ps at line (flags refl) h) in
    found_none_is at (cell_of cell (plain_line ps at line.past false)) (none_found cell ps at line.past false (broken (slice_range ps at line.past)) refl refl none)

found_some_is : (at i : ℕ) (o : Option ℕ) → Some i ≡ option_map (λ n. at + n) o → at ≤ i → o ≡ Some (i - at)
found_some_is at i None h le = absurd (cc)
found_some_is at i (Some n) h le = let e : i ≡ at + n = cc in ap Some (omega arith)

pub some_start : (cell : Cell) (ns : List ℕ) (ps : List Pair) (at past : ℕ) (f : Bool) (i : ℕ) → length ns ≡ length ps → Some i ≡ option_map (λ n. at + n) (cell_of cell (plain_line ps at past f))
    → at < i → i < past
    → (Some (width (slice_range (with_gaps ns ps) at i)) ≡ width_before (cell_of cell) (gapped_line ns ps at past f)) × (Some i ≡ option_map (λ n. at + n) (cell_of cell (gapped_line ns ps at past f)))
some_start cell ns ps at past f i size h later inside =
    let found : cell_of cell (gapped_line ns ps at past f) ≡ Some (i - at) = sym (same_cell cell ns ps at past f size) ∙ found_some_is at i (cell_of cell (plain_line ps at past f)) h (omega arith) in
    let sum : at + (i - at) ≡ i = omega arith in
    let part : take (i - at) (slice_range (with_gaps ns ps) at past) ≡ slice_range (with_gaps ns ps) at i =
    take-take (i - at) (past - at) (drop at (with_gaps ns ps)) (omega arith) in (
      sym (ap (option_map (λ n. width (take n (slice_range (with_gaps ns ps) at past)))) found ∙ ap (λ qs. Some (width qs)) part),
      sym (ap (option_map (λ n. at + n)) found ∙ ap Some sum),
    )

pub start_in_bounds : (cell : Cell) (ns : List ℕ) (ps : List Pair) (at past : ℕ) (f : Bool) (i most : ℕ) → length ns ≡ length ps → Some i ≡ option_map (λ n. at + n) (cell_of cell (plain_line ps at past f))
    → at < i → i < past → AreAtMost most (width_before (cell_of cell) (gapped_line ns ps at past f) ∷ []) → width (slice_range (with_gaps ns ps) at i) ≤ most
start_in_bounds cell ns ps at past f i most size h later inside widths_bounded =
    let same = (some_start cell ns ps at past f i size h later inside).0 in
    (subst (λ o. AreAtMost most (o ∷ [])) (sym same) widths_bounded).0

-- ---- one line more

map_push : {X Y : Type 0} (f : X → Y) (xs : List X) (x : X) → map f (xs ++ x ∷ []) ≡ map f xs ++ f x ∷ []
map_push f [] x = refl
map_push f (y ∷ xs) x = ap (λ ys. f y ∷ ys) (map_push f xs x)

within_first : (most : ℕ) (w : Option ℕ) (ws : List (Option ℕ)) → AreAtMost most (w ∷ ws) → AreAtMost most (w ∷ []) × AreAtMost most ws
within_first most None ws h = (tt, h)
within_first most (Some w) ws h = ((h.0, tt), h.1)

inside_push : (count : ℕ) (starts : List (Option CellStart)) (p : Option CellStart) → AreInside count starts → AreInside count (p ∷ []) → AreInside count (starts ++ p ∷ [])
inside_push count [] p h k = k
inside_push count (None ∷ starts) p h k = inside_push count starts p h k
inside_push count (Some q ∷ starts) p h k = (h.0, inside_push count starts p h.1 k)

pub inside_one : (count : ℕ) (p : Option CellStart) → IfSome p (λ q. q.token < count) → AreInside count (p ∷ [])
inside_one count None h = tt
inside_one count (Some q) h = (h, tt)

-- the cells of the lines from token `at` on
pub record StartsSoFar (cell : Cell) (ns : List ℕ) (ps : List Pair) (first at : ℕ) (f : Bool) (starts : List (Option CellStart)) : Type 0 where
  pub sizes : widths_of starts ++ widths (cell_of cell) (lines_from (open_heredocs_of f) (drop at (with_gaps ns ps))) ≡ widths (cell_of cell) (lines_from 0 (drop first (with_gaps ns ps)))
  pub numbers : tokens_in starts ++ cell_tokens at (cell_of cell) (lines_from (open_heredocs_of f) (drop at (with_gaps ns ps))) ≡ cell_tokens first (cell_of cell) (lines_from 0 (drop first (with_gaps ns ps)))
  pub widths_bounded : AreAtMost MAX_WIDTH (widths (cell_of cell) (lines_from (open_heredocs_of f) (drop at (with_gaps ns ps))))
  pub inside : AreInside (length ps) starts

pub starts_bounded : (cell : Cell) (ns : List ℕ) (ps : List Pair) (first at : ℕ) (f : Bool) (starts : List (Option CellStart)) (past : ℕ) (next : Bool) → length ns ≡ length ps
    → SplitsLine ps at f past next → StartsSoFar cell ns ps first at f starts → AreAtMost MAX_WIDTH (width_before (cell_of cell) (gapped_line ns ps at past f) ∷ [])
starts_bounded cell ns ps first at f starts past next size split so_far =
    let line = splits_same ps (with_gaps ns ps) at f past next (gaps_same ns ps size) (gaps_length ns ps size) split in
    let h : AreAtMost MAX_WIDTH (width_before (cell_of cell) (gapped_line ns ps at past f) ∷ widths (cell_of cell) (lines_from (open_heredocs_of next) (drop past (with_gaps ns ps)))) =
    subst (λ ls. AreAtMost MAX_WIDTH (widths (cell_of cell) ls)) line so_far.widths_bounded in
    (within_first MAX_WIDTH (width_before (cell_of cell) (gapped_line ns ps at past f)) (widths (cell_of cell) (lines_from (open_heredocs_of next) (drop past (with_gaps ns ps)))) h).0

pub starts_step : (cell : Cell) (ns : List ℕ) (ps : List Pair) (first at : ℕ) (f : Bool) (starts more : List (Option CellStart)) (past : ℕ) (next : Bool) (p : Option CellStart) → length ns ≡ length ps
    → SplitsLine ps at f past next → StartsSoFar cell ns ps first at f starts → more ≡ starts ++ p ∷ []
    → width_in p ≡ width_before (cell_of cell) (gapped_line ns ps at past f) → token_in p ≡ option_map (λ n. at + n) (cell_of cell (gapped_line ns ps at past f)) → IfSome p (λ q. q.token < length ps)
    → StartsSoFar cell ns ps first past next more
starts_step cell ns ps first at f starts more past next p size split so_far more_is w_is t_is inside =
    let G : List Pair = with_gaps ns ps in
    let rest : List Line = lines_from (open_heredocs_of next) (drop past G) in
    let line = splits_same ps G at f past next (gaps_same ns ps size) (gaps_length ns ps size) split in
    let all = gaps_length ns ps size in
    let len : at + length (slice_range G at past) ≡ past = omega (arith, length-take-le (past - at) (drop at G) (omega (arith, length-drop at G, split.more, split.within, all)), split.more) in
    let h : AreAtMost MAX_WIDTH (width_before (cell_of cell) (gapped_line ns ps at past f) ∷ widths (cell_of cell) rest) = subst (λ ls. AreAtMost MAX_WIDTH (widths (cell_of cell) ls)) line so_far.widths_bounded in
    record {
      sizes =
          ap (λ (xs : List (Option CellStart)). widths_of xs ++ widths (cell_of cell) rest) more_is
          ∙ ap (λ (ws : List (Option ℕ)). ws ++ widths (cell_of cell) rest) (map_push width_in starts p)
          ∙ append_assoc (widths_of starts) (width_in p ∷ []) (widths (cell_of cell) rest)
          ∙ ap (λ w. widths_of starts ++ (w ∷ widths (cell_of cell) rest)) w_is
          ∙ ap (λ ls. widths_of starts ++ widths (cell_of cell) ls) (sym line)
          ∙ so_far.sizes;
      numbers =
          ap (λ (xs : List (Option CellStart)). tokens_in xs ++ cell_tokens past (cell_of cell) rest) more_is
          ∙ ap (λ (ws : List (Option ℕ)). ws ++ cell_tokens past (cell_of cell) rest) (map_push token_in starts p)
          ∙ append_assoc (tokens_in starts) (token_in p ∷ []) (cell_tokens past (cell_of cell) rest)
          ∙ ap₂ (λ t k. tokens_in starts ++ (t ∷ cell_tokens k (cell_of cell) rest)) t_is (sym len)
          ∙ ap (λ ls. tokens_in starts ++ cell_tokens at (cell_of cell) ls) (sym line)
          ∙ so_far.numbers;
      widths_bounded = (within_first MAX_WIDTH (width_before (cell_of cell) (gapped_line ns ps at past f)) (widths (cell_of cell) rest) h).1;
      inside = subst (λ (xs : List (Option CellStart)). AreInside (length ps) xs) (sym more_is) (inside_push (length ps) starts p so_far.inside (inside_one (length ps) p inside));
    }

pub starts_end : (cell : Cell) (ns : List ℕ) (ps : List Pair) (first at : ℕ) (f : Bool) (starts : List (Option CellStart)) → length ns ≡ length ps → length ps ≤ at → StartsSoFar cell ns ps first at f starts
    → (widths_of starts ≡ widths (cell_of cell) (lines_from 0 (drop first (with_gaps ns ps)))) × (tokens_in starts ≡ cell_tokens first (cell_of cell) (lines_from 0 (drop first (with_gaps ns ps))))
starts_end cell ns ps first at f starts size past so_far =
    let none : drop at (with_gaps ns ps) ≡ [] = drop_all at (with_gaps ns ps) (omega (arith, gaps_length ns ps size)) in (
      sym (append-nil (widths_of starts)) ∙ ap (λ qs. widths_of starts ++ widths (cell_of cell) (lines_from (open_heredocs_of f) qs)) (sym none) ∙ so_far.sizes,
      sym (append-nil (tokens_in starts)) ∙ ap (λ qs. tokens_in starts ++ cell_tokens at (cell_of cell) (lines_from (open_heredocs_of f) qs)) (sym none) ∙ so_far.numbers,
    )

-- ---- the gaps before cells

list_at : {X : Type 0} (xs : List X) (i : ℕ) (x : X) → slice_get xs i ≡ Some x → drop i xs ≡ x ∷ drop (i + 1) xs
list_at xs i x found = elim (slice_get_cases xs i).1 [
  | inl (y, inside, is, same) ↦
      let one : y ≡ x = let e = sym is ∙ found in cc in
      rw (← same) (drop_more xs i y inside) ∙ ap (λ z. z ∷ drop (i + 1) xs) one
  | inr (past, none) ↦ absurd (cc)
]

pub cell_gap_some : (gaps : List ℕ) (starts : List (Option CellStart)) (i top : ℕ) (p : CellStart) → slice_get starts i ≡ Some (Some p)
    → set_cell_gaps (slice_set gaps p.token (1 + (top - p.width))) (tokens_in (drop (i + 1) starts)) (cell_gaps_from_width top (widths_of (drop (i + 1) starts)))
    ≡ set_cell_gaps gaps (tokens_in (drop i starts)) (cell_gaps_from_width top (widths_of (drop i starts)))
cell_gap_some gaps starts i top p found = rw (list_at starts i (Some p) found) refl

pub cell_gap_none : (gaps : List ℕ) (starts : List (Option CellStart)) (i top : ℕ) → slice_get starts i ≡ Some None
    → set_cell_gaps gaps (tokens_in (drop (i + 1) starts)) (cell_gaps_from_width (greatest (widths_of (drop (i + 1) starts))) (widths_of (drop (i + 1) starts)))
    ≡ set_cell_gaps gaps (tokens_in (drop i starts)) (cell_gaps_from_width top (widths_of (drop i starts)))
cell_gap_none gaps starts i top found = rw (list_at starts i None found) refl

pub inside_at : (count : ℕ) (starts : List (Option CellStart)) (i : ℕ) (p : CellStart) → AreInside count starts → slice_get starts i ≡ Some (Some p) → p.token < count
inside_at count [] i p h found = absurd (cc)
inside_at count (None ∷ starts) zero p h found = absurd (cc)
inside_at count (Some q ∷ starts) zero p h found = let same : q ≡ p = cc in subst (λ (x : CellStart). x.token < count) same h.0
inside_at count (None ∷ starts) (suc i) p h found = inside_at count starts i p h found
inside_at count (Some q ∷ starts) (suc i) p h found = inside_at count starts i p h.1 found

widths_drop : (i : ℕ) (starts : List (Option CellStart)) → widths_of (drop i starts) ≡ drop i (widths_of starts)
widths_drop zero starts = refl
widths_drop (suc i) [] = refl
widths_drop (suc i) (p ∷ starts) = widths_drop i starts

pub top_within : (most i : ℕ) (starts : List (Option CellStart)) → AreAtMost most (widths_of starts) → greatest (widths_of (drop i starts)) ≤ most
top_within most i starts h = rw (widths_drop i starts) (greatest_within most (drop i (widths_of starts)) (within_drop most i (widths_of starts) h))

-- ---- all cells of one sort

rest_inside : (ps : List Pair) (n : ℕ) (o : Option ℕ) → ((m : ℕ) → o ≡ Some m → m < length ps) → option_map suc o ≡ Some n → n < suc (length ps)
rest_inside ps n None f e = absurd (cc)
rest_inside ps n (Some m) f e = let same : suc m ≡ n = cc in omega (arith, f m refl)

if_inside : (ps : List Pair) (n : ℕ) (o : Option ℕ) (b : Bool) → ((m : ℕ) → o ≡ Some m → m < length ps) → (if b then Some 0 else option_map suc o) ≡ Some n → n < suc (length ps)
if_inside ps n o true f e = let same : 0 ≡ n = cc in omega arith
if_inside ps n o false f e = rest_inside ps n o f e

first_inside : (test : Pair → Bool) (ps : List Pair) (n : ℕ) → index_of_first test ps ≡ Some n → n < length ps
first_inside test [] n h = absurd (cc)
first_inside test (p ∷ ps) n h = if_inside ps n (index_of_first test ps) (test p) (λ m e. first_inside test ps m e) h

later_inside : (test : Pair → Bool) (ps : List Pair) (n : ℕ) → index_after_first test ps ≡ Some n → n < length ps
later_inside test [] n h = absurd (cc)
later_inside test (p ∷ ps) n h = rest_inside ps n (index_of_first test ps) (λ m e. first_inside test ps m e) h

counts_inside : (cell : Cell) (ps : List Pair) (o : Option ℕ) (n : ℕ) → ((m : ℕ) → o ≡ Some m → m < length ps) → if_counts cell ps o ≡ Some n → n < length ps
counts_inside cell ps None n f e = absurd (cc)
counts_inside cell ps (Some m) n f e = either (is_valid_cell cell (drop m ps)) e
  where
    either : (b : Bool) → (if b then Some m else None) ≡ Some n → n < length ps
    either true k = let same : m ≡ n = cc in omega (arith, f m refl)
    either false k = absurd (cc)

pub cell_inside : (cell : Cell) (frozen : Bool) (ps : List Pair) (n : ℕ) → cell_of cell (record { frozen = frozen; pairs = ps }) ≡ Some n → n < length ps
cell_inside cell frozen ps n h = by_test (frozen || broken ps) refl
  where
    by_test : (b : Bool) → (frozen || broken ps) ≡ b → n < length ps
    by_test true e = let none = blocked cell frozen (broken ps) ps refl e in absurd (cc)
    by_test false e = counts_inside cell ps (index_after_first (λ (p : Pair). starts_cell cell p.kind) ps) n (λ m k. later_inside (λ (p : Pair). starts_cell cell p.kind) ps m k) (sym (free cell frozen (broken ps) ps refl e) ∙ h)

pub cells_inside : (cell : Cell) (lines : List Line) → AreInLines (cell_of cell) lines
cells_inside cell [] = tt
cells_inside cell (line ∷ lines) = (λ n h. cell_inside cell line.frozen line.pairs n h, cells_inside cell lines)

cell_gaps_small : (top : ℕ) (ws : List (Option ℕ)) → top ≤ MAX_WIDTH → AreAtMost MAX_WIDTH ws → AreSmall (cell_gaps_from_width top ws)
cell_gaps_small top [] h k = tt
cell_gaps_small top (None ∷ ws) h k = cell_gaps_small (greatest ws) ws (greatest_within MAX_WIDTH ws k) k
cell_gaps_small top (Some w ∷ ws) h k = (omega (arith, h), cell_gaps_small top ws h k.1)

pub aligned_gaps : (cell : Cell) (ps : List Pair) (first : ℕ) (ns new : List ℕ) (sizes numbers : List (Option ℕ)) → length ns ≡ length ps → first ≤ length ps
    → sizes ≡ widths (cell_of cell) (lines_from 0 (drop first (with_gaps ns ps))) → numbers ≡ cell_tokens first (cell_of cell) (lines_from 0 (drop first (with_gaps ns ps)))
    → AreAtMost MAX_WIDTH (widths (cell_of cell) (lines_from 0 (drop first (with_gaps ns ps)))) → new ≡ set_cell_gaps ns numbers (cell_gaps_from_width (greatest sizes) sizes)
    → with_gaps new ps ≡ take first (with_gaps ns ps) ++ pairs_in (aligned (cell_of cell) (lines_from 0 (drop first (with_gaps ns ps))))
aligned_gaps cell ps first ns new sizes numbers size fits sizes_is numbers_is widths_bounded new_is =
    let G : List Pair = with_gaps ns ps in
    let lines : List Line = lines_from 0 (drop first G) in
    let ws : List (Option ℕ) = widths (cell_of cell) lines in
    let at : first ≡ length (take first G) = sym (length-take-le first G (omega (arith, gaps_length ns ps size))) in
    let whole : G ≡ take first G ++ pairs_in lines = sym (take-append-drop first G) ∙ ap (λ qs. take first G ++ qs) (sym (pairs_of_lines 0 (drop first G))) in
    let named : new ≡ set_cell_gaps ns (cell_tokens first (cell_of cell) lines) (cell_gaps_from_width (greatest ws) ws) =
    new_is ∙ ap₂ (λ (n : List (Option ℕ)) (s : List (Option ℕ)). set_cell_gaps ns n (cell_gaps_from_width (greatest s) s)) numbers_is sizes_is in
    ap (λ gs. with_gaps gs ps) named
    ∙ moved_gaps ps (cell_of cell) (cell_gaps_from_width (greatest ws) ws) lines (take first G) first ns size at whole (cells_inside cell lines) (cell_gaps_small (greatest ws) ws (greatest_within MAX_WIDTH ws widths_bounded) widths_bounded)
    ∙ ap (λ (ls : List Line). take first G ++ pairs_in ls) (sym (aligned_is (cell_of cell) lines))

pub first_after : (ps : List Pair) (first : ℕ) (leading rest whole : List Pair) → length leading ≡ first → whole ≡ leading ++ rest → (take first whole ≡ leading) × (drop first whole ≡ rest)
first_after ps first leading rest whole size is = (
  ap (take first) is ∙ take_at leading rest first size,
  ap (drop first) is ∙ drop_at leading rest first size,
)
