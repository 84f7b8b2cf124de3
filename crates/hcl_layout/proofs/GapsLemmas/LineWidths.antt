-- How wide lines can be: never so wide that a sum could wrap.
use Rattle.std.proofs.Common.{◌≡◌, ℕ, zero, suc, ◌+◌, ◌*◌, ◌≤◌, Bool, true, false, ◌||◌, List, [], ◌∷◌, ◌++◌, length, take, drop, Option, Some, None, if◌then◌else◌, IsUtf8, sym, ap, subst, arith, length-append}
use Rattle.std.specs.Option.{option_map}
use Rattle.std.proofs.lemmas.List.Sums.{sum_by-cons, sum_by-take-le}
use Rattle.hcl_token.specs.declared.kind.Kind.{Kind}
use Rattle.hcl_token.specs.Tokens.{Pair, whole_text}
use Rattle.hcl_token.specs.Joins.{joins_with}
use Rattle.hcl_token.specs.Kinds.{is_line_end}
use Rattle.hcl_token.specs.TokenizedText.{AreUtf8}
use Rattle.hcl_token.specs.Place.{clusters}
use Rattle.unicode_segmentation.specs.Grapheme.{is_grapheme_break}
use Rattle.unicode_segmentation.proofs.SegmentsLemmas.{length-segments}
use Rattle.hcl_scan.specs.Follows.{has_no_gap_before}
use Rattle.hcl_layout.specs.Gaps.Lines.{Line, pairs_in}
use Rattle.hcl_layout.specs.Gaps.Indent.{openings, closings}
use Rattle.hcl_layout.specs.Gaps.Space.{prev_after, prev_after_all, is_spaced, spaces, gap_between}
use Rattle.hcl_layout.specs.Gaps.Cells.{width, with_gap, with_cell_gap, aligned}
use Rattle.hcl_layout.specs.Gaps.Layout.{with_spacing, with_indent, format_line, format_lines}
use Rattle.hcl_layout.specs.Gaps.Inner.Stages.{widths, greatest, with_cell_gaps, lines_from, AreAtMost, close_earlier, open_after_line, format_lines_by_stack, cell_gaps_from_width}
use Rattle.hcl_layout.proofs.GapsLemmas.IndentLaw.{set_by_stack}
use Rattle.hcl_layout.proofs.GapsLemmas.CellLaw.{aligned_is}
use Rattle.hcl_layout.proofs.GapsLemmas.CellGaps.{greatest_within}
use Rattle.hcl_layout.proofs.GapsLemmas.GapLaw.{at_shorter, after_shorter, length_replicate, fewer_lines, pairs_of_lines}
use Rattle.hcl_scan.specs.Tokenization.{MAX_TEXT}

-- how many bytes tokens and their gaps have
abbrev pub bytes : List Pair → ℕ
bytes [] = 0
bytes (p ∷ ps) = length p.gap + length p.spelling + bytes ps

pub width_cons : (p : Pair) (ps : List Pair) → width (p ∷ ps) ≡ (length p.gap + clusters p.spelling) + width ps
width_cons p ps = sum_by-cons (λ (q : Pair). length q.gap + clusters q.spelling) p ps

-- a text has no more clusters than bytes
fewer_clusters : (t : List ℕ) → IsUtf8 t → clusters t ≤ length t
fewer_clusters t u = length-segments (is_grapheme_break true) t u

kept_width : (ps : List Pair) → AreUtf8 ps → width ps ≤ bytes ps
kept_width [] u = omega arith
kept_width (p ∷ ps) u = omega (arith, width_cons p ps, fewer_clusters p.spelling u.1, kept_width ps u.2)

one_space : (literal with_spacing : Bool) → length (if literal then [] else (if with_spacing then spaces 1 else [])) ≤ 1
one_space true with_spacing = omega arith
one_space false true = omega arith
one_space false false = omega arith

spaced_width : (b : List Kind) (a : Pair) (ps : List Pair) → AreUtf8 ps → width (with_spacing b a ps) ≤ length ps + bytes ps
spaced_width b a [] u = omega arith
spaced_width b a (p ∷ ps) u =
    omega (arith, width_cons (record p { gap = gap_between b a p }) (with_spacing (prev_after a b) p ps), fewer_clusters p.spelling u.1, spaced_width (prev_after a b) p ps u.2, one_space (has_no_gap_before p.kind) (is_spaced b a p || joins_with a.kind a.spelling p.kind p.spelling))

indent_len : (ends : Bool) (deep : ℕ) → length (if ends then [] else spaces (2 * deep)) ≤ 2 * deep
indent_len true deep = omega arith
indent_len false deep = omega (arith, length_replicate (2 * deep) 32)

indented_width : (deep : ℕ) (b : List Kind) (ps : List Pair) → AreUtf8 ps → width (with_indent deep b ps) ≤ 2 * deep + length ps + bytes ps
indented_width deep b [] u = omega arith
indented_width deep b (p ∷ ps) u =
    omega (arith, width_cons (record p { gap = if is_line_end p.kind then [] else spaces (2 * deep) }) (with_spacing b p ps), fewer_clusters p.spelling u.1, spaced_width b p ps u.2, indent_len (is_line_end p.kind) deep)

set_width : (deep : ℕ) (b : List Kind) (frozen : Bool) (ps : List Pair) → AreUtf8 ps → width (format_line deep b (record { frozen = frozen; pairs = ps })).pairs ≤ 2 * deep + length ps + bytes ps
set_width deep b true ps u = omega (arith, kept_width ps u)
set_width deep b false ps u = indented_width deep b ps u

-- each line is at most so wide
abbrev pub AreWithinWidth : ℕ → List Line → Type 0
AreWithinWidth most [] = Unit {0}
AreWithinWidth most (line ∷ lines) = (width line.pairs ≤ most) × AreWithinWidth most lines

utf8_parts : (ps qs : List Pair) → AreUtf8 (ps ++ qs) → AreUtf8 ps × AreUtf8 qs
utf8_parts [] qs u = (tt, u)
utf8_parts (p ∷ ps) qs u = let h = utf8_parts ps qs u.2 in ((u.0, u.1, h.0), h.1)

bytes_append : (ps qs : List Pair) → bytes (ps ++ qs) ≡ bytes ps + bytes qs
bytes_append [] qs = omega arith
bytes_append (p ∷ ps) qs = omega (arith, bytes_append ps qs)

set_within_width : (most : ℕ) (s : List ℕ) (b : List Kind) (lines : List Line) → AreUtf8 (pairs_in lines)
    → 2 * (length s + length lines) + length (pairs_in lines) + bytes (pairs_in lines) ≤ most → AreWithinWidth most (format_lines_by_stack s b lines)
set_within_width most s b [] u h = tt
set_within_width most s b (line ∷ lines) u h =
    let o : ℕ = openings line.pairs in
    let c : ℕ = closings line.pairs in
    let parts = utf8_parts line.pairs (pairs_in lines) u in
    let here = set_width (length (close_earlier o c s)) b line.frozen line.pairs parts.0 in
    let sizes = length-append line.pairs (pairs_in lines) in
    let total = bytes_append line.pairs (pairs_in lines) in (
      omega (arith, here, at_shorter o c s, sizes, total, h),
      set_within_width most (open_after_line o c s) (prev_after_all line.pairs b) lines parts.1 (omega (arith, after_shorter o c s, sizes, total, h)),
    )

-- cells of narrow lines
pub widths_within : (most : ℕ) (cell : Line → Option ℕ) (lines : List Line) → AreWithinWidth most lines → AreAtMost most (widths cell lines)
widths_within most cell [] h = tt
widths_within most cell (line ∷ lines) h = one (cell line) (widths_within most cell lines h.1)
  where
    one : (found : Option ℕ) → AreAtMost most (widths cell lines) → AreAtMost most (option_map (λ n. width (take n line.pairs)) found ∷ widths cell lines)
    one None rest = rest
    one (Some n) rest = (omega (arith, h.0, sum_by-take-le (λ (q : Pair). length q.gap + clusters q.spelling) line.pairs n), rest)

gap_width : (n : ℕ) (gap : List ℕ) (ps : List Pair) → width (with_gap n gap ps) ≤ width ps + length gap
gap_width n gap [] = omega arith
gap_width zero gap (p ∷ ps) = omega (arith, width_cons p ps, width_cons (record p { gap = gap }) ps)
gap_width (suc n) gap (p ∷ ps) = omega (arith, width_cons p ps, width_cons p (with_gap n gap ps), gap_width n gap ps)

moved_width : (found count : Option ℕ) (line : Line) (most more : ℕ) → width line.pairs ≤ most → AreAtMost more (count ∷ []) → width (with_cell_gap found count line).pairs ≤ most + more
moved_width None count line most more h k = omega (arith, h)
moved_width (Some n) None line most more h k = omega (arith, h)
moved_width (Some n) (Some r) line most more h k = omega (arith, h, k.0, gap_width n (spaces r) line.pairs, length_replicate r 32)

within_parts : (most : ℕ) (w : Option ℕ) (ws : List (Option ℕ)) → AreAtMost most (w ∷ ws) → AreAtMost most (w ∷ []) × AreAtMost most ws
within_parts most None ws h = (tt, h)
within_parts most (Some w) ws h = ((h.0, tt), h.1)

moved_within_width : (most more : ℕ) (cell : Line → Option ℕ) (rs : List (Option ℕ)) (lines : List Line) → AreWithinWidth most lines → AreAtMost more rs → AreWithinWidth (most + more) (with_cell_gaps cell rs lines)
moved_within_width most more cell [] lines h k = wider lines h
  where
    wider : (ls : List Line) → AreWithinWidth most ls → AreWithinWidth (most + more) ls
    wider [] n = tt
    wider (l ∷ ls) n = (omega (arith, n.0), wider ls n.1)
moved_within_width most more cell (r ∷ rs) [] h k = tt
moved_within_width most more cell (r ∷ rs) (line ∷ lines) h k =
    let parts = within_parts more r rs k in
    (moved_width (cell line) r line most more h.0 parts.0, moved_within_width most more cell rs lines h.1 parts.1)

cell_gaps_within : (most top : ℕ) (ws : List (Option ℕ)) → top ≤ most → AreAtMost most ws → AreAtMost (1 + most) (cell_gaps_from_width top ws)
cell_gaps_within most top [] h k = tt
cell_gaps_within most top (None ∷ ws) h k = cell_gaps_within most (greatest ws) ws (greatest_within most ws k) k
cell_gaps_within most top (Some w ∷ ws) h k = (omega (arith, h), cell_gaps_within most top ws h k.1)

pub aligned_within_width : (most : ℕ) (cell : Line → Option ℕ) (lines : List Line) → AreWithinWidth most lines → AreWithinWidth (most + (1 + most)) (aligned cell lines)
aligned_within_width most cell lines h =
    let ws : List (Option ℕ) = widths cell lines in
    let within = widths_within most cell lines h in
    subst (AreWithinWidth (most + (1 + most))) (sym (aligned_is cell lines))
    (moved_within_width most (1 + most) cell (cell_gaps_from_width (greatest ws) ws) lines h (cell_gaps_within most (greatest ws) ws (greatest_within most ws within) within))

-- the greatest width of a line before alignment: twice this and one is no more than `MAX_WIDTH`
abbrev pub BASE_WIDTH : ℕ
BASE_WIDTH = 536870911

-- the lines of a text, indented and spaced
pub base_lines_bounded : (ps : List Pair) → AreUtf8 ps → length ps ≤ MAX_TEXT → bytes ps ≤ MAX_TEXT → AreWithinWidth BASE_WIDTH (format_lines [] [] (lines_from 0 ps))
base_lines_bounded ps u few short =
    let lines : List Line = lines_from 0 ps in
    let all = pairs_of_lines 0 ps in
    let count = fewer_lines 0 ps in
    subst (λ ls. AreWithinWidth BASE_WIDTH ls) (sym (set_by_stack [] lines))
    (set_within_width BASE_WIDTH [] [] lines (subst AreUtf8 (sym all) u) (omega (arith, ap length all, ap bytes all, count, few, short)))

pub within_more : (a b : ℕ) (ws : List (Option ℕ)) → a ≤ b → AreAtMost a ws → AreAtMost b ws
within_more a b [] h k = tt
within_more a b (None ∷ ws) h k = within_more a b ws h k
within_more a b (Some w ∷ ws) h k = (omega (arith, h, k.0), within_more a b ws h k.1)

pub bytes_joining : (ps : List Pair) (last : List ℕ) → length (whole_text ps last) ≡ bytes ps + length last
bytes_joining [] last = omega arith
bytes_joining (p ∷ ps) last = omega (arith, length-append p.gap (p.spelling ++ whole_text ps last), length-append p.spelling (whole_text ps last), bytes_joining ps last)

pub utf8_drop : (n : ℕ) (ps : List Pair) → AreUtf8 ps → AreUtf8 (drop n ps)
utf8_drop zero ps u = u
utf8_drop (suc n) [] u = tt
utf8_drop (suc n) (p ∷ ps) u = utf8_drop n ps u.2

pub bytes_drop : (n : ℕ) (ps : List Pair) → bytes (drop n ps) ≤ bytes ps
bytes_drop zero ps = omega arith
bytes_drop (suc n) [] = omega arith
bytes_drop (suc n) (p ∷ ps) = omega (arith, bytes_drop n ps)
