-- The gaps as numbers are those of the lines as they are set.
use Rattle.std.proofs.Common.{◌≡◌, ℕ, zero, suc, ◌+◌, ◌-◌, ◌*◌, ◌<◌, ◌≤◌, ◌==◌, Bool, true, false, ◌||◌, nat_lt, List, [], ◌∷◌, ◌++◌, length, replicate, if◌then◌else◌, refl, sym, ap, ap₂, ◌∙◌, arith}
use Rattle.std.proofs.lemmas.Bool.Decides.{nat_tests}
use Rattle.hcl_token.specs.declared.kind.Kind.{Kind}
use Rattle.hcl_token.specs.Tokens.{Pair}
use Rattle.hcl_token.specs.Joins.{joins_with}
use Rattle.hcl_token.specs.Kinds.{is_line_end}
use Rattle.hcl_scan.specs.Follows.{has_no_gap_before}
use Rattle.hcl_layout.specs.Gaps.Lines.{Line, heredocs_after, ends_line, pairs_in}
use Rattle.hcl_layout.specs.Gaps.Indent.{openings, closings}
use Rattle.hcl_layout.specs.Gaps.Space.{prev_after, prev_after_all, is_spaced, spaces}
use Rattle.hcl_layout.specs.Gaps.Layout.{with_spacing, with_indent, format_line, format_lines}
use Rattle.hcl_layout.specs.Gaps.Inner.Stages.{prepend_to_first, lines_from, KEEP_GAP, resolved_gap, with_gaps, space_lens, line_gap_lens, base_gap_lens, all_gap_lens, close_brackets, close_earlier, open_after_line, format_lines_by_stack}
use Rattle.hcl_layout.proofs.GapsLemmas.IndentLaw.{set_by_stack}
use Rattle.hcl_scan.specs.Tokenization.{MAX_TEXT}

-- ---- lists side by side

pub gaps_append : (ms ns : List ℕ) (ps qs : List Pair) → length ms ≡ length ps → with_gaps (ms ++ ns) (ps ++ qs) ≡ with_gaps ms ps ++ with_gaps ns qs
gaps_append [] ns [] qs h = refl
gaps_append [] ns (p ∷ ps) qs h = absurd (omega arith)
gaps_append (m ∷ ms) ns [] qs h = absurd (omega arith)
gaps_append (m ∷ ms) ns (p ∷ ps) qs h = ap (λ rs. record p { gap = resolved_gap m p.gap } ∷ rs) (gaps_append ms ns ps qs (omega arith))

pub gaps_kept : (ps : List Pair) → with_gaps (replicate (length ps) KEEP_GAP) ps ≡ ps
gaps_kept [] = refl
gaps_kept (p ∷ ps) = ap (λ rs. p ∷ rs) (gaps_kept ps)

pub length_replicate : (n k : ℕ) → length (replicate n k) ≡ n
length_replicate zero k = refl
length_replicate (suc n) k = ap suc (length_replicate n k)

-- ---- one line

-- a number of spaces
pub meant : (n : ℕ) (old : List ℕ) → n < KEEP_GAP → resolved_gap n old ≡ spaces n
meant n old h = let test : (n == KEEP_GAP) ≡ false = grind (arith, nat_tests) in rw test refl

space_meant : (literal with_spacing : Bool) (old : List ℕ) → resolved_gap (if literal then 0 else (if with_spacing then 1 else 0)) old ≡ (if literal then [] else (if with_spacing then spaces 1 else []))
space_meant true with_spacing old = refl
space_meant false true old = refl
space_meant false false old = refl

pub spaced_gaps : (b : List Kind) (a : Pair) (ps : List Pair) → with_gaps (space_lens b a ps) ps ≡ with_spacing b a ps
spaced_gaps b a [] = refl
spaced_gaps b a (p ∷ ps) =
    ap₂ (λ g (rs : List Pair). record p { gap = g } ∷ rs) (space_meant (has_no_gap_before p.kind) (is_spaced b a p || joins_with a.kind a.spelling p.kind p.spelling) p.gap) (spaced_gaps (prev_after a b) p ps)

indent_meant : (ends : Bool) (deep : ℕ) (old : List ℕ) → 2 * deep < KEEP_GAP → resolved_gap (if ends then 0 else 2 * deep) old ≡ (if ends then [] else spaces (2 * deep))
indent_meant true deep old h = refl
indent_meant false deep old h = meant (2 * deep) old h

length_space : (b : List Kind) (a : Pair) (ps : List Pair) → length (space_lens b a ps) ≡ length ps
length_space b a [] = refl
length_space b a (p ∷ ps) = ap suc (length_space (prev_after a b) p ps)

length_line : (deep : ℕ) (b : List Kind) (ps : List Pair) → length (line_gap_lens deep b ps) ≡ length ps
length_line deep b [] = refl
length_line deep b (p ∷ ps) = ap suc (length_space b p ps)

pub length_set : (deep : ℕ) (b : List Kind) (frozen : Bool) (ps : List Pair) → length (base_gap_lens deep b (record { frozen = frozen; pairs = ps })) ≡ length ps
length_set deep b true ps = length_replicate (length ps) KEEP_GAP
length_set deep b false ps = length_line deep b ps

line_gaps : (deep : ℕ) (b : List Kind) (ps : List Pair) → 2 * deep < KEEP_GAP → with_gaps (line_gap_lens deep b ps) ps ≡ with_indent deep b ps
line_gaps deep b [] h = refl
line_gaps deep b (p ∷ ps) h = ap₂ (λ g (rs : List Pair). record p { gap = g } ∷ rs) (indent_meant (is_line_end p.kind) deep p.gap h) (spaced_gaps b p ps)

set_gaps : (deep : ℕ) (b : List Kind) (frozen : Bool) (ps : List Pair) → 2 * deep < KEEP_GAP
    → with_gaps (base_gap_lens deep b (record { frozen = frozen; pairs = ps })) ps ≡ (format_line deep b (record { frozen = frozen; pairs = ps })).pairs
set_gaps deep b true ps h = gaps_kept ps
set_gaps deep b false ps h = line_gaps deep b ps h

-- ---- all lines

close_shorter : (m : ℕ) (s : List ℕ) → length (close_brackets m s) ≤ length s
close_shorter m [] = omega arith
close_shorter m (d ∷ s) = elim (nat_lt m d) as (λ v. length (if v then (d - m) ∷ s else close_brackets (m - d) s) ≤ suc (length s)) [
  | true ↦ omega arith
  | false ↦ let h = close_shorter (m - d) s in omega arith
]

pub at_shorter : (o c : ℕ) (s : List ℕ) → length (close_earlier o c s) ≤ length s
at_shorter o c s = elim (nat_lt o c) as (λ v. length (if v then close_brackets (c - o) s else s) ≤ length s) [
  | true ↦ close_shorter (c - o) s
  | false ↦ omega arith
]

pub after_shorter : (o c : ℕ) (s : List ℕ) → length (open_after_line o c s) ≤ suc (length s)
after_shorter o c s = elim (nat_lt c o) as (λ v. length (if v then (o - c) ∷ close_earlier o c s else close_earlier o c s) ≤ suc (length s)) [
  | true ↦ let h = at_shorter o c s in omega arith
  | false ↦ let h = at_shorter o c s in omega arith
]

open_gaps : (s : List ℕ) (b : List Kind) (lines : List Line) → 2 * (length s + length lines) < KEEP_GAP → with_gaps (all_gap_lens s b lines) (pairs_in lines) ≡ pairs_in (format_lines_by_stack s b lines)
open_gaps s b [] h = refl
open_gaps s b (line ∷ lines) h =
    let o : ℕ = openings line.pairs in
    let c : ℕ = closings line.pairs in
    let deep : ℕ = length (close_earlier o c s) in
    let small : 2 * deep < KEEP_GAP = omega (arith, at_shorter o c s) in
    let rest = open_gaps (open_after_line o c s) (prev_after_all line.pairs b) lines (omega (arith, after_shorter o c s)) in
    gaps_append (base_gap_lens deep b line) (all_gap_lens (open_after_line o c s) (prev_after_all line.pairs b) lines) line.pairs (pairs_in lines) (length_set deep b line.frozen line.pairs)
    ∙ ap₂ (λ (ps qs : List Pair). ps ++ qs) (set_gaps deep b line.frozen line.pairs small) rest

-- ---- the lines of a text

prepend_pairs : (frozen : Bool) (p : Pair) (lines : List Line) → pairs_in (prepend_to_first frozen p lines) ≡ p ∷ pairs_in lines
prepend_pairs frozen p [] = refl
prepend_pairs frozen p (line ∷ lines) = refl

-- the lines of tokens have these tokens
pub pairs_of_lines : (open_heredocs : ℕ) (ps : List Pair) → pairs_in (lines_from open_heredocs ps) ≡ ps
pairs_of_lines open_heredocs [] = refl
pairs_of_lines open_heredocs (p ∷ ps) = elim (ends_line open_heredocs p.kind) as (λ v. pairs_in (if v then record { frozen = nat_lt 0 open_heredocs; pairs = p ∷ [] } ∷ lines_from (heredocs_after open_heredocs p.kind) ps else prepend_to_first (nat_lt 0 open_heredocs) p (lines_from (heredocs_after open_heredocs p.kind) ps)) ≡ p ∷ ps) [
  | true ↦ ap (λ qs. p ∷ qs) (pairs_of_lines (heredocs_after open_heredocs p.kind) ps)
  | false ↦ prepend_pairs (nat_lt 0 open_heredocs) p (lines_from (heredocs_after open_heredocs p.kind) ps) ∙ ap (λ qs. p ∷ qs) (pairs_of_lines (heredocs_after open_heredocs p.kind) ps)
]

prepend_count : (frozen : Bool) (p : Pair) (lines : List Line) → length (prepend_to_first frozen p lines) ≤ suc (length lines)
prepend_count frozen p [] = omega arith
prepend_count frozen p (line ∷ lines) = omega arith

pub fewer_lines : (open_heredocs : ℕ) (ps : List Pair) → length (lines_from open_heredocs ps) ≤ length ps
fewer_lines open_heredocs [] = omega arith
fewer_lines open_heredocs (p ∷ ps) = elim (ends_line open_heredocs p.kind) as (λ v. length (if v then record { frozen = nat_lt 0 open_heredocs; pairs = p ∷ [] } ∷ lines_from (heredocs_after open_heredocs p.kind) ps else prepend_to_first (nat_lt 0 open_heredocs) p (lines_from (heredocs_after open_heredocs p.kind) ps)) ≤ suc (length ps)) [
  | true ↦ let h = fewer_lines (heredocs_after open_heredocs p.kind) ps in omega arith
  | false ↦ omega (arith, fewer_lines (heredocs_after open_heredocs p.kind) ps, prepend_count (nat_lt 0 open_heredocs) p (lines_from (heredocs_after open_heredocs p.kind) ps))
]

-- the gaps that the first stage finds are those of the lines, indented and spaced
pub set_stage : (ps : List Pair) → length ps ≤ MAX_TEXT → with_gaps (all_gap_lens [] [] (lines_from 0 ps)) ps ≡ pairs_in (format_lines [] [] (lines_from 0 ps))
set_stage ps few =
    let size = fewer_lines 0 ps in
    ap (with_gaps (all_gap_lens [] [] (lines_from 0 ps))) (sym (pairs_of_lines 0 ps))
    ∙ open_gaps [] [] (lines_from 0 ps) (omega (arith, size))
    ∙ ap pairs_in (sym (set_by_stack [] (lines_from 0 ps)))
