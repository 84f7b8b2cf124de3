-- The stages, in order, make the layout.
use Rattle.std.proofs.Common.{◌≡◌, ℕ, ◌+◌, ◌≤◌, Bool, true, false, List, [], ◌∷◌, ◌++◌, length, take, drop, replicate, if◌then◌else◌, refl, sym, ap, ap₂, subst, ◌∙◌, arith, length-append, take_at, drop_at}
use Rattle.std.proofs.lemmas.List.{length-take-le, take-append-drop, take-replicate, length-drop}
use Rattle.hcl_token.specs.declared.kind.Kind.{Kind}
use Rattle.hcl_token.specs.Tokens.{Pair}
use Rattle.hcl_token.specs.TokenizedText.{AreUtf8}
use Rattle.hcl_token.specs.Place.{is_mark}
use Rattle.hcl_layout.specs.Gaps.Lines.{Line, pairs_in}
use Rattle.hcl_layout.specs.Gaps.Indent.{openings, closings}
use Rattle.hcl_layout.specs.Gaps.Space.{prev_after_all}
use Rattle.hcl_layout.specs.Gaps.Cells.{aligned, assignment, closing_comment}
use Rattle.hcl_layout.specs.Gaps.Layout.{format_lines, layout_lines, layout_body, layout_pairs}
use Rattle.hcl_layout.specs.Gaps.Inner.Stages.{widths, lines_from, mark_count, KEEP_GAP, with_gaps, all_gap_lens, base_gap_lens, close_earlier, open_after_line, AreAtMost, MAX_WIDTH}
use Rattle.hcl_layout.proofs.GapsLemmas.GapLaw.{gaps_append, gaps_kept, length_replicate, length_set, set_stage, pairs_of_lines}
use Rattle.hcl_layout.proofs.GapsLemmas.SplitLaw.{lines_are}
use Rattle.hcl_layout.proofs.GapsLemmas.TokensKept.{set_alike_lines, equals_alike, split_again}
use Rattle.hcl_scan.specs.Tokenization.{IsTokenization, MAX_TEXT}
use Rattle.hcl_scan.proofs.TokenCount.{few_tokens}
use Rattle.hcl_layout.proofs.GapsLemmas.LineWidths.{BASE_WIDTH, bytes_joining, bytes, bytes_drop, utf8_drop, base_lines_bounded, widths_within, aligned_within_width, within_more}

lens_length : (s : List ℕ) (b : List Kind) (lines : List Line) → length (all_gap_lens s b lines) ≡ length (pairs_in lines)
lens_length s b [] = refl
lens_length s b (line ∷ lines) =
    let deep : ℕ = length (close_earlier (openings line.pairs) (closings line.pairs) s) in
    let rest = lens_length (open_after_line (openings line.pairs) (closings line.pairs) s) (prev_after_all line.pairs b) lines in
    omega (
      arith,
      length-append (base_gap_lens deep b line) (all_gap_lens (open_after_line (openings line.pairs) (closings line.pairs) s) (prev_after_all line.pairs b) lines),
      length_set deep b line.frozen line.pairs,
      length-append line.pairs (pairs_in lines),
      rest,
    )

layout_first_if : (p : Pair) (ps : List Pair) (b : Bool) → (if b then p ∷ layout_body ps else layout_body (p ∷ ps)) ≡ take (if b then 1 else 0) (p ∷ ps) ++ layout_body (drop (if b then 1 else 0) (p ∷ ps))
layout_first_if p ps true = refl
layout_first_if p ps false = refl

pub layout_first : (ps : List Pair) → layout_pairs ps ≡ take (mark_count ps) ps ++ layout_body (drop (mark_count ps) ps)
layout_first [] = refl
layout_first (p ∷ ps) = layout_first_if p ps (is_mark p.kind)

-- ---- the first stage

-- before it each gap stays
pub prefix_unchanged : (ps : List Pair) (first : ℕ) (kept : List ℕ) → first ≤ length ps → kept ≡ replicate (length ps) KEEP_GAP → take first kept ≡ replicate first KEEP_GAP
prefix_unchanged ps first kept fits is = ap (take first) is ∙ take-replicate first (length ps) KEEP_GAP fits

pub first_size : (ps : List Pair) (first : ℕ) (gaps : List ℕ) → first ≤ length ps → gaps ≡ replicate first KEEP_GAP ++ all_gap_lens [] [] (lines_from 0 (drop first ps)) → length gaps ≡ length ps
first_size ps first gaps fits is =
    omega (
      arith,
      ap length is,
      length-append (replicate first KEEP_GAP) (all_gap_lens [] [] (lines_from 0 (drop first ps))),
      length_replicate first KEEP_GAP,
      lens_length [] [] (lines_from 0 (drop first ps)),
      ap length (pairs_of_lines 0 (drop first ps)),
      length-drop first ps,
    )

pub first_stage : (ps : List Pair) (first : ℕ) (gaps : List ℕ) → first ≤ length ps → length ps ≤ MAX_TEXT → gaps ≡ replicate first KEEP_GAP ++ all_gap_lens [] [] (lines_from 0 (drop first ps))
    → with_gaps gaps ps ≡ take first ps ++ pairs_in (format_lines [] [] (lines_from 0 (drop first ps)))
first_stage ps first gaps fits few is =
    let leading : length (take first ps) ≡ first = length-take-le first ps fits in
    let kept : with_gaps (replicate first KEEP_GAP) (take first ps) ≡ take first ps = ap (λ n. with_gaps (replicate n KEEP_GAP) (take first ps)) (sym leading) ∙ gaps_kept (take first ps) in
    ap₂ with_gaps is (sym (take-append-drop first ps))
    ∙ gaps_append (replicate first KEEP_GAP) (all_gap_lens [] [] (lines_from 0 (drop first ps))) (take first ps) (drop first ps) (length_replicate first KEEP_GAP ∙ sym leading)
    ∙ ap₂ (λ (x y : List Pair). x ++ y) kept (set_stage (drop first ps) (omega (arith, length-drop first ps, few)))

-- ---- the cells

-- gaps after each stage
pub record AreStages (ps : List Pair) (first : ℕ) (g0 g1 g2 : List ℕ) : Type 0 where
  pub zero_is : with_gaps g0 ps ≡ take first ps ++ pairs_in (format_lines [] [] (lines_from 0 (drop first ps)))
  pub one_is : drop first (with_gaps g1 ps) ≡ pairs_in (aligned assignment (lines_from 0 (drop first (with_gaps g0 ps))))
  pub one_prefix : take first (with_gaps g1 ps) ≡ take first (with_gaps g0 ps)
  pub two_is : drop first (with_gaps g2 ps) ≡ pairs_in (aligned closing_comment (lines_from 0 (drop first (with_gaps g1 ps))))
  pub two_prefix : take first (with_gaps g2 ps) ≡ take first (with_gaps g1 ps)

pub zero_lines : (ps : List Pair) (first : ℕ) (g0 : List ℕ) → first ≤ length ps → with_gaps g0 ps ≡ take first ps ++ pairs_in (format_lines [] [] (lines_from 0 (drop first ps)))
    → lines_from 0 (drop first (with_gaps g0 ps)) ≡ format_lines [] [] (lines_from 0 (drop first ps))
zero_lines ps first g0 fits is =
    let body : List Pair = drop first ps in
    ap (λ qs. lines_from 0 (drop first qs)) is
    ∙ ap (lines_from 0) (drop_at (take first ps) (pairs_in (format_lines [] [] (lines_from 0 body))) first (length-take-le first ps fits))
    ∙ split_again 0 body (format_lines [] [] (lines_from 0 body)) (set_alike_lines (lines_from 0 body))

pub one_lines : (ps : List Pair) (first : ℕ) (g0 g1 : List ℕ) → lines_from 0 (drop first (with_gaps g0 ps)) ≡ format_lines [] [] (lines_from 0 (drop first ps))
    → drop first (with_gaps g1 ps) ≡ pairs_in (aligned assignment (lines_from 0 (drop first (with_gaps g0 ps))))
    → lines_from 0 (drop first (with_gaps g1 ps)) ≡ aligned assignment (format_lines [] [] (lines_from 0 (drop first ps)))
one_lines ps first g0 g1 lines is =
    let body : List Pair = drop first ps in
    ap (lines_from 0) (is ∙ ap (λ ls. pairs_in (aligned assignment ls)) lines)
    ∙ split_again 0 body (aligned assignment (format_lines [] [] (lines_from 0 body))) (equals_alike (lines_from 0 body))

pub stages_make : (ps : List Pair) (g0 g1 g2 : List ℕ) → mark_count ps ≤ length ps → AreStages ps (mark_count ps) g0 g1 g2 → with_gaps g2 ps ≡ layout_pairs ps
stages_make ps g0 g1 g2 fits s =
    let first : ℕ = mark_count ps in
    let zeroth = zero_lines ps first g0 fits s.zero_is in
    let oneth = one_lines ps first g0 g1 zeroth s.one_is in
    let body : drop first (with_gaps g2 ps) ≡ layout_body (drop first ps) =
    s.two_is ∙ ap (λ ls. pairs_in (aligned closing_comment ls)) oneth ∙ ap (λ (ls : List Line). pairs_in (layout_lines ls)) (sym (lines_are (drop first ps))) in
    let leading : take first (with_gaps g2 ps) ≡ take first ps =
    s.two_prefix ∙ s.one_prefix ∙ ap (take first) s.zero_is ∙ take_at (take first ps) (pairs_in (format_lines [] [] (lines_from 0 (drop first ps)))) first (length-take-le first ps fits) in
    sym (take-append-drop first (with_gaps g2 ps)) ∙ ap₂ (λ (x y : List Pair). x ++ y) leading body ∙ sym (layout_first ps)

pub zero_within_width : (ps : List Pair) (first : ℕ) (g0 : List ℕ) → AreUtf8 ps → length ps ≤ MAX_TEXT → bytes ps ≤ MAX_TEXT → lines_from 0 (drop first (with_gaps g0 ps)) ≡ format_lines [] [] (lines_from 0 (drop first ps))
    → AreAtMost MAX_WIDTH (widths assignment (lines_from 0 (drop first (with_gaps g0 ps))))
zero_within_width ps first g0 u few short lines =
    let widths_bounded = base_lines_bounded (drop first ps) (utf8_drop first ps u) (omega (arith, length-drop first ps, few)) (omega (arith, bytes_drop first ps, short)) in
    subst (λ ls. AreAtMost MAX_WIDTH (widths assignment ls)) (sym lines)
    (within_more BASE_WIDTH MAX_WIDTH (widths assignment (format_lines [] [] (lines_from 0 (drop first ps)))) (omega arith) (widths_within BASE_WIDTH assignment (format_lines [] [] (lines_from 0 (drop first ps))) widths_bounded))

pub one_within_width : (ps : List Pair) (first : ℕ) (g1 : List ℕ) → AreUtf8 ps → length ps ≤ MAX_TEXT → bytes ps ≤ MAX_TEXT → lines_from 0 (drop first (with_gaps g1 ps)) ≡ aligned assignment (format_lines [] [] (lines_from 0 (drop first ps)))
    → AreAtMost MAX_WIDTH (widths closing_comment (lines_from 0 (drop first (with_gaps g1 ps))))
one_within_width ps first g1 u few short lines =
    let set : List Line = format_lines [] [] (lines_from 0 (drop first ps)) in
    let widths_bounded = base_lines_bounded (drop first ps) (utf8_drop first ps u) (omega (arith, length-drop first ps, few)) (omega (arith, bytes_drop first ps, short)) in
    let moved = aligned_within_width BASE_WIDTH assignment set widths_bounded in
    subst (λ ls. AreAtMost MAX_WIDTH (widths closing_comment ls)) (sym lines)
    (within_more (BASE_WIDTH + (1 + BASE_WIDTH)) MAX_WIDTH (widths closing_comment (aligned assignment set)) (omega arith) (widths_within (BASE_WIDTH + (1 + BASE_WIDTH)) closing_comment (aligned assignment set) moved))

pub stages_made : (ps : List Pair) (first : ℕ) (g0 g1 g2 : List ℕ) → first ≡ mark_count ps → first ≤ length ps → AreStages ps first g0 g1 g2 → with_gaps g2 ps ≡ layout_pairs ps
stages_made ps first g0 g1 g2 is fits s =
    stages_make ps g0 g1 g2 (omega (arith, is, fits)) (subst (λ n. AreStages ps n g0 g1 g2) is s)

-- what is known of a text with its tokens
pub record IsKnown (ps : List Pair) : Type 0 where
  pub few : length ps ≤ MAX_TEXT
  pub short : bytes ps ≤ MAX_TEXT
  pub utf8 : AreUtf8 ps

pub known : (text : List ℕ) (ps : List Pair) (last : List ℕ) → IsTokenization text ps last → AreUtf8 ps → IsKnown ps
known text ps last c utf8 = record {
  few = few_tokens text ps last c;
  short = omega (arith, ap length c.tokenizes.text_is, bytes_joining ps last, c.short);
  utf8 = utf8;
}
