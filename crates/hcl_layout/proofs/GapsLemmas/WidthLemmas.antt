-- Widths, token by token.
use Rattle.std.proofs.Common.{◌≡◌, ℕ, ◌+◌, ◌<◌, ◌≤◌, ◌==◌, true, false, List, length, get_or, slice_range, Some, refl, sym, ap, ap₂, ◌∙◌, arith}
use Rattle.std.specs.Prelude.{slice_get}
use Rattle.std.specs.Option.{option_map}
use Rattle.std.proofs.lemmas.List.Sums.{sum_by-cons}
use Rattle.hcl_token.specs.Tokens.{Pair}
use Rattle.hcl_token.specs.Place.{clusters}
use Rattle.hcl_token.specs.TokenizedText.{gap_of, clusters_of}
use Rattle.hcl_layout.specs.Gaps.Space.{spaces}
use Rattle.hcl_layout.specs.Gaps.Cells.{width}
use Rattle.hcl_layout.specs.Gaps.Inner.Stages.{KEEP_GAP, resolved_gap, with_gaps}
use Rattle.hcl_layout.proofs.GapsLemmas.LineLemmas.{token_here}
use Rattle.hcl_layout.proofs.GapsLemmas.CellGaps.{gapped, gaps_length}
use Rattle.hcl_layout.proofs.GapsLemmas.GapLaw.{length_replicate}

-- the gap before token i, with other gaps
pub gap_length_is : (ns : List ℕ) (ps : List Pair) (i : ℕ) → length ns ≡ length ps → i < length ps
    → (p : Pair) × (slice_get ps i ≡ Some p) × (option_map (λ (q : Pair). length q.gap) (slice_get (with_gaps ns ps) i) ≡ Some (length (resolved_gap (get_or ns i 0) p.gap)))
gap_length_is ns ps i size inside =
    let t = token_here ps i (length ps) inside (omega arith) in
    (t.pair, t.at, ap (option_map (λ (q : Pair). length q.gap)) (gapped ns ps i t.pair size t.at))

pub kept_length : (ns : List ℕ) (ps : List Pair) (i n k : ℕ) (g : List ℕ) → length ns ≡ length ps → i < length ps → n ≡ get_or ns i 0 → (n == KEEP_GAP) ≡ true → Some g ≡ gap_of ps i → k ≡ length g
    → Some k ≡ option_map (λ (p : Pair). length p.gap) (slice_get (with_gaps ns ps) i)
kept_length ns ps i n k g size inside n_is test g_is k_is =
    let h = gap_length_is ns ps i size inside in
    let kept : (get_or ns i 0 == KEEP_GAP) ≡ true = ap (λ m. m == KEEP_GAP) (sym n_is) ∙ test in
    let same : g ≡ h.0.gap = let e = g_is ∙ ap (option_map (λ (q : Pair). q.gap)) h.1 in cc in
    let all : resolved_gap (get_or ns i 0) h.0.gap ≡ h.0.gap = rw kept refl in
    sym (h.2 ∙ ap (λ (x : List ℕ). Some (length x)) (all ∙ sym same) ∙ ap Some (sym k_is))

pub spaces_length : (ns : List ℕ) (ps : List Pair) (i n : ℕ) → length ns ≡ length ps → i < length ps → n ≡ get_or ns i 0 → (n == KEEP_GAP) ≡ false
    → Some n ≡ option_map (λ (p : Pair). length p.gap) (slice_get (with_gaps ns ps) i)
spaces_length ns ps i n size inside n_is test =
    let h = gap_length_is ns ps i size inside in
    let free : (get_or ns i 0 == KEEP_GAP) ≡ false = ap (λ m. m == KEEP_GAP) (sym n_is) ∙ test in
    let all : resolved_gap (get_or ns i 0) h.0.gap ≡ spaces (get_or ns i 0) = rw free refl in
    sym (h.2 ∙ ap (λ (x : List ℕ). Some (length x)) all ∙ ap Some (length_replicate (get_or ns i 0) 32 ∙ sym n_is))

-- one token more
pub width_step : (ns : List ℕ) (ps : List Pair) (i to k c : ℕ) → length ns ≡ length ps → i < to → to ≤ length ps
    → Some k ≡ option_map (λ (p : Pair). length p.gap) (slice_get (with_gaps ns ps) i) → Some c ≡ clusters_of ps i
    → width (slice_range (with_gaps ns ps) i to) ≡ (k + c) + width (slice_range (with_gaps ns ps) (i + 1) to)
width_step ns ps i to k c size less within k_is c_is =
    let t = token_here ps i (length ps) (omega arith) (omega arith) in
    let all = gaps_length ns ps size in
    let u = token_here (with_gaps ns ps) i to less (omega (arith, all)) in
    let found = gapped ns ps i t.pair size t.at in
    let same : u.pair ≡ record t.pair { gap = resolved_gap (get_or ns i 0) t.pair.gap } = let e = sym u.at ∙ found in cc in
    let k_same : k ≡ length u.pair.gap = let e = k_is ∙ ap (option_map (λ (p : Pair). length p.gap)) u.at in cc in
    let c_same : c ≡ clusters u.pair.spelling = let e = c_is ∙ ap (option_map (λ (p : Pair). clusters p.spelling)) t.at in let f = ap (λ (p : Pair). clusters p.spelling) same in cc in
    ap width u.range ∙ sum_by-cons (λ (p : Pair). length p.gap + clusters p.spelling) u.pair (slice_range (with_gaps ns ps) (i + 1) to)
    ∙ ap (λ m. m + width (slice_range (with_gaps ns ps) (i + 1) to)) (ap₂ (λ x y. x + y) (sym k_same) (sym c_same))
