-- Lines and cells of tokens with other gaps, and what moved cells make of the gaps.
use Rattle.std.proofs.Common.{◌≡◌, ℕ, zero, suc, ◌+◌, ◌-◌, ◌<◌, ◌≤◌, ◌==◌, Bool, true, false, not, ◌&&◌, ◌||◌, nat_lt, List, [], ◌∷◌, ◌++◌, length, take, drop, get_or, set, slice_range, cond, Option, Some, None, if◌then◌else◌, refl, sym, ap, ap₂, subst, ◌∙◌, arith, append_assoc, length-append, length-set}
use Rattle.std.specs.Prelude.{slice_get}
use Rattle.std.specs.Option.{option_map}
use Rattle.std.specs.List.{list_any}
use Rattle.std.proofs.lemmas.List.{drop-drop, take-append-drop}
use Rattle.hcl_token.specs.declared.kind.Kind.{Kind}
use Rattle.hcl_token.specs.Tokens.{Pair}
use Rattle.hcl_token.specs.Place.{is_lf}
use Rattle.hcl_token.specs.Kinds.{is_line_comment, is_opening, is_closing}
use Rattle.hcl_layout.specs.Gaps.Kinds.{is_equal, is_inline_comment}
use Rattle.hcl_layout.specs.Gaps.Lines.{Line, heredocs_after, ends_line, pairs_in}
use Rattle.hcl_layout.specs.Gaps.Space.{spaces}
use Rattle.hcl_layout.specs.Gaps.Cells.{index_of_first, index_after_first, has_cells, is_balanced, assignment, closing_comment, with_gap, with_cell_gap}
use Rattle.hcl_layout.specs.Gaps.Inner.Stages.{greatest, with_cell_gaps, prepend_to_first, lines_from, KEEP_GAP, resolved_gap, with_gaps, open_heredocs_of, SplitsLine, AreAtMost, cell_tokens, set_cell_gap, set_cell_gaps}
use Rattle.hcl_layout.proofs.GapsLemmas.GapLaw.{pairs_of_lines, meant}
use Rattle.hcl_layout.proofs.GapsLemmas.TokensKept.{SameTokens, Alike, split_again, count_same}

-- ---- tokens with other gaps

pub gaps_length : (ns : List ℕ) (ps : List Pair) → length ns ≡ length ps → length (with_gaps ns ps) ≡ length ps
gaps_length [] [] h = refl
gaps_length [] (p ∷ ps) h = absurd (omega arith)
gaps_length (n ∷ ns) [] h = refl
gaps_length (n ∷ ns) (p ∷ ps) h = ap suc (gaps_length ns ps (omega arith))

pub gaps_same : (ns : List ℕ) (ps : List Pair) → length ns ≡ length ps → SameTokens (with_gaps ns ps) ps
gaps_same [] [] h = tt
gaps_same [] (p ∷ ps) h = absurd (omega arith)
gaps_same (n ∷ ns) [] h = tt
gaps_same (n ∷ ns) (p ∷ ps) h = (refl, refl, gaps_same ns ps (omega arith))

pub gapped : (ns : List ℕ) (ps : List Pair) (i : ℕ) (p : Pair) → length ns ≡ length ps → slice_get ps i ≡ Some p → slice_get (with_gaps ns ps) i ≡ Some (record p { gap = resolved_gap (get_or ns i 0) p.gap })
gapped ns [] i p h is = absurd (cc)
gapped [] (q ∷ ps) i p h is = absurd (omega arith)
gapped (n ∷ ns) (q ∷ ps) zero p h is = let same : q ≡ p = cc in ap (λ (x : Pair). Some (record x { gap = resolved_gap n x.gap })) same
gapped (n ∷ ns) (q ∷ ps) (suc i) p h is = gapped ns ps i p (omega arith) is

same_drop : (n : ℕ) (ps qs : List Pair) → SameTokens ps qs → SameTokens (drop n ps) (drop n qs)
same_drop zero ps qs h = h
same_drop (suc n) [] [] h = tt
same_drop (suc n) [] (q ∷ qs) h = absurd h
same_drop (suc n) (p ∷ ps) [] h = absurd h
same_drop (suc n) (p ∷ ps) (q ∷ qs) h = same_drop n ps qs h.2

same_take : (n : ℕ) (ps qs : List Pair) → SameTokens ps qs → SameTokens (take n ps) (take n qs)
same_take zero ps qs h = tt
same_take (suc n) [] [] h = tt
same_take (suc n) [] (q ∷ qs) h = absurd h
same_take (suc n) (p ∷ ps) [] h = absurd h
same_take (suc n) (p ∷ ps) (q ∷ qs) h = (h.0, h.1, same_take n ps qs h.2)

pub same_range : (ps qs : List Pair) (i j : ℕ) → SameTokens ps qs → SameTokens (slice_range ps i j) (slice_range qs i j)
same_range ps qs i j h = same_take (j - i) (drop i ps) (drop i qs) (same_drop i ps qs h)

first_alike : (f : Bool) (p q : Pair) (xs ys : List Line) → p.kind ≡ q.kind → p.spelling ≡ q.spelling → Alike xs ys → Alike (prepend_to_first f p xs) (prepend_to_first f q ys)
first_alike f p q [] [] h k l = (refl, (h, k, tt), tt)
first_alike f p q [] (y ∷ ys) h k l = absurd l
first_alike f p q (x ∷ xs) [] h k l = absurd l
first_alike f p q (x ∷ xs) (y ∷ ys) h k l = (refl, (h, k, l.1), l.2)

pub lines_alike : (open_heredocs : ℕ) (ps qs : List Pair) → SameTokens ps qs → Alike (lines_from open_heredocs ps) (lines_from open_heredocs qs)
lines_alike open_heredocs [] [] h = tt
lines_alike open_heredocs [] (q ∷ qs) h = absurd h
lines_alike open_heredocs (p ∷ ps) [] h = absurd h
lines_alike open_heredocs (p ∷ ps) (q ∷ qs) h =
    let rest : Alike (lines_from (heredocs_after open_heredocs p.kind) ps) (lines_from (heredocs_after open_heredocs q.kind) qs) =
    subst (λ k. Alike (lines_from (heredocs_after open_heredocs p.kind) ps) (lines_from (heredocs_after open_heredocs k) qs)) h.0 (lines_alike (heredocs_after open_heredocs p.kind) ps qs h.2) in
    let ends : ends_line open_heredocs p.kind ≡ ends_line open_heredocs q.kind = ap (ends_line open_heredocs) h.0 in
    rw ends (either (ends_line open_heredocs q.kind) rest)
  where
    either : (b : Bool) → Alike (lines_from (heredocs_after open_heredocs p.kind) ps) (lines_from (heredocs_after open_heredocs q.kind) qs)
        → Alike (if b then record { frozen = nat_lt 0 open_heredocs; pairs = p ∷ [] } ∷ lines_from (heredocs_after open_heredocs p.kind) ps else prepend_to_first (nat_lt 0 open_heredocs) p (lines_from (heredocs_after open_heredocs p.kind) ps))
        (if b then record { frozen = nat_lt 0 open_heredocs; pairs = q ∷ [] } ∷ lines_from (heredocs_after open_heredocs q.kind) qs else prepend_to_first (nat_lt 0 open_heredocs) q (lines_from (heredocs_after open_heredocs q.kind) qs))
    either true rest = (refl, (h.0, h.1, tt), rest)
    either false rest = first_alike (nat_lt 0 open_heredocs) p q (lines_from (heredocs_after open_heredocs p.kind) ps) (lines_from (heredocs_after open_heredocs q.kind) qs) h.0 h.1 rest

range_drop : (ps : List Pair) (at past : ℕ) → at < past → past ≤ length ps → slice_range ps at past ++ drop past ps ≡ drop at ps
range_drop ps at past less within =
    let step : at + (past - at) ≡ past = omega arith in
    ap (λ rs. slice_range ps at past ++ rs) (ap (λ k. drop k ps) (sym step) ∙ sym (drop-drop (past - at) at ps)) ∙ take-append-drop (past - at) (drop at ps)

-- a line of tokens is one of the same tokens with other gaps
pub splits_same : (ps qs : List Pair) (at : ℕ) (f : Bool) (past : ℕ) (next : Bool) → SameTokens qs ps → length qs ≡ length ps → SplitsLine ps at f past next
    → lines_from (open_heredocs_of f) (drop at qs) ≡ record { frozen = f; pairs = slice_range qs at past } ∷ lines_from (open_heredocs_of next) (drop past qs)
splits_same ps qs at f past next same size split =
    let xs : List Line = record { frozen = f; pairs = slice_range qs at past } ∷ lines_from (open_heredocs_of next) (drop past qs) in
    let like : Alike xs (record { frozen = f; pairs = slice_range ps at past } ∷ lines_from (open_heredocs_of next) (drop past ps)) =
    (refl, same_range qs ps at past same, lines_alike (open_heredocs_of next) (drop past qs) (drop past ps) (same_drop past qs ps same)) in
    let like_lines : Alike xs (lines_from (open_heredocs_of f) (drop at ps)) = subst (λ ls. Alike xs ls) (sym split.line) like in
    let whole : pairs_in xs ≡ drop at qs =
    ap (λ rs. slice_range qs at past ++ rs) (pairs_of_lines (open_heredocs_of next) (drop past qs)) ∙ range_drop qs at past split.more (omega (arith, split.within)) in
    ap (lines_from (open_heredocs_of f)) (sym whole) ∙ split_again (open_heredocs_of f) (drop at ps) xs like_lines

-- ---- the cells of the same tokens

first_same : (test : Kind → Bool) (ps qs : List Pair) → SameTokens ps qs → index_of_first (λ (p : Pair). test p.kind) ps ≡ index_of_first (λ (p : Pair). test p.kind) qs
first_same test [] [] h = refl
first_same test [] (q ∷ qs) h = absurd h
first_same test (p ∷ ps) [] h = absurd h
first_same test (p ∷ ps) (q ∷ qs) h =
    ap₂ (λ k (o : Option ℕ). if test k then Some 0 else option_map suc o) h.0 (first_same test ps qs h.2)

later_same : (test : Kind → Bool) (ps qs : List Pair) → SameTokens ps qs → index_after_first (λ (p : Pair). test p.kind) ps ≡ index_after_first (λ (p : Pair). test p.kind) qs
later_same test [] [] h = refl
later_same test [] (q ∷ qs) h = absurd h
later_same test (p ∷ ps) [] h = absurd h
later_same test (p ∷ ps) (q ∷ qs) h = ap (option_map suc) (first_same test ps qs h.2)

breaks_same : (ps qs : List Pair) → SameTokens ps qs → list_any (λ (p : Pair). is_inline_comment p.kind && list_any is_lf p.spelling) ps ≡ list_any (λ (p : Pair). is_inline_comment p.kind && list_any is_lf p.spelling) qs
breaks_same [] [] h = refl
breaks_same [] (q ∷ qs) h = absurd h
breaks_same (p ∷ ps) [] h = absurd h
breaks_same (p ∷ ps) (q ∷ qs) h =
    ap₂ (λ k s. (is_inline_comment k && list_any is_lf s) || list_any (λ (x : Pair). is_inline_comment x.kind && list_any is_lf x.spelling) ps) h.0 h.1
    ∙ ap (λ b. (is_inline_comment q.kind && list_any is_lf q.spelling) || b) (breaks_same ps qs h.2)

even_same : (ps qs : List Pair) → SameTokens ps qs → is_balanced ps ≡ is_balanced qs
even_same ps qs h = ap₂ (λ m n. m == n) (count_same is_opening ps qs h) (count_same is_closing ps qs h)

cells_same : (f : Bool) (ps qs : List Pair) → SameTokens ps qs → has_cells (record { frozen = f; pairs = ps }) ≡ has_cells (record { frozen = f; pairs = qs })
cells_same f ps qs h = ap (λ b. not f && not b) (breaks_same ps qs h)

if_even : Option ℕ → List Pair → Option ℕ
if_even None ps = None
if_even (Some n) ps = if is_balanced (drop n ps) then Some n else None

if_even_is : (o : Option ℕ) (ps : List Pair) → if_even o ps ≡ (elim o [ None ↦ None | Some n ↦ if is_balanced (drop n ps) then Some n else None ])
unfolding if_even
if_even_is None ps = refl
if_even_is (Some n) ps = refl

if_even_same : (o : Option ℕ) (ps qs : List Pair) → SameTokens ps qs → if_even o ps ≡ if_even o qs
unfolding if_even
if_even_same None ps qs h = refl
if_even_same (Some n) ps qs h = ap (λ b. cond b (Some n) None) (even_same (drop n ps) (drop n qs) (same_drop n ps qs h))

pub assignment_same : (f : Bool) (ps qs : List Pair) → SameTokens ps qs → assignment (record { frozen = f; pairs = ps }) ≡ assignment (record { frozen = f; pairs = qs })
assignment_same f ps qs h =
    let found = sym (if_even_is (index_after_first (λ (p : Pair). is_equal p.kind) ps) ps) ∙ ap (λ o. if_even o ps) (later_same is_equal ps qs h) ∙ if_even_same (index_after_first (λ (p : Pair). is_equal p.kind) qs) ps qs h ∙ if_even_is (index_after_first (λ (p : Pair). is_equal p.kind) qs) qs in
    ap₂ (λ b (o : Option ℕ). cond b o None) (cells_same f ps qs h) found

pub comment_same : (f : Bool) (ps qs : List Pair) → SameTokens ps qs → closing_comment (record { frozen = f; pairs = ps }) ≡ closing_comment (record { frozen = f; pairs = qs })
comment_same f ps qs h = ap₂ (λ b (o : Option ℕ). cond b o None) (cells_same f ps qs h) (later_same is_line_comment ps qs h)

-- ---- widths within a bound

pub within_drop : (most n : ℕ) (ws : List (Option ℕ)) → AreAtMost most ws → AreAtMost most (drop n ws)
within_drop most zero ws h = h
within_drop most (suc n) [] h = tt
within_drop most (suc n) (None ∷ ws) h = within_drop most n ws h
within_drop most (suc n) (Some w ∷ ws) h = within_drop most n ws h.1

pub greatest_within : (most : ℕ) (ws : List (Option ℕ)) → AreAtMost most ws → greatest ws ≤ most
greatest_within most [] h = omega arith
greatest_within most (None ∷ ws) h = omega arith
greatest_within most (Some w ∷ ws) h = omega (arith, h.0, greatest_within most ws h.1)

-- ---- moved cells

set_gap : (ns : List ℕ) (ps : List Pair) (i v : ℕ) → length ns ≡ length ps → v < KEEP_GAP → with_gaps (set ns i v) ps ≡ with_gap i (spaces v) (with_gaps ns ps)
set_gap [] [] i v h k = refl
set_gap [] (p ∷ ps) i v h k = absurd (omega arith)
set_gap (n ∷ ns) [] i v h k = absurd (omega arith)
set_gap (n ∷ ns) (p ∷ ps) zero v h k = ap (λ g. record p { gap = g } ∷ with_gaps ns ps) (meant v p.gap k)
set_gap (n ∷ ns) (p ∷ ps) (suc i) v h k = ap (λ qs. record p { gap = resolved_gap n p.gap } ∷ qs) (set_gap ns ps i v (omega arith) k)

gap_after : (leading ps : List Pair) (n : ℕ) (gap : List ℕ) → with_gap (length leading + n) gap (leading ++ ps) ≡ leading ++ with_gap n gap ps
gap_after [] ps n gap = let e : 0 + n ≡ n = omega arith in ap (λ k. with_gap k gap ps) e
gap_after (p ∷ leading) ps n gap =
    let e : suc (length leading) + n ≡ suc (length leading + n) = omega arith in
    ap (λ k. with_gap k gap (p ∷ leading ++ ps)) e ∙ ap (λ qs. p ∷ qs) (gap_after leading ps n gap)

gap_in : (ps rest : List Pair) (n : ℕ) (gap : List ℕ) → n < length ps → with_gap n gap (ps ++ rest) ≡ with_gap n gap ps ++ rest
gap_in [] rest n gap h = absurd (omega arith)
gap_in (p ∷ ps) rest zero gap h = refl
gap_in (p ∷ ps) rest (suc n) gap h = ap (λ qs. p ∷ qs) (gap_in ps rest n gap (omega arith))

gap_len : (n : ℕ) (gap : List ℕ) (ps : List Pair) → length (with_gap n gap ps) ≡ length ps
gap_len n gap [] = refl
gap_len zero gap (p ∷ ps) = refl
gap_len (suc n) gap (p ∷ ps) = ap suc (gap_len n gap ps)

-- each cell that is found is in its line
abbrev pub AreInLines : (Line → Option ℕ) → List Line → Type 0
AreInLines cell [] = Unit {0}
AreInLines cell (line ∷ lines) = ((n : ℕ) → cell line ≡ Some n → n < length line.pairs) × AreInLines cell lines

abbrev pub AreSmall : List (Option ℕ) → Type 0
AreSmall [] = Unit {0}
AreSmall (None ∷ rs) = AreSmall rs
AreSmall (Some r ∷ rs) = (r < KEEP_GAP) × AreSmall rs

-- one line
moved_one : (ps : List Pair) (ns : List ℕ) (leading rest : List Pair) (at : ℕ) (found count : Option ℕ) (line : Line) → length ns ≡ length ps → at ≡ length leading
    → with_gaps ns ps ≡ leading ++ (line.pairs ++ rest) → ((n : ℕ) → found ≡ Some n → n < length line.pairs) → AreSmall (count ∷ [])
    → with_gaps (set_cell_gap ns (option_map (λ n. at + n) found) count) ps ≡ leading ++ ((with_cell_gap found count line).pairs ++ rest)
moved_one ps ns leading rest at None count line size at_is whole inside small = whole
moved_one ps ns leading rest at (Some n) None line size at_is whole inside small = whole
moved_one ps ns leading rest at (Some n) (Some r) line size at_is whole inside small =
    set_gap ns ps (at + n) r size small.0
    ∙ ap₂ (λ k (qs : List Pair). with_gap (k + n) (spaces r) qs) at_is whole
    ∙ gap_after leading (line.pairs ++ rest) n (spaces r)
    ∙ ap (λ qs. leading ++ qs) (gap_in line.pairs rest n (spaces r) (inside n refl))

cell_gap_length : (ns : List ℕ) (t r : Option ℕ) → length (set_cell_gap ns t r) ≡ length ns
cell_gap_length ns None r = refl
cell_gap_length ns (Some t) None = refl
cell_gap_length ns (Some t) (Some r) = length-set ns t r

moved_len : (found count : Option ℕ) (line : Line) → length (with_cell_gap found count line).pairs ≡ length line.pairs
moved_len None count line = refl
moved_len (Some n) None line = refl
moved_len (Some n) (Some r) line = gap_len n (spaces r) line.pairs

small_first : (r : Option ℕ) (rs : List (Option ℕ)) → AreSmall (r ∷ rs) → AreSmall (r ∷ []) × AreSmall rs
small_first None rs h = (tt, h)
small_first (Some r) rs h = ((h.0, tt), h.1)

-- What is before these lines, and the lines. Spaces before their cells, by the numbers of tokens,
-- are those of the lines.
pub moved_gaps : (ps : List Pair) (cell : Line → Option ℕ) (rs : List (Option ℕ)) (lines : List Line) (leading : List Pair) (at : ℕ) (ns : List ℕ)
    → length ns ≡ length ps → at ≡ length leading → with_gaps ns ps ≡ leading ++ pairs_in lines → AreInLines cell lines → AreSmall rs
    → with_gaps (set_cell_gaps ns (cell_tokens at cell lines) rs) ps ≡ leading ++ pairs_in (with_cell_gaps cell rs lines)
moved_gaps ps cell [] [] leading at ns size at_is whole inside small = whole
moved_gaps ps cell (r ∷ rs) [] leading at ns size at_is whole inside small = whole
moved_gaps ps cell [] (line ∷ lines) leading at ns size at_is whole inside small = whole
moved_gaps ps cell (r ∷ rs) (line ∷ lines) leading at ns size at_is whole inside small =
    let parts = small_first r rs small in
    let new : Line = with_cell_gap (cell line) r line in
    let one = moved_one ps ns leading (pairs_in lines) at (cell line) r line size at_is whole inside.0 parts.0 in
    let size' = cell_gap_length ns (option_map (λ n. at + n) (cell line)) r ∙ size in
    let len = moved_len (cell line) r line in
    moved_gaps ps cell rs lines (leading ++ new.pairs) (at + length line.pairs) (set_cell_gap ns (option_map (λ n. at + n) (cell line)) r) size'
    (omega (arith, at_is, len, length-append leading new.pairs)) (one ∙ sym (append_assoc leading new.pairs (pairs_in lines))) inside.1 parts.1
    ∙ append_assoc leading new.pairs (pairs_in (with_cell_gaps cell rs lines))
