-- The gaps of a layout may be between its tokens, and keep apart what joins.
use Rattle.std.proofs.Common.{◌≡◌, ℕ, zero, suc, ◌*◌, ◌<◌, Bool, true, false, ◌||◌, List, [], ◌∷◌, ◌++◌, drop, Option, Some, None, if◌then◌else◌, refl, sym, ap, subst, inl, inr, arith}
use Rattle.std.proofs.lemmas.Bool.{both_ways, false≢true, or_cases}
use Rattle.std.specs.List.{list_all}
use Rattle.std.specs.Option.{option_map}
use Rattle.hcl_token.specs.declared.kind.Kind.{Kind}
use Rattle.hcl_token.specs.declared.kind.Kind.TheVariants.{LineEnd, LineComment, Equal, HereClose}
use Rattle.hcl_token.specs.Tokens.{Pair}
use Rattle.hcl_token.specs.Joins.{joins_with}
use Rattle.hcl_token.specs.Kinds.{is_line_end, is_line_comment}
use Rattle.hcl_scan.specs.Characters.{is_whitespace}
use Rattle.hcl_scan.specs.Follows.{has_no_gap_before, has_no_gap_after}
use Rattle.hcl_layout.specs.Gaps.Kinds.{is_equal}
use Rattle.hcl_layout.specs.Gaps.Lines.{Line, lines_of, pairs_in}
use Rattle.hcl_layout.specs.Gaps.Indent.{level}
use Rattle.hcl_layout.specs.Gaps.Space.{prev_after, prev_after_all, is_spaced, spaces, gap_between}
use Rattle.hcl_layout.specs.Gaps.Cells.{index_of_first, index_after_first, has_cells, is_balanced, assignment, closing_comment, with_gap, with_cell_gap, aligned}
use Rattle.hcl_layout.specs.Gaps.Inner.Stages.{greatest, cell_gaps_from_width, widths, with_cell_gaps}
use Rattle.hcl_layout.specs.Gaps.Layout.{with_spacing, with_indent, format_line, format_lines, layout_body}
use Rattle.hcl_layout.proofs.Lower.{LinesHaveAll}
use Rattle.hcl_layout.proofs.AllowedGaps.{IsAllowedAfter, AllAllowedAfter}
use Rattle.hcl_layout.proofs.LineBegins.{last_of, LinesStartAfter, lines_start_after}
use Rattle.hcl_layout.proofs.GapsLemmas.CellLaw.{aligned_is}

spaces_whitespace : (n : ℕ) → list_all is_whitespace (spaces n) ≡ true
spaces_whitespace zero = refl
spaces_whitespace (suc n) = spaces_whitespace n

-- the token with another gap
allowed_with : (k : Kind) (s : List ℕ) (p : Pair) (gap : List ℕ) → IsAllowedAfter k s p → list_all is_whitespace gap ≡ true → ((has_no_gap_after k || has_no_gap_before p.kind) ≡ true → gap ≡ []) → (gap ≡ [] → joins_with k s p.kind p.spelling ≡ false)
    → IsAllowedAfter k s (record p { gap = gap })
allowed_with k s p gap h is_white none apart = record { whitespace = is_white; none = none; apart = apart; literal = h.literal; shut = h.shut }

-- more tokens after tokens
allowed_after : (k : Kind) (s : List ℕ) (ps old new : List Pair) → AllAllowedAfter k s (ps ++ old) → ((t : List ℕ) → AllAllowedAfter (last_of k ps) t old → AllAllowedAfter (last_of k ps) t new) → AllAllowedAfter k s (ps ++ new)
allowed_after k s [] old new h f = f s h
allowed_after k s (p ∷ ps) old new h f = (h.0, allowed_after p.kind p.spelling ps old new h.1 f)

-- ---- indented and spaced

shut_joins : (k : Kind) (s : List ℕ) (j : Kind) (t : List ℕ) → has_no_gap_after k ≡ true → joins_with k s j t ≡ false
shut_joins LineComment s j t h = refl
shut_joins HereClose s j t h = refl
shut_joins k s j t h = absurd (false≢true h)

between_whitespace : (literal some : Bool) → list_all is_whitespace (if literal then [] else (if some then spaces 1 else [])) ≡ true
between_whitespace true some = refl
between_whitespace false true = refl
between_whitespace false false = refl

between_none : (literal some : Bool) → (literal ≡ false → some ≡ false) → (if literal then [] else (if some then spaces 1 else [])) ≡ []
between_none true some h = refl
between_none false some h = rw (h refl) refl

between_apart : (literal with_spacing joins : Bool) → (literal ≡ true → joins ≡ false) → (if literal then [] else (if with_spacing || joins then spaces 1 else [])) ≡ [] → joins ≡ false
between_apart true with_spacing joins h e = h refl
between_apart false with_spacing false h e = refl
between_apart false true true h e = absurd (cc)
between_apart false false true h e = absurd (cc)

after_shut : (before : List Kind) (a b : Pair) → IsAllowedAfter a.kind a.spelling b → has_no_gap_after a.kind ≡ true → has_no_gap_before b.kind ≡ false → (is_spaced before a b || joins_with a.kind a.spelling b.kind b.spelling) ≡ false
after_shut before a b h shut gap = rw (h.shut shut gap, shut_joins a.kind a.spelling b.kind b.spelling shut) refl

between_is_allowed : (before : List Kind) (a b : Pair) → IsAllowedAfter a.kind a.spelling b → IsAllowedAfter a.kind a.spelling (record b { gap = gap_between before a b })
between_is_allowed before a b h =
    let joins : Bool = joins_with a.kind a.spelling b.kind b.spelling in
    let some : Bool = is_spaced before a b || joins in
    allowed_with a.kind a.spelling b (gap_between before a b) h
    (between_whitespace (has_no_gap_before b.kind) some)
    (λ e. elim (or_cases (has_no_gap_after a.kind) (has_no_gap_before b.kind) e) [
      | inl shut ↦ between_none (has_no_gap_before b.kind) some (after_shut before a b h shut)
      | inr literal ↦ between_none (has_no_gap_before b.kind) some (λ gap. absurd (both_ways _ gap literal))
    ])
    (between_apart (has_no_gap_before b.kind) (is_spaced before a b) joins (λ e. (h.literal e).0))

spaced_allowed : (before : List Kind) (a : Pair) (ps rest : List Pair) → AllAllowedAfter a.kind a.spelling (ps ++ rest) → AllAllowedAfter a.kind a.spelling (with_spacing before a ps ++ rest)
spaced_allowed before a [] rest h = h
spaced_allowed before a (b ∷ ps) rest h = (between_is_allowed before a b h.0, spaced_allowed (prev_after a before) b ps rest h.1)

indent_whitespace : (ends : Bool) (deep : ℕ) → list_all is_whitespace (if ends then [] else spaces (2 * deep)) ≡ true
indent_whitespace true deep = refl
indent_whitespace false deep = spaces_whitespace (2 * deep)

first_is_allowed : (k : Kind) (s : List ℕ) (p : Pair) (deep : ℕ) → k ≡ LineEnd → IsAllowedAfter k s p → IsAllowedAfter k s (record p { gap = if is_line_end p.kind then [] else spaces (2 * deep) })
first_is_allowed k s p deep e h =
    allowed_with k s p (if is_line_end p.kind then [] else spaces (2 * deep)) h
    (indent_whitespace (is_line_end p.kind) deep)
    (λ g. absurd (elim (or_cases (has_no_gap_after k) (has_no_gap_before p.kind) g) as (λ _. ⊥) [
      | inl shut ↦ both_ways _ (ap has_no_gap_after e) shut
      | inr literal ↦ both_ways _ (h.literal literal).1 (ap is_line_end e)
    ]))
    (λ _. ap (λ j. joins_with j s p.kind p.spelling) e)

indented_allowed : (k : Kind) (s : List ℕ) (deep : ℕ) (before : List Kind) (ps rest : List Pair) → k ≡ LineEnd → AllAllowedAfter k s (ps ++ rest) → AllAllowedAfter k s (with_indent deep before ps ++ rest)
indented_allowed k s deep before [] rest e h = h
indented_allowed k s deep before (p ∷ ps) rest e h = (first_is_allowed k s p deep e h.0, spaced_allowed before p ps rest h.1)

line_allowed : (k : Kind) (s : List ℕ) (deep : ℕ) (before : List Kind) (frozen : Bool) (ps rest : List Pair) → (frozen ≡ false → k ≡ LineEnd) → AllAllowedAfter k s (ps ++ rest)
    → AllAllowedAfter k s ((format_line deep before (record { frozen = frozen; pairs = ps })).pairs ++ rest)
line_allowed k s deep before true ps rest begins h = h
line_allowed k s deep before false ps rest begins h = indented_allowed k s deep before ps rest (begins refl) h

set_allowed : (k : Kind) (s : List ℕ) (earlier : List Line) (before : List Kind) (lines : List Line) → LinesStartAfter k lines → AllAllowedAfter k s (pairs_in lines) → AllAllowedAfter k s (pairs_in (format_lines earlier before lines))
set_allowed k s earlier before [] begun h = h
set_allowed k s earlier before (line ∷ lines) begun h =
    let more : List Pair = pairs_in (format_lines (earlier ++ line ∷ []) (prev_after_all line.pairs before) lines) in
    line_allowed k s (level earlier line) before line.frozen line.pairs more begun.0
    (allowed_after k s line.pairs (pairs_in lines) more h (λ t. set_allowed (last_of k line.pairs) t (earlier ++ line ∷ []) (prev_after_all line.pairs before) lines begun.1))

-- ---- cells

-- a gap may be before the token that follows n others
abbrev IsFreeAt : ℕ → List Pair → Type 0
IsFreeAt n [] = Unit {0}
IsFreeAt zero (p ∷ ps) = (has_no_gap_before p.kind ≡ false) × (is_line_end p.kind ≡ false)
IsFreeAt (suc n) (p ∷ ps) = IsFreeAt n ps

abbrev IsFree : Option ℕ → List Pair → Type 0
IsFree None ps = Unit {0}
IsFree (Some n) ps = IsFreeAt n ps

-- count for a cell is one space or more
abbrev AreSpaces : List (Option ℕ) → Type 0
AreSpaces [] = Unit {0}
AreSpaces (None ∷ rs) = AreSpaces rs
AreSpaces (Some r ∷ rs) = (0 < r) × AreSpaces rs

gaps_some : (top : ℕ) (ws : List (Option ℕ)) → AreSpaces (cell_gaps_from_width top ws)
gaps_some top [] = tt
gaps_some top (None ∷ ws) = gaps_some (greatest ws) ws
gaps_some top (Some w ∷ ws) = (omega arith, gaps_some top ws)

some_space : (r : ℕ) → 0 < r → spaces r ≡ [] → ⊥
some_space zero h e = absurd (omega arith)
some_space (suc r) h e = absurd (cc)

moved_is_allowed : (k : Kind) (s : List ℕ) (p : Pair) (r : ℕ) → 0 < r → (has_no_gap_before p.kind ≡ false) × (is_line_end p.kind ≡ false) → IsAllowedAfter k s p → IsAllowedAfter k s (record p { gap = spaces r })
moved_is_allowed k s p r some free h =
    allowed_with k s p (spaces r) h (spaces_whitespace r)
    (λ g. absurd (elim (or_cases (has_no_gap_after k) (has_no_gap_before p.kind) g) as (λ _. ⊥) [
      | inl shut ↦ both_ways _ free.1 (h.shut shut free.0)
      | inr literal ↦ both_ways _ free.0 literal
    ]))
    (λ e. absurd (some_space r some e))

gap_allowed : (k : Kind) (s : List ℕ) (n r : ℕ) (ps rest : List Pair) → 0 < r → IsFreeAt n ps → AllAllowedAfter k s (ps ++ rest) → AllAllowedAfter k s (with_gap n (spaces r) ps ++ rest)
gap_allowed k s n r [] rest some free h = h
gap_allowed k s zero r (p ∷ ps) rest some free h = (moved_is_allowed k s p r some free h.0, h.1)
gap_allowed k s (suc n) r (p ∷ ps) rest some free h = (h.0, gap_allowed p.kind p.spelling n r ps rest some free h.1)

cell_allowed : (k : Kind) (s : List ℕ) (found count : Option ℕ) (line : Line) (rest : List Pair) → IsFree found line.pairs → AreSpaces (count ∷ []) → AllAllowedAfter k s (line.pairs ++ rest) → AllAllowedAfter k s ((with_cell_gap found count line).pairs ++ rest)
cell_allowed k s None count line rest free some h = h
cell_allowed k s (Some n) None line rest free some h = h
cell_allowed k s (Some n) (Some r) line rest free some h = gap_allowed k s n r line.pairs rest some.0 free h

abbrev CellsFree : (Line → Option ℕ) → Type 0
CellsFree cell = (line : Line) → IsFree (cell line) line.pairs

spaces_parts : (r : Option ℕ) (rs : List (Option ℕ)) → AreSpaces (r ∷ rs) → AreSpaces (r ∷ []) × AreSpaces rs
spaces_parts None rs h = (tt, h)
spaces_parts (Some r) rs h = ((h.0, tt), h.1)

moved_allowed : (k : Kind) (s : List ℕ) (cell : Line → Option ℕ) (rs : List (Option ℕ)) (lines : List Line) → CellsFree cell → AreSpaces rs → AllAllowedAfter k s (pairs_in lines) → AllAllowedAfter k s (pairs_in (with_cell_gaps cell rs lines))
moved_allowed k s cell [] lines free some h = h
moved_allowed k s cell (r ∷ rs) [] free some h = h
moved_allowed k s cell (r ∷ rs) (line ∷ lines) free some h =
    let parts = spaces_parts r rs some in
    let more : List Pair = pairs_in (with_cell_gaps cell rs lines) in
    cell_allowed k s (cell line) r line more (free line) parts.0
    (allowed_after k s line.pairs (pairs_in lines) more h (λ t. moved_allowed (last_of k line.pairs) t cell rs lines free parts.1))

-- the cells begin with `=` and with line comments
abbrev KindsFree : (Kind → Bool) → Type 0
KindsFree f = (k : Kind) → f k ≡ true → (has_no_gap_before k ≡ false) × (is_line_end k ≡ false)

equal_free : KindsFree is_equal
equal_free Equal h = (refl, refl)
equal_free k h = absurd (false≢true h)

comment_free : KindsFree is_line_comment
comment_free LineComment h = (refl, refl)
comment_free k h = absurd (false≢true h)

suc_free : (found : Option ℕ) (p : Pair) (ps : List Pair) → IsFree found ps → IsFree (option_map suc found) (p ∷ ps)
suc_free None p ps h = tt
suc_free (Some n) p ps h = h

first_free : (f : Kind → Bool) (ps : List Pair) → KindsFree f → IsFree (index_of_first (λ (p : Pair). f p.kind) ps) ps
first_free f [] free = tt
first_free f (p ∷ ps) free = elim (f p.kind) as (λ v. f p.kind ≡ v → IsFree (if v then Some 0 else option_map suc (index_of_first (λ (q : Pair). f q.kind) ps)) (p ∷ ps)) [
  | true ↦ λ e. free p.kind e
  | false ↦ λ e. suc_free (index_of_first (λ (q : Pair). f q.kind) ps) p ps (first_free f ps free)
] refl

later_free : (f : Kind → Bool) (ps : List Pair) → KindsFree f → IsFree (index_after_first (λ (p : Pair). f p.kind) ps) ps
later_free f [] free = tt
later_free f (p ∷ ps) free = suc_free (index_of_first (λ (q : Pair). f q.kind) ps) p ps (first_free f ps free)

if_free : (b : Bool) (found : Option ℕ) (ps : List Pair) → IsFree found ps → IsFree (if b then found else None) ps
if_free true found ps h = h
if_free false found ps h = tt

balanced_free : (found : Option ℕ) (ps : List Pair) → IsFree found ps → IsFree (elim found [ None ↦ None | Some n ↦ if is_balanced (drop n ps) then Some n else None ]) ps
balanced_free None ps h = tt
balanced_free (Some n) ps h = if_free (is_balanced (drop n ps)) (Some n) ps h

assignments_free : CellsFree assignment
assignments_free line =
    if_free (has_cells line) (elim (index_after_first (λ (p : Pair). is_equal p.kind) line.pairs) [ None ↦ None | Some n ↦ if is_balanced (drop n line.pairs) then Some n else None ]) line.pairs
    (balanced_free (index_after_first (λ (p : Pair). is_equal p.kind) line.pairs) line.pairs (later_free is_equal line.pairs equal_free))

comments_free : CellsFree closing_comment
comments_free line = if_free (has_cells line) (index_after_first (λ (p : Pair). is_line_comment p.kind) line.pairs) line.pairs (later_free is_line_comment line.pairs comment_free)

aligned_allowed : (k : Kind) (s : List ℕ) (cell : Line → Option ℕ) (lines : List Line) → CellsFree cell → AllAllowedAfter k s (pairs_in lines) → AllAllowedAfter k s (pairs_in (aligned cell lines))
aligned_allowed k s cell lines free h =
    let ws : List (Option ℕ) = widths cell lines in
    subst (λ (ls : List Line). AllAllowedAfter k s (pairs_in ls)) (sym (aligned_is cell lines))
    (moved_allowed k s cell (cell_gaps_from_width (greatest ws) ws) lines free (gaps_some (greatest ws) ws) h)

-- ---- all stages

pub body_allowed : LinesHaveAll → (s : List ℕ) (ps : List Pair) → AllAllowedAfter LineEnd s ps → AllAllowedAfter LineEnd s (layout_body ps)
body_allowed lines_have_all s ps h =
    let lines : List Line = lines_of ps in
    let old : AllAllowedAfter LineEnd s (pairs_in lines) = subst (AllAllowedAfter LineEnd s) (sym (lines_have_all ps)) h in
    let first : List Line = format_lines [] [] lines in
    let set = set_allowed LineEnd s [] [] lines (lines_start_after ps) old in
    aligned_allowed LineEnd s closing_comment (aligned assignment first) comments_free (aligned_allowed LineEnd s assignment first assignments_free set)
