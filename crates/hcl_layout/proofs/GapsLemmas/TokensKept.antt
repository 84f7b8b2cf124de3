-- The layout keeps the tokens, and is its own layout.
use Rattle.std.proofs.Common.{◌≡◌, ℕ, zero, suc, ◌+◌, ◌*◌, Bool, true, false, nat_lt, List, [], ◌∷◌, ◌++◌, length, cond, Option, Some, None, count_by, if◌then◌else◌, refl, sym, ap, ap₂, subst, ◌∙◌}
use Rattle.std.proofs.lemmas.List.Sums.{sum_by-cons}
use Rattle.std.proofs.lemmas.Bool.{false≢true}
use Rattle.hcl_token.specs.declared.kind.Kind.{Kind}
use Rattle.hcl_token.specs.Tokens.{Pair}
use Rattle.hcl_scan.specs.Follows.{tokens_of}
use Rattle.hcl_token.specs.Kinds.{is_line_end, is_opening, is_closing}
use Rattle.hcl_layout.specs.Gaps.Kinds.{is_skipped_by_spacing}
use Rattle.hcl_layout.specs.Gaps.Lines.{Line, heredocs_after, ends_line, lines_of, pairs_in}
use Rattle.hcl_layout.specs.Gaps.Indent.{openings, closings}
use Rattle.hcl_layout.specs.Gaps.Space.{prev_after, prev_after_all, spaces, gap_between}
use Rattle.hcl_layout.specs.Gaps.Cells.{has_cells, assignment, closing_comment, with_gap, with_cell_gap, aligned}
use Rattle.hcl_layout.specs.Gaps.Layout.{with_spacing, with_indent, format_line, format_lines, layout_lines, layout_body}
use Rattle.hcl_layout.specs.Gaps.Inner.Stages.{greatest, cell_gaps_from_width, widths, with_cell_gaps, prepend_to_first, lines_from, token, close_earlier, open_after_line, format_lines_by_stack}
use Rattle.hcl_layout.proofs.GapsLemmas.IndentLaw.{set_by_stack}
use Rattle.hcl_layout.proofs.GapsLemmas.SplitLaw.{lines_are, pairs_of_text}
use Rattle.hcl_layout.proofs.GapsLemmas.CellLaw.{aligned_is}

-- ---- the same tokens

abbrev pub SameTokens : List Pair → List Pair → Type 0
SameTokens [] [] = Unit {0}
SameTokens (p ∷ ps) (q ∷ qs) = (p.kind ≡ q.kind) × (p.spelling ≡ q.spelling) × SameTokens ps qs
SameTokens ps qs = ⊥

pub same_self : (ps : List Pair) → SameTokens ps ps
same_self [] = tt
same_self (p ∷ ps) = (refl, refl, same_self ps)

same_trans : (ps qs rs : List Pair) → SameTokens ps qs → SameTokens qs rs → SameTokens ps rs
same_trans [] [] [] h k = tt
same_trans [] [] (r ∷ rs) h k = absurd k
same_trans [] (q ∷ qs) rs h k = absurd h
same_trans (p ∷ ps) [] rs h k = absurd h
same_trans (p ∷ ps) (q ∷ qs) [] h k = absurd k
same_trans (p ∷ ps) (q ∷ qs) (r ∷ rs) h k = (h.0 ∙ k.0, h.1 ∙ k.1, same_trans ps qs rs h.2 k.2)

same_append : (ps qs ps' qs' : List Pair) → SameTokens ps qs → SameTokens ps' qs' → SameTokens (ps ++ ps') (qs ++ qs')
same_append [] [] ps' qs' h k = k
same_append [] (q ∷ qs) ps' qs' h k = absurd h
same_append (p ∷ ps) [] ps' qs' h k = absurd h
same_append (p ∷ ps) (q ∷ qs) ps' qs' h k = (h.0, h.1, same_append ps qs ps' qs' h.2 k)

pub same_tokens_of : (ps qs : List Pair) → SameTokens ps qs → tokens_of ps ≡ tokens_of qs
same_tokens_of [] [] h = refl
same_tokens_of [] (q ∷ qs) h = absurd h
same_tokens_of (p ∷ ps) [] h = absurd h
same_tokens_of (p ∷ ps) (q ∷ qs) h = ap₂ (λ k s. (k, s) ∷ tokens_of ps) h.0 h.1 ∙ ap (λ ts. (q.kind, q.spelling) ∷ ts) (same_tokens_of ps qs h.2)

-- ---- lines with the same tokens

abbrev pub Alike : List Line → List Line → Type 0
Alike [] [] = Unit {0}
Alike (x ∷ xs) (y ∷ ys) = (x.frozen ≡ y.frozen) × SameTokens x.pairs y.pairs × Alike xs ys
Alike xs ys = ⊥

-- frozen lines are the same
abbrev pub SameFrozen : List Line → List Line → Type 0
SameFrozen (x ∷ xs) (y ∷ ys) = (y.frozen ≡ true → x.pairs ≡ y.pairs) × SameFrozen xs ys
SameFrozen xs ys = Unit {0}

pub alike_trans : (xs ys zs : List Line) → Alike xs ys → Alike ys zs → Alike xs zs
alike_trans [] [] [] h k = tt
alike_trans [] [] (z ∷ zs) h k = absurd k
alike_trans [] (y ∷ ys) zs h k = absurd h
alike_trans (x ∷ xs) [] zs h k = absurd h
alike_trans (x ∷ xs) (y ∷ ys) [] h k = absurd k
alike_trans (x ∷ xs) (y ∷ ys) (z ∷ zs) h k = (h.0 ∙ k.0, same_trans x.pairs y.pairs z.pairs h.1 k.1, alike_trans xs ys zs h.2 k.2)

frozen_trans : (xs ys zs : List Line) → Alike xs ys → Alike ys zs → SameFrozen xs ys → SameFrozen ys zs → SameFrozen xs zs
frozen_trans [] ys zs h k f g = tt
frozen_trans (x ∷ xs) [] zs h k f g = absurd h
frozen_trans (x ∷ xs) (y ∷ ys) [] h k f g = tt
frozen_trans (x ∷ xs) (y ∷ ys) (z ∷ zs) h k f g = (λ e. f.0 (k.0 ∙ e) ∙ g.0 e, frozen_trans xs ys zs h.2 k.2 f.1 g.1)

pub alike_tokens : (xs ys : List Line) → Alike xs ys → SameTokens (pairs_in xs) (pairs_in ys)
alike_tokens [] [] h = tt
alike_tokens [] (y ∷ ys) h = absurd h
alike_tokens (x ∷ xs) [] h = absurd h
alike_tokens (x ∷ xs) (y ∷ ys) h = same_append x.pairs y.pairs (pairs_in xs) (pairs_in ys) h.1 (alike_tokens xs ys h.2)

-- ---- the stages keep the tokens, and frozen lines

spaced_same : (b : List Kind) (a : Pair) (ps : List Pair) → SameTokens (with_spacing b a ps) ps
spaced_same b a [] = tt
spaced_same b a (p ∷ ps) = (refl, refl, spaced_same (prev_after a b) p ps)

indented_same : (deep : ℕ) (b : List Kind) (ps : List Pair) → SameTokens (with_indent deep b ps) ps
indented_same deep b [] = tt
indented_same deep b (p ∷ ps) = (refl, refl, spaced_same b p ps)

record Keeps (x y : Line) : Type 0 where
  frozen : x.frozen ≡ y.frozen
  tokens : SameTokens x.pairs y.pairs
  same : y.frozen ≡ true → x.pairs ≡ y.pairs

set_keeps : (deep : ℕ) (b : List Kind) (frozen : Bool) (ps : List Pair) → Keeps (format_line deep b (record { frozen = frozen; pairs = ps })) (record { frozen = frozen; pairs = ps })
set_keeps deep b true ps = record { frozen = refl; tokens = same_self ps; same = λ e. refl }
set_keeps deep b false ps = record { frozen = refl; tokens = indented_same deep b ps; same = λ e. absurd (false≢true e) }

pub open_alike : (s : List ℕ) (b : List Kind) (lines : List Line) → Alike (format_lines_by_stack s b lines) lines × SameFrozen (format_lines_by_stack s b lines) lines
open_alike s b [] = (tt, tt)
open_alike s b (line ∷ lines) =
    let k = set_keeps (length (close_earlier (openings line.pairs) (closings line.pairs) s)) b line.frozen line.pairs in
    let rest = open_alike (open_after_line (openings line.pairs) (closings line.pairs) s) (prev_after_all line.pairs b) lines in
    ((k.frozen, k.tokens, rest.0), (k.same, rest.1))

pub gap_same : (n : ℕ) (gap : List ℕ) (ps : List Pair) → SameTokens (with_gap n gap ps) ps
gap_same n gap [] = tt
gap_same zero gap (p ∷ ps) = (refl, refl, same_self ps)
gap_same (suc n) gap (p ∷ ps) = (refl, refl, gap_same n gap ps)

-- a frozen line has no such cell
abbrev IsOfFree : (Line → Option ℕ) → Type 0
IsOfFree cell = (line : Line) → line.frozen ≡ true → cell line ≡ None

moved_keeps : (found : Option ℕ) (count : Option ℕ) (line : Line) → (line.frozen ≡ true → found ≡ None) → Keeps (with_cell_gap found count line) line
moved_keeps None count line h = record { frozen = refl; tokens = same_self line.pairs; same = λ e. refl }
moved_keeps (Some n) None line h = record { frozen = refl; tokens = same_self line.pairs; same = λ e. refl }
moved_keeps (Some n) (Some count) line h = record { frozen = refl; tokens = gap_same n (spaces count) line.pairs; same = λ e. absurd (cc (h e)) }

self_alike : (lines : List Line) → Alike lines lines × SameFrozen lines lines
self_alike [] = (tt, tt)
self_alike (line ∷ lines) = ((refl, same_self line.pairs, (self_alike lines).0), (λ e. refl, (self_alike lines).1))

moved_alike : (cell : Line → Option ℕ) (rs : List (Option ℕ)) (lines : List Line) → IsOfFree cell → Alike (with_cell_gaps cell rs lines) lines × SameFrozen (with_cell_gaps cell rs lines) lines
moved_alike cell [] lines h = self_alike lines
moved_alike cell (r ∷ rs) [] h = (tt, tt)
moved_alike cell (r ∷ rs) (line ∷ lines) h =
    let k = moved_keeps (cell line) r line (h line) in
    let rest = moved_alike cell rs lines h in
    ((k.frozen, k.tokens, rest.0), (k.same, rest.1))

aligned_alike : (cell : Line → Option ℕ) (lines : List Line) → IsOfFree cell → Alike (aligned cell lines) lines × SameFrozen (aligned cell lines) lines
aligned_alike cell lines free =
    let ws : List (Option ℕ) = widths cell lines in
    subst (λ (ls : List Line). Alike ls lines × SameFrozen ls lines) (sym (aligned_is cell lines)) (moved_alike cell (cell_gaps_from_width (greatest ws) ws) lines free)

no_cells : (line : Line) → line.frozen ≡ true → has_cells line ≡ false
no_cells line h = rw h refl

assignment_free : IsOfFree assignment
assignment_free line h = rw (no_cells line h) refl

comment_free : IsOfFree closing_comment
comment_free line h = rw (no_cells line h) refl

-- the lines of a layout have the tokens of the lines, and their frozen lines
pub layout_alike : (lines : List Line) → Alike (layout_lines lines) lines × SameFrozen (layout_lines lines) lines
layout_alike lines =
    let first : List Line = format_lines [] [] lines in
    let second : List Line = aligned assignment first in
    let set : Alike first lines × SameFrozen first lines = rw (set_by_stack [] lines) (open_alike [] [] lines) in
    let equals : Alike second first × SameFrozen second first = aligned_alike assignment first assignment_free in
    let comments : Alike (layout_lines lines) second × SameFrozen (layout_lines lines) second = aligned_alike closing_comment second comment_free in
    let two = alike_trans second first lines equals.0 set.0 in (
      alike_trans (layout_lines lines) second lines comments.0 two,
      frozen_trans (layout_lines lines) second lines comments.0 two comments.1 (frozen_trans second first lines equals.0 set.0 equals.1 set.1),
    )

pub set_alike_lines : (lines : List Line) → Alike (format_lines [] [] lines) lines
set_alike_lines lines = rw (set_by_stack [] lines) ((open_alike [] [] lines).0)

pub equals_alike : (lines : List Line) → Alike (aligned assignment (format_lines [] [] lines)) lines
equals_alike lines =
    let first : List Line = format_lines [] [] lines in
    alike_trans (aligned assignment first) first lines (aligned_alike assignment first assignment_free).0 (set_alike_lines lines)

-- ---- lines of a layout

same_line : (f g : Bool) (qs : List Pair) (xs : List Line) → f ≡ g → ◌≡◌ {A = List Line} (record { frozen = g; pairs = qs } ∷ xs) (record { frozen = f; pairs = qs } ∷ xs)
same_line f g qs xs e = ap (λ h. record { frozen = h; pairs = qs } ∷ xs) (sym e)

ends_again : (open_heredocs : ℕ) (p : Pair) (f : Bool) (qs : List Pair) (xs : List Line) → ends_line open_heredocs p.kind ≡ true → f ≡ nat_lt 0 open_heredocs → SameTokens qs (p ∷ [])
    → lines_from (heredocs_after open_heredocs p.kind) (pairs_in xs) ≡ xs → lines_from open_heredocs (qs ++ pairs_in xs) ≡ record { frozen = f; pairs = qs } ∷ xs
ends_again open_heredocs p f [] xs ends frozen h rest = absurd h
ends_again open_heredocs p f (q ∷ []) xs ends frozen h rest =
    let here : ends_line open_heredocs q.kind ≡ true = ap (ends_line open_heredocs) h.0 ∙ ends in
    rw here (ap (λ ls. record { frozen = nat_lt 0 open_heredocs; pairs = q ∷ [] } ∷ ls) (ap (λ k. lines_from (heredocs_after open_heredocs k) (pairs_in xs)) h.0 ∙ rest) ∙ same_line f (nat_lt 0 open_heredocs) (q ∷ []) xs frozen)
ends_again open_heredocs p f (q ∷ r ∷ qs) xs ends frozen h rest = absurd h.2

layout_lines_again : (open_heredocs : ℕ) (p : Pair) (f : Bool) (qs : List Pair) (xs old : List Line) → ends_line open_heredocs p.kind ≡ false → Alike (record { frozen = f; pairs = qs } ∷ xs) (prepend_to_first (nat_lt 0 open_heredocs) p old)
    → ((ys : List Line) → Alike ys old → lines_from (heredocs_after open_heredocs p.kind) (pairs_in ys) ≡ ys) → lines_from open_heredocs (qs ++ pairs_in xs) ≡ record { frozen = f; pairs = qs } ∷ xs
layout_lines_again open_heredocs p f [] xs [] continues_line h rest = absurd h.1
layout_lines_again open_heredocs p f [] xs (r ∷ rs) continues_line h rest = absurd h.1
layout_lines_again open_heredocs p f (q ∷ []) [] [] continues_line h rest =
    let here : ends_line open_heredocs q.kind ≡ false = ap (ends_line open_heredocs) h.1.0 ∙ continues_line in
    rw here (same_line f (nat_lt 0 open_heredocs) (q ∷ []) [] h.0)
layout_lines_again open_heredocs p f (q ∷ qs) (x ∷ xs) [] continues_line h rest = absurd h.2
layout_lines_again open_heredocs p f (q ∷ r ∷ qs) [] [] continues_line h rest = absurd h.1.2
layout_lines_again open_heredocs p f (q ∷ qs) xs (r ∷ rs) continues_line h rest =
    let here : ends_line open_heredocs q.kind ≡ false = ap (ends_line open_heredocs) h.1.0 ∙ continues_line in
    let next = rest (record { frozen = r.frozen; pairs = qs } ∷ xs) (refl, h.1.2, h.2) in
    rw here (ap (prepend_to_first (nat_lt 0 open_heredocs) q) (ap (λ k. lines_from (heredocs_after open_heredocs k) (qs ++ pairs_in xs)) h.1.0 ∙ next) ∙ same_line f (nat_lt 0 open_heredocs) (q ∷ qs) xs h.0)

no_first : (frozen : Bool) (p : Pair) (old : List Line) → Alike [] (prepend_to_first frozen p old) → ⊥
no_first frozen p [] h = h
no_first frozen p (r ∷ rs) h = h

again_if : (open_heredocs : ℕ) (p : Pair) (ps : List Pair) (ends : Bool) → ends_line open_heredocs p.kind ≡ ends → (ys : List Line)
    → Alike ys (if ends then record { frozen = nat_lt 0 open_heredocs; pairs = p ∷ [] } ∷ lines_from (heredocs_after open_heredocs p.kind) ps else prepend_to_first (nat_lt 0 open_heredocs) p (lines_from (heredocs_after open_heredocs p.kind) ps))
    → ((zs : List Line) → Alike zs (lines_from (heredocs_after open_heredocs p.kind) ps) → lines_from (heredocs_after open_heredocs p.kind) (pairs_in zs) ≡ zs) → lines_from open_heredocs (pairs_in ys) ≡ ys
again_if open_heredocs p ps true is [] k rest = absurd k
again_if open_heredocs p ps true is (y ∷ ys) k rest = ends_again open_heredocs p y.frozen y.pairs ys is k.0 k.1 (rest ys k.2)
again_if open_heredocs p ps false is [] k rest = absurd (no_first (nat_lt 0 open_heredocs) p (lines_from (heredocs_after open_heredocs p.kind) ps) k)
again_if open_heredocs p ps false is (y ∷ ys) k rest = layout_lines_again open_heredocs p y.frozen y.pairs ys (lines_from (heredocs_after open_heredocs p.kind) ps) is k rest

-- tokens that are split as lines were, are these lines
pub split_again : (open_heredocs : ℕ) (ps : List Pair) (xs : List Line) → Alike xs (lines_from open_heredocs ps) → lines_from open_heredocs (pairs_in xs) ≡ xs
split_again open_heredocs [] [] h = refl
split_again open_heredocs [] (x ∷ xs) h = absurd h
split_again open_heredocs (p ∷ ps) xs h = again_if open_heredocs p ps (ends_line open_heredocs p.kind) refl xs h (λ zs k. split_again (heredocs_after open_heredocs p.kind) ps zs k)

-- ---- lines that are alike have layouts that are alike

pair_same : (gap : List ℕ) (p q : Pair) → p.kind ≡ q.kind → p.spelling ≡ q.spelling → ◌≡◌ {A = Pair} (record { gap = gap; kind = p.kind; spelling = p.spelling }) (record { gap = gap; kind = q.kind; spelling = q.spelling })
pair_same gap p q h k = ap₂ (λ a b. record { gap = gap; kind = a; spelling = b }) h k

pub count_same : (f : Kind → Bool) (ps qs : List Pair) → SameTokens ps qs → count_by (λ (p : Pair). f p.kind) ps ≡ count_by (λ (p : Pair). f p.kind) qs
count_same f [] [] h = refl
count_same f [] (q ∷ qs) h = absurd h
count_same f (p ∷ ps) [] h = absurd h
count_same f (p ∷ ps) (q ∷ qs) h =
    sum_by-cons (λ (x : Pair). cond (f x.kind) 1 0) p ps
    ∙ ap₂ (λ k n. cond (f k) 1 0 + n) h.0 (count_same f ps qs h.2)
    ∙ sym (sum_by-cons (λ (x : Pair). cond (f x.kind) 1 0) q qs)

passed_tokens : (ps qs : List Pair) (b : List Kind) → SameTokens ps qs → prev_after_all ps b ≡ prev_after_all qs b
passed_tokens [] [] b h = refl
passed_tokens [] (q ∷ qs) b h = absurd h
passed_tokens (p ∷ ps) [] b h = absurd h
passed_tokens (p ∷ ps) (q ∷ qs) b h =
    ap (λ k. prev_after_all ps (if is_skipped_by_spacing k then b else k ∷ b)) h.0 ∙ passed_tokens ps qs (prev_after q b) h.2

gap_fields : List Kind → Kind → List ℕ → Kind → List ℕ → List ℕ
gap_fields b ak as' pk ps' = gap_between b (token ak as') (token pk ps')

spaced_alike : (b : List Kind) (a a' : Pair) (ps qs : List Pair) → a.kind ≡ a'.kind → a.spelling ≡ a'.spelling → SameTokens ps qs → with_spacing b a ps ≡ with_spacing b a' qs
unfolding gap_fields
spaced_alike b a a' [] [] h k e = refl
spaced_alike b a a' [] (q ∷ qs) h k e = absurd e
spaced_alike b a a' (p ∷ ps) [] h k e = absurd e
spaced_alike b a a' (p ∷ ps) (q ∷ qs) h k e =
    let gap : gap_between b a p ≡ gap_between b a' q = ap₂ (λ x y. gap_fields b x y p.kind p.spelling) h k ∙ ap₂ (λ x y. gap_fields b a'.kind a'.spelling x y) e.0 e.1 in
    let first : ◌≡◌ {A = Pair} (record p { gap = gap_between b a p }) (record q { gap = gap_between b a' q }) =
    ap (λ g. record p { gap = g }) gap ∙ pair_same (gap_between b a' q) p q e.0 e.1 in
    ap₂ (λ (x : Pair) (xs : List Pair). x ∷ xs) first
    (ap (λ j. with_spacing (if is_skipped_by_spacing j then b else j ∷ b) p ps) h ∙ spaced_alike (prev_after a' b) p q ps qs e.0 e.1 e.2)

indented_alike : (deep : ℕ) (b : List Kind) (ps qs : List Pair) → SameTokens ps qs → with_indent deep b ps ≡ with_indent deep b qs
indented_alike deep b [] [] e = refl
indented_alike deep b [] (q ∷ qs) e = absurd e
indented_alike deep b (p ∷ ps) [] e = absurd e
indented_alike deep b (p ∷ ps) (q ∷ qs) e =
    let gap : (if is_line_end p.kind then [] else spaces (2 * deep)) ≡ (if is_line_end q.kind then [] else spaces (2 * deep)) = ap (λ k. cond (is_line_end k) [] (spaces (2 * deep))) e.0 in
    let first : ◌≡◌ {A = Pair} (record p { gap = if is_line_end p.kind then [] else spaces (2 * deep) }) (record q { gap = if is_line_end q.kind then [] else spaces (2 * deep) }) =
    ap (λ g. record p { gap = g }) gap ∙ pair_same (if is_line_end q.kind then [] else spaces (2 * deep)) p q e.0 e.1 in
    ap₂ (λ (x : Pair) (xs : List Pair). x ∷ xs) first (spaced_alike b p q ps qs e.0 e.1 e.2)

line_alike : (deep : ℕ) (b : List Kind) (f g : Bool) (ps qs : List Pair) → f ≡ g → SameTokens ps qs → (g ≡ true → ps ≡ qs)
    → format_line deep b (record { frozen = f; pairs = ps }) ≡ format_line deep b (record { frozen = g; pairs = qs })
line_alike deep b f true ps qs e t h = ap₂ (λ x (y : List Pair). format_line deep b (record { frozen = x; pairs = y })) e (h refl)
line_alike deep b f false ps qs e t h =
    ap (λ x. format_line deep b (record { frozen = x; pairs = ps })) e ∙ ap (λ (y : List Pair). record { frozen = false; pairs = y }) (indented_alike deep b ps qs t)

pub set_alike : (s : List ℕ) (b : List Kind) (xs ys : List Line) → Alike xs ys → SameFrozen xs ys → format_lines_by_stack s b xs ≡ format_lines_by_stack s b ys
set_alike s b [] [] h f = refl
set_alike s b [] (y ∷ ys) h f = absurd h
set_alike s b (x ∷ xs) [] h f = absurd h
set_alike s b (x ∷ xs) (y ∷ ys) h f =
    let o = count_same is_opening x.pairs y.pairs h.1 in
    let c = count_same is_closing x.pairs y.pairs h.1 in
    ap₂ (λ (l : Line) (ls : List Line). l ∷ ls)
    (ap₂ (λ u v. format_line (length (close_earlier u v s)) b x) o c ∙ line_alike (length (close_earlier (openings y.pairs) (closings y.pairs) s)) b x.frozen y.frozen x.pairs y.pairs h.0 h.1 f.0)
    (ap₂ (λ u v. format_lines_by_stack (open_after_line u v s) (prev_after_all x.pairs b) xs) o c
    ∙ ap (λ (ks : List Kind). format_lines_by_stack (open_after_line (openings y.pairs) (closings y.pairs) s) ks xs) (passed_tokens x.pairs y.pairs b h.1)
    ∙ set_alike (open_after_line (openings y.pairs) (closings y.pairs) s) (prev_after_all y.pairs b) xs ys h.2 f.1)

-- ---- the laws

pub body_tokens : (ps : List Pair) → SameTokens (layout_body ps) ps
body_tokens ps =
    let same = alike_tokens (layout_lines (lines_of ps)) (lines_of ps) (layout_alike (lines_of ps)).0 in
    subst (λ (qs : List Pair). SameTokens (layout_body ps) qs) (pairs_of_text ps) same

-- a layout is its own layout
pub body_again : (ps : List Pair) → layout_body (layout_body ps) ≡ layout_body ps
body_again ps =
    let lines : List Line = lines_of ps in
    let new : List Line = layout_lines lines in
    let like = layout_alike lines in
    let split : lines_of (pairs_in new) ≡ new = lines_are (pairs_in new) ∙ split_again 0 ps new (subst (λ (ls : List Line). Alike new ls) (lines_are ps) like.0) in
    let set : format_lines [] [] new ≡ format_lines [] [] lines = set_by_stack [] new ∙ set_alike [] [] new lines like.0 like.1 ∙ sym (set_by_stack [] lines) in
    ap (λ ls. pairs_in (layout_lines ls)) split ∙ ap (λ (ls : List Line). pairs_in (aligned closing_comment (aligned assignment ls))) set
