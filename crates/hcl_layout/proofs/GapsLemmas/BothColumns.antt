-- The layout has both in columns: a closing comment is after an assignment, so that to move the one
-- does not move the other.
use Rattle.std.proofs.Common.{lt-ltb, true≢false, ◌≡◌, ℕ, zero, suc, ◌+◌, ◌<◌, Bool, true, false, ◌||◌, nat_lt, drop, List, [], ◌∷◌, length, Option, Some, None, if◌then◌else◌, inl, inr, refl, sym, ap, subst, ◌∙◌, arith}
use Rattle.std.specs.Option.{option_map}
use Rattle.hcl_token.specs.declared.kind.Kind.{Kind}
use Rattle.hcl_token.specs.declared.kind.Kind.TheVariants.{Equal, LineEnd, LineComment, HereOpen, HereClose}
use Rattle.hcl_token.specs.Tokens.{Pair}
use Rattle.hcl_token.specs.Place.{clusters}
use Rattle.hcl_scan.specs.Modes.{Mode, modes_after}
use Rattle.hcl_scan.specs.Follows.{LineEndsHere, AllowsNext, FollowsFrom, Follows}
use Rattle.hcl_token.specs.Kinds.{is_line_comment}
use Rattle.hcl_layout.specs.Gaps.Kinds.{is_equal}
use Rattle.hcl_layout.specs.Gaps.Lines.{Line, heredocs_after, ends_line, lines_of}
use Rattle.hcl_layout.specs.Gaps.Inner.Stages.{greatest, cell_gaps_from_width, widths, with_cell_gaps, prepend_to_first, lines_from}
use Rattle.hcl_layout.specs.Gaps.Space.{spaces}
use Rattle.hcl_layout.specs.Gaps.Cells.{assignment, closing_comment, index_of_first, index_after_first, with_gap, with_cell_gap, aligned}
use Rattle.hcl_layout.specs.Gaps.Columns.{column_at, column, SameColumn, AreAligned, IsAtLineEnd, CommentsEndLines}
use Rattle.hcl_layout.specs.Gaps.Layout.{format_lines, layout_lines}
use Rattle.hcl_layout.specs.Gaps.Inner.CodeViews.{is_valid_cell}
use Rattle.hcl_layout.specs.declared.gaps.cells.Cell.{Cell}
use Rattle.hcl_layout.specs.declared.gaps.cells.Cell.TheVariants.{Assignment, ClosingComment}
use Rattle.hcl_layout.proofs.GapsLemmas.TokensKept.{SameTokens, Alike, gap_same, equals_alike}
use Rattle.hcl_layout.proofs.GapsLemmas.CellGaps.{assignment_same}
use Rattle.hcl_layout.proofs.GapsLemmas.CellCode.{broken, if_counts, blocked, free}
use Rattle.hcl_layout.proofs.GapsLemmas.ColumnLaw.{cells_aligned}
use Rattle.hcl_layout.proofs.GapsLemmas.SplitLaw.{lines_are}
use Rattle.hcl_layout.proofs.GapsLemmas.CellLaw.{aligned_is}

-- ---- no `=` follows a line comment

NoEquals : List Pair → Type 0
NoEquals [] = Unit {0}
NoEquals (p ∷ ps) = (is_equal p.kind ≡ false) × NoEquals ps

Ordered : List Pair → Type 0
Ordered [] = Unit {0}
Ordered (p ∷ ps) = (is_line_comment p.kind ≡ true → NoEquals ps) × Ordered ps

-- of each line that is not frozen
AllOrdered : List Line → Type 0
AllOrdered [] = Unit {0}
AllOrdered (x ∷ xs) = (x.frozen ≡ false → Ordered x.pairs) × AllOrdered xs

-- of the first line with one more token before its tokens
FirstOrdered : Pair → List Line → Type 0
FirstOrdered p [] = Unit {0}
FirstOrdered p (x ∷ xs) = Ordered (p ∷ x.pairs)

still_none : (k : Kind) → ends_line zero k ≡ false → heredocs_after 0 k ≡ 0
still_none HereOpen e = absurd (cc)
still_none HereClose e = refl
still_none k e = refl

no_equal : (k : Kind) → ends_line zero k ≡ true → is_equal k ≡ false
no_equal Equal e = absurd (cc)
no_equal k e = refl

line_comment_kind : (k : Kind) → is_line_comment k ≡ true → k ≡ LineComment
line_comment_kind LineComment e = refl
line_comment_kind k e = absurd (cc)

prepend_ordered : (f : Bool) (p : Pair) (xs : List Line) → AllOrdered xs
    → (f ≡ false → FirstOrdered p xs) → AllOrdered (prepend_to_first f p xs)
unfolding AllOrdered Ordered NoEquals FirstOrdered
prepend_ordered f p [] all first = (λ e. (λ c. tt, tt), tt)
prepend_ordered f p (x ∷ xs) all first = (first, all.1)

after_comment : (p q : Pair) (xs : List Line)
    → (is_line_comment p.kind ≡ true → q.kind ≡ LineEnd) → ends_line 0 q.kind ≡ false
    → AllOrdered (prepend_to_first false q xs) → FirstOrdered p (prepend_to_first false q xs)
unfolding AllOrdered FirstOrdered Ordered
after_comment p q [] h e all =
    (λ c. absurd (let at : ends_line 0 q.kind ≡ true = rw (h c) refl in (cc)), all.0 refl)
after_comment p q (x ∷ xs) h e all =
    (λ c. absurd (let at : ends_line 0 q.kind ≡ true = rw (h c) refl in (cc)), all.0 refl)

next_first : (p : Pair) (ps : List Pair) → (p.kind ≡ LineComment → IsAtLineEnd ps)
    → AllOrdered (lines_from 0 ps) → FirstOrdered p (lines_from 0 ps)
unfolding AllOrdered FirstOrdered Ordered NoEquals
next_first p [] h all = tt
next_first p (q ∷ qs) h all = by_end (ends_line 0 q.kind) refl all
  where
    rest : List Line
    rest = lines_from (heredocs_after 0 q.kind) qs

    by_end : (b : Bool) → ends_line 0 q.kind ≡ b
        → AllOrdered (if b then record { frozen = nat_lt 0 0; pairs = q ∷ [] } ∷ rest else prepend_to_first (nat_lt 0 0) q rest)
        → FirstOrdered p (if b then record { frozen = nat_lt 0 0; pairs = q ∷ [] } ∷ rest else prepend_to_first (nat_lt 0 0) q rest)
    by_end true e o = (λ c. (no_equal q.kind e, tt), o.0 refl)
    by_end false e o = after_comment p q rest (λ c. h (line_comment_kind p.kind c)) e o

lines_ordered : (open_heredocs : ℕ) (ps : List Pair) → CommentsEndLines ps → AllOrdered (lines_from open_heredocs ps)
unfolding AllOrdered Ordered NoEquals
lines_ordered open_heredocs [] h = tt
lines_ordered open_heredocs (p ∷ ps) h =
    by_end (lines_ordered (heredocs_after open_heredocs p.kind) ps h.1) (ends_line open_heredocs p.kind) refl
  where
    rest : List Line
    rest = lines_from (heredocs_after open_heredocs p.kind) ps

    leading : AllOrdered rest → (n : ℕ) → n ≡ open_heredocs → ends_line open_heredocs p.kind ≡ false → nat_lt 0 n ≡ false → FirstOrdered p rest
    leading all zero e f g =
        let none : heredocs_after open_heredocs p.kind ≡ 0 = still (sym e) f in
        subst (λ k. FirstOrdered p (lines_from k ps)) (sym none)
        (next_first p ps h.0 (subst (λ k. AllOrdered (lines_from k ps)) none all))
      where
        still : open_heredocs ≡ 0 → ends_line open_heredocs p.kind ≡ false → heredocs_after open_heredocs p.kind ≡ 0
        still z f = rw z (still_none p.kind (rw z at f))
    leading all (suc n) e f g = absurd (true≢false (sym (lt-ltb 0 (suc n) (omega arith)) ∙ g))

    by_end : AllOrdered rest → (b : Bool) → ends_line open_heredocs p.kind ≡ b
        → AllOrdered (if b then record { frozen = nat_lt 0 open_heredocs; pairs = p ∷ [] } ∷ rest else prepend_to_first (nat_lt 0 open_heredocs) p rest)
    by_end all true e = (λ f. (λ c. tt, tt), all)
    by_end all false e = prepend_ordered (nat_lt 0 open_heredocs) p rest all (leading all open_heredocs refl e)

-- ---- with other gaps too

no_equals_same : (ps qs : List Pair) → SameTokens ps qs → NoEquals qs → NoEquals ps
unfolding NoEquals
no_equals_same [] [] s h = tt
no_equals_same [] (q ∷ qs) s h = absurd s
no_equals_same (p ∷ ps) [] s h = absurd s
no_equals_same (p ∷ ps) (q ∷ qs) s h = (ap is_equal s.0 ∙ h.0, no_equals_same ps qs s.2 h.1)

ordered_same : (ps qs : List Pair) → SameTokens ps qs → Ordered qs → Ordered ps
unfolding Ordered
ordered_same [] [] s h = tt
ordered_same [] (q ∷ qs) s h = absurd s
ordered_same (p ∷ ps) [] s h = absurd s
ordered_same (p ∷ ps) (q ∷ qs) s h =
    (λ c. no_equals_same ps qs s.2 (h.0 (sym (ap is_line_comment s.0) ∙ c)), ordered_same ps qs s.2 h.1)

alike_ordered : (xs ys : List Line) → Alike xs ys → AllOrdered ys → AllOrdered xs
unfolding AllOrdered
alike_ordered [] [] s h = tt
alike_ordered [] (y ∷ ys) s h = absurd s
alike_ordered (x ∷ xs) [] s h = absurd s
alike_ordered (x ∷ xs) (y ∷ ys) s h =
    (λ f. ordered_same x.pairs y.pairs s.1 (h.0 (sym s.0 ∙ f)), alike_ordered xs ys s.2 h.1)

-- ---- an assignment begins before a closing comment

not_both : (k : Kind) → is_equal k ≡ true → is_line_comment k ≡ true → ⊥
not_both Equal e c = absurd (cc)
not_both k e c = absurd (cc)

none_equal : (ps : List Pair) → NoEquals ps → index_of_first (λ (p : Pair). is_equal p.kind) ps ≡ None
unfolding NoEquals
none_equal [] h = refl
none_equal (p ∷ ps) h = rw h.0 (ap (option_map suc) (none_equal ps h.1))

-- how much further on the first of each is
further : (o r : Option ℕ) (n m : ℕ) → ((i j : ℕ) → o ≡ Some i → r ≡ Some j → i < j)
    → option_map suc o ≡ Some n → option_map suc r ≡ Some m → n < m
further None r n m less e c = absurd (cc)
further (Some i) None n m less e c = absurd (cc)
further (Some i) (Some j) n m less e c =
    let a : suc i ≡ n = cc in let b : suc j ≡ m = cc in omega (arith, less i j refl refl, a, b)

first_before : (ps : List Pair) (n m : ℕ) → Ordered ps
    → index_of_first (λ (p : Pair). is_equal p.kind) ps ≡ Some n
    → index_of_first (λ (p : Pair). is_line_comment p.kind) ps ≡ Some m → n < m
unfolding Ordered
first_before [] n m h e c = absurd (cc)
first_before (p ∷ ps) n m h e c =
    by_tests (λ i j u v. first_before ps i j h.1 u v) (is_equal p.kind) (is_line_comment p.kind)
    refl refl e c
  where
    equals : Option ℕ
    equals = index_of_first (λ (q : Pair). is_equal q.kind) ps

    comments : Option ℕ
    comments = index_of_first (λ (q : Pair). is_line_comment q.kind) ps

    some_suc_positive : (o : Option ℕ) → option_map suc o ≡ Some m → 0 < m
    some_suc_positive None x = absurd (cc)
    some_suc_positive (Some j) x = let b : suc j ≡ m = cc in omega (arith, b)

    Less : Type 0
    Less = (i j : ℕ) → equals ≡ Some i → comments ≡ Some j → i < j

    by_tests : Less → (a b : Bool) → is_equal p.kind ≡ a → is_line_comment p.kind ≡ b
        → (if a then Some 0 else option_map suc equals) ≡ Some n
        → (if b then Some 0 else option_map suc comments) ≡ Some m → n < m
    by_tests less true true s t x y = absurd (not_both p.kind s t)
    by_tests less true false s t x y =
        let z : 0 ≡ n = cc in omega (arith, some_suc_positive comments y, z)
    by_tests less false true s t x y =
        let none : option_map suc equals ≡ None = ap (option_map suc) (none_equal ps (h.0 t)) in
        absurd (cc)
    by_tests less false false s t x y =
        further equals comments n m less x y

later_before : (ps : List Pair) (n m : ℕ) → Ordered ps
    → index_after_first (λ (p : Pair). is_equal p.kind) ps ≡ Some n
    → index_after_first (λ (p : Pair). is_line_comment p.kind) ps ≡ Some m → n < m
unfolding Ordered
later_before [] n m h e c = absurd (cc)
later_before (p ∷ ps) n m h e c =
    further (index_of_first (λ (q : Pair). is_equal q.kind) ps)
    (index_of_first (λ (q : Pair). is_line_comment q.kind) ps) n m
    (λ i j u v. first_before ps i j h.1 u v) e c

counted : (cell : Cell) (ps : List Pair) (o : Option ℕ) (n : ℕ) → if_counts cell ps o ≡ Some n
    → o ≡ Some n
counted cell ps None n e = absurd (cc)
counted cell ps (Some m) n e = either (is_valid_cell cell (drop m ps)) e
  where
    either : (b : Bool) → (if b then Some m else None) ≡ Some n → Some m ≡ Some n
    either true k = k
    either false k = absurd (cc)

free_line : (f b : Bool) → (f || b) ≡ false → f ≡ false
free_line true b e = absurd (cc)
free_line false b e = refl

cells_in_order : (f : Bool) (ps : List Pair) (n m : ℕ) → (f ≡ false → Ordered ps)
    → assignment (record { frozen = f; pairs = ps }) ≡ Some n
    → closing_comment (record { frozen = f; pairs = ps }) ≡ Some m → n < m
cells_in_order f ps n m h e c = by_test (f || broken ps) refl
  where
    by_test : (b : Bool) → (f || broken ps) ≡ b → n < m
    by_test true t = let none = blocked Assignment f (broken ps) ps refl t in absurd (cc)
    by_test false t =
        later_before ps n m (h (free_line f (broken ps) t))
        (counted Assignment ps _ n (sym (free Assignment f (broken ps) ps refl t) ∙ e))
        (counted ClosingComment ps _ m (sym (free ClosingComment f (broken ps) ps refl t) ∙ c))

-- ---- what is before a gap that is set keeps its column

column_kept : (n m : ℕ) (gap : List ℕ) (ps : List Pair) → n < m
    → column_at n (with_gap m gap ps) ≡ column_at n ps
column_kept n zero gap ps h = absurd (omega (arith, h))
column_kept n (suc m) gap [] h = refl
column_kept zero (suc m) gap (p ∷ ps) h = refl
column_kept (suc n) (suc m) gap (p ∷ ps) h =
    ap (λ c. length p.gap + clusters p.spelling + c) (column_kept n m gap ps (omega (arith, h)))

comment_moved : (x : Line) (r : Option ℕ) → (x.frozen ≡ false → Ordered x.pairs)
    → column assignment (with_cell_gap (closing_comment x) r x) ≡ column assignment x
comment_moved x r h = go (closing_comment x) r refl
  where
    at_cell : (m c : ℕ) (o : Option ℕ) → closing_comment x ≡ Some m → assignment x ≡ o
        → option_map (λ n. column_at n (with_gap m (spaces c) x.pairs)) o
        ≡ option_map (λ n. column_at n x.pairs) o
    at_cell m c None e a = refl
    at_cell m c (Some n) e a =
        ap Some (column_kept n m (spaces c) x.pairs (cells_in_order x.frozen x.pairs n m h a e))

    go : (o r : Option ℕ) → closing_comment x ≡ o
        → column assignment (with_cell_gap o r x) ≡ column assignment x
    go None r e = refl
    go (Some m) None e = refl
    go (Some m) (Some c) e =
        let qs : List Pair = with_gap m (spaces c) x.pairs in
        ap (option_map (λ n. column_at n qs))
        (assignment_same x.frozen qs x.pairs (gap_same m (spaces c) x.pairs))
        ∙ at_cell m c (assignment x) e refl

same_columns : (c d c' d' : Option ℕ) → c' ≡ c → d' ≡ d → SameColumn c d → SameColumn c' d'
same_columns c d c' d' e f h =
    subst (λ x. SameColumn x d') (sym e) (subst (SameColumn c) (sym f) h)

comments_moved : (rs : List (Option ℕ)) (lines : List Line) → AllOrdered lines
    → AreAligned assignment lines → AreAligned assignment (with_cell_gaps closing_comment rs lines)
unfolding AllOrdered
comments_moved [] lines all h = h
comments_moved (r ∷ rs) [] all h = tt
comments_moved (r ∷ []) (x ∷ []) all h = tt
comments_moved (r ∷ s ∷ rs) (x ∷ []) all h = tt
comments_moved (r ∷ []) (x ∷ y ∷ lines) all h =
    (same_columns (column assignment x) (column assignment y) _ _ (comment_moved x r all.0) refl h.0, h.1)
comments_moved (r ∷ s ∷ rs) (x ∷ y ∷ lines) all h = (
  same_columns (column assignment x) (column assignment y) _ _ (comment_moved x r all.0)
      (comment_moved y s all.1.0) h.0,
  comments_moved (s ∷ rs) (y ∷ lines) all.1 h.1,
)

-- ---- layouts

pub assignment_columns : (pairs : List Pair) → CommentsEndLines pairs
    → AreAligned assignment (layout_lines (lines_of pairs))
assignment_columns pairs h =
    let lines : List Line = lines_of pairs in
    let first : List Line = format_lines [] [] lines in
    let second : List Line = aligned assignment first in
    let ws : List (Option ℕ) = widths closing_comment second in
    subst (AreAligned assignment) (sym (aligned_is closing_comment second))
    (comments_moved (cell_gaps_from_width (greatest ws) ws) second
    (alike_ordered second lines (equals_alike lines)
    (subst AllOrdered (sym (lines_are pairs)) (lines_ordered 0 pairs h)))
    (cells_aligned Assignment first))

pub comment_columns : (pairs : List Pair)
    → AreAligned closing_comment (layout_lines (lines_of pairs))
comment_columns pairs =
    cells_aligned ClosingComment (aligned assignment (format_lines [] [] (lines_of pairs)))

-- ---- texts

ends : (ps : List Pair) (last : List ℕ) → LineEndsHere ps last → IsAtLineEnd ps
ends [] last h = tt
ends (p ∷ ps) last h = h.1

follows_end : (modes : List Mode) (ps : List Pair) (last : List ℕ) (left : List Mode)
    → FollowsFrom modes ps last left → CommentsEndLines ps
follows_end modes [] last left h = tt
follows_end modes (p ∷ ps) last left h = (
  λ e. ends ps last (subst (λ k. AllowsNext k ps last) e h.3),
  follows_end (modes_after p.kind p.spelling modes) ps last left h.4,
)

pub comments_end : (pairs : List Pair) (last : List ℕ) → Follows pairs last [] → CommentsEndLines pairs
comments_end pairs last h = elim h.prefix [
  | inl e ↦ subst CommentsEndLines (sym e) (follows_end [] h.body last [] h.follows)
  | inr e ↦ subst CommentsEndLines (sym e)
      ((λ c. absurd (cc)), follows_end [] h.body last [] h.follows)
]
