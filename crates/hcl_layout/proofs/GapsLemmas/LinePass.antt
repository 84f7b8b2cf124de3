-- A line in one pass: its end, what its tokens say of it, and the gaps inside it. For speed alone.
use Rattle.std.proofs.Common.{◌≡◌, ◌==◌, not, ℕ, ◌+◌, ◌-◌, ◌*◌, ◌/◌, ◌%◌, ◌<◌, ◌≤◌, Bool, true, false, List, [], ◌∷◌, ◌++◌, length, drop, replicate, slice_range, Some, if◌then◌else◌, cond, count_by, set, reverse, refl, sym, ap, ap₂, subst, ◌∙◌, arith, append_assoc}
use Rattle.std.proofs.lemmas.List.{drop_all, append-nil, length-drop, length-take-le}
use Rattle.std.proofs.lemmas.List.Sums.{sum_by-append, sum_by-cons}
use Rattle.std.proofs.Math.Seq.{set-append_seam}
use Rattle.hcl_token.specs.declared.kind.Kind.{Kind}
use Rattle.hcl_token.specs.declared.kind.Kind.TheVariants.{HereOpen, HereClose}
use Rattle.hcl_token.specs.Tokens.{Pair}
use Rattle.hcl_token.specs.TokenizedText.{kind_of}
use Rattle.hcl_token.specs.Kinds.{is_line_end, is_comment, is_opening, is_closing}
use Rattle.hcl_layout.specs.Gaps.Kinds.{is_equal}
use Rattle.hcl_layout.specs.Gaps.Indent.{openings, closings}
use Rattle.hcl_layout.specs.Gaps.Lines.{heredocs_after, ends_line}
use Rattle.hcl_layout.specs.Gaps.Cells.{is_balanced}
use Rattle.hcl_layout.specs.Gaps.Space.{prev_after_all}
use Rattle.hcl_layout.specs.Gaps.Inner.CodeViews.{is_here_open, are_some, IsLine, gaps_left}
use Rattle.hcl_layout.specs.Gaps.Inner.Stages.{SplitsLine, lines_from, open_heredocs_of, KEEP_GAP, spaces_from, line_gap_lens, base_gap_lens, all_gap_lens}
use Rattle.hcl_layout.specs.declared.gaps.lines.LineSpan.{LineSpan}
use Rattle.std.proofs.lemmas.Bool.Decides.{nat_tests}
use Rattle.hcl_layout.proofs.GapsLemmas.LineLemmas.{token_here, kind_is, range_split, none_there, counted, IsInLine, in_line_next, line_ends, text_ends}
use Rattle.hcl_layout.proofs.GapsLemmas.LineFlagLemmas.{some_if}
use Rattle.hcl_layout.specs.declared.gaps.indent.TheConstants.{CLOSING}
use Rattle.hcl_layout.specs.declared.gaps.line_pass.TheConstants.{EQUALS, LINE_END}
use Rattle.hcl_scan.specs.Tokenization.{MAX_TEXT}

-- ---- what tokens say

-- how many tokens meet a test
pub number_of : (Kind → Bool) → List Pair → ℕ
number_of f ps = count_by (λ (p : Pair). f p.kind) ps

-- what the numbers of the tokens from one up to another are in all, with the mark of a line's end,
-- or without
pub record CountsTo (pairs : List Pair) (at i brackets marks ends : ℕ) : Type 0 where
  pub all_brackets : brackets ≡ openings (slice_range pairs at i) + CLOSING * closings (slice_range pairs at i)
  pub all_marks : marks ≡ number_of is_comment (slice_range pairs at i) + EQUALS * number_of is_equal (slice_range pairs at i) + LINE_END * ends
  pub few_opened : openings (slice_range pairs at i) + at ≤ i
  pub few_closed : closings (slice_range pairs at i) + at ≤ i
  pub few_comments : number_of is_comment (slice_range pairs at i) + at ≤ i
  pub few_equals : number_of is_equal (slice_range pairs at i) + at ≤ i

pub count_more : (f : Kind → Bool) (pairs : List Pair) (at i : ℕ) (k : Kind) → at ≤ i → i < length pairs → Some k ≡ kind_of pairs i
    → count_by (λ (p : Pair). f p.kind) (slice_range pairs at (i + 1)) ≡ count_by (λ (p : Pair). f p.kind) (slice_range pairs at i) + (if f k then 1 else 0)
count_more f pairs at i k later inside is =
    let whole = ap (count_by (λ (p : Pair). f p.kind)) (range_split pairs at i (i + 1) later (omega arith)) ∙ sum_by-append (λ (p : Pair). cond (f p.kind) 1 0) (slice_range pairs at i) (slice_range pairs i (i + 1)) in
    let one = counted f pairs i (i + 1) k (omega arith) (omega arith) is in
    let none : count_by (λ (p : Pair). f p.kind) (slice_range pairs (i + 1) (i + 1)) ≡ 0 = ap (count_by (λ (p : Pair). f p.kind)) (none_there pairs (i + 1)) in
    omega (arith, whole, one, none)

pub one_at_most : (b : Bool) → (if b then 1 else 0) ≤ 1
one_at_most true = omega arith
one_at_most false = omega arith

counted_more : (f : Kind → Bool) (pairs : List Pair) (at i : ℕ) (k : Kind) → at ≤ i → i < length pairs → Some k ≡ kind_of pairs i
    → number_of f (slice_range pairs at (i + 1)) ≡ number_of f (slice_range pairs at i) + (if f k then 1 else 0)
unfolding number_of
counted_more f pairs at i k later inside is = count_more f pairs at i k later inside is

pub no_counts : (pairs : List Pair) (at i : ℕ) → i ≡ at → CountsTo pairs at i 0 0 0
unfolding number_of
no_counts pairs at i e =
    let none : slice_range pairs at i ≡ [] = ap (slice_range pairs at) e ∙ none_there pairs at in
    let opened = ap openings none in
    let closed = ap closings none in
    let comments = ap (number_of is_comment) none in
    let equals = ap (number_of is_equal) none in
    record {
      all_brackets = omega (arith, opened, closed);
      all_marks = omega (arith, comments, equals);
      few_opened = omega (arith, opened, e);
      few_closed = omega (arith, closed, e);
      few_comments = omega (arith, comments, e);
      few_equals = omega (arith, equals, e);
    }

-- one token more
pub counts_more : (pairs : List Pair) (at i j : ℕ) (k : Kind) (brackets marks own mark : ℕ) → at ≤ i → i < length pairs → j ≡ i + 1 → Some k ≡ kind_of pairs i
    → own ≡ (if is_opening k then 1 else 0) + CLOSING * (if is_closing k then 1 else 0)
    → mark ≡ (if is_comment k then 1 else 0) + EQUALS * (if is_equal k then 1 else 0) + LINE_END * (if ends_line 0 k then 1 else 0)
    → CountsTo pairs at i brackets marks 0 → CountsTo pairs at j (brackets + own) (marks + mark) (if ends_line 0 k then 1 else 0)
counts_more pairs at i j k brackets marks own mark later inside step is own_is mark_is counts =
    subst (λ n. CountsTo pairs at n (brackets + own) (marks + mark) (if ends_line 0 k then 1 else 0)) (sym step)
    (
    let opens = count_more is_opening pairs at i k later inside is in
    let closes = count_more is_closing pairs at i k later inside is in
    let comments = counted_more is_comment pairs at i k later inside is in
    let equals = counted_more is_equal pairs at i k later inside is in
    record {
      all_brackets = omega (arith, own_is, counts.all_brackets, opens, closes);
      all_marks = omega (arith, mark_is, counts.all_marks, comments, equals);
      few_opened = omega (arith, opens, one_at_most (is_opening k), counts.few_opened);
      few_closed = omega (arith, closes, one_at_most (is_closing k), counts.few_closed);
      few_comments = omega (arith, comments, one_at_most (is_comment k), counts.few_comments);
      few_equals = omega (arith, equals, one_at_most (is_equal k), counts.few_equals);
    }
    )

-- it ends the line if and only if the mark of that is among them
pub ends_if : (pairs : List Pair) (at i brackets marks : ℕ) (k : Kind) → i ≤ MAX_TEXT → CountsTo pairs at i brackets marks (if ends_line 0 k then 1 else 0)
    → LINE_END ≤ marks → ends_line 0 k ≡ true
ends_if pairs at i brackets marks k few counts most = by_test (ends_line 0 k) counts.all_marks
  where
    by_test : (b : Bool) → marks ≡ number_of is_comment (slice_range pairs at i) + EQUALS * number_of is_equal (slice_range pairs at i) + LINE_END * (if b then 1 else 0) → b ≡ true
    by_test true e = refl
    by_test false e = absurd (omega (arith, e, most, few, counts.few_comments, counts.few_equals))

pub counts_if : (pairs : List Pair) (at i brackets marks : ℕ) (k : Kind) → CountsTo pairs at i brackets marks (if ends_line 0 k then 1 else 0)
    → marks < LINE_END → ends_line 0 k ≡ false
counts_if pairs at i brackets marks k counts less = by_test (ends_line 0 k) counts.all_marks
  where
    by_test : (b : Bool) → marks ≡ number_of is_comment (slice_range pairs at i) + EQUALS * number_of is_equal (slice_range pairs at i) + LINE_END * (if b then 1 else 0) → b ≡ false
    by_test true e = absurd (omega (arith, e, less))
    by_test false e = refl

pub none_ends : (pairs : List Pair) (at i brackets marks : ℕ) (k : Kind) → ends_line 0 k ≡ false → CountsTo pairs at i brackets marks (if ends_line 0 k then 1 else 0) → CountsTo pairs at i brackets marks 0
none_ends pairs at i brackets marks k continues_line counts = subst (λ (b : Bool). CountsTo pairs at i brackets marks (if b then 1 else 0)) continues_line counts

-- ---- what the numbers say

some_test : (f : Kind → Bool) (ps : List Pair) → not (number_of f ps == 0) ≡ are_some f ps
unfolding number_of
some_test f [] = refl
some_test f (p ∷ ps) = by_test (some_test f ps) (f p.kind) refl
  where
    by_test : not (count_by (λ (q : Pair). f q.kind) ps == 0) ≡ are_some f ps → (b : Bool) → f p.kind ≡ b → not (count_by (λ (q : Pair). f q.kind) (p ∷ ps) == 0) ≡ are_some f (p ∷ ps)
    by_test rest true e =
        let more : count_by (λ (q : Pair). f q.kind) (p ∷ ps) ≡ 1 + count_by (λ (q : Pair). f q.kind) ps = sum_by-cons (λ (q : Pair). cond (f q.kind) 1 0) p ps ∙ ap {B = ℕ} (λ b. cond b 1 0 + count_by (λ (q : Pair). f q.kind) ps) e in
        let test : (count_by (λ (q : Pair). f q.kind) (p ∷ ps) == 0) ≡ false = grind (arith, nat_tests, more) in
        ap not test ∙ sym (some_if f p ps true e)
    by_test rest false e =
        let whole = sum_by-cons (λ (q : Pair). cond (f q.kind) 1 0) p ps in
        let none : cond {A = ℕ} (f p.kind) 1 0 ≡ 0 = ap {B = ℕ} (λ b. cond b 1 0) e in
        let more : count_by (λ (q : Pair). f q.kind) (p ∷ ps) ≡ count_by (λ (q : Pair). f q.kind) ps = omega (arith, whole, none) in
        ap (λ n. not (n == 0)) more ∙ rest ∙ sym (some_if f p ps false e)

-- ---- where the line ends

none_open : (k : Kind) → ends_line 0 k ≡ false → heredocs_after 0 k ≡ 0
none_open HereOpen h = absurd (cc)
none_open HereClose h = refl
none_open k h = refl

opens_none : (k : Kind) → ends_line 0 k ≡ false → is_here_open k ≡ false
opens_none HereOpen h = absurd (cc)
opens_none k h = refl

-- it goes on
pub passes_on : (pairs : List Pair) (at i j : ℕ) (k : Kind) → IsInLine pairs at false i 0 → i < length pairs → j ≡ i + 1 → Some k ≡ kind_of pairs i → ends_line 0 k ≡ false → IsInLine pairs at false j 0
passes_on pairs at i j k l inside step is continues_line =
    subst (λ n. IsInLine pairs at false n 0) (sym step)
    (subst (λ h. IsInLine pairs at false (i + 1) h) (none_open k continues_line) (in_line_next pairs at false i 0 k l inside is continues_line))

-- it ends with token i
pub ends_here : (pairs : List Pair) (at i j : ℕ) (k : Kind) → IsInLine pairs at false i 0 → at < length pairs → i < length pairs → j ≡ i + 1 → Some k ≡ kind_of pairs i → ends_line 0 k ≡ true
    → SplitsLine pairs at false j (is_here_open k)
ends_here pairs at i j k l begins inside step is ends = subst (λ n. SplitsLine pairs at false n (is_here_open k)) (sym step) (line_ends pairs at false i 0 k l begins inside is ends)

-- the text ends with token i
pub ends_last : (pairs : List Pair) (at i j : ℕ) (k : Kind) → IsInLine pairs at false i 0 → at < length pairs → i + 1 ≡ length pairs → j ≡ length pairs → Some k ≡ kind_of pairs i
    → SplitsLine pairs at false j (is_here_open k)
ends_last pairs at i j k l begins end last is = subst (λ n. SplitsLine pairs at false n (is_here_open k)) (sym last) (by_test (ends_line 0 k) refl)
  where
    by_test : (b : Bool) → ends_line 0 k ≡ b → SplitsLine pairs at false (length pairs) (is_here_open k)
    by_test true e = subst (λ n. SplitsLine pairs at false n (is_here_open k)) end (line_ends pairs at false i 0 k l begins (omega arith) is e)
    by_test false e =
        subst (λ b. SplitsLine pairs at false (length pairs) b) (sym (opens_none k e))
        (text_ends pairs at false (i + 1) (heredocs_after 0 k) (in_line_next pairs at false i 0 k l (omega arith) is e) begins end)

pub line_passed : (pairs : List Pair) (at past brackets marks ends : ℕ) (next : Bool) (line : LineSpan) → past ≤ MAX_TEXT → SplitsLine pairs at false past next → CountsTo pairs at past brackets marks ends
    → line.past ≡ past → line.next_frozen ≡ next → line.is_balanced ≡ (brackets % CLOSING == brackets / CLOSING) → line.has_comment ≡ not (marks % EQUALS == 0) → line.has_equals ≡ not (marks / EQUALS % EQUALS == 0)
    → IsLine pairs at false line
line_passed pairs at past brackets marks ends next line few split counts past_is next_is balanced comment equal =
    let ps : List Pair = slice_range pairs at past in
    let opened : brackets % CLOSING ≡ openings ps = omega (arith, counts.all_brackets, few, counts.few_opened) in
    let closed : brackets / CLOSING ≡ closings ps = omega (arith, counts.all_brackets, few, counts.few_opened) in
    let comments : marks % EQUALS ≡ number_of is_comment ps = omega (arith, counts.all_marks, few, counts.few_comments, counts.few_equals) in
    let equals : marks / EQUALS % EQUALS ≡ number_of is_equal ps = omega (arith, counts.all_marks, few, counts.few_comments, counts.few_equals) in
    record {
      split = subst (λ n. SplitsLine pairs at false n line.next_frozen) (sym past_is) (subst (λ b. SplitsLine pairs at false past b) (sym next_is) split);
      flags = λ h. record {
        is_balanced = balanced ∙ ap₂ (λ x y. x == y) opened closed ∙ ap (λ n. is_balanced (slice_range pairs at n)) (sym past_is);
        has_comment = comment ∙ ap (λ n. not (n == 0)) comments ∙ some_test is_comment ps ∙ ap (λ n. are_some is_comment (slice_range pairs at n)) (sym past_is);
        has_equals = equal ∙ ap (λ n. not (n == 0)) equals ∙ some_test is_equal ps ∙ ap (λ n. are_some is_equal (slice_range pairs at n)) (sym past_is);
      };
    }

-- its brackets
pub opened_is : (pairs : List Pair) (at past brackets marks ends opened to : ℕ) → past ≤ MAX_TEXT → CountsTo pairs at past brackets marks ends → to ≡ past → opened ≡ brackets % CLOSING → opened ≡ openings (slice_range pairs at to)
opened_is pairs at past brackets marks ends opened to few counts to_is is =
    let here : opened ≡ openings (slice_range pairs at past) = omega (arith, is, counts.all_brackets, few, counts.few_opened) in
    here ∙ ap (λ n. openings (slice_range pairs at n)) (sym to_is)

pub closed_is : (pairs : List Pair) (at past brackets marks ends closed to : ℕ) → past ≤ MAX_TEXT → CountsTo pairs at past brackets marks ends → to ≡ past → closed ≡ brackets / CLOSING → closed ≡ closings (slice_range pairs at to)
closed_is pairs at past brackets marks ends closed to few counts to_is is =
    let here : closed ≡ closings (slice_range pairs at past) = omega (arith, is, counts.all_brackets, few, counts.few_opened) in
    here ∙ ap (λ n. closings (slice_range pairs at n)) (sym to_is)

-- ---- its gaps

-- the gaps pushed for the tokens before token i, whatever token the line ends before
abbrev pub AreSpaced : List Pair → ℕ → ℕ → ℕ → List ℕ → List ℕ → Type 0
AreSpaced pairs first at i old gaps =
    (to : ℕ) → i ≤ to → to ≤ length pairs
    → gaps ++ spaces_from (prev_after_all (slice_range pairs first (i - 1)) []) (slice_range pairs (i - 1) to)
    ≡ old ++ 0 ∷ spaces_from (prev_after_all (slice_range pairs first at) []) (slice_range pairs at to)

pub spaced_begins : (pairs : List Pair) (first at i : ℕ) (old gaps : List ℕ) → i ≡ at + 1 → gaps ≡ old ++ 0 ∷ [] → AreSpaced pairs first at i old gaps
spaced_begins pairs first at i old gaps e is = λ to later within.
    let place : i - 1 ≡ at = omega arith in
    ap₂ (λ (g : List ℕ) n. g ++ spaces_from (prev_after_all (slice_range pairs first n) []) (slice_range pairs n to)) is place
    ∙ append_assoc old (0 ∷ []) (spaces_from (prev_after_all (slice_range pairs first at) []) (slice_range pairs at to))

-- a line's gaps, of which the first is set last
pub first_set : (pairs : List Pair) (at past deep : ℕ) (b : List Kind) (k : Kind) (old new gaps : List ℕ) (place n : ℕ) → at < past → past ≤ length pairs → Some k ≡ kind_of pairs at
    → place ≡ length old → n ≡ (if is_line_end k then 0 else 2 * deep) → gaps ≡ old ++ 0 ∷ spaces_from b (slice_range pairs at past) → new ≡ set gaps place n
    → new ≡ old ++ line_gap_lens deep b (slice_range pairs at past)
first_set pairs at past deep b k old new gaps place n less within is place_is n_is gaps_is new_is =
    let t = token_here pairs at past less within in
    let same = kind_is pairs at past k t is in
    let leading : n ≡ (if is_line_end t.pair.kind then 0 else 2 * deep) = n_is ∙ ap (λ j. cond (is_line_end j) 0 (2 * deep)) same in
    let whole : line_gap_lens deep b (slice_range pairs at past) ≡ n ∷ spaces_from b (slice_range pairs at past) = rw (t.range, leading) refl in
    new_is ∙ ap₂ (λ (g : List ℕ) i. set g i n) gaps_is place_is
    ∙ set-append_seam old 0 (spaces_from b (slice_range pairs at past)) n
    ∙ ap (λ (g : List ℕ). old ++ g) (sym whole)

-- the gaps of a line in a heredoc
pub kept_line : (pairs : List Pair) (at past deep : ℕ) (b : List Kind) (old new : List ℕ) → at < past → past ≤ length pairs → new ≡ old ++ replicate (past - at) KEEP_GAP
    → new ≡ old ++ base_gap_lens deep b (record { frozen = true; pairs = slice_range pairs at past })
kept_line pairs at past deep b old new less within is =
    let count : length (slice_range pairs at past) ≡ past - at = length-take-le (past - at) (drop at pairs) (omega (arith, length-drop at pairs)) in
    is ∙ ap (λ n. old ++ replicate n KEEP_GAP) (sym count)

-- before the first line, and after the last
pub left_begins : (pairs : List Pair) (first : ℕ) (gaps surplus : List ℕ) → surplus ≡ [] → gaps_left pairs first first false gaps surplus ≡ gaps ++ all_gap_lens [] [] (lines_from 0 (drop first pairs))
left_begins pairs first gaps surplus none =
    ap₂ (λ (s : List ℕ) (ps : List Pair). gaps ++ all_gap_lens (reverse s) (prev_after_all ps []) (lines_from 0 (drop first pairs))) none (none_there pairs first)

pub left_ends : (pairs : List Pair) (first at : ℕ) (frozen : Bool) (gaps surplus : List ℕ) → length pairs ≤ at → gaps_left pairs first at frozen gaps surplus ≡ gaps
left_ends pairs first at frozen gaps surplus end =
    ap (λ (ps : List Pair). gaps ++ all_gap_lens (reverse surplus) (prev_after_all (slice_range pairs first at) []) (lines_from (open_heredocs_of frozen) ps)) (drop_all at pairs end)
    ∙ append-nil gaps
