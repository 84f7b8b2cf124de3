-- Lines in turn that can have no cell, as one span. For speed and memory alone.
use Rattle.std.proofs.Common.{◌≡◌, ℕ, zero, suc, ◌+◌, ◌-◌, ◌<◌, ◌≤◌, Bool, true, false, not, ◌&&◌, ◌||◌, List, [], ◌∷◌, ◌++◌, length, drop, get_or, set, slice_range, Some, None, Option, if◌then◌else◌, ◌≢◌, refl, sym, ap, ap₂, subst, ◌∙◌, arith}
use Rattle.std.specs.Option.{option_map}
use Rattle.std.proofs.lemmas.Bool.{and_parts, false≢true}
use Rattle.std.proofs.lemmas.List.{drop_more, drop_all}
use Rattle.hcl_token.specs.declared.kind.Kind.{Kind}
use Rattle.hcl_token.specs.declared.kind.Kind.TheVariants.{LineEnd}
use Rattle.hcl_token.specs.Kinds.{is_line_comment, is_line_end}
use Rattle.hcl_token.specs.Tokens.{Pair}
use Rattle.hcl_token.specs.TokenizedText.{kind_of}
use Rattle.hcl_layout.specs.Gaps.Cells.{index_of_first, index_after_first}
use Rattle.hcl_layout.specs.Gaps.Inner.CodeViews.{cell_of, starts_cell, can_have_cell, IsLine}
use Rattle.hcl_layout.specs.Gaps.Inner.LineSpans.{is_comment_alone, HasNoCell, HaveNoCell, IsSpan, AreSpans, can_be_joined, can_last_be_joined, add_span}
use Rattle.hcl_layout.specs.declared.gaps.lines.LineSpan.{LineSpan}
use Rattle.hcl_layout.specs.declared.gaps.cells.Cell.{Cell}
use Rattle.hcl_layout.specs.declared.gaps.cells.Cell.TheVariants.{Assignment, ClosingComment}
use Rattle.hcl_layout.proofs.GapsLemmas.LineLemmas.{TokenHere, token_here, kind_is, none_there}
use Rattle.hcl_layout.proofs.GapsLemmas.CellCode.{plain_line, broken, blocked, free, if_counts, lacks_cell}

-- what a list of spans answers after its end
abbrev pub no_span : LineSpan
no_span = record { past = 0; next_frozen = false; is_balanced = false; has_comment = false; has_equals = false }

-- ---- one line

pub line_span : (pairs : List Pair) (at : ℕ) (frozen : Bool) (line : LineSpan) → IsLine pairs at frozen line → IsSpan pairs at frozen line
line_span pairs at frozen line is = record {
  line = λ cell h. is;
  lacks = λ cell h. (zero, record { split = is.split; none = lacks_cell cell pairs at line frozen is.flags h });
}

-- a comment and its line end

end_starts_none : (cell : Cell) (k : Kind) → is_line_end k ≡ true → starts_cell cell k ≡ false
end_starts_none Assignment LineEnd h = refl
end_starts_none ClosingComment LineEnd h = refl
end_starts_none cell k h = absurd (cc)

second_none : (cell : Cell) (p q : Pair) (b : Bool) → starts_cell cell q.kind ≡ b → b ≡ false → index_after_first (λ (x : Pair). starts_cell cell x.kind) (p ∷ q ∷ []) ≡ None
second_none cell p q true e h = absurd (cc)
second_none cell p q false e h = rw e refl

comment_lacks : (cell : Cell) (frozen : Bool) (ps : List Pair) → is_comment_alone ps ≡ true → cell_of cell (record { frozen = frozen; pairs = ps }) ≡ None
comment_lacks cell frozen [] h = absurd (cc)
comment_lacks cell frozen (p ∷ []) h = absurd (cc)
comment_lacks cell frozen (p ∷ q ∷ []) h = by_test (frozen || broken (p ∷ q ∷ [])) refl
  where
    by_test : (b : Bool) → (frozen || broken (p ∷ q ∷ [])) ≡ b → cell_of cell (record { frozen = frozen; pairs = p ∷ q ∷ [] }) ≡ None
    by_test true e = blocked cell frozen (broken (p ∷ q ∷ [])) (p ∷ q ∷ []) refl e
    by_test false e =
        let ends = (and_parts (is_line_comment p.kind) (is_line_end q.kind) h).1 in
        free cell frozen (broken (p ∷ q ∷ [])) (p ∷ q ∷ []) refl e
        ∙ ap (if_counts cell (p ∷ q ∷ [])) (second_none cell p q (starts_cell cell q.kind) refl (end_starts_none cell q.kind ends))
comment_lacks cell frozen (p ∷ q ∷ r ∷ ps) h = absurd (cc)

pub comment_span : (pairs : List Pair) (at : ℕ) (frozen : Bool) (line : LineSpan) → IsLine pairs at frozen line → is_comment_alone (slice_range pairs at line.past) ≡ true
    → IsSpan pairs at frozen (record { past = line.past; next_frozen = line.next_frozen; is_balanced = false; has_comment = false; has_equals = false })
comment_span pairs at frozen line is alone = record {
  line = λ cell h. absurd (false≢true (none_set cell h));
  lacks = λ cell h. (zero, record { split = is.split; none = comment_lacks cell frozen (slice_range pairs at line.past) alone });
}
  where
    none_set : (cell : Cell) → can_have_cell cell (record { past = line.past; next_frozen = line.next_frozen; is_balanced = false; has_comment = false; has_equals = false }) ≡ true → false ≡ true
    none_set Assignment h = h
    none_set ClosingComment h = h

-- the tokens of a line with two
pub two_tokens : (pairs : List Pair) (at past : ℕ) (j k : Kind) → past ≡ at + 2 → past ≤ length pairs → Some j ≡ kind_of pairs at → Some k ≡ kind_of pairs (at + 1)
    → is_comment_alone (slice_range pairs at past) ≡ (is_line_comment j && is_line_end k)
two_tokens pairs at past j k size within j_is k_is =
    let t = token_here pairs at past (omega (arith, size)) within in
    let u = token_here pairs (at + 1) past (omega (arith, size)) within in
    let end : at + 1 + 1 ≡ past = omega (arith, size) in
    let rest : slice_range pairs (at + 1 + 1) past ≡ [] = ap (λ n. slice_range pairs n past) end ∙ none_there pairs past in
    ap is_comment_alone (t.range ∙ ap (λ (ps : List Pair). t.pair ∷ ps) (u.range ∙ ap (λ (ps : List Pair). u.pair ∷ ps) rest))
    ∙ sym (ap₂ (λ x y. is_line_comment x && is_line_end y) (kind_is pairs at past j t j_is) (kind_is pairs (at + 1) past k u k_is))

-- a line with another number of them
pub not_two : (ps : List Pair) (n : ℕ) → length ps ≡ n → n ≢ 2 → is_comment_alone ps ≡ false
not_two [] n size other = refl
not_two (p ∷ []) n size other = refl
not_two (p ∷ q ∷ []) n size other = absurd (other (sym size))
not_two (p ∷ q ∷ r ∷ ps) n size other = refl

-- ---- several lines as one span

chain : (cell : Cell) (pairs : List Pair) (n m at : ℕ) (f : Bool) (mid : ℕ) (g : Bool) (past : ℕ) (next : Bool) → HaveNoCell cell n pairs at f mid g → HaveNoCell cell m pairs mid g past next
    → (more : ℕ) × HaveNoCell cell more pairs at f past next
chain cell pairs n zero at f mid g past next one last = (suc n, (mid, g, one, last))
chain cell pairs n (suc m) at f mid g past next one (to, h, rest, last) =
    let (more, whole) = chain cell pairs n m at f mid g to h one rest in
    (suc more, (to, h, whole, last))

neither : (a b : Bool) → not (a || b) ≡ true → (a ≡ false) × (b ≡ false)
neither true b h = absurd (cc)
neither false true h = absurd (cc)
neither false false h = (refl, refl)

lacks_both : (cell : Cell) (span : LineSpan) → can_be_joined span ≡ true → can_have_cell cell span ≡ false
lacks_both Assignment span h = (neither span.has_comment span.has_equals h).1
lacks_both ClosingComment span h = (neither span.has_comment span.has_equals h).0

joined_span : (pairs : List Pair) (at : ℕ) (frozen : Bool) (last span : LineSpan) → IsSpan pairs at frozen last → IsSpan pairs last.past last.next_frozen span → (can_be_joined span && can_be_joined last) ≡ true
    → IsSpan pairs at frozen span
joined_span pairs at frozen last span before after joins =
    let both = and_parts (can_be_joined span) (can_be_joined last) joins in
    record {
      line = λ cell h. absurd (false≢true (sym (lacks_both cell span both.0) ∙ h));
      lacks = λ cell h.
          let (n, one) = before.lacks cell (lacks_both cell last both.1) in
          let (m, more) = after.lacks cell h in
          chain cell pairs n m at frozen last.past last.next_frozen span.past span.next_frozen one more;
    }

-- spans from one token up to another
abbrev pub SpansTo : List Pair → ℕ → Bool → List LineSpan → ℕ → Bool → Type 0
SpansTo pairs at frozen [] to next = (at ≡ to) × (frozen ≡ next)
SpansTo pairs at frozen (span ∷ spans) to next = IsSpan pairs at frozen span × SpansTo pairs span.past span.next_frozen spans to next

-- one more
pub spans_add : (pairs : List Pair) (at : ℕ) (frozen : Bool) (spans : List LineSpan) (to : ℕ) (next : Bool) (span : LineSpan)
    → SpansTo pairs at frozen spans to next → IsSpan pairs to next span
    → SpansTo pairs at frozen (add_span spans span) span.past span.next_frozen
spans_add pairs at frozen [] to next span (e, f) one =
    (subst (λ a. IsSpan pairs a frozen span) (sym e) (subst (λ b. IsSpan pairs to b span) (sym f) one), (refl, refl))
spans_add pairs at frozen (last ∷ []) to next span (before, (e, f)) one = by_test (can_be_joined span && can_be_joined last) refl
  where
    after : IsSpan pairs last.past last.next_frozen span
    after = subst (λ a. IsSpan pairs a last.next_frozen span) (sym e) (subst (λ b. IsSpan pairs to b span) (sym f) one)

    by_test : (b : Bool) → (can_be_joined span && can_be_joined last) ≡ b → SpansTo pairs at frozen (add_span (last ∷ []) span) span.past span.next_frozen
    by_test true t =
        subst (λ (b : Bool). SpansTo pairs at frozen (if b then span ∷ [] else last ∷ span ∷ []) span.past span.next_frozen) (sym t)
        (joined_span pairs at frozen last span before after t, (refl, refl))
    by_test false t =
        subst (λ (b : Bool). SpansTo pairs at frozen (if b then span ∷ [] else last ∷ span ∷ []) span.past span.next_frozen) (sym t)
        (before, (after, (refl, refl)))
spans_add pairs at frozen (first ∷ second ∷ spans) to next span (before, rest) one =
    (before, spans_add pairs first.past first.next_frozen (second ∷ spans) to next span rest one)

-- up to the end of the text
pub spans_whole : (pairs : List Pair) (at : ℕ) (frozen : Bool) (spans : List LineSpan) (to : ℕ) (next : Bool)
    → SpansTo pairs at frozen spans to next → to ≡ length pairs → AreSpans pairs at frozen spans
spans_whole pairs at frozen [] to next (e, f) end = e ∙ end
spans_whole pairs at frozen (span ∷ spans) to next (before, rest) end = (before, spans_whole pairs span.past span.next_frozen spans to next rest end)

-- the span of number i, and those after it
pub span_at : (pairs : List Pair) (at : ℕ) (frozen : Bool) (spans : List LineSpan) (i : ℕ) → i < length spans
    → AreSpans pairs at frozen (drop i spans)
    → IsSpan pairs at frozen (get_or spans i no_span)
    × AreSpans pairs (get_or spans i no_span).past (get_or spans i no_span).next_frozen (drop (i + 1) spans)
span_at pairs at frozen spans i h are = subst (AreSpans pairs at frozen) (drop_more spans i no_span h) are

-- after the last
pub no_span_left : (pairs : List Pair) (at : ℕ) (frozen : Bool) (spans : List LineSpan) (i : ℕ) → length spans ≤ i
    → AreSpans pairs at frozen (drop i spans) → at ≡ length pairs
no_span_left pairs at frozen spans i h are = subst (AreSpans pairs at frozen) (drop_all i spans h) are

-- ---- adding one

pub last_joined : (spans : List LineSpan) (n : ℕ) → n + 1 ≡ length spans → can_be_joined (get_or spans n no_span) ≡ can_last_be_joined spans
last_joined [] n size = absurd (omega (arith, size))
last_joined (last ∷ []) zero size = refl
last_joined (last ∷ []) (suc n) size = absurd (omega (arith, size))
last_joined (first ∷ next ∷ spans) zero size = absurd (omega (arith, size))
last_joined (first ∷ next ∷ spans) (suc n) size = last_joined (next ∷ spans) n (omega (arith, size))

pub none_joined : (spans : List LineSpan) → length spans ≡ 0 → false ≡ can_last_be_joined spans
none_joined [] size = refl
none_joined (last ∷ spans) size = absurd (omega (arith, size))

-- where the last is joined, there is one
pub some_last : (spans : List LineSpan) (b : Bool) → (b && can_last_be_joined spans) ≡ true → 0 < length spans
some_last [] true h = absurd (cc)
some_last [] false h = absurd (cc)
some_last (last ∷ spans) b h = omega arith

pub add_joined : (spans : List LineSpan) (n : ℕ) (span : LineSpan) → n + 1 ≡ length spans → (can_be_joined span && can_last_be_joined spans) ≡ true → set spans n span ≡ add_span spans span
add_joined [] n span size h = absurd (omega (arith, size))
add_joined (last ∷ []) zero span size h = sym (ap {B = List LineSpan} (λ (b : Bool). if b then span ∷ [] else last ∷ span ∷ []) h)
add_joined (last ∷ []) (suc n) span size h = absurd (omega (arith, size))
add_joined (first ∷ next ∷ spans) zero span size h = absurd (omega (arith, size))
add_joined (first ∷ next ∷ spans) (suc n) span size h = ap (λ (ss : List LineSpan). first ∷ ss) (add_joined (next ∷ spans) n span (omega (arith, size)) h)

pub add_pushed : (spans : List LineSpan) (span : LineSpan) → (can_be_joined span && can_last_be_joined spans) ≡ false → spans ++ span ∷ [] ≡ add_span spans span
add_pushed [] span h = refl
add_pushed (last ∷ []) span h = sym (ap {B = List LineSpan} (λ (b : Bool). if b then span ∷ [] else last ∷ span ∷ []) h)
add_pushed (first ∷ next ∷ spans) span h = ap (λ (ss : List LineSpan). first ∷ ss) (add_pushed (next ∷ spans) span h)
