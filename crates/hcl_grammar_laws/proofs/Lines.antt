-- Line ends between elements.
use Rattle.std.proofs.Common.{◌≡◌, ℕ, zero, suc, ◌+◌, ◌≤◌, true, false, List, length, Ok, refl, ap, ◌∙◌, arith}
use Rattle.hcl_token.specs.declared.kind.Kind.TheVariants as k
use Rattle.hcl_grammar.specs.Tokens.{Token, after_next, same_kind}
use Rattle.hcl_grammar.specs.Pure.Reading.{Outcome, Step, and_then, next_is}
use Rattle.hcl_grammar.specs.Pure.Steps as steps
use Rattle.hcl_grammar.specs.Lookahead.{NextIs, IsNewline, line_end, comment, IsNewlines, no_lines, line, IsSep, comma, lines}
use Rattle.hcl_grammar_laws.proofs.Steps.{expect-yes, sees-yes, if_next-yes, if_next-no}
use Rattle.hcl_grammar_laws.proofs.Ahead.{sees-other, Begins, no-begin}
use Rattle.hcl_grammar_laws.proofs.Spans.{Spans, span_line, span_lines}

-- a step that succeeds
pub on : {A B : Type 0} (r : Outcome A) (x : A) (j : ℕ) (f : A → Step B) → r ≡ Ok (x, j) → and_then r f ≡ f x j
on r x j f e = ap (λ o. and_then o f) e

-- no line end comes next
pub record NoLine (ts : List Token) (i : ℕ) : Type 0 where
  pub is : steps.eat_newline ts i ≡ Ok (false, i)

-- the same, where the text does not end
pub record NoInner (ts : List Token) (i : ℕ) : Type 0 where
  pub is : steps.eat_inner_newline ts i ≡ Ok (false, i)

no_comma : {ts : List Token} {i j : ℕ} → IsNewline ts i j → next_is ts false k.Comma i ≡ false
unfolding same_kind
no_comma {ts} (line_end {i} h) = sees-other ts false k.LineEnd k.Comma i h refl
no_comma {ts} (comment {i} h n) = sees-other ts false k.LineComment k.Comma i h refl

module _ {ts : List Token} where
  pub line-yes : {i j : ℕ} → IsNewline ts i j → steps.eat_newline ts i ≡ Ok (true, j)
  unfolding steps.eat_newline same_kind
  line-yes (line_end {i} h) = rw (if_next-no ts false k.LineComment i (sees-other ts false k.LineEnd k.LineComment i h refl), sees-yes ts false k.LineEnd i h)
  line-yes (comment {i} h n) = rw (if_next-yes ts false k.LineComment i h, sees-yes ts false k.LineEnd (after_next ts false i) n)

  pub inner-yes : {i j : ℕ} → IsNewline ts i j → steps.eat_inner_newline ts i ≡ Ok (true, j)
  unfolding steps.eat_inner_newline same_kind
  inner-yes (line_end {i} h) =
      let n = sees-other ts false k.LineEnd k.LineComment i h refl in
      rw (n, if_next-no ts false k.LineComment i n, sees-yes ts false k.LineEnd i h, if_next-yes ts false k.LineEnd i h)
  inner-yes (comment {i} h n) = rw (sees-yes ts false k.LineComment i h, if_next-yes ts false k.LineComment i h, expect-yes ts false k.LineEnd (after_next ts false i) n)

  pub no_line : {i : ℕ} → next_is ts false k.LineComment i ≡ false → next_is ts false k.LineEnd i ≡ false → NoLine ts i
  unfolding steps.eat_newline
  no_line {i} a b = record { is = rw (if_next-no ts false k.LineComment i a, b) }

  pub no_inner : {i : ℕ} → next_is ts false k.LineComment i ≡ false → next_is ts false k.LineEnd i ≡ false → NoInner ts i
  unfolding steps.eat_inner_newline
  no_inner {i} a b = record { is = rw (a, if_next-no ts false k.LineComment i a, b, if_next-no ts false k.LineEnd i b) }

  pub no_inner_begins : {i : ℕ} → Begins ts false i → NoInner ts i
  no_inner_begins {i} b = no_inner (no-begin ts false k.LineComment i b refl) (no-begin ts false k.LineEnd i b refl)

  pub lines-yes : {i j : ℕ} → IsNewlines ts i j → NoInner ts j → (n : ℕ) → j ≤ n + i → steps.skip_newlines_from ts n i ≡ Ok (tt, j)
  unfolding steps.skip_newlines_from
  lines-yes (no_lines {i}) s zero l = refl
  lines-yes (no_lines {i}) s (suc n) l = on (steps.eat_inner_newline ts i) false i _ s.is
  lines-yes (line {i} {j} h t) s zero l = absurd (omega (arith, (span_line h).forth, (span_lines t).forth))
  lines-yes (line {i} {j} h t) s (suc n) l = on (steps.eat_inner_newline ts i) true j _ (inner-yes h) ∙ lines-yes t s n (omega (arith, (span_line h).forth))

  enough : {i j : ℕ} → Spans ts i j → j ≤ length ts + i
  enough s = omega (arith, s.within)

  pub lines_all : {i j : ℕ} → IsNewlines ts i j → NoInner ts j → steps.skip_newlines ts i ≡ Ok (tt, j)
  lines_all h s = lines-yes h s (length ts) (enough (span_lines h))

  pub sep-yes : {i j : ℕ} → IsSep ts i j → NoInner ts j → steps.eat_separator ts i ≡ Ok (true, j)
  unfolding steps.eat_separator
  sep-yes (comma {i} {j} h t) s = rw (sees-yes ts false k.Comma i h, if_next-yes ts false k.Comma i h, lines_all t s)
  sep-yes (lines {i} {j} {l = n} h t) s = rw (no_comma h, if_next-no ts false k.Comma i (no_comma h), inner-yes h, lines_all t s)

  pub sep_or_end-yes : {i j : ℕ} → IsSep ts i j → NoInner ts j → steps.eat_separator_or_brace ts i ≡ Ok (true, j)
  unfolding steps.eat_separator_or_brace
  sep_or_end-yes h s = rw (sep-yes h s)

pub no_inner_at : (ts : List Token) (i : ℕ) → NextIs ts false k.CloseBrace i → NoInner ts i
unfolding same_kind
no_inner_at ts i h = no_inner (sees-other ts false k.CloseBrace k.LineComment i h refl) (sees-other ts false k.CloseBrace k.LineEnd i h refl)

pub sep-no : (ts : List Token) (i : ℕ) → NextIs ts false k.CloseBrace i → steps.eat_separator ts i ≡ Ok (false, i)
unfolding steps.eat_separator same_kind
sep-no ts i h = let n = sees-other ts false k.CloseBrace k.Comma i h refl in rw (n, if_next-no ts false k.Comma i n, (no_inner_at ts i h).is)

pub sep_or_end-no : (ts : List Token) (i : ℕ) → NextIs ts false k.CloseBrace i → steps.eat_separator_or_brace ts i ≡ Ok (false, after_next ts false i)
unfolding steps.eat_separator_or_brace
sep_or_end-no ts i h = rw (sep-no ts i h, expect-yes ts false k.CloseBrace i h)
