-- What is derived from tokens is derived from them elsewhere: line ends, names, keywords.
use Rattle.std.proofs.Common.{◌≢◌, ℕ, ◌+◌, ◌<◌, ◌≤◌, Bool, true, false, List, Option, sym, ◌∙◌, arith}
use Rattle.hcl_token.specs.declared.kind.Kind.{Kind}
use Rattle.hcl_grammar.specs.Lookahead.{NextIs, NextIsWord, NextIsNotWord, IsNewline, line_end, comment, IsNewlines, no_lines, line, IsSep, comma, lines, IsNameTail, no_names, name, IsSecondName, no_second, second, IsEllipsis, no_ellipsis, ellipsis, IsKeyword, keyword}
use Rattle.hcl_grammar.specs.Tokens.{Token, next_index, next_kind, after_next}
use Rattle.hcl_grammar_laws.proofs.Spans.{span_lines, span_names}
use Rattle.tf_reuse.proofs.RenumberedNodes as moved
use Rattle.tf_reuse.proofs.Window.{Here, Same, NextIsWithin, starts, afters, tokens, nexts, next_within, before}
use Rattle.tf_reuse.specs.SameTokens.{SameTokens}

module _ (ts : List Token) where
  pub passed : (m : Bool) (i : ℕ) → i < after_next ts m i
  unfolding after_next next_index
  passed m i = omega arith

  pub not_before : (m : Bool) (i : ℕ) → i ≤ next_index ts m i
  unfolding next_index
  not_before m i = omega arith

  -- a token whose end (exclusive) is at most place l
  pub less : (m : Bool) (i l : ℕ) → after_next ts m i ≤ l → next_index ts m i < l
  unfolding after_next
  less m i l h = omega (arith, h)

-- the first token of these ends no later than they do
pub begins_line : {ts : List Token} {i j : ℕ} → IsNewline ts i j → after_next ts false i ≤ j
begins_line (line_end p) = omega arith
begins_line {ts} (comment {i} p q) = omega (arith, passed ts false (after_next ts false i))

pub begins_sep : {ts : List Token} {i j : ℕ} → IsSep ts i j → after_next ts false i ≤ j
begins_sep (comma p q) = (span_lines q).forth
begins_sep (lines p q) = omega (arith, begins_line p, (span_lines q).forth)

pub begins_keyword : {ts : List Token} {m : Bool} {v : List ℕ} {i j : ℕ} → IsKeyword ts m v i j → after_next ts m i ≤ j
begins_keyword {ts} (keyword {m} {i} p q r) = omega (arith, passed ts true (after_next ts m i), passed ts true (after_next ts true (after_next ts m i)))

module _ {old new : List Token} {from to count : ℕ} (w : SameTokens old new from to count) where
  -- a token that is before place j
  pub inside : (m : Bool) (i j : ℕ) → after_next old m i ≤ j → j ≤ from + count → NextIsWithin w m i
  inside m i j l b = next_within w m i (omega (arith, l, b))

  -- a token right before the next
  pub just : (m n : Bool) (i : ℕ) → NextIsWithin w m (after_next old n i) → NextIsWithin w n i
  just m n i c = before w m n i (after_next old n i) (omega arith) c

  pub at : (m : Bool) {t : Kind} {i i' : ℕ} → Here w i i' → NextIsWithin w m i → NextIs old m t i → NextIs new m t i'
  at m h c p = nexts w m h c ∙ p

  pub no_next : (m : Bool) {o : Option Kind} {i i' : ℕ} → Here w i i' → NextIsWithin w m i → next_kind old m i ≢ o → next_kind new m i' ≢ o
  no_next m h c p = λ e. p (sym (nexts w m h c) ∙ e)

  pub word : (m : Bool) {v : List ℕ} {i i' : ℕ} → Here w i i' → NextIsWithin w m i → NextIsWord old m v i → NextIsWord new m v i'
  word m h c p = tokens w m h c ∙ p

  pub no_word : (m : Bool) {v : List ℕ} {i i' : ℕ} → Here w i i' → NextIsWithin w m i → NextIsNotWord old m v i → NextIsNotWord new m v i'
  no_word m h c p = λ e. p (sym (tokens w m h c) ∙ e)

  pub move_line : {i i' j : ℕ} → IsNewline old i j → Here w i i' → j ≤ from + count → (j' : ℕ) × Here w j j' × IsNewline new i' j'
  move_line (line_end {i} p) h b = let c = next_within w false i b in (_, afters w false h c, line_end (at false h c p))
  move_line (comment {i} p q) h b =
      let c1 = next_within w false (after_next old false i) b in
      let c0 = just false false i c1 in
      let h1 = afters w false h c0 in
      (_, afters w false h1 c1, comment (at false h c0 p) (at false h1 c1 q))

  pub move_lines : {i i' j : ℕ} → IsNewlines old i j → Here w i i' → j ≤ from + count → (j' : ℕ) × Here w j j' × IsNewlines new i' j'
  move_lines no_lines h b = (_, h, no_lines)
  move_lines (line p q) h b =
      let (j', hj, p') = move_line p h (omega (arith, b, (span_lines q).forth)) in
      let (l', hl, q') = move_lines q hj b in
      (l', hl, line p' q')

  pub move_sep : {i i' j : ℕ} → IsSep old i j → Here w i i' → j ≤ from + count → (j' : ℕ) × Here w j j' × IsSep new i' j'
  move_sep (comma {i} {j} p q) h b =
      let c = inside false i j (span_lines q).forth b in
      let (j', hj, q') = move_lines q (afters w false h c) b in
      (j', hj, comma (at false h c p) q')
  move_sep (lines p q) h b =
      let (j', hj, p') = move_line p h (omega (arith, b, (span_lines q).forth)) in
      let (l', hl, q') = move_lines q hj b in
      (l', hl, lines p' q')

  pub move_names : {m : Bool} {ns : List ℕ} {i i' j : ℕ} → IsNameTail old m ns i j → Here w i i' → j ≤ from + count
      → (ns' : List ℕ) × (j' : ℕ) × Here w j j' × IsNameTail new m ns' i' j' × moved.MovedNumbers (Here w) (Same w) ns ns'
  move_names no_names h b = (_, _, h, no_names, moved.no_numbers)
  move_names (name {m} {ns} {i} {j} p q r) h b =
      let c1 = inside m (after_next old m i) j (span_names r).forth b in
      let c0 = just m m i c1 in
      let h1 = afters w m h c0 in
      let (ns', j', hj, r', v) = move_names r (afters w m h1 c1) b in
      (_, j', hj, name (at m h c0 p) (at m h1 c1 q) r', moved.numbers (starts w m h1 c1) v)

  pub move_second : {o : Option ℕ} {i i' j : ℕ} → IsSecondName old o i j → Here w i i' → j ≤ from + count
      → (o' : Option ℕ) × (j' : ℕ) × Here w j j' × IsSecondName new o' i' j' × moved.MovedNumber (Here w) (Same w) o o'
  move_second no_second h b = (_, _, h, no_second, moved.no_number)
  move_second (second {i} p q) h b =
      let c1 = next_within w true (after_next old true i) b in
      let c0 = just true true i c1 in
      let h1 = afters w true h c0 in
      (_, _, afters w true h1 c1, second (at true h c0 p) (at true h1 c1 q), moved.one_number (starts w true h1 c1))

  pub move_dots : {s : Bool} {i i' j : ℕ} → IsEllipsis old s i j → Here w i i' → j ≤ from + count → (j' : ℕ) × Here w j j' × IsEllipsis new s i' j'
  move_dots no_ellipsis h b = (_, h, no_ellipsis)
  move_dots (ellipsis {i} p) h b = let c = next_within w true i b in (_, afters w true h c, ellipsis (at true h c p))

  pub move_keyword : {m : Bool} {v : List ℕ} {i i' j : ℕ} → IsKeyword old m v i j → Here w i i' → j ≤ from + count → (j' : ℕ) × Here w j j' × IsKeyword new m v i' j'
  move_keyword (keyword {m} {i} p q r) h b =
      let c2 = next_within w true (after_next old true (after_next old m i)) b in
      let c1 = just true true (after_next old m i) c2 in
      let c0 = just true m i c1 in
      let h1 = afters w m h c0 in
      let h2 = afters w true h1 c1 in
      (_, afters w true h2 c2, keyword (at m h c0 p) (word true h1 c1 q) (at true h2 c2 r))
