-- The legacy indices among tokens, and what has none.
use Rattle.std.proofs.Common.{◌≡◌, ℕ, zero, suc, ◌+◌, Bool, true, false, cond, if◌then◌else◌, List, [], ◌∷◌, drop, slice_get, Option, Some, None, refl, ap, ◌∙◌, arith}
use Rattle.std.proofs.lemmas.List.{drop-drop}
use Rattle.std.specs.List.{prefix_len}
use Rattle.std.specs.Option.{option_map}
use Rattle.hcl_token.specs.declared.kind.Kind.{Kind}
use Rattle.hcl_token.specs.declared.kind.Kind.TheVariants as k
use Rattle.hcl_grammar.specs.declared.tree.BinaryOperator.{BinaryOperator}
use Rattle.hcl_grammar.specs.declared.tree.Label.{Label}
use Rattle.hcl_grammar.specs.declared.tree.UnaryOperator.{UnaryOperator}
use Rattle.hcl_grammar.specs.Bodies.{IsLabels, no_labels, word_label, text_label, empty_label}
use Rattle.hcl_grammar.specs.Lookahead.{NextIs, NextIsWord, IsNewline, line_end, comment, IsNewlines, no_lines, line, IsEol, eol_line, eol_end, eol_comment, IsSep, comma, lines, IsNameTail, no_names, name, IsSecondName, no_second, second, IsEllipsis, no_ellipsis, ellipsis, IsKeyword, keyword}
use Rattle.hcl_grammar.specs.Operators.{unary_operator, binary_operator}
use Rattle.hcl_grammar.specs.Tokens.{Token, is_skipped, next_index, next_token, next_kind, after_next}
use Rattle.hcl_grammar_laws.proofs.Steps.{word_at}
use Rattle.tf_rules_laws.specs.LegacyIndices.{is_legacy, legacy_tokens}

abbrev pub legacy_by : Kind → ℕ → List ℕ → List ℕ
legacy_by t n rest = if is_legacy t then n ∷ rest else rest

abbrev pub legacy_from : List Token → ℕ → List ℕ
legacy_from ts n = legacy_tokens n (drop n ts)

not_legacy : (t : Kind) (n : ℕ) (rest : List ℕ) → is_legacy t ≡ false → legacy_by t n rest ≡ rest
not_legacy k.DotIndex n rest h = absurd (cc)
not_legacy _ n rest h = refl

skipped_other : (m : Bool) (t : Kind) → is_skipped m t ≡ true → is_legacy t ≡ false
skipped_other m k.DotIndex h = absurd (cc)
skipped_other m _ h = refl

pub binary_other : (t : Kind) (n : ℕ) (op : BinaryOperator) → binary_operator t ≡ Some (n, op) → is_legacy t ≡ false
binary_other k.DotIndex n op h = absurd (cc)
binary_other _ n op h = refl

pub unary_other : (t : Kind) (op : UnaryOperator) → unary_operator t ≡ Some op → is_legacy t ≡ false
unary_other k.DotIndex op h = absurd (cc)
unary_other _ op h = refl

-- what is dropped
dropped_if : (m : Bool) (t : Token) (ts : List Token) (n len : ℕ) (b : Bool) → is_skipped m t.0 ≡ b → legacy_tokens (suc n) ts ≡ legacy_tokens (suc n + len) (drop len ts)
    → legacy_tokens n (t ∷ ts) ≡ legacy_tokens (n + cond b (1 + len) 0) (drop (cond b (1 + len) 0) (t ∷ ts))
dropped_if m t ts n len true h more =
    let next : suc n + len ≡ n + (1 + len) = omega arith in
    let same : suc len ≡ 1 + len = omega arith in
    not_legacy t.0 n (legacy_tokens (suc n) ts) (skipped_other m t.0 h)
    ∙ (more ∙ (ap (λ (z : ℕ). legacy_tokens z (drop len ts)) next ∙ ap (λ (z : ℕ). legacy_tokens (n + (1 + len)) (drop z (t ∷ ts))) same))
dropped_if m t ts n len false h more = let here : n ≡ n + 0 = omega arith in ap (λ (z : ℕ). legacy_tokens z (t ∷ ts)) here

dropped : (m : Bool) (ts : List Token) (n : ℕ)
    → legacy_tokens n ts ≡ legacy_tokens (n + prefix_len (λ (t : Token). is_skipped m t.0) ts) (drop (prefix_len (λ (t : Token). is_skipped m t.0) ts) ts)
dropped m [] n = refl
dropped m (t ∷ ts) n = dropped_if m t ts n (prefix_len (λ (t : Token). is_skipped m t.0) ts) (is_skipped m t.0) refl (dropped m ts (suc n))

some_kind : {s t : Kind} → Some s ≡ Some t → s ≡ t
some_kind e = cc

at_kind : (ts : List Token) (n i : ℕ) (t : Kind) → option_map (λ (u : Token). u.0) (slice_get ts n) ≡ Some t → legacy_tokens i (drop n ts) ≡ legacy_by t i (legacy_tokens (suc i) (drop (suc n) ts))
at_kind [] n i t h = absurd (cc)
at_kind (x ∷ ts) zero i t h = ap (λ (z : Kind). legacy_by z i (legacy_tokens (suc i) ts)) (some_kind h)
at_kind (x ∷ ts) (suc n) i t h = at_kind ts n i t h

at_none : (ts : List Token) (n i : ℕ) → option_map (λ (u : Token). u.0) (slice_get ts n) ≡ None → legacy_tokens i (drop n ts) ≡ []
at_none [] zero i h = refl
at_none [] (suc n) i h = refl
at_none (x ∷ ts) zero i h = absurd (cc)
at_none (x ∷ ts) (suc n) i h = at_none ts n i h

-- from one place to another there is no legacy index
pub record Passes (ts : List Token) (i j : ℕ) : Type 0 where
  pub is : legacy_from ts i ≡ legacy_from ts j

to_next : (ts : List Token) (m : Bool) (i : ℕ) → legacy_from ts i ≡ legacy_from ts (next_index ts m i)
unfolding next_index
to_next ts m i =
    let n = prefix_len (λ (t : Token). is_skipped m t.0) (drop i ts) in
    let rest : drop n (drop i ts) ≡ drop (i + n) ts = drop-drop n i ts ∙ ap (λ (z : ℕ). drop z ts) (omega arith) in
    dropped m (drop i ts) i ∙ ap (λ (us : List Token). legacy_tokens (i + n) us) rest

pub step : (ts : List Token) (m : Bool) (i : ℕ) (t : Kind) → NextIs ts m t i → legacy_from ts i ≡ legacy_by t (next_index ts m i) (legacy_from ts (after_next ts m i))
unfolding next_kind next_token after_next
step ts m i t p = to_next ts m i ∙ at_kind ts (next_index ts m i) (next_index ts m i) t p

pub ends : (ts : List Token) (i : ℕ) → next_kind ts false i ≡ None → legacy_from ts i ≡ []
unfolding next_kind next_token
ends ts i h = to_next ts false i ∙ at_none ts (next_index ts false i) (next_index ts false i) h

module _ {ts : List Token} where
  pub stay : (i : ℕ) → Passes ts i i
  stay i = record { is = refl }

  pub after : {i j l : ℕ} → Passes ts i j → Passes ts j l → Passes ts i l
  after p q = record { is = p.is ∙ q.is }

  pub pass : (m : Bool) (i : ℕ) (t : Kind) → is_legacy t ≡ false → NextIs ts m t i → Passes ts i (after_next ts m i)
  pass m i t f p = record { is = step ts m i t p ∙ not_legacy t (next_index ts m i) (legacy_from ts (after_next ts m i)) f }

  pub word : (m : Bool) (w : List ℕ) (i : ℕ) → NextIsWord ts m w i → Passes ts i (after_next ts m i)
  word m w i p = pass m i k.Identifier refl (word_at ts m w i p)

  -- ---- what is between nodes

  pub pass_line : {i j : ℕ} → IsNewline ts i j → Passes ts i j
  pass_line (line_end {i} p) = pass false i k.LineEnd refl p
  pass_line (comment {i} p q) = after (pass false i k.LineComment refl p) (pass false (after_next ts false i) k.LineEnd refl q)

  pub pass_lines : {i j : ℕ} → IsNewlines ts i j → Passes ts i j
  pass_lines (no_lines {i}) = stay i
  pass_lines (line p q) = after (pass_line p) (pass_lines q)

  pub pass_eol : {i j : ℕ} → IsEol ts i j → Passes ts i j
  pass_eol (eol_line p) = pass_line p
  pass_eol (eol_end {i} p) = stay i
  pass_eol (eol_comment {i} p q) = pass false i k.LineComment refl p

  pub pass_sep : {i j : ℕ} → IsSep ts i j → Passes ts i j
  pass_sep (comma {i} p q) = after (pass false i k.Comma refl p) (pass_lines q)
  pass_sep (lines p q) = after (pass_line p) (pass_lines q)

  pub pass_names : {m : Bool} {ns : List ℕ} {i j : ℕ} → IsNameTail ts m ns i j → Passes ts i j
  pass_names (no_names {i}) = stay i
  pass_names (name {m} {i} p q ns) = after (pass m i k.DoubleColon refl p) (after (pass m (after_next ts m i) k.Identifier refl q) (pass_names ns))

  pub pass_second : {o : Option ℕ} {i j : ℕ} → IsSecondName ts o i j → Passes ts i j
  pass_second (no_second {i}) = stay i
  pass_second (second {i} p q) = after (pass true i k.Comma refl p) (pass true (after_next ts true i) k.Identifier refl q)

  pub pass_dots : {b : Bool} {i j : ℕ} → IsEllipsis ts b i j → Passes ts i j
  pass_dots (no_ellipsis {i}) = stay i
  pass_dots (ellipsis {i} p) = pass true i k.Ellipsis refl p

  pub pass_keyword : {m : Bool} {w : List ℕ} {i j : ℕ} → IsKeyword ts m w i j → Passes ts i j
  pass_keyword (keyword {m} {w} {i} p q r) =
      after (pass m i k.DirectiveOpen refl p) (after (word true w (after_next ts m i) q) (pass true (after_next ts true (after_next ts m i)) k.SeqClose refl r))

  pub pass_labels : {ls : List Label} {i j : ℕ} → IsLabels ts ls i j → Passes ts i j
  pass_labels (no_labels {i}) = stay i
  pass_labels (word_label {i} p ls) = after (pass false i k.Identifier refl p) (pass_labels ls)
  pass_labels (text_label {i} p q r ls) =
      after (pass false i k.QuoteOpen refl p) (after (pass false (after_next ts false i) k.QuoteLit refl q) (after (pass false (after_next ts false (after_next ts false i)) k.QuoteClose refl r) (pass_labels ls)))
  pass_labels (empty_label {i} p r ls) = after (pass false i k.QuoteOpen refl p) (after (pass false (after_next ts false i) k.QuoteClose refl r) (pass_labels ls))
