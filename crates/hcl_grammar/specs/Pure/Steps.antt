-- For proofs: the steps of a parser that make no node: line ends, separators, words, operators.
use Rattle.std.specs.Prelude.{ℕ, zero, suc, Bool, true, false, if◌then◌else◌, List, length, Option, Some}
use Rattle.std.specs.Prelude.{None, Ok}
use Rattle.hcl_token.specs.declared.kind.Kind.{Kind}
use Rattle.hcl_token.specs.declared.kind.Kind.TheVariants as k
use Rattle.hcl_grammar.specs.declared.tree.BinaryOperator.{BinaryOperator}
use Rattle.hcl_grammar.specs.Operators.{binary_operator}
use Rattle.hcl_grammar.specs.Pure.Reading.{Outcome, Step, ◌>>=◌, ◌>>◌, pure, peek_index, syntax_fault}
use Rattle.hcl_grammar.specs.Pure.Reading.{peek_kind, eat, expect, expect_word, next_is, after_if_next}
use Rattle.hcl_grammar.specs.Tokens.{Token, next_kind, after_next}

-- an answer, as one that is there
abbrev pub as_some : {A : Type 0} → Step A → Step (Option A)
as_some p = p >>= (λ x. pure (Some x))

module _ (ts : List Token) where
  -- nl, if it comes next; a comment at the end of the text is none
  unfoldable pub eat_newline : Step Bool
  eat_newline = λ i. let j = after_if_next ts false k.LineComment i in
      Ok (next_is ts false k.LineEnd j, if next_is ts false k.LineEnd j then after_next ts false j else i)

  -- nl, if it comes next, where the text does not end
  unfoldable pub eat_inner_newline : Step Bool
  eat_inner_newline = do
    is_comment ← eat ts false k.LineComment
    if is_comment then (do expect ts false k.LineEnd; pure true) else eat ts false k.LineEnd

  -- nl*, at most n
  unfoldable pub skip_newlines_from : ℕ → Step (Unit {0})
  skip_newlines_from zero = pure tt
  skip_newlines_from (suc n) = do
    more ← eat_inner_newline
    if more then skip_newlines_from n else pure tt

  -- nl*
  abbrev pub skip_newlines : Step (Unit {0})
  skip_newlines = skip_newlines_from (length ts)

  -- Sep, if it comes next
  unfoldable pub eat_separator : Step Bool
  eat_separator = do
    is_comma ← eat ts false k.Comma
    is_line ← (if is_comma then pure true else eat_inner_newline)
    if is_line then (do skip_newlines; pure true) else pure false

  -- a separator, else the closing brace
  unfoldable pub eat_separator_or_brace : Step Bool
  eat_separator_or_brace = do
    more ← eat_separator
    if more then pure true else (do expect ts false k.CloseBrace; pure false)

  -- the second name of a `for`, if there is one
  unfoldable pub second_name : Step (Option ℕ)
  second_name = do
    more ← eat ts true k.Comma
    if more then (do
      number ← peek_index ts true
      expect ts true k.Identifier
      pure (Some number)) else pure None

  -- DirectiveOpen, the word and SeqClose
  unfoldable pub keyword_directive : Bool → List ℕ → Step (Unit {0})
  keyword_directive m w = do
    expect ts m k.DirectiveOpen
    expect_word ts true w
    expect ts true k.SeqClose

  -- nothing comes next
  abbrev pub expect_end : Option Kind → Step (Unit {0})
  expect_end None = pure tt
  expect_end (Some t) = syntax_fault ts false

  -- Eol
  unfoldable pub eol : Step (Unit {0})
  eol = do
    is_line ← eat_newline
    if is_line then pure tt else (do
      is_comment ← eat ts false k.LineComment
      t ← peek_kind ts false
      expect_end t)

  abbrev pub take_operator : Bool → ℕ → Option (ℕ × BinaryOperator)
      → Outcome (Option BinaryOperator)
  take_operator m i None = Ok (None, i)
  take_operator m i (Some p) = Ok (Some p.1, after_next ts m i)

  abbrev pub operator_by_kind : Bool → ℕ → Option Kind → Outcome (Option BinaryOperator)
  operator_by_kind m i None = Ok (None, i)
  operator_by_kind m i (Some t) = take_operator m i (binary_operator t)

  -- takes an operator of whatever level, if one comes next
  unfoldable pub eat_operator : Bool → Step (Option BinaryOperator)
  eat_operator m = λ i. operator_by_kind m i (next_kind ts m i)

  -- what is between a key and its value
  unfoldable pub equals_or_colon : Step (Unit {0})
  equals_or_colon = do
    is_equals ← eat ts false k.Equal
    if is_equals then pure tt else expect ts false k.Colon
