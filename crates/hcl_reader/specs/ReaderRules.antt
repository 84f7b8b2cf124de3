-- For proofs: the steps of the parser that make nothing, over a text as it is read at one place.
use Rattle.std.specs.Prelude.{◌≡◌, ℕ, suc, ◌-◌, Bool, true, false, List, Option, Result, Ok, Err}
use Rattle.hcl_token.specs.declared.kind.Kind.{Kind}
use Rattle.hcl_grammar.specs.declared.fault.TokenFault.{TokenFault}
use Rattle.hcl_grammar.specs.Pure.Steps as p
use Rattle.hcl_grammar.specs.Pure.Reading as r
use Rattle.hcl_grammar.specs.Pure.Reading.{Step}
use Rattle.hcl_grammar.specs.Tokens as tokens
use Rattle.hcl_grammar.specs.Tokens.{Token}

-- the tokens of a text, whether line ends are dropped here, and how many constructs may still nest
pub record ReaderState : Type 0 where
  pub tokens : List Token
  pub skip_newlines : Bool
  pub depth : ℕ

-- the same place outside of brackets, where line ends count
abbrev pub outside_brackets : ReaderState → ReaderState
outside_brackets t = record { tokens = t.tokens; skip_newlines = false; depth = t.depth }

-- the same place in brackets, where line ends are dropped
abbrev pub in_brackets : ReaderState → ReaderState
in_brackets t = record { tokens = t.tokens; skip_newlines = true; depth = t.depth }

module _ (t : ReaderState) where
  abbrev pub next_index : ℕ → ℕ
  next_index i = tokens.next_index t.tokens t.skip_newlines i

  abbrev pub next_kind : ℕ → Option Kind
  next_kind i = tokens.next_kind t.tokens t.skip_newlines i

  abbrev pub after_next : ℕ → ℕ
  after_next i = tokens.after_next t.tokens t.skip_newlines i

  abbrev pub next_is : Kind → ℕ → Bool
  next_is kind i = r.next_is t.tokens t.skip_newlines kind i

  abbrev pub after_if_next : Kind → ℕ → ℕ
  after_if_next kind i = r.after_if_next t.tokens t.skip_newlines kind i

  abbrev pub expect : Kind → Step (Unit {0})
  expect kind = r.expect t.tokens t.skip_newlines kind

  -- nothing comes next
  abbrev pub expect_end : Step (Unit {0})
  expect_end i = p.expect_end t.tokens (tokens.next_kind t.tokens false i) i

  abbrev pub eol : Step (Unit {0})
  eol = p.eol t.tokens

  -- line ends, whatever is dropped here
  abbrev pub eat_newline : Step Bool
  eat_newline = p.eat_newline t.tokens

  abbrev pub eat_inner_newline : Step Bool
  eat_inner_newline = p.eat_inner_newline t.tokens

  abbrev pub skip_newlines_from : ℕ → Step (Unit {0})
  skip_newlines_from fuel = p.skip_newlines_from t.tokens fuel

  abbrev pub skip_newlines : Step (Unit {0})
  skip_newlines = p.skip_newlines t.tokens

  abbrev pub eat_separator : Step Bool
  eat_separator = p.eat_separator t.tokens

  abbrev pub eat_separator_or_brace : Step Bool
  eat_separator_or_brace = p.eat_separator_or_brace t.tokens

  abbrev pub second_name : Step (Option ℕ)
  second_name = p.second_name t.tokens

  abbrev pub next_is_word : List ℕ → ℕ → Bool
  next_is_word expect_word i = r.next_is_word t.tokens t.skip_newlines expect_word i

  abbrev pub expect_word : List ℕ → Step (Unit {0})
  expect_word w = r.expect_word t.tokens t.skip_newlines w

  abbrev pub keyword_directive : List ℕ → Step (Unit {0})
  keyword_directive w = p.keyword_directive t.tokens t.skip_newlines w

-- a construct that was opened: one less may nest in it
pub record IsEntered (t inner : ReaderState) : Type 0 where
  pub is : inner ≡ record t { depth = t.depth - 1 }
  pub depth : suc inner.depth ≡ t.depth

-- two, one in the other
pub record IsEnteredTwice (t inner : ReaderState) : Type 0 where
  pub is : inner ≡ record { tokens = t.tokens; skip_newlines = true; depth = t.depth - 2 }
  pub depth : suc (suc inner.depth) ≡ t.depth

-- a construct that opens at this token, if one more may nest
abbrev pub Enters : ReaderState → ℕ → ℕ → Result ReaderState TokenFault → ℕ → Type 0
Enters t opening old (Ok inner) new = (r.enter t.depth opening old ≡ Ok (tt, new)) × IsEntered t inner
Enters t opening old (Err e) new = r.enter t.depth opening old ≡ Err e

-- a directive and its braces, if two more may nest
abbrev pub EntersTwo : ReaderState → ℕ → ℕ → Result (ReaderState × ReaderState) TokenFault → ℕ → Type 0
EntersTwo t opening old (Ok inner) new =
    (r.enter_two t.depth opening old ≡ Ok (tt, new)) × IsEntered t inner.0 × IsEnteredTwice t inner.1
EntersTwo t opening old (Err e) new = r.enter_two t.depth opening old ≡ Err e
