-- A separator of elements is a comma or a line end, and the line ends after it.
use Rattle.std.proofs.Common.{◌≡◌, ℕ, zero, suc, ◌+◌, Bool, false, true, List, length, Some, Ok, Err, refl, arith}
use Rattle.hcl_token.specs.declared.kind.Kind.{Kind}
use Rattle.hcl_token.specs.declared.kind.Kind.TheVariants as k
use Rattle.hcl_grammar.specs.Pure.Reading.{Outcome, next_is, after_if_next, expect, and_then, pure}
use Rattle.hcl_grammar.specs.Pure.Steps as p
use Rattle.hcl_grammar.specs.Tokens as tokens
use Rattle.hcl_grammar.specs.Tokens.{Token, next_index, next_kind, after_next}

module _ (ts : List Token) where
  -- the place after the next token
  past : (m : Bool) (i a : ℕ) → a ≡ next_index ts m i → a + 1 ≡ after_next ts m i
  unfolding after_next
  past m i a here = omega (arith, here)

  pub in_line : (n j : ℕ) → next_is ts false k.LineComment j ≡ false → next_is ts false k.LineEnd j ≡ false → p.skip_newlines_from ts n j ≡ Ok (tt, j)
  unfolding p.skip_newlines_from p.eat_inner_newline after_if_next
  in_line zero j comment line = refl
  in_line (suc n) j comment line = rw (comment, line) refl

  kind_is : (t kind : Kind) (i : ℕ) → next_kind ts false i ≡ Some t → next_is ts false kind i ≡ tokens.same_kind t kind
  unfolding next_is
  kind_is t kind i e = rw e refl

  pub brace_next : (i a : ℕ) → a ≡ next_index ts false i → next_kind ts false i ≡ Some k.CloseBrace → p.eat_separator_or_brace ts i ≡ Ok (false, a + 1)
  unfolding p.eat_separator_or_brace p.eat_separator p.eat_inner_newline after_if_next expect tokens.same_kind
  brace_next i a here next =
      let comma : next_is ts false k.Comma i ≡ false = kind_is k.CloseBrace k.Comma i next in
      let comment : next_is ts false k.LineComment i ≡ false = kind_is k.CloseBrace k.LineComment i next in
      let line : next_is ts false k.LineEnd i ≡ false = kind_is k.CloseBrace k.LineEnd i next in
      let brace : next_is ts false k.CloseBrace i ≡ true = kind_is k.CloseBrace k.CloseBrace i next in
      rw (past false i a here, comma, comment, line, brace) refl

  module _ (i a : ℕ) (here : a ≡ next_index ts false i) where
    skipped : (o : Outcome (Unit {0})) → p.skip_newlines_from ts (length ts) (a + 1) ≡ o → p.skip_newlines_from ts (length ts) (after_next ts false i) ≡ o
    skipped o rest = rw (past false i a here) at rest

    pub comma_next : (o : Outcome (Unit {0})) → p.skip_newlines_from ts (length ts) (a + 1) ≡ o → next_kind ts false i ≡ Some k.Comma → p.eat_separator_or_brace ts i ≡ and_then o (λ _. pure true)
    unfolding p.eat_separator_or_brace p.eat_separator after_if_next tokens.same_kind
    comma_next (Ok (tt, j)) rest next = rw (kind_is k.Comma k.Comma i next, skipped (Ok (tt, j)) rest) refl
    comma_next (Err fault) rest next = rw (kind_is k.Comma k.Comma i next, skipped (Err fault) rest) refl

    pub line_next : (o : Outcome (Unit {0})) → p.skip_newlines_from ts (length ts) (a + 1) ≡ o → next_kind ts false i ≡ Some k.LineEnd → p.eat_separator_or_brace ts i ≡ and_then o (λ _. pure true)
    unfolding p.eat_separator_or_brace p.eat_separator p.eat_inner_newline after_if_next tokens.same_kind
    line_next (Ok (tt, j)) rest next = rw (kind_is k.LineEnd k.Comma i next, kind_is k.LineEnd k.LineComment i next, kind_is k.LineEnd k.LineEnd i next, skipped (Ok (tt, j)) rest) refl
    line_next (Err fault) rest next = rw (kind_is k.LineEnd k.Comma i next, kind_is k.LineEnd k.LineComment i next, kind_is k.LineEnd k.LineEnd i next, skipped (Err fault) rest) refl
