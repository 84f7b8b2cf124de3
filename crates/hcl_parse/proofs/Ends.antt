-- What closes the cycle, and what one look after an operand says.
use Rattle.std.proofs.Common.{◌≡◌, ℕ, zero, suc, ◌+◌, ◌-◌, ◌<◌, ◌==◌, ◌||◌, Bool, true, false, List, length, Some, None, Ok, refl, sym, ap, subst, ◌∙◌, inl, inr, arith}
use Rattle.std.proofs.lemmas.Bool.Decides.{eqb_tells}
use Rattle.hcl_token.specs.declared.kind.Kind.{Kind}
use Rattle.hcl_token.specs.declared.kind.Kind.TheVariants as k
use Rattle.hcl_grammar.specs.declared.goal.Goal.{Goal}
use Rattle.hcl_grammar.specs.declared.goal.Goal.TheVariants.{Whole, Operand}
use Rattle.hcl_grammar.specs.Operators.{unary_operator}
use Rattle.hcl_grammar.specs.Pure.Reading.{Step, and_then, next_is, after_if_next, expect}
use Rattle.hcl_grammar.specs.Tokens as tokens
use Rattle.hcl_grammar.specs.Tokens.{Token, next_index, next_kind, after_next, first_token_in}
use Rattle.hcl_grammar.specs.Pure.Makers.{Types, Makers}
use Rattle.hcl_grammar.specs.Pure.Parser as p
use Rattle.hcl_grammar.specs.Pure.Steps as steps

-- the place after the next token
pub past : (ts : List Token) (m : Bool) (i a : ℕ) → a ≡ next_index ts m i → a + 1 ≡ after_next ts m i
unfolding after_next
past ts m i a here = omega (arith, here)

nat_same : (i : ℕ) → (i == i) ≡ true
nat_same i = elim (eqb_tells i i) [ inl w ↦ w.0 | inr w ↦ absurd (w.1 refl) ]

nat_other : (i j : ℕ) → i < j → (i == j) ≡ false
nat_other i j h = elim (eqb_tells i j) [ inl w ↦ absurd (omega arith) | inr w ↦ w.0 ]

from_there : (ts : List Token) (m : Bool) (i : ℕ) → i < after_next ts m i
unfolding after_next next_index
from_there ts m i = omega arith

module _ {types : Types} (a : Makers types) (ts : List Token) where
  open types use {Expr, Operations, Term, Tail, Tails, Template, Parts}

  under_is : (depth : ℕ) → p.under a ts depth ≡ p.at_depth a ts depth (p.deeper a ts depth) (p.twice a ts depth)
  unfolding p.under
  under_is zero = refl
  under_is (suc zero) = refl
  under_is (suc (suc depth)) = refl

  module _ (depth : ℕ) (m : Bool) where
    pub expr_is : (i : ℕ) → (p.under a ts depth).expr m Whole i ≡ p.whole a ts depth (p.deeper a ts depth) m i
    expr_is i = ap (λ (u : p.Deeper types). u.expr m Whole i) (under_is depth)

    pub operand_is : (i : ℕ) → (p.under a ts depth).expr m Operand i ≡ p.unary a ts depth (p.deeper a ts depth) m i
    operand_is i = ap (λ (u : p.Deeper types). u.expr m Operand i) (under_is depth)

    pub parts_is : (i : ℕ) → (p.under a ts depth).parts m i ≡ p.parts_from a ts depth (p.deeper a ts depth) (p.twice a ts depth) m (length ts) a.no_parts i
    parts_is i = ap (λ (u : p.Deeper types). u.parts m i) (under_is depth)

  module _ (depth : ℕ) (inner : p.Deeper types) (m : Bool) where
    pub no_tails : (n : ℕ) (found : Tails) (j : ℕ) → p.tail_of a ts depth inner m j ≡ Ok (None, j) → p.tails_from a ts depth inner m n found j ≡ Ok (found, j)
    unfolding p.tails_from
    no_tails zero found j e = refl
    no_tails (suc n) found j e = rw e refl

    pub one_tail : (n : ℕ) (found : Tails) (t : Tail) (i j : ℕ) → p.tail_of a ts depth inner m i ≡ Ok (Some t, j) → p.tails_from a ts depth inner m (suc n) found i ≡ p.tails_from a ts depth inner m n (a.add_tail found t) j
    unfolding p.tails_from
    one_tail n found t i j e = rw e refl

    no_choice : (first : ℕ) (c : Expr) (j : ℕ) → next_is ts m k.Question j ≡ false → p.conditional a ts depth inner m first c j ≡ Ok (c, j)
    unfolding p.conditional after_if_next
    no_choice first c j e = rw e refl

    no_operators : (n : ℕ) (found : Operations) (j : ℕ) → steps.eat_operator ts m j ≡ Ok (None, j) → p.operations_from a ts depth inner m n found j ≡ Ok (found, j)
    unfolding p.operations_from
    no_operators zero found j e = refl
    no_operators (suc n) found j e = rw e refl

    no_chain : (c : Expr) (j : ℕ) → steps.eat_operator ts m j ≡ Ok (None, j) → p.chain a ts depth inner m c j ≡ Ok (c, j)
    unfolding p.chain
    no_chain c j e = rw (no_operators (length ts) a.no_operations j e) (ap (λ (x : Expr). Ok (x, j)) (a.alone c))

    pub operand_ends : (first : ℕ) (c : Expr) (j : ℕ) → steps.eat_operator ts m j ≡ Ok (None, j) → next_is ts m k.Question j ≡ false → and_then (p.chain a ts depth inner m c j) (p.conditional a ts depth inner m first) ≡ Ok (c, j)
    operand_ends first c j quiet other = rw (no_chain c j quiet) (no_choice first c j other)

    -- after a term and tails of it, which may be the whole expression
    pub plain_rest : (n i q j : ℕ) (t : Kind) (head : Term) (found : Tails) → q ≡ next_index ts m i → next_kind ts m i ≡ Some t → unary_operator t ≡ None → p.post_by a ts depth inner m q t (q + 1) ≡ p.with_tails a ts depth inner m n q head found j → p.whole a ts depth inner m i ≡ and_then (p.with_tails a ts depth inner m n q head found j) (λ x l. and_then (p.chain a ts depth inner m x l) (p.conditional a ts depth inner m q))
    unfolding p.whole p.unary
    plain_rest n i q j t head found here kind first post = rw (kind, first, sym here, sym (past ts m i q here), post) refl

    pub ends_tails : (n first : ℕ) (head : Term) (found : Tails) (j : ℕ) → p.tail_of a ts depth inner m j ≡ Ok (None, j) → p.with_tails a ts depth inner m n first head found j ≡ Ok (a.postfix first j head found, j)
    unfolding p.with_tails
    ends_tails n first head found j e = rw (no_tails n found j e) refl

    pub plain_whole : (n i q j : ℕ) (t : Kind) (head : Term) (found : Tails) → q ≡ next_index ts m i → next_kind ts m i ≡ Some t → unary_operator t ≡ None → p.post_by a ts depth inner m q t (q + 1) ≡ p.with_tails a ts depth inner m n q head found j → p.tail_of a ts depth inner m j ≡ Ok (None, j) → steps.eat_operator ts m j ≡ Ok (None, j) → next_is ts m k.Question j ≡ false → p.whole a ts depth inner m i ≡ Ok (a.postfix q j head found, j)
    plain_whole n i q j t head found here kind first post none quiet other = plain_rest n i q j t head found here kind first post ∙ rw (ends_tails n q head found j none) (operand_ends q (a.postfix q j head found) j quiet other)

    pub with_one_tail : (n first : ℕ) (head : Term) (found : Tails) (t : Tail) (i j : ℕ) → p.tail_of a ts depth inner m i ≡ Ok (Some t, j) → p.with_tails a ts depth inner m (suc n) first head found i ≡ p.with_tails a ts depth inner m n first head (a.add_tail found t) j
    unfolding p.with_tails
    with_one_tail n first head found t i j e = rw (one_tail n found t i j e) refl

    pub not_called : (first i : ℕ) → (next_is ts m k.OpenParen i || next_is ts m k.DoubleColon i) ≡ false → p.post_by a ts depth inner m first k.Identifier i ≡ p.with_tails a ts depth inner m (length ts) first (a.identifier first i) a.no_tails i
    unfolding p.post_by p.identifier_or_call
    not_called first i e = rw e refl

    pub number_alone : (first i : ℕ) → p.post_by a ts depth inner m first k.Number i ≡ p.with_tails a ts depth inner m (length ts) first (a.number first i) a.no_tails i
    unfolding p.post_by
    number_alone first i = refl

    pub text_alone : (first i j : ℕ) (head : Term) → p.quoted a ts depth inner m first i ≡ Ok (head, j) → p.post_by a ts depth inner m first k.QuoteOpen i ≡ p.with_tails a ts depth inner m (length ts) first head a.no_tails j
    unfolding p.post_by
    text_alone first i j head e = rw e refl

  -- ---- a text without a template

  module _ (m : Bool) where
    module _ (depth : ℕ) (inner : p.Deeper types) (braces : Bool → Goal → Step Expr) where
      no_part : (n : ℕ) (ps : Parts) (j : ℕ) → next_kind ts m j ≡ Some k.QuoteClose → p.parts_from a ts depth inner braces m n ps j ≡ Ok (ps, j)
      unfolding p.parts_from p.part_of
      no_part zero ps j close = refl
      no_part (suc n) ps j close = rw close refl

      one_part : (n : ℕ) (ps : Parts) (i : ℕ) → next_kind ts m i ≡ Some k.QuoteLit → next_kind ts m (after_next ts m i) ≡ Some k.QuoteClose → p.parts_from a ts depth inner braces m (suc n) ps i ≡ Ok (a.add_part ps (a.literal (next_index ts m i)), after_next ts m i)
      unfolding p.parts_from p.part_of
      one_part n ps i text close = rw text (no_part n (a.add_part ps (a.literal (next_index ts m i))) (after_next ts m i) close)

    closes : (i : ℕ) → next_kind ts m i ≡ Some k.QuoteClose → expect ts m k.QuoteClose i ≡ Ok (tt, after_next ts m i)
    unfolding expect next_is tokens.same_kind
    closes i close = rw close refl

    opened : (e depth first i : ℕ) → suc e ≡ depth → p.quoted a ts (suc e) (p.under a ts e) m first i ≡ p.quoted a ts depth (p.deeper a ts depth) m first i
    opened e depth first i same = subst (λ (d : ℕ). p.quoted a ts (suc e) (p.under a ts e) m first i ≡ p.quoted a ts d (p.deeper a ts d) m first i) same refl

    empty_is : (e first i : ℕ) → next_kind ts m i ≡ Some k.QuoteClose → p.quoted a ts (suc e) (p.under a ts e) m first i ≡ Ok (a.quoted first (after_next ts m i) (a.template i i a.no_parts), after_next ts m i)
    unfolding p.quoted p.template first_token_in
    empty_is e first i close = rw (parts_is e m i, no_part e (p.deeper a ts e) (p.twice a ts e) (length ts) a.no_parts i close, closes i close, nat_same i) refl

    some_is : (e first i : ℕ) → 0 < length ts → next_kind ts m i ≡ Some k.QuoteLit → next_kind ts m (after_next ts m i) ≡ Some k.QuoteClose → p.quoted a ts (suc e) (p.under a ts e) m first i ≡ Ok (a.quoted first (after_next ts m (after_next ts m i)) (a.template (next_index ts m i) (after_next ts m i) (a.add_part a.no_parts (a.literal (next_index ts m i)))), after_next ts m (after_next ts m i))
    unfolding p.quoted p.template first_token_in
    some_is e first i some text close =
        let count : length ts ≡ suc (length ts - 1) = omega (arith, some) in
        rw (parts_is e m i, count, one_part e (p.deeper a ts e) (p.twice a ts e) (length ts - 1) a.no_parts i text close, closes (after_next ts m i) close, nat_other i (after_next ts m i) (from_there ts m i)) refl

    pub empty_text : (e depth first i q : ℕ) → suc e ≡ depth → q ≡ next_index ts m i → next_kind ts m i ≡ Some k.QuoteClose → p.quoted a ts depth (p.deeper a ts depth) m first i ≡ Ok (a.quoted first (q + 1) (a.template i i a.no_parts), q + 1)
    empty_text e depth first i q same here close = sym (opened e depth first i same) ∙ empty_is e first i close ∙ rw (past ts m i q here) refl

    pub some_text : (e depth first i q s : ℕ) → suc e ≡ depth → q ≡ next_index ts m i → q < length ts → next_kind ts m i ≡ Some k.QuoteLit → s ≡ next_index ts m (q + 1) → next_kind ts m (q + 1) ≡ Some k.QuoteClose → p.quoted a ts depth (p.deeper a ts depth) m first i ≡ Ok (a.quoted first (s + 1) (a.template q (q + 1) (a.add_part a.no_parts (a.literal q))), s + 1)
    some_text e depth first i q s same here some text there close =
        let next : q + 1 ≡ after_next ts m i = past ts m i q here in
        let then = rw next at close in
        let last = rw next at there in
        sym (opened e depth first i same) ∙ some_is e first i (omega (arith, some)) text then ∙ rw (next, past ts m (after_next ts m i) s last, here) refl
