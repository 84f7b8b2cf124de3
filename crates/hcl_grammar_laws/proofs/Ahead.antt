-- What may come next.
use Rattle.std.proofs.Common.{◌≡◌, ◌≢◌, ℕ, suc, ◌<◌, ◌≤◌, Bool, true, false, List, Option, Some, None, refl, sym, ap, ◌∙◌, subst, arith}
use Rattle.hcl_token.specs.declared.kind.Kind.{Kind}
use Rattle.hcl_token.specs.declared.kind.Kind.TheVariants as k
use Rattle.hcl_grammar.specs.declared.tree.BinaryOperator.{BinaryOperator}
use Rattle.hcl_grammar.specs.Tokens.{Token, next_kind, same_kind, is_kind}
use Rattle.hcl_grammar.specs.Pure.Reading.{next_is}
use Rattle.hcl_grammar.specs.Operators.{binary_operator}
use Rattle.hcl_grammar.specs.Lookahead.{NextIs}
use Rattle.hcl_grammar_laws.proofs.Steps.{same-eq}

-- an expression may begin so
abbrev pub begins : Kind → Bool
begins k.Number = true
begins k.Identifier = true
begins k.OpenBracket = true
begins k.OpenBrace = true
begins k.OpenParen = true
begins k.QuoteOpen = true
begins k.HereOpen = true
begins k.Minus = true
begins k.Bang = true
begins _ = false

-- how loosely a token goes on with an expression: tails, each level of operators, conditionals, and what does not
abbrev pub beyond : Kind → ℕ
beyond k.Dot = 0
beyond k.DotIndex = 0
beyond k.OpenBracket = 0
beyond k.Question = 7
beyond _ = 8

abbrev pub reach_by : Kind → Option (ℕ × BinaryOperator) → ℕ
reach_by t None = beyond t
reach_by t (Some p) = suc p.0

abbrev pub reach : Kind → ℕ
reach t = reach_by t (binary_operator t)

pub record Begins (ts : List Token) (m : Bool) (i : ℕ) : Type 0 where
  pub token : Kind
  pub is : NextIs ts m token i
  pub fits : begins token ≡ true

-- what follows does not go on with an expression of the level
pub record Stops (n : ℕ) (ts : List Token) (m : Bool) (i : ℕ) : Type 0 where
  pub at_token : (t : Kind) → NextIs ts m t i → n ≤ reach t

pub looser : {n l : ℕ} {ts : List Token} {m : Bool} {i : ℕ} → l ≤ n → Stops n ts m i → Stops l ts m i
looser h s = record { at_token = λ t e. omega (arith, s.at_token t e) }

some-inj : {s t : Kind} {o : Option Kind} → o ≡ Some s → o ≡ Some t → s ≡ t
some-inj p q = cc

pub stops_at : {ts : List Token} {m : Bool} {i : ℕ} (n : ℕ) (t : Kind) → NextIs ts m t i → n ≤ reach t → Stops n ts m i
stops_at n t h l = record { at_token = λ s e. subst (λ (x : Kind). n ≤ reach x) (some-inj h e) l }

-- a token that is another is not seen
pub sees-other : (ts : List Token) (m : Bool) (s t : Kind) (i : ℕ) → NextIs ts m s i → same_kind s t ≡ false → next_is ts m t i ≡ false
unfolding next_is
sees-other ts m s t i h e = ap (λ o. is_kind o t) h ∙ e

other_of : (b : Bool) → (b ≡ true → ⊥) → b ≡ false
other_of true h = absurd (h refl)
other_of false h = refl

-- an expression does not begin with this
pub no-begin : (ts : List Token) (m : Bool) (t : Kind) (i : ℕ) → Begins ts m i → begins t ≡ false → next_is ts m t i ≡ false
no-begin ts m t i b e = sees-other ts m b.token t i b.is (other_of (same_kind b.token t) (λ same. let eq : b.token ≡ t = same-eq b.token t same in let clash : true ≡ false = sym b.fits ∙ ap begins eq ∙ e in cc))

-- an expression of level n does not go on with this
pub no-stop : (n : ℕ) (ts : List Token) (m : Bool) (t : Kind) (i : ℕ) → Stops n ts m i → reach t < n → next_is ts m t i ≡ false
unfolding next_is
no-stop n ts m t i s l = go (next_kind ts m i) refl
  where
    go : (o : Option Kind) → next_kind ts m i ≡ o → is_kind (next_kind ts m i) t ≡ false
    go None e = ap (λ o. is_kind o t) e
    go (Some u) e = ap (λ o. is_kind o t) e ∙ other_of (same_kind u t) (λ same. absurd (omega (arith, s.at_token u e, l, ap reach (same-eq u t same))))

pub sees-not : (ts : List Token) (m : Bool) (t : Kind) (i : ℕ) → next_kind ts m i ≢ Some t → next_is ts m t i ≡ false
unfolding next_is
sees-not ts m t i h = go (next_kind ts m i) refl
  where
    go : (o : Option Kind) → next_kind ts m i ≡ o → is_kind (next_kind ts m i) t ≡ false
    go None e = ap (λ o. is_kind o t) e
    go (Some u) e = ap (λ o. is_kind o t) e ∙ other_of (same_kind u t) (λ same. absurd (h (e ∙ ap Some (same-eq u t same))))
