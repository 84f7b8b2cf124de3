-- How a derivation begins.
use Rattle.std.proofs.Common.{◌≡◌, ℕ, Bool, true, false, List, Some, None, refl}
use Rattle.hcl_token.specs.declared.kind.Kind.{Kind}
use Rattle.hcl_token.specs.declared.kind.Kind.TheVariants as k
use Rattle.hcl_grammar.specs.declared.tree.Elem.{Elem}
use Rattle.hcl_grammar.specs.declared.tree.Expr.{Expr}
use Rattle.hcl_grammar.specs.declared.tree.Intro.{Intro}
use Rattle.hcl_grammar.specs.declared.tree.UnaryOperator.{UnaryOperator}
use Rattle.hcl_grammar.specs.declared.tree.Term.{Term}
use Rattle.hcl_grammar.specs.Operators.{unary_operator}
use Rattle.hcl_grammar.specs.Pure.Reading.{next_is_word}
use Rattle.hcl_grammar.specs.Tokens.{Token, for_word}
use Rattle.hcl_grammar.specs.Lookahead.{NextIs}
use Rattle.hcl_grammar.specs.Grammar.{IsExpr, plain, conditional, IsLevel, lowest, level, IsUnary, with_operator, post, IsTerm, number, identifier, call, tuple, object, for_tuple, for_object, quoted, heredoc, parens, IsElem, by_equals, by_colon, IsIntro, intro}
use Rattle.hcl_grammar_laws.proofs.Ahead.{begins, Begins}
use Rattle.hcl_grammar_laws.proofs.Steps.{reads-yes}

begin-prefix : (t : Kind) (op : UnaryOperator) → unary_operator t ≡ Some op → begins t ≡ true
begin-prefix k.Minus op e = refl
begin-prefix k.Bang op e = refl
begin-prefix _ op e = absurd (cc)

-- a term begins with a token that is no prefix operator
pub record BeginsTerm (ts : List Token) (m : Bool) (i : ℕ) : Type 0 where
  pub token : Kind
  pub is : NextIs ts m token i
  pub fits : begins token ≡ true
  pub no_prefix : unary_operator token ≡ None

module _ {ts : List Token} where
  at : (m : Bool) (i : ℕ) (t : Kind) → NextIs ts m t i → begins t ≡ true → Begins ts m i
  at m i t p e = record { token = t; is = p; fits = e }

  on : (m : Bool) (i : ℕ) (t : Kind) → NextIs ts m t i → begins t ≡ true → unary_operator t ≡ None → BeginsTerm ts m i
  on m i t p e n = record { token = t; is = p; fits = e; no_prefix = n }

  pub first_term : {d : ℕ} {m : Bool} {e : Term} {i j : ℕ} → IsTerm ts d m e i j → BeginsTerm ts m i
  first_term (number p) = on _ _ k.Number p refl refl
  first_term (identifier p q r) = on _ _ k.Identifier p refl refl
  first_term (call p ns q xs) = on _ _ k.Identifier p refl refl
  first_term (tuple p n xs) = on _ _ k.OpenBracket p refl refl
  first_term (object p n l xs) = on _ _ k.OpenBrace p refl refl
  first_term (for_tuple p x c e f) = on _ _ k.OpenBracket p refl refl
  first_term (for_object p x c e a v s f) = on _ _ k.OpenBrace p refl refl
  first_term (quoted p ps q) = on _ _ k.QuoteOpen p refl refl
  first_term (heredoc p ps q) = on _ _ k.HereOpen p refl refl
  first_term (parens p e q) = on _ _ k.OpenParen p refl refl

  pub begin_term : {d : ℕ} {m : Bool} {e : Term} {i j : ℕ} → IsTerm ts d m e i j → Begins ts m i
  begin_term x = let b = first_term x in record { token = b.token; is = b.is; fits = b.fits }

  pub begin_unary : {d : ℕ} {m : Bool} {e : Expr} {i j : ℕ} → IsUnary ts d m e i j → Begins ts m i
  begin_unary (with_operator {t} {op} p o x) = at _ _ t p (begin-prefix t op o)
  begin_unary (post p xs) = begin_term p

  pub begin_level : {d : ℕ} {m : Bool} {n : ℕ} {e : Expr} {i j : ℕ} → IsLevel ts d m n e i j → Begins ts m i
  begin_level (lowest p) = begin_unary p
  begin_level (level p xs) = begin_level p

  pub begin_expr : {d : ℕ} {m : Bool} {e : Expr} {i j : ℕ} → IsExpr ts d m e i j → Begins ts m i
  begin_expr (plain p) = begin_level p
  begin_expr (conditional c q x s y) = begin_level c

  pub begin_elem : {d : ℕ} {x : Elem} {i j : ℕ} → IsElem ts d x i j → Begins ts false i
  begin_elem (by_equals a p b) = begin_expr a
  begin_elem (by_colon a p b) = begin_expr a

  pub begin_intro : {d : ℕ} {x : Intro} {i j : ℕ} → IsIntro ts d x i j → next_is_word ts true for_word i ≡ true
  begin_intro (intro {i} w p s v e) = reads-yes ts true for_word i w
