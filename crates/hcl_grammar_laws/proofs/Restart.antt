-- The tokens of a node, from its first on, derive it: what is dropped before the first is no part of it.
use Rattle.std.proofs.Common.{◌≡◌, ◌≢◌, ℕ, zero, suc, ◌+◌, Bool, true, false, cond, List, [], ◌∷◌, drop, slice_get, Option, Some, None, refl, sym, ap, ◌∙◌, subst, arith}
use Rattle.std.specs.List.{prefix_len}
use Rattle.std.specs.Option.{option_map}
use Rattle.hcl_token.specs.declared.kind.Kind.{Kind}
use Rattle.hcl_token.specs.declared.kind.Kind.TheVariants as k
use Rattle.hcl_grammar.specs.declared.tree.Expr.{Expr}
use Rattle.hcl_grammar.specs.declared.tree.Term.{Term}
use Rattle.hcl_grammar.specs.Grammar.{IsExpr, plain, conditional, IsLevel, lowest, level, IsUnary, with_operator, post, IsTerm, number, identifier, call, tuple, object, for_tuple, for_object, quoted, heredoc, parens, IsItems, IsIntro, IsParts}
use Rattle.hcl_grammar.specs.Lookahead.{NextIs, IsNameTail, IsNewlines, NextIsNotWord}
use Rattle.hcl_grammar.specs.Tokens.{Token, is_skipped, next_index, next_token, next_kind, after_next, for_word}
use Rattle.hcl_grammar_laws.proofs.Ahead.{Begins}
use Rattle.hcl_grammar_laws.proofs.Firsts.{begin_expr, begin_term}
use Rattle.hcl_grammar_laws.proofs.Neat.{same_token, kept_at}
use Rattle.hcl_grammar_laws.proofs.Placed.{placed_expr, placed_term}

-- the token at which the run of those that pass ends does not pass
stop_at : (p : Token → Bool) (ts : List Token) (i n : ℕ) (a : Token) → n ≡ i + prefix_len p (drop i ts) → slice_get ts n ≡ Some a → p a ≡ false
stop_at p [] i n a h e = absurd (cc)
stop_at p (t ∷ ts) zero zero a h e = none (p t) (prefix_len p ts) h (ap p (sym (same_token e)))
  where
    none : (b : Bool) (m : ℕ) → 0 ≡ 0 + cond b (1 + m) 0 → p a ≡ b → p a ≡ false
    none true m g f = absurd (omega arith)
    none false m g f = f
stop_at p (t ∷ ts) zero (suc n) a h e = stop_at p ts zero n a (some (p t) (prefix_len p ts) h) e
  where
    some : (b : Bool) (m : ℕ) → suc n ≡ 0 + cond b (1 + m) 0 → n ≡ 0 + m
    some true m g = omega arith
    some false m g = absurd (omega arith)
stop_at p (t ∷ ts) (suc i) zero a h e = absurd (omega arith)
stop_at p (t ∷ ts) (suc i) (suc n) a h e = stop_at p ts i n a (omega arith) e

pub moved : (ts : List Token) (m : Bool) (t : Kind) (i n : ℕ) → next_index ts m i ≡ next_index ts m n → NextIs ts m t i → NextIs ts m t n
unfolding next_kind next_token
moved ts m t i n e h = ap (λ s. option_map (λ (t : Token). t.0) (slice_get ts s)) (sym e) ∙ h

pub following : (ts : List Token) (m : Bool) (i n : ℕ) → next_index ts m i ≡ next_index ts m n → after_next ts m i ≡ after_next ts m n
unfolding after_next
following ts m i n e = ap suc e

-- the first token is the first from there on
pub start-at : (ts : List Token) (m : Bool) (i : ℕ) (t : Kind) → NextIs ts m t i → next_index ts m i ≡ next_index ts m (next_index ts m i)
unfolding next_index next_kind next_token
start-at ts m i t b = go (slice_get ts (next_index ts m i)) refl b
  where
    go : (o : Option Token) → slice_get ts (next_index ts m i) ≡ o → option_map (λ (t : Token). t.0) o ≡ Some t → next_index ts m i ≡ next_index ts m (next_index ts m i)
    go None e h = absurd (cc)
    go (Some a) e h =
        let kept = stop_at (λ (t : Token). is_skipped m t.0) ts i (next_index ts m i) a refl e in
        let z = kept_at (λ (t : Token). is_skipped m t.0) ts (next_index ts m i) a e kept in
        omega (arith, z)

module _ {ts : List Token} where
  pub start-start : (m : Bool) (i : ℕ) → Begins ts m i → next_index ts m i ≡ next_index ts m (next_index ts m i)
  start-start m i b = start-at ts m i b.token b.is

  restart_term : {d : ℕ} {m : Bool} {x : Term} {i j : ℕ} → IsTerm ts d m x i j → (n : ℕ) → next_index ts m i ≡ next_index ts m n → IsTerm ts d m x n j
  restart_term (number {m} {i} p) n e = rw (e, following ts m i n e) (number (moved ts m k.Number i n e p))
  restart_term (identifier {m} {i} p q r) n e =
      let a = following ts m i n e in
      rw (e, a) (identifier (moved ts m k.Identifier i n e p) (subst (λ x. next_kind ts m x ≢ Some k.OpenParen) a q) (subst (λ x. next_kind ts m x ≢ Some k.DoubleColon) a r))
  restart_term (call {m} {names} {i} {j} p ns q xs) n e = let a = following ts m i n e in rw e (call (moved ts m k.Identifier i n e p) (subst (λ x. IsNameTail ts m names x j) a ns) q xs)
  restart_term (tuple {d} {m} {es} {i} {j} p w xs) n e =
      let a = following ts m i n e in rw e (tuple (moved ts m k.OpenBracket i n e p) (subst (λ x. NextIsNotWord ts true for_word x) a w) (subst (λ x. IsItems ts d es x j) a xs))
  restart_term (object {m} {i} {j} p w l xs) n e =
      let a = following ts m i n e in rw e (object (moved ts m k.OpenBrace i n e p) (subst (λ x. NextIsNotWord ts true for_word x) a w) (subst (λ x. IsNewlines ts x j) a l) xs)
  restart_term (for_tuple {d} {m} {x} {i} {j} p y c v f) n e = let a = following ts m i n e in rw e (for_tuple (moved ts m k.OpenBracket i n e p) (subst (λ z. IsIntro ts d x z j) a y) c v f)
  restart_term (for_object {d} {m} {x} {i} {j} p y c v f w s o) n e = let a = following ts m i n e in rw e (for_object (moved ts m k.OpenBrace i n e p) (subst (λ z. IsIntro ts d x z j) a y) c v f w s o)
  restart_term (quoted {d} {m} {ps} {i} {j} p xs q) n e = let a = following ts m i n e in rw (e, a) (quoted (moved ts m k.QuoteOpen i n e p) (subst (λ x. IsParts ts d m ps x j) a xs) q)
  restart_term (heredoc {d} {m} {ps} {i} {j} p xs q) n e = let a = following ts m i n e in rw (e, a) (heredoc (moved ts m k.HereOpen i n e p) (subst (λ x. IsParts ts d m ps x j) a xs) q)
  restart_term (parens {d} {m} {e = y} {i} {j} p x q) n e = let a = following ts m i n e in rw e (parens (moved ts m k.OpenParen i n e p) (subst (λ z. IsExpr ts d true y z j) a x) q)

  restart_unary : {d : ℕ} {m : Bool} {x : Expr} {i j : ℕ} → IsUnary ts d m x i j → (n : ℕ) → next_index ts m i ≡ next_index ts m n → IsUnary ts d m x n j
  restart_unary (with_operator {d} {m} {t} {e = y} {i} {j} p o x) n e = rw e (with_operator (moved ts m t i n e p) o (subst (λ z. IsUnary ts d m y z j) (following ts m i n e) x))
  restart_unary (post {m} {i} p xs) n e = rw e (post (restart_term p n e) xs)

  restart_level : {d : ℕ} {m : Bool} {l : ℕ} {x : Expr} {i j : ℕ} → IsLevel ts d m l x i j → (n : ℕ) → next_index ts m i ≡ next_index ts m n → IsLevel ts d m l x n j
  restart_level (lowest p) n e = lowest (restart_unary p n e)
  restart_level (level p xs) n e = rw e (level (restart_level p n e) xs)

  restart_expr : {d : ℕ} {m : Bool} {x : Expr} {i j : ℕ} → IsExpr ts d m x i j → (n : ℕ) → next_index ts m i ≡ next_index ts m n → IsExpr ts d m x n j
  restart_expr (plain p) n e = plain (restart_level p n e)
  restart_expr (conditional c q x s y) n e = rw e (conditional (restart_level c n e) q x s y)

  -- the tokens from first to past derive the node
  pub own_expr : {d : ℕ} {m : Bool} {x : Expr} {i j : ℕ} → IsExpr ts d m x i j → IsExpr ts d m x x.first x.past
  own_expr {d} {m} {x} {i} {j} w =
      let p = placed_expr w in
      subst (λ l. IsExpr ts d m x x.first l) (sym p.1) (subst (λ n. IsExpr ts d m x n j) (sym p.0) (restart_expr w (next_index ts m i) (start-start m i (begin_expr w))))

  pub own_term : {d : ℕ} {m : Bool} {x : Term} {i j : ℕ} → IsTerm ts d m x i j → IsTerm ts d m x x.first x.past
  own_term {d} {m} {x} {i} {j} w =
      let p = placed_term w in
      subst (λ l. IsTerm ts d m x x.first l) (sym p.1) (subst (λ n. IsTerm ts d m x n j) (sym p.0) (restart_term w (next_index ts m i) (start-start m i (begin_term w))))
