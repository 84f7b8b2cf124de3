-- Chains of operators: at none of them nothing is found where nothing may be found at their operands,
-- however they are grouped.
use Rattle.std.proofs.Common.{◌≡◌, ℕ, zero, suc, ◌==◌, Bool, true, false, if◌then◌else◌, List, [], ◌∷◌, ◌++◌, map, inl, inr, refl, sym, subst}
use Rattle.std.specs.List.{AllByRecursion}
use Rattle.hcl_grammar.specs.Nodes as node
use Rattle.hcl_grammar.specs.Operators.{operator_level, levels}
use Rattle.hcl_grammar.specs.declared.tree.BinaryOperator.{BinaryOperator}
use Rattle.hcl_grammar.specs.declared.tree.Expr.{Expr}
use Rattle.hcl_grammar.specs.declared.tree.ExprKind.TheVariants as form
use Rattle.hcl_grammar.specs.declared.tree.Operation.{Operation}
use Rattle.hcl_grammar_laws.proofs.Opens.{open_chain}
use Rattle.hcl_grammar.specs.Pure.NodeMakers.{chain_end, split_level, group, no_operator}
use Rattle.hcl_token.specs.Tokens.{Pair}
use Rattle.tf_glance.proofs.Expressions.{left, right, refuted, clean_if, Says, holds, Listed, listed_more, FreeExpr, ExprOf, known_expr}
use Rattle.tf_glance.proofs.Free.{AreFree, none, more}
use Rattle.tf_glance.specs.Inner.Summary as summary
use Rattle.tf_glance.specs.Inner.Summary.{is_clean_operand, add_one}
use Rattle.tf_rules.specs.Preorder.{expr}
use Rattle.tf_rules.specs.Rules.{may_find_at_operand}
use Rattle.tf_rules.specs.Summaries.{is_clean, count_of, value_of}
use Rattle.tf_rules.specs.declared.role.Role.TheVariants.{Elsewhere}
use Rattle.tf_rules.specs.declared.summary.Count.{Count}
use Rattle.tf_rules.specs.declared.summary.Count.TheVariants as count
use Rattle.tf_rules.specs.declared.summary.Value.{Value}
use Rattle.tf_rules_laws.proofs.Rules.{none_at_chain}

module _ (pairs : List Pair) where
  abbrev IsOperand : Expr → Type 0
  IsOperand e = FreeExpr pairs e × (may_find_at_operand (value_of e) ≡ false)

  abbrev pub AreOperands : List Operation → Type 0
  AreOperands [] = Unit {0}
  AreOperands (x ∷ xs) = IsOperand x.operand × AreOperands xs

  abbrev pub OperationsOf : Count → List Operation → Type 0
  OperationsOf = Listed AreOperands

  -- an expression with this summary
  abbrev IsHead : Value → Expr → Type 0
  IsHead q e = FreeExpr pairs e × Says q (value_of e)

  operand : (q : Value) (e : Expr) → IsHead q e → may_find_at_operand q ≡ false → IsOperand e
  operand q e h w = (h.0, holds may_find_at_operand false q (value_of e) h.1 refl w)

  operands_more : (ls : List Operation) (op : BinaryOperator) (e : Expr) → AreOperands ls → IsOperand e → AreOperands (ls ++ node.operation op e ∷ [])
  unfolding node.operation
  operands_more [] op e h f = (f, tt)
  operands_more (x ∷ xs) op e h f = (h.0, operands_more xs op e h.1 f)

  pub operations : (n : Count) (ls : List Operation) (op : BinaryOperator) (q : Value) (e : Expr) → OperationsOf n ls → ExprOf pairs q e → OperationsOf (add_one n (is_clean_operand q)) (ls ++ node.operation op e ∷ [])
  operations n ls op q e h g = listed_more AreOperands n (is_clean_operand q) ls (node.operation op e) h (λ c f w. operands_more ls op e f (operand q e (g (left (is_clean q) _ w)) (refuted _ (right (is_clean q) _ w))))

  -- ---- operators of one level

  none_may : (ls : List Operation) → AreOperands ls → AllByRecursion (λ (l : Operation). may_find_at_operand (value_of l.operand) ≡ false) ls
  none_may [] h = tt
  none_may (x ∷ xs) h = (h.0.1, none_may xs h.1)

  operands_free : (ls : List Operation) → AreOperands ls → AreFree pairs (map (λ (l : Operation). expr Elsewhere l.operand) ls)
  operands_free [] h = none
  operands_free (x ∷ xs) h = more _ _ (h.0.0 Elsewhere) (operands_free xs h.1)

  binary : (q : Value) (i j : ℕ) (head : Expr) (ls : List Operation) → may_find_at_operand q ≡ false → IsHead q head → AreOperands ls → IsHead q (node.binary i j head ls)
  binary q i j head [] w h g = h
  binary q i j head (l ∷ ls) w h g =
      known_expr pairs q i j (form.Binary head (l ∷ ls)) _ (open_chain head (l ∷ ls)) (inr refl) (λ rules. none_at_chain rules pairs i head (l ∷ ls) (operand q head h w).1 (none_may (l ∷ ls) g))
      (λ role. more _ _ (h.0 Elsewhere) (operands_free (l ∷ ls) g))

  -- ---- all levels

  abbrev Split : Type 0
  Split = List Operation × List Operation

  abbrev split_by : Bool → Operation → Expr → Split → Split
  split_by b x y r = if b then ([], node.operation x.operator y ∷ r.1) else (x ∷ r.0, r.1)

  parts : (b : Bool) (x : Operation) (y : Expr) (r : Split) → IsOperand x.operand → IsOperand y → AreOperands r.0 × AreOperands r.1 → AreOperands (split_by b x y r).0 × AreOperands (split_by b x y r).1
  unfolding node.operation
  parts true x y r h g f = (tt, (g, f.1))
  parts false x y r h g f = ((h, f.0), f.1)

  split : (n : ℕ) (join : Expr → List Operation → Expr) → ((e : Expr) (ls : List Operation) → IsOperand e → AreOperands ls → IsOperand (join e ls)) → (ls : List Operation) → AreOperands ls
      → AreOperands (split_level n join ls).0 × AreOperands (split_level n join ls).1
  unfolding split_level
  split n join joined [] h = (tt, tt)
  split n join joined (x ∷ xs) h =
      let rest = split n join joined xs h.1 in
      parts (operator_level x.operator == n) x (join x.operand (split_level n join xs).0) (split_level n join xs) h.0 (joined x.operand (split_level n join xs).0 h.0 rest.0) rest

  grouped : (n : ℕ) (q : Value) (head : Expr) (ls : List Operation) → may_find_at_operand q ≡ false → IsHead q head → AreOperands ls → IsHead q (group n head ls)
  unfolding group
  grouped zero q head ls w h g = h
  grouped (suc n) q head ls w h g =
      let joined = λ (e : Expr) (xs : List Operation) (k : IsOperand e) (a : AreOperands xs). operand (value_of e) (group n e xs) (grouped n (value_of e) e xs k.1 (k.0, inl refl) a) k.1 in
      let s = split n (group n) joined ls g in
      binary q head.first (chain_end head.past ls) (group n head (split_level n (group n) ls).0) (split_level n (group n) ls).1 w (grouped n q head (split_level n (group n) ls).0 w h s.0) s.1

  none_listed : (ls : List Operation) → count.Zero ≡ count_of ls → ls ≡ []
  none_listed [] e = refl
  none_listed (x ∷ []) e = absurd (cc)
  none_listed (x ∷ y ∷ []) e = absurd (cc)
  none_listed (x ∷ y ∷ z ∷ ls) e = absurd (cc)

  with_operators : (q : Value) (e : Expr) (ls : List Operation) → ExprOf pairs q e → AreOperands ls → ExprOf pairs (summary.first_operand q) (group levels e ls)
  with_operators q e ls h g = λ w.
      let t = (clean_if (is_clean_operand q) q w).0 in
      rw t (grouped levels q e ls (refuted _ (right (is_clean q) _ t)) (h (left (is_clean q) _ t)) g)

  pub chain : (q : Value) (e : Expr) (n : Count) (ls : List Operation) → ExprOf pairs q e → OperationsOf n ls → ExprOf pairs (summary.chain q n) (group levels e ls)
  chain q e count.Suspect ls h g = λ w. absurd (cc)
  chain q e count.Zero ls h g = subst (λ (xs : List Operation). ExprOf pairs q (group levels e xs)) (sym (none_listed ls (g refl).0)) (subst (ExprOf pairs q) (sym (no_operator e)) h)
  chain q e _ ls h g = with_operators q e ls h (g refl).1
