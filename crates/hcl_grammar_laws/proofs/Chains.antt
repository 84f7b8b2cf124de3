-- An operand and the operators that follow it, grouped by levels, are derived as the levels are; and
-- whatever a level derives is such a group.
use Rattle.std.proofs.Common.{◌≡◌, ℕ, zero, suc, ◌<◌, ◌==◌, nat_lt, ltb-true, Bool, true, false, List, [], ◌∷◌, ◌++◌, Option, Some, None, refl, sym, ap, ap₂, subst, ◌∙◌, inl, inr, arith}
use Rattle.std.proofs.lemmas.Bool.Decides.{eqb_tells}
use Rattle.hcl_token.specs.declared.kind.Kind.{Kind}
use Rattle.hcl_grammar.specs.declared.tree.BinaryOperator.{BinaryOperator}
use Rattle.hcl_grammar.specs.declared.tree.BinaryOperator.TheVariants as operator
use Rattle.hcl_grammar.specs.declared.tree.Expr.{Expr}
use Rattle.hcl_grammar.specs.declared.tree.Operation.{Operation}
use Rattle.hcl_grammar.specs.Grammar.{IsLevel, lowest, level, IsOperations, no_operations, operation, IsUnary}
use Rattle.hcl_grammar.specs.Lookahead.{NextIs}
use Rattle.hcl_grammar.specs.Nodes as node
use Rattle.hcl_grammar.specs.Operators.{operator_between, operator_level, with_level, binary_operator, levels}
use Rattle.hcl_grammar.specs.Pure.NodeMakers.{chain_end, split_level, group}
use Rattle.hcl_grammar.specs.Tokens.{Token, next_index, after_next}
use Rattle.hcl_grammar_laws.proofs.Placed.{placed_unary}

-- ---- the level of an operator

below_levels : (op : BinaryOperator) → nat_lt (operator_level op) levels ≡ true
below_levels operator.Or = refl
below_levels _ = refl

abbrev HasItsLevel : Option (ℕ × BinaryOperator) → Type 0
HasItsLevel None = Unit {0}
HasItsLevel (Some o) = (operator_level o.1 ≡ o.0) × (o.0 < levels)

has_its_level : (x : Option BinaryOperator) → HasItsLevel (with_level x)
has_its_level None = tt
has_its_level (Some op) = (refl, ltb-true (operator_level op) levels (below_levels op))

pub its_level : (t : Kind) (o : ℕ × BinaryOperator) → binary_operator t ≡ Some o → (operator_level o.1 ≡ o.0) × (o.0 < levels)
its_level t o e = subst HasItsLevel e (has_its_level (operator_between t))

-- ---- a list of operators, split at those of level n

abbrev two : List Operation → List Operation → List Operation × List Operation
two xs ys = (xs, ys)

module _ (n : ℕ) (join : Expr → List Operation → Expr) (op : BinaryOperator) (x : Expr) (xs : List Operation) where
  split_at : (operator_level op == n) ≡ true → split_level n join (node.operation op x ∷ xs) ≡ two [] (node.operation op (join x (split_level n join xs).0) ∷ (split_level n join xs).1)
  unfolding split_level node.operation
  split_at h = rw h refl

  split_below : (operator_level op == n) ≡ false → split_level n join (node.operation op x ∷ xs) ≡ two (node.operation op x ∷ (split_level n join xs).0) (split_level n join xs).1
  unfolding split_level node.operation
  split_below h = rw h refl

module _ (n l : ℕ) (t : Kind) (op : BinaryOperator) (o : binary_operator t ≡ Some (l, op)) where
  of_level : (l == n) ≡ true → (operator_level op == n) ≡ true
  of_level h = ap (λ (a : ℕ). a == n) (its_level t (l, op) o).0 ∙ h

  not_of_level : (l == n) ≡ false → (operator_level op == n) ≡ false
  not_of_level h = ap (λ (a : ℕ). a == n) (its_level t (l, op) o).0 ∙ h

other : (n l : ℕ) → l < n → (l == n) ≡ false
other n l h = elim (eqb_tells l n) [ inl w ↦ absurd (omega arith) | inr w ↦ w.0 ]

pub nat-same : (n : ℕ) → (n == n) ≡ true
nat-same n = elim (eqb_tells n n) [ inl w ↦ w.0 | inr w ↦ absurd (w.1 refl) ]

module _ (ts : List Token) (m : Bool) (P : Expr → ℕ → ℕ → Type 0) where
  -- operators of levels below n that follow a place, each with its second operand, of which P holds
  pub data Chain (n : ℕ) : List Operation → ℕ → ℕ → Type 0 where
    no_more : {i : ℕ} → Chain n [] i i
    one_more : {l : ℕ} {t : Kind} {op : BinaryOperator} {x : Expr} {xs : List Operation} {i j end : ℕ}
        → NextIs ts m t i → binary_operator t ≡ Some (l, op) → l < n → x.past ≡ j → P x (after_next ts m i) j
        → Chain n xs j end → Chain n (node.operation op x ∷ xs) i end

  -- a chain ends where its last operand ends
  ends : (n : ℕ) {xs : List Operation} {i j : ℕ} (past : ℕ) → past ≡ i → Chain n xs i j → chain_end past xs ≡ j
  unfolding node.operation
  ends n past e no_more = e
  ends n past e (one_more {x} q o h p y c) = ends n x.past p c

  both_chains : (n : ℕ) {xs ys : List Operation} {i j l : ℕ} → Chain n xs i j → Chain (suc n) ys j l → Chain (suc n) (xs ++ ys) i l
  both_chains n no_more d = d
  both_chains n (one_more q o h p y c) d = one_more q o (omega (arith, h)) p y (both_chains n c d)

  -- operators of lower levels stay before those of level n
  lower_part : (n : ℕ) {xs : List Operation} {i j : ℕ} → Chain n xs i j → (ys : List Operation) → (split_level n (group n) ys).0 ≡ []
      → ((split_level n (group n) (xs ++ ys)).0 ≡ xs) × ((split_level n (group n) (xs ++ ys)).1 ≡ (split_level n (group n) ys).1)
  lower_part n no_more ys e = (e, refl)
  lower_part n (one_more {l} {t} {op} {x} {xs} q o h p y c) ys e =
      let r = lower_part n c ys e in
      let s = split_below n (group n) op x (xs ++ ys) (not_of_level n l t op o (other n l h)) in
      (ap (λ z. z.0) s ∙ ap (λ zs. node.operation op x ∷ zs) r.0, ap (λ z. z.1) s ∙ r.1)

  -- ---- an expression of level n, as the chain that it groups

  pub record Flat (n : ℕ) (e : Expr) (i j : ℕ) : Type 0 where
    pub head : Expr
    pub at : ℕ
    pub rest : List Operation
    pub operand : P head i at
    pub first : head.first ≡ next_index ts m i
    pub past : head.past ≡ at
    pub chain : Chain n rest at j
    pub is : e ≡ group n head rest

  -- and what follows the first operand of a level
  pub record FlatLinks (n : ℕ) (links : List Operation) (i j : ℕ) : Type 0 where
    pub rest : List Operation
    pub chain : Chain (suc n) rest i j
    pub none : (split_level n (group n) rest).0 ≡ []
    pub is : (split_level n (group n) rest).1 ≡ links

  pub flat_operand : (e : Expr) (i j : ℕ) → P e i j → e.first ≡ next_index ts m i → e.past ≡ j → Flat zero e i j
  unfolding group
  flat_operand e i j h first past = record { head = e; at = j; rest = []; operand = h; first = first; past = past; chain = no_more; is = refl }

  pub flat_end : (n i : ℕ) → FlatLinks n [] i i
  unfolding split_level
  flat_end n i = record { rest = []; chain = no_more; none = refl; is = refl }

  pub flat_link : {n : ℕ} {t : Kind} {op : BinaryOperator} {x : Expr} {links : List Operation} {i j l : ℕ} → NextIs ts m t i → binary_operator t ≡ Some (n, op) → Flat n x (after_next ts m i) j
      → FlatLinks n links j l → FlatLinks n (node.operation op x ∷ links) i l
  flat_link {n} {t} {op} q o f s =
      let split = split_at n (group n) op f.head (f.rest ++ s.rest) (of_level n n t op o (nat-same n)) in
      let lower = lower_part n f.chain s.rest s.none in
      record {
        rest = node.operation op f.head ∷ (f.rest ++ s.rest);
        chain = one_more q o (omega arith) f.past f.operand (both_chains n f.chain s.chain);
        none = ap (λ z. z.0) split;
        is = ap (λ z. z.1) split ∙ ap₂ (λ (y : Expr) (ys : List Operation). node.operation op y ∷ ys) (ap (group n f.head) lower.0 ∙ sym f.is) (lower.1 ∙ s.is);
      }

  same_node : {a b c d : ℕ} {x y : Expr} {xs ys : List Operation} → a ≡ c → b ≡ d → x ≡ y → xs ≡ ys → node.binary a b x xs ≡ node.binary c d y ys
  same_node {c} {d} {x} {xs} e f g h = ap₂ (λ (a b : ℕ). node.binary a b x xs) e f ∙ ap₂ (λ (x : Expr) (xs : List Operation). node.binary c d x xs) g h

  pub flat_level : {n : ℕ} {x : Expr} {links : List Operation} {i j l : ℕ} → Flat n x i j → FlatLinks n links j l → Flat (suc n) (node.binary (next_index ts m i) l x links) i l
  unfolding group
  flat_level {n} f s =
      let chain = both_chains n f.chain s.chain in
      let lower = lower_part n f.chain s.rest s.none in
      record {
        head = f.head;
        at = f.at;
        rest = f.rest ++ s.rest;
        operand = f.operand;
        first = f.first;
        past = f.past;
        chain = chain;
        is = same_node (sym f.first) (sym (ends (suc n) f.head.past f.past chain)) (f.is ∙ ap (group n f.head) (sym lower.0)) (sym (lower.1 ∙ s.is));
      }

-- ---- what a chain groups is derived

module _ (ts : List Token) (d : ℕ) (m : Bool) where
  abbrev pub Operators : ℕ → List Operation → ℕ → ℕ → Type 0
  Operators = Chain ts m (IsUnary ts d m)

  abbrev Grouped : ℕ → Type 0
  Grouped n = (x : Expr) (xs : List Operation) (i j l : ℕ) → IsUnary ts d m x i j → Operators n xs j l → IsLevel ts d m n (group n x xs) i l

  -- the operators of lower levels, and then those of level n
  record Split (n : ℕ) (split : List Operation × List Operation) (i j : ℕ) : Type 0 where
    at : ℕ
    lower : Operators n split.0 i at
    links : IsOperations ts d m n split.1 at j

  splits : (n : ℕ) → Grouped n → {xs : List Operation} {i j : ℕ} → Operators (suc n) xs i j → Split n (split_level n (group n) xs) i j
  unfolding split_level
  splits n grouped (no_more {i}) = record { at = i; lower = no_more; links = no_operations }
  splits n grouped (one_more {l} {t} {op} {x} {xs} {i} {j} {end} q o h p y c) = by (splits n grouped c)
    where
      by : Split n (split_level n (group n) xs) j end → Split n (split_level n (group n) (node.operation op x ∷ xs)) i end
      by r = elim (eqb_tells l n) [
        | inl w ↦ subst (λ z. Split n z i end) (sym (split_at n (group n) op x xs (of_level n l t op o w.0)))
            (record { at = i; lower = no_more; links = operation q (o ∙ ap (λ (a : ℕ). Some (a, op)) w.1) (grouped x _ _ _ r.at y r.lower) r.links })
        | inr w ↦ subst (λ z. Split n z i end) (sym (split_below n (group n) op x xs (not_of_level n l t op o w.0)))
            (record { at = r.at; lower = one_more q o (omega (arith, h, w.1)) p y r.lower; links = r.links })
      ]

  alone : {x : Expr} {xs : List Operation} {i j l : ℕ} → IsUnary ts d m x i j → Operators zero xs j l → IsLevel ts d m zero x i l
  alone u no_more = lowest u
  alone u (one_more q o h p y c) = absurd (omega (arith, h))

  pub grouped : (n : ℕ) → Grouped n
  unfolding group
  grouped zero x xs i j l u c = alone u c
  grouped (suc n) x xs i j l u c =
      let s = splits n (grouped n) c in
      let p = placed_unary u in
      let derived = level (grouped n x (split_level n (group n) xs).0 i j s.at u s.lower) s.links in
      subst (λ (f : ℕ). IsLevel ts d m (suc n) (node.binary f (chain_end x.past xs) (group n x (split_level n (group n) xs).0) (split_level n (group n) xs).1) i l) (sym p.0)
      (subst (λ (q : ℕ). IsLevel ts d m (suc n) (node.binary (next_index ts m i) q (group n x (split_level n (group n) xs).0) (split_level n (group n) xs).1) i l) (sym (ends ts m (IsUnary ts d m) (suc n) x.past p.1 c)) derived)
