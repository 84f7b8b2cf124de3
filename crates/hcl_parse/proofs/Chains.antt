-- A list of operators, split at those of one level, and read level by level.
use Rattle.std.proofs.Common.{◌≡◌, ℕ, zero, suc, ◌<◌, ◌≤◌, ◌==◌, Bool, true, false, if◌then◌else◌, nat_lt, List, [], ◌∷◌, ◌++◌, length, refl, sym, ap, ap₂, ◌∙◌, inl, inr, arith, append_assoc, append-nil, lt-ltb, le-ltb, ltb-true, ltb-false, eq-or-lt_of_le}
use Rattle.std.proofs.lemmas.Bool.Decides.{eqb_tells}
use Rattle.hcl_grammar.specs.declared.tree.BinaryOperator.{BinaryOperator}
use Rattle.hcl_grammar.specs.declared.tree.BinaryOperator.TheVariants as operator
use Rattle.hcl_grammar.specs.declared.tree.Expr.{Expr}
use Rattle.hcl_grammar.specs.declared.tree.Operation.{Operation}
use Rattle.hcl_grammar.specs.Nodes as node
use Rattle.hcl_grammar.specs.Operators.{operator_level, levels}
use Rattle.hcl_parse.specs.Chains.{before, after, first_level}
use Rattle.hcl_grammar.specs.Pure.NodeMakers.{chain_end, split_level, group}

-- ---- the tests of a level

-- a level is below n, is n, or is not below the next
data Place (l n : ℕ) : Type 0 where
  lower : nat_lt l n ≡ true → nat_lt l (suc n) ≡ true → (l == n) ≡ false → Place l n
  same : nat_lt l n ≡ false → nat_lt l (suc n) ≡ true → (l == n) ≡ true → Place l n
  upper : nat_lt l n ≡ false → nat_lt l (suc n) ≡ false → (l == n) ≡ false → Place l n

other : (l n : ℕ) → l < n → (l == n) ≡ false
other l n h = elim (eqb_tells l n) [ inl w ↦ absurd (omega arith) | inr w ↦ w.0 ]

equal : (l n : ℕ) → (l == n) ≡ true → l ≡ n
equal l n h = elim (eqb_tells l n) [ inl w ↦ w.1 | inr w ↦ absurd (cc) ]

above : (l n : ℕ) → n ≤ l → (l == n) ≡ false → suc n ≤ l
above l n h e = elim (eqb_tells l n) [ inl w ↦ absurd (cc) | inr w ↦ elim (eq-or-lt_of_le h) [ inl d ↦ absurd (w.1 (sym d)) | inr d ↦ d ] ]

place : (l n : ℕ) → Place l n
place l n = by (nat_lt l n) refl (l == n) refl
  where
    by : (x : Bool) → nat_lt l n ≡ x → (y : Bool) → (l == n) ≡ y → Place l n
    by true e y f = lower e (lt-ltb l (suc n) (omega (arith, ltb-true l n e))) (other l n (ltb-true l n e))
    by false e true f = same e (lt-ltb l (suc n) (omega (arith, equal l n f))) f
    by false e false f = upper e (le-ltb l (suc n) (above l n (ltb-false l n e) f)) f

below_levels : (op : BinaryOperator) → nat_lt (operator_level op) levels ≡ true
below_levels operator.Or = refl
below_levels _ = refl

-- ---- a list, up to a level and from there on

pub before_all : (xs : List Operation) → before levels xs ≡ xs
before_all [] = refl
before_all (x ∷ xs) = rw (below_levels x.operator, before_all xs) refl

module _ (n : ℕ) where
  pub shorter : (xs : List Operation) → length (after n xs) ≤ length xs
  shorter [] = omega arith
  shorter (x ∷ xs) = by (nat_lt (operator_level x.operator) n) (shorter xs)
    where
      by : (b : Bool) → length (after n xs) ≤ length xs → length (if b then after n xs else x ∷ xs) ≤ suc (length xs)
      by true h = omega (arith, h)
      by false h = omega arith

  pub before_after : (xs : List Operation) → before n (after n xs) ≡ []
  before_after [] = refl
  before_after (x ∷ xs) = by (before_after xs) (nat_lt (operator_level x.operator) n) refl
    where
      by : before n (after n xs) ≡ [] → (b : Bool) → nat_lt (operator_level x.operator) n ≡ b → before n (if b then after n xs else x ∷ xs) ≡ []
      by h true e = h
      by h false e = rw e refl

  pub after_after : (xs : List Operation) → after (suc n) xs ≡ after (suc n) (after n xs)
  after_after [] = refl
  after_after (x ∷ xs) = elim (place (operator_level x.operator) n) [
    | lower a b e ↦ rw (a, b) (after_after xs)
    | same a b e ↦ rw a refl
    | upper a b e ↦ rw a refl
  ]

  pub ends_after : (past : ℕ) (xs : List Operation) → chain_end past (before (suc n) xs) ≡ chain_end (chain_end past (before n xs)) (before (suc n) (after n xs))
  ends_after past [] = refl
  ends_after past (x ∷ xs) = elim (place (operator_level x.operator) n) [
    | lower a b e ↦ rw (a, b) (ends_after x.operand.past xs)
    | same a b e ↦ rw a refl
    | upper a b e ↦ rw a refl
  ]

  -- ---- and split

  module _ (join : Expr → List Operation → Expr) where
    abbrev pub split : List Operation → List Operation × List Operation
    split xs = split_level n join (before (suc n) xs)

    lower_part : (xs : List Operation) → (split xs).0 ≡ before n xs
    unfolding split_level
    lower_part [] = refl
    lower_part (x ∷ xs) = elim (place (operator_level x.operator) n) [
      | lower a b e ↦ rw (a, b, e) (ap (λ ys. x ∷ ys) (lower_part xs))
      | same a b e ↦ rw (a, b, e) refl
      | upper a b e ↦ rw (a, b) refl
    ]

    links_after : (xs : List Operation) → (split xs).1 ≡ (split (after n xs)).1
    unfolding split_level
    links_after [] = refl
    links_after (x ∷ xs) = elim (place (operator_level x.operator) n) [
      | lower a b e ↦ rw (a, b, e) (links_after xs)
      | same a b e ↦ rw a refl
      | upper a b e ↦ rw a refl
    ]

    -- an operator of level n comes next
    module _ (x : Operation) (xs : List Operation) (e : (operator_level x.operator == n) ≡ true) where
      pub one_link : (split (x ∷ xs)).1 ≡ node.operation x.operator (join x.operand (before n xs)) ∷ (split (after n xs)).1
      unfolding split_level
      one_link = rw (lt-ltb (operator_level x.operator) (suc n) (omega (arith, equal (operator_level x.operator) n e)), e, lower_part xs, links_after xs) refl

      pub after_one : after (suc n) (x ∷ xs) ≡ after (suc n) (after n xs)
      after_one = rw (lt-ltb (operator_level x.operator) (suc n) (omega (arith, equal (operator_level x.operator) n e))) (after_after xs)

      pub ends_one : (past : ℕ) → chain_end past (before (suc n) (x ∷ xs)) ≡ chain_end (chain_end x.operand.past (before n xs)) (before (suc n) (after n xs))
      ends_one past = rw (lt-ltb (operator_level x.operator) (suc n) (omega (arith, equal (operator_level x.operator) n e))) (ends_after x.operand.past xs)

  -- none does
  upper_first : (x : Operation) (xs : List Operation) → before n (x ∷ xs) ≡ [] → (operator_level x.operator == n) ≡ false → nat_lt (operator_level x.operator) (suc n) ≡ false
  upper_first x xs h e = elim (place (operator_level x.operator) n) [
    | lower a b f ↦ absurd (let clash : x ∷ before n xs ≡ [] = rw a at h in cc)
    | same a b f ↦ absurd (cc)
    | upper a b f ↦ b
  ]

  pub before_upper : (xs : List Operation) → before n xs ≡ [] → (first_level xs == n) ≡ false → before (suc n) xs ≡ []
  before_upper [] h e = refl
  before_upper (x ∷ xs) h e = rw (upper_first x xs h e) refl

  pub after_upper : (xs : List Operation) → before n xs ≡ [] → (first_level xs == n) ≡ false → after (suc n) xs ≡ xs
  after_upper [] h e = refl
  after_upper (x ∷ xs) h e = rw (upper_first x xs h e) refl

  -- a level, by the level below and the operators that follow
  pub next_group : (head : Expr) (xs : List Operation) → group (suc n) head (before (suc n) xs) ≡ node.binary head.first (chain_end head.past (before (suc n) xs)) (group n head (before n xs)) (split (group n) (after n xs)).1
  unfolding group
  next_group head xs = ap₂ (λ ys zs. node.binary head.first (chain_end head.past (before (suc n) xs)) (group n head ys) zs) (lower_part (group n) xs) (links_after (group n) xs)

-- ---- the steps of the code, over what its calls answer

group_empty : (n : ℕ) (head : Expr) → head ≡ group n head []
unfolding group split_level
group_empty zero head = refl
group_empty (suc n) head = group_empty n head

-- no operator of a level below n comes next
module _ (n : ℕ) where
  pub before_next : (xs : List Operation) → n ≤ first_level xs → before n xs ≡ []
  before_next [] h = refl
  before_next (x ∷ xs) h = rw (le-ltb (operator_level x.operator) n h) refl

  pub after_next : (xs : List Operation) → n ≤ first_level xs → after n xs ≡ xs
  after_next [] h = refl
  after_next (x ∷ xs) h = rw (le-ltb (operator_level x.operator) n h) refl

  pub alone_next : (head : Expr) (xs : List Operation) → n ≤ first_level xs → head ≡ group n head (before n xs)
  alone_next head xs h = rw (before_next xs h) (group_empty n head)

here : (l n : ℕ) → l ≡ n → (l == n) ≡ true
here l n h = elim (eqb_tells l n) [ inl w ↦ w.0 | inr w ↦ absurd (w.1 h) ]

pub elsewhere : (l n : ℕ) → (l ≡ n → ⊥) → (l == n) ≡ false
elsewhere l n h = elim (eqb_tells l n) [ inl w ↦ absurd (h w.1) | inr w ↦ w.0 ]

module _ (n : ℕ) (xs ys : List Operation) (left : ys ≡ after n xs) where
  module _ (head : Expr) (past end : ℕ) (at : past ≡ chain_end head.past (before n xs)) (to : end ≡ chain_end past (before (suc n) ys)) where
    pub climbed_to : end ≡ chain_end head.past (before (suc n) xs)
    climbed_to = to ∙ rw (at, left) (sym (ends_after n head.past xs))

    pub climbed : (low made : Expr) (links : List Operation) → low ≡ group n head (before n xs) → links ≡ (split n (group n) ys).1 → made ≡ node.binary head.first end low links → made ≡ group (suc n) head (before (suc n) xs)
    climbed low made links below next is = is ∙ rw (climbed_to, below, next, left) (sym (next_group n head xs))

  pub climbed_left : (new : List Operation) → new ≡ after (suc n) ys → new ≡ after (suc n) xs
  climbed_left new h = h ∙ rw left (sym (after_after n xs))

  pub no_lower : before n ys ≡ []
  no_lower = rw left (before_after n xs)

  -- after an operator of level n
  module _ (x : Operation) (rest : List Operation) (is : rest ≡ x ∷ xs) where
    pub fewer : length ys < length rest
    fewer = rw (left, is) (omega (arith, shorter n xs))

    module _ (here_it : first_level rest ≡ n) where
      same_level : (operator_level x.operator == n) ≡ true
      same_level = here (operator_level x.operator) n (ap first_level (sym is) ∙ here_it)

      pub linked : (operand : Expr) (op : Operation) (found more all : List Operation) → operand ≡ group n x.operand (before n xs) → op ≡ node.operation x.operator operand → more ≡ found ++ op ∷ [] → all ≡ found ++ (split n (group n) rest).1 → all ≡ more ++ (split n (group n) ys).1
      linked operand op found more all made link added h = h ∙ rw (is, one_link n (group n) x xs same_level, added, link, made, left) (sym (append_assoc found (node.operation x.operator (group n x.operand (before n xs)) ∷ []) (split n (group n) (after n xs)).1))

      pub linked_to : (past end all : ℕ) → end ≡ chain_end x.operand.past (before n xs) → all ≡ chain_end past (before (suc n) rest) → all ≡ chain_end end (before (suc n) ys)
      linked_to past end all at h = h ∙ rw (is, ends_one n (group n) x xs same_level past, at, left) refl

      pub linked_left : (all : List Operation) → all ≡ after (suc n) rest → all ≡ after (suc n) ys
      linked_left all h = h ∙ rw (is, after_one n (group n) x xs same_level, left) refl

-- where no operator of the level comes next
module _ (n : ℕ) (rest : List Operation) (none : before (suc n) rest ≡ []) where
  pub ended : (found all : List Operation) → all ≡ found ++ (split n (group n) rest).1 → found ≡ all
  unfolding split_level
  ended found all h = sym (h ∙ rw none (append-nil found))

  pub ended_at : (end all : ℕ) → all ≡ chain_end end (before (suc n) rest) → end ≡ all
  ended_at end all h = sym (h ∙ rw none refl)
