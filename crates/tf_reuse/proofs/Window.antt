-- Two lists of tokens that have the same tokens from some place on: which places are one, and what
-- comes next there.
use Rattle.std.proofs.Common.{◌≡◌, ◌≢◌, ◌==◌, ℕ, zero, suc, ◌+◌, ◌-◌, ◌<◌, ◌≤◌, Bool, true, false, cond, if◌then◌else◌, List, [], ◌∷◌, length, take, drop, slice_get, Option, Some, None, inl, inr, refl, sym, ap, ◌∙◌, subst, arith}
use Rattle.std.proofs.lemmas.Bool.Decides.{eqb_tells}
use Rattle.std.proofs.lemmas.List.{drop-drop, drop-take}
use Rattle.std.specs.List.{prefix_len}
use Rattle.std.specs.Option.{option_map}
use Rattle.hcl_grammar.specs.Tokens.{Token, is_skipped, next_index, next_token, next_kind, after_next, first_token_in}
use Rattle.hcl_grammar_laws.proofs.Neat.{kept_at}
use Rattle.tf_reuse.specs.SameTokens.{SameTokens}

-- lists with the same first n elements: a result of prefix_len below n is that of both
leading : (p : Token → Bool) (n : ℕ) (xs ys : List Token) → take n xs ≡ take n ys → prefix_len p xs < n → prefix_len p ys ≡ prefix_len p xs
leading p zero xs ys e l = absurd (omega arith)
leading p (suc n) [] [] e l = refl
leading p (suc n) [] (y ∷ ys) e l = absurd (cc)
leading p (suc n) (x ∷ xs) [] e l = absurd (cc)
leading p (suc n) (x ∷ xs) (y ∷ ys) e l =
    let same : x ≡ y = cc in
    let rest : take n xs ≡ take n ys = cc in
    ap (λ (z : Token). cond (p z) (1 + prefix_len p ys) 0) (sym same) ∙ go (p x) l (leading p n xs ys rest)
  where
    go : (b : Bool) → cond b (1 + prefix_len p xs) 0 < suc n → (prefix_len p xs < n → prefix_len p ys ≡ prefix_len p xs) → cond b (1 + prefix_len p ys) 0 ≡ cond b (1 + prefix_len p xs) 0
    go true l h = ap (λ (k : ℕ). 1 + k) (h (omega (arith, l)))
    go false l h = refl

-- and each of these elements is
slice_get_of_take : (n k : ℕ) (xs ys : List Token) → take n xs ≡ take n ys → k < n → slice_get ys k ≡ slice_get xs k
slice_get_of_take zero k xs ys e l = absurd (omega arith)
slice_get_of_take (suc n) k [] [] e l = refl
slice_get_of_take (suc n) k [] (y ∷ ys) e l = absurd (cc)
slice_get_of_take (suc n) k (x ∷ xs) [] e l = absurd (cc)
slice_get_of_take (suc n) zero (x ∷ xs) (y ∷ ys) e l = let same : x ≡ y = cc in ap Some (sym same)
slice_get_of_take (suc n) (suc k) (x ∷ xs) (y ∷ ys) e l = let rest : take n xs ≡ take n ys = cc in slice_get_of_take n k xs ys rest (omega (arith, l))

pub get_drop : (n k : ℕ) (xs : List Token) → slice_get (drop n xs) k ≡ slice_get xs (n + k)
get_drop zero k xs = let e : k ≡ 0 + k = omega arith in ap (slice_get xs) e
get_drop (suc n) k [] = refl
get_drop (suc n) k (x ∷ xs) = let e : suc (n + k) ≡ suc n + k = omega arith in get_drop n k xs ∙ ap (slice_get (x ∷ xs)) e

found : (ts : List Token) (i : ℕ) → i < length ts → slice_get ts i ≢ None
found [] i l e = omega (arith, l)
found (t ∷ ts) zero l e = let clash : Some t ≡ None = e in absurd (cc)
found (t ∷ ts) (suc i) l e = found ts i (omega (arith, l)) e

-- a run that begins later does not end earlier
later : (p : Token → Bool) (i j : ℕ) (ts : List Token) → i ≤ j → i + prefix_len p (drop i ts) ≤ j + prefix_len p (drop j ts)
later p zero zero ts l = omega arith
later p zero (suc j) [] l = omega arith
later p zero (suc j) (t ∷ ts) l = go (p t) (later p zero j ts (omega arith))
  where
    go : (b : Bool) → 0 + prefix_len p ts ≤ j + prefix_len p (drop j ts) → 0 + cond b (1 + prefix_len p ts) 0 ≤ suc j + prefix_len p (drop j ts)
    go true h = omega (arith, h)
    go false h = omega arith
later p (suc i) zero ts l = absurd (omega (arith, l))
later p (suc i) (suc j) [] l = omega (arith, l)
later p (suc i) (suc j) (t ∷ ts) l = omega (arith, later p i j ts (omega (arith, l)))

-- a choice by whether two places are one, where their others are one too then and no sooner
chosen : (P : ℕ → ℕ → Type 0) (i j s i' j' s' : ℕ) → (i ≡ j → i' ≡ j') → (i' ≡ j' → i ≡ j) → P i i' → P s s' → P (if i == j then i else s) (if i' == j' then i' else s')
chosen P i j s i' j' s' to back x y = elim (eqb_tells i j) [
  | inl a ↦ elim (eqb_tells i' j') [ inl b ↦ rw (a.0, b.0) x | inr b ↦ absurd (b.1 (to a.1)) ]
  | inr a ↦ elim (eqb_tells i' j') [ inl b ↦ absurd (a.1 (back b.1)) | inr b ↦ rw (a.0, b.0) y ]
]

-- `count` tokens, from place `from` on in the old list, from place `to` on in the new one
module _ {old new : List Token} {from to count : ℕ} (w : SameTokens old new from to count) where
  -- place i of the old list is place j of the new one
  pub record Here (i j : ℕ) : Type 0 where
    -- how many of the tokens are before it
    pub before : ℕ
    pub within : before ≤ count
    pub in_old : i ≡ from + before
    pub in_new : j ≡ to + before

  -- token i of the old list is token j of the new one
  pub record Same (i j : ℕ) : Type 0 where
    pub before : ℕ
    pub within : before < count
    pub in_old : i ≡ from + before
    pub in_new : j ≡ to + before

  -- what comes next in the old list is one of these tokens
  abbrev pub NextIsWithin : Bool → ℕ → Type 0
  NextIsWithin m i = next_index old m i < from + count

  -- each of the tokens is the same
  pub each_same : (k : ℕ) → k < count → slice_get new (to + k) ≡ slice_get old (from + k)
  each_same k l = sym (get_drop to k new) ∙ slice_get_of_take count k (drop from old) (drop to new) w.same l ∙ get_drop from k old

  -- after k of the tokens the other n are the same
  pub rest_same : (k n : ℕ) → k + n ≡ count → take n (drop (from + k) old) ≡ take n (drop (to + k) new)
  rest_same k n e =
      let all : take (k + n) (drop from old) ≡ take (k + n) (drop to new) = subst (λ (c : ℕ). take c (drop from old) ≡ take c (drop to new)) (sym e) w.same in
      ap (take n) (sym (drop-drop k from old)) ∙ sym (drop-take k n (drop from old)) ∙ ap (drop k) all
      ∙ drop-take k n (drop to new) ∙ ap (take n) (drop-drop k to new)

  run_same : (p : Token → Bool) (k : ℕ) → k ≤ count → from + k + prefix_len p (drop (from + k) old) < from + count → prefix_len p (drop (to + k) new) ≡ prefix_len p (drop (from + k) old)
  run_same p k l h = leading p (count - k) (drop (from + k) old) (drop (to + k) new) (rest_same k (count - k) (omega (arith, l))) (omega (arith, l, h))

  pub starts : (m : Bool) {i i' : ℕ} → Here i i' → NextIsWithin m i → Same (next_index old m i) (next_index new m i')
  unfolding next_index
  starts m {i} {i'} h c =
      let p : Token → Bool = λ (t : Token). is_skipped m t.0 in
      let c' : from + h.before + prefix_len p (drop (from + h.before) old) < from + count = subst (λ (x : ℕ). x + prefix_len p (drop x old) < from + count) h.in_old c in
      let run = run_same p h.before h.within c' in
      record {
        before = h.before + prefix_len p (drop (from + h.before) old);
        within = omega (arith, c');
        in_old = ap (λ (x : ℕ). x + prefix_len p (drop x old)) h.in_old ∙ omega arith;
        in_new = ap (λ (x : ℕ). x + prefix_len p (drop x new)) h.in_new ∙ omega (arith, run);
      }

  pub same_here : {i j : ℕ} → Same i j → Here i j
  same_here s = record { before = s.before; within = omega (arith, s.within); in_old = s.in_old; in_new = s.in_new }

  pub starts_here : (m : Bool) {i i' : ℕ} → Here i i' → NextIsWithin m i → Here (next_index old m i) (next_index new m i')
  starts_here m h c = same_here (starts m h c)

  pub afters : (m : Bool) {i i' : ℕ} → Here i i' → NextIsWithin m i → Here (after_next old m i) (after_next new m i')
  unfolding after_next
  afters m h c =
      let s = starts m h c in
      record { before = suc s.before; within = omega (arith, s.within); in_old = omega (arith, s.in_old); in_new = omega (arith, s.in_new) }

  pub tokens : (m : Bool) {i i' : ℕ} → Here i i' → NextIsWithin m i → next_token new m i' ≡ next_token old m i
  unfolding next_token
  tokens m {i} {i'} h c =
      let s = starts m h c in
      ap (slice_get new) s.in_new ∙ each_same s.before s.within ∙ ap (slice_get old) (sym s.in_old)

  pub nexts : (m : Bool) {i i' : ℕ} → Here i i' → NextIsWithin m i → next_kind new m i' ≡ next_kind old m i
  unfolding next_kind
  nexts m h c = ap (option_map (λ (t : Token). t.0)) (tokens m h c)

  pub some_next : (m : Bool) (i : ℕ) → NextIsWithin m i → next_kind old m i ≢ None
  unfolding next_kind next_token
  some_next m i c = go (slice_get old (next_index old m i)) (found old (next_index old m i) (omega (arith, c, w.in_old)))
    where
      go : (o : Option Token) → o ≢ None → option_map (λ (t : Token). t.0) o ≢ None
      go None h e = h refl
      go (Some t) h e = let clash : Some t.0 ≡ None = e in absurd (cc)

  pub next_within_end : (m : Bool) (j : ℕ) → NextIsWithin m j → j ≤ from + count
  unfolding next_index
  next_within_end m j c = omega (arith, c)

  pub next_within : (m : Bool) (i : ℕ) → after_next old m i ≤ from + count → NextIsWithin m i
  unfolding after_next
  next_within m i l = omega (arith, l)

  pub before : (m n : Bool) (i j : ℕ) → after_next old n i ≤ j → NextIsWithin m j → NextIsWithin n i
  before m n i j l c = next_within n i (omega (arith, l, next_within_end m j c))

  pub earlier : (m : Bool) (i j : ℕ) → i ≤ j → NextIsWithin m j → NextIsWithin m i
  unfolding next_index
  earlier m i j l c = omega (arith, later (λ (t : Token). is_skipped m t.0) i j old l, c)

  -- a token that is not dropped is at n
  pub earlier_than : (m : Bool) (i n : ℕ) (t : Token) → i ≤ n → slice_get old n ≡ Some t → is_skipped m t.0 ≡ false → n < from + count → NextIsWithin m i
  unfolding next_index
  earlier_than m i n t l e d b = let p : Token → Bool = λ (t : Token). is_skipped m t.0 in omega (arith, later p i n old l, kept_at p old n t e d, b)

  pub one_place : {i j l : ℕ} → Here i j → Here i l → j ≡ l
  one_place a b = omega (arith, a.in_old, a.in_new, b.in_old, b.in_new)

  pub firsts : (m : Bool) {i i' j j' : ℕ} → Here i i' → Here j j' → i ≤ j → NextIsWithin m j → Here (first_token_in old m i j) (first_token_in new m i' j')
  unfolding first_token_in
  firsts m {i} {i'} {j} {j'} h g l c =
      let to_new : i ≡ j → i' ≡ j' = λ e. omega (arith, e, h.in_old, h.in_new, g.in_old, g.in_new) in
      let to_old : i' ≡ j' → i ≡ j = λ e. omega (arith, e, h.in_old, h.in_new, g.in_old, g.in_new) in
      chosen Here i j (next_index old m i) i' j' (next_index new m i') to_new to_old h (starts_here m h (earlier m i j l c))
