-- What is computed from tokens and their numbers is the same wherever the tokens are.
use Rattle.std.proofs.Common.{◌≡◌, ℕ, ◌+◌, ◌-◌, ◌<◌, ◌≤◌, Bool, true, false, ◌==◌, nat_lt, nat_le, List, [], ◌∷◌, take, drop, Option, Some, None, refl, sym, ap, ◌∙◌, arith, ◌⊎◌, inl, inr}
use Rattle.std.proofs.lemmas.List.{drop-map, take-map, take-take}
use Rattle.std.proofs.lemmas.Bool.{leb-true, leb-false}
use Rattle.std.proofs.lemmas.Option.{slice_get-map}
use Rattle.std.specs.List.{slice_get}
use Rattle.std.specs.Option.{option_map}
use Rattle.hcl_scan.specs.Follows.{tokens_of}
use Rattle.hcl_token.specs.TokenizedText.{kind_of, spelling_of}
use Rattle.hcl_token.specs.Tokens.{Pair}
use Rattle.hcl_grammar.specs.Tokens.{Token}
use Rattle.tf_rules.specs.Trivia.{token_range, has_trivia, has_line_break, is_here_close, is_here_close_kind, depth_after}
use Rattle.tf_reuse.proofs.Window.{Here, Same, each_same, rest_same}
use Rattle.tf_reuse.specs.SameTokens.{SameTokens}
use Rattle.tf_reuse.specs.Renumbering.{renumber}

-- ---- tests of numbers

lt_test : (from to a b : ℕ) → nat_lt (to + a) (to + b) ≡ nat_lt (from + a) (from + b)
lt_test from to a b = grind arith

le_test : (from to a b : ℕ) → nat_le (to + a) (to + b) ≡ nat_le (from + a) (from + b)
le_test from to a b = grind arith

eq_test : (from to a b k : ℕ) → (to + b == to + a + k) ≡ (from + b == from + a + k)
eq_test from to a b k = grind arith

pub is_le : (a b : ℕ) → a ≤ b → nat_le a b ≡ true
is_le a b l = grind arith

-- ---- lists of tokens

abbrev pub token_of : Pair → Token
token_of p = (p.kind, p.spelling)

tokens_of_range : (n k : ℕ) (xs : List Pair) → tokens_of (take k (drop n xs)) ≡ take k (drop n (tokens_of xs))
tokens_of_range n k xs = sym (take-map token_of k (drop n xs)) ∙ ap (take k) (sym (drop-map token_of n xs))

head_is : {x y : Token} {xs ys : List Token} → x ∷ xs ≡ y ∷ ys → y ≡ x
head_is e = cc

some_is : {X : Type 0} {x y : X} → Some y ≡ Some x → y ≡ x
some_is e = cc

-- what two pairs of one token have
same_parts : (x y : Option Pair) → option_map token_of y ≡ option_map token_of x
    → (option_map (λ (p : Pair). p.kind) y ≡ option_map (λ (p : Pair). p.kind) x) × (option_map (λ (p : Pair). p.spelling) y ≡ option_map (λ (p : Pair). p.spelling) x)
same_parts None None e = (refl, refl)
same_parts None (Some y) e = absurd (cc)
same_parts (Some x) None e = absurd (cc)
same_parts (Some x) (Some y) e = let h = some_is e in (ap (λ (t : Token). Some t.0) h, ap (λ (t : Token). Some t.1) h)

same_trivia : (xs ys : List Pair) → tokens_of xs ≡ tokens_of ys → has_trivia ys ≡ has_trivia xs
same_trivia [] [] e = refl
same_trivia [] (y ∷ ys) e = absurd (cc)
same_trivia (x ∷ xs) [] e = absurd (cc)
same_trivia (x ∷ xs) (y ∷ ys) e =
    let k : y.kind ≡ x.kind = ap (λ (t : Token). t.0) (head_is e) in
    let more : has_trivia ys ≡ has_trivia xs = same_trivia xs ys (cc) in
    rw (k, more) refl

same_break : (comments : Bool) (depth : ℕ) (xs ys : List Pair) → tokens_of xs ≡ tokens_of ys → has_line_break comments depth ys ≡ has_line_break comments depth xs
same_break comments depth [] [] e = refl
same_break comments depth [] (y ∷ ys) e = absurd (cc)
same_break comments depth (x ∷ xs) [] e = absurd (cc)
same_break comments depth (x ∷ xs) (y ∷ ys) e =
    let k : y.kind ≡ x.kind = ap (λ (t : Token). t.0) (head_is e) in
    let d = depth_after x.kind depth in
    let more : has_line_break comments d ys ≡ has_line_break comments d xs = same_break comments d xs ys (cc) in
    rw (k, more) refl

-- tokens but for two at either end: none, or within those that are the same
within : (count a b : ℕ) → a ≤ count → b ≤ count → (b - a - 4 ≡ 0) ⊎ ((a + 2) + (b - a - 4) ≤ count)
within count a b l m = elim (nat_le 4 (b - a)) as (λ t. nat_le 4 (b - a) ≡ t → (b - a - 4 ≡ 0) ⊎ ((a + 2) + (b - a - 4) ≤ count))
    [ true ↦ λ e. inr (omega (arith, leb-true 4 (b - a) e, l, m)) | false ↦ λ e. inl (omega (arith, leb-false 4 (b - a) e)) ] refl

module _ (old new : List Pair) {from to count : ℕ} (w : SameTokens (tokens_of old) (tokens_of new) from to count) where
  -- ---- numbers

  pub moved_is : {i j : ℕ} → Here w i j → j ≡ renumber from to i
  moved_is {i} {j} h = omega (arith, h.in_old, h.in_new)

  pub moved_token : {i j : ℕ} → Same w i j → j ≡ renumber from to i
  moved_token {i} {j} h = omega (arith, h.in_old, h.in_new)

  pub here_after : {i j : ℕ} → Same w i j → Here w (i + 1) (j + 1)
  here_after {i} {j} h = record { before = h.before + 1; within = omega (arith, h.within); in_old = omega (arith, h.in_old); in_new = omega (arith, h.in_new) }

  pub lt_moved : {i i' j j' : ℕ} → Here w i i' → Here w j j' → nat_lt i' j' ≡ nat_lt i j
  lt_moved h g = rw (h.in_old, h.in_new, g.in_old, g.in_new) (lt_test from to h.before g.before)

  pub le_moved : {i i' j j' : ℕ} → Here w i i' → Here w j j' → nat_le i' j' ≡ nat_le i j
  le_moved h g = rw (h.in_old, h.in_new, g.in_old, g.in_new) (le_test from to h.before g.before)

  pub eq_moved : {i i' j j' : ℕ} (k : ℕ) → Here w i i' → Here w j j' → (j' == i' + k) ≡ (j == i + k)
  eq_moved k h g = rw (h.in_old, h.in_new, g.in_old, g.in_new) (eq_test from to h.before g.before k)

  -- ---- tokens

  token_moved : {n n' : ℕ} → Same w n n' → slice_get (tokens_of new) n' ≡ slice_get (tokens_of old) n
  token_moved h = rw (h.in_old, h.in_new) (each_same w h.before h.within)

  pub spelling_moved : {n n' : ℕ} → Same w n n' → spelling_of new n' ≡ spelling_of old n
  spelling_moved {n} {n'} h = (same_parts (slice_get old n) (slice_get new n') (sym (slice_get-map token_of new n') ∙ (token_moved h ∙ slice_get-map token_of old n))).1

  pub kind_moved : {n n' : ℕ} → Same w n n' → kind_of new n' ≡ kind_of old n
  kind_moved {n} {n'} h = (same_parts (slice_get old n) (slice_get new n') (sym (slice_get-map token_of new n') ∙ (token_moved h ∙ slice_get-map token_of old n))).0

  -- k tokens from the n-th on of those that are the same
  tokens_moved : (n k : ℕ) → n + k ≤ count → tokens_of (take k (drop (from + n) old)) ≡ tokens_of (take k (drop (to + n) new))
  tokens_moved n k l =
      let fewer : k ≤ count - n = omega (arith, l) in
      let rest = ap (take k) (rest_same w n (count - n) (omega (arith, l))) in
      tokens_of_range (from + n) k old ∙ (sym (take-take k (count - n) _ fewer)
      ∙ (rest ∙ (take-take k (count - n) _ fewer ∙ sym (tokens_of_range (to + n) k new))))

  span_moved : {i i' j j' : ℕ} → Here w i i' → Here w j j' → tokens_of (token_range old i j) ≡ tokens_of (token_range new i' j')
  span_moved h g =
      let a = h.before in
      let b = g.before in
      let l : a + (b - a) ≤ count = omega (arith, h.within, g.within) in
      let e : (from + b) - (from + a) ≡ b - a = omega arith in
      let e' : (to + b) - (to + a) ≡ b - a = omega arith in
      rw (h.in_old, h.in_new, g.in_old, g.in_new) (rw (e, e') (tokens_moved a (b - a) l))

  maybe_moved : (a k : ℕ) → (k ≡ 0) ⊎ ((a + 2) + k ≤ count) → tokens_of (take k (drop (from + a + 2) old)) ≡ tokens_of (take k (drop (to + a + 2) new))
  maybe_moved a k (inl z) = rw z refl
  maybe_moved a k (inr l) =
      let p : from + a + 2 ≡ from + (a + 2) = omega arith in
      let q : to + a + 2 ≡ to + (a + 2) = omega arith in
      rw (p, q) (tokens_moved (a + 2) k l)

  -- but for two at either end
  inner_moved : {i i' j j' : ℕ} → Here w i i' → Here w j j' → tokens_of (token_range old (i + 2) (j - 2)) ≡ tokens_of (token_range new (i' + 2) (j' - 2))
  inner_moved h g =
      let a = h.before in
      let b = g.before in
      let e : (from + b - 2) - (from + a + 2) ≡ b - a - 4 = omega arith in
      let e' : (to + b - 2) - (to + a + 2) ≡ b - a - 4 = omega arith in
      let c = within count a b h.within g.within in
      rw (h.in_old, h.in_new, g.in_old, g.in_new) (rw (e, e') (maybe_moved a (b - a - 4) c))

  pub trivia_moved : {i i' j j' : ℕ} → Here w i i' → Here w j j' → has_trivia (token_range new i' j') ≡ has_trivia (token_range old i j)
  trivia_moved h g = same_trivia _ _ (span_moved h g)

  pub break_moved : (comments : Bool) (depth : ℕ) {i i' j j' : ℕ} → Here w i i' → Here w j j'
      → has_line_break comments depth (token_range new i' j') ≡ has_line_break comments depth (token_range old i j)
  break_moved comments depth h g = same_break comments depth _ _ (span_moved h g)

  pub inner_break_moved : (comments : Bool) (depth : ℕ) {i i' j j' : ℕ} → Here w i i' → Here w j j'
      → has_line_break comments depth (token_range new (i' + 2) (j' - 2)) ≡ has_line_break comments depth (token_range old (i + 2) (j - 2))
  inner_break_moved comments depth h g = same_break comments depth _ _ (inner_moved h g)

  pub here_close_moved : {i i' j j' : ℕ} → Here w i i' → Here w j j' → i < j → is_here_close new (j' - 1) ≡ is_here_close old (j - 1)
  here_close_moved {i} {i'} {j} {j'} h g l =
      let s : Same w (j - 1) (j' - 1) = record {
        before = g.before - 1;
        within = omega (arith, l, h.in_old, g.in_old, g.within);
        in_old = omega (arith, l, h.in_old, g.in_old);
        in_new = omega (arith, l, h.in_old, g.in_old, g.in_new);
      } in
      ap is_here_close_kind (kind_moved s)
