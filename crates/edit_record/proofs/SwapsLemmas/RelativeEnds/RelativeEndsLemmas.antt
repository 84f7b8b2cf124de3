-- Runs of edits by halves.
use Rattle.std.proofs.Common.{◌≡◌, ℕ, zero, suc, ◌+◌, ◌-◌, ◌/◌, ◌≤◌, ◌<◌, List, [], ◌∷◌, ◌++◌, length, map, take, drop, get_or, refl, arith, sym, ap, ◌∙◌, subst, length-append}
use Rattle.std.specs.List.{AllByRecursion}
use Rattle.std.proofs.lemmas.List.{length-take-le, length-drop, length-map, map-append, drop_more, take_all}
use Rattle.edit_record.specs.declared.swaps.relative_ends.EndOffset.{EndOffset}
use Rattle.edit_record.specs.Swaps.Inner.RelativeEnds.{plus, no_offset, ends, ends_of}

-- a run with a middle
pub record Halved (run : List EndOffset) (x : EndOffset) : Type 0 where
  pub middle_lt : length run / 2 < length run
  pub middle_is : drop (length run / 2) run ≡ x ∷ drop (length run / 2 + 1) run
  pub left_len : length (take (length run / 2) run) ≡ length run / 2
  pub right_len : length (drop (length run / 2 + 1) run) + length run / 2 + 1 ≡ length run

half_lt : (n : ℕ) → 0 < n → n / 2 < n
half_lt n lt = omega (arith, lt)

pub halved_or : (run : List EndOffset) (d : EndOffset) → 0 < length run → Halved run (get_or run (length run / 2) d)
halved_or run d lt =
    let h = half_lt (length run) lt in
    let e = length-drop (length run / 2 + 1) run in
    record {
      middle_lt = h;
      middle_is = drop_more run (length run / 2) d h;
      left_len = length-take-le (length run / 2) run (omega (arith, h));
      right_len = omega (arith, e, h);
    }

pub halved : (run : List EndOffset) (x : EndOffset) → 0 < length run → x ≡ get_or run (length run / 2) x → Halved run x
halved run x lt is = subst (λ (y : EndOffset). Halved run y) (sym is) (halved_or run x lt)

ends_nil : (n : ℕ) → ends n [] ≡ []
ends_nil zero = refl
ends_nil (suc n) = refl

pub ends_step : (n : ℕ) (run : List EndOffset) (x : EndOffset) → Halved run x → ends (suc n) run ≡ ends n (take (length run / 2) run) ++ x ∷ map (plus x) (ends n (drop (length run / 2 + 1) run))
ends_step n run x h =
    ap (λ (rest : List EndOffset). elim rest [ [] ↦ [] | y ∷ right ↦ ends n (take (length run / 2) run) ++ y ∷ map (plus y) (ends n right) ]) h.middle_is

-- more halvings than there are edits change nothing
fuel : (n k : ℕ) (run : List EndOffset) → length run ≤ n → length run ≤ k → ends n run ≡ ends k run
fuel n k [] l m = ends_nil n ∙ sym (ends_nil k)
fuel zero k (y ∷ ys) l m = absurd (omega (arith, l))
fuel (suc n) zero (y ∷ ys) l m = absurd (omega (arith, m))
fuel (suc n) (suc k) (y ∷ ys) l m =
    let run : List EndOffset = y ∷ ys in
    let x : EndOffset = get_or run (length run / 2) y in
    let h : Halved run x = halved_or run y (omega arith) in
    let a = h.left_len in let b = h.right_len in let c = h.middle_lt in
    let p = fuel n k (take (length run / 2) run) (omega (arith, a, c, l)) (omega (arith, a, c, m)) in
    let q = fuel n k (drop (length run / 2 + 1) run) (omega (arith, b, l)) (omega (arith, b, m)) in
    ends_step n run x h ∙ (λ i. p i ++ x ∷ map (plus x) (q i)) ∙ sym (ends_step k run x h)

pub ends_half : (run : List EndOffset) (x : EndOffset) → Halved run x → ends_of run ≡ ends_of (take (length run / 2) run) ++ x ∷ map (plus x) (ends_of (drop (length run / 2 + 1) run))
ends_half run x h =
    let a = h.left_len in let b = h.right_len in let c = h.middle_lt in
    let p = fuel (length run) (length (take (length run / 2) run)) (take (length run / 2) run) (omega (arith, a, c)) (omega arith) in
    let q = fuel (length run) (length (drop (length run / 2 + 1) run)) (drop (length run / 2 + 1) run) (omega (arith, b)) (omega arith) in
    fuel (length run) (suc (length run)) run (omega arith) (omega arith) ∙ ends_step (length run) run x h ∙ (λ i. p i ++ x ∷ map (plus x) (q i))

ends_len_at : (n : ℕ) (run : List EndOffset) → length run ≤ n → length (ends n run) ≡ length run
ends_len_at n [] l = ap length (ends_nil n)
ends_len_at zero (y ∷ ys) l = absurd (omega (arith, l))
ends_len_at (suc n) (y ∷ ys) l =
    let run : List EndOffset = y ∷ ys in
    let x : EndOffset = get_or run (length run / 2) y in
    let h : Halved run x = halved_or run y (omega arith) in
    let a = h.left_len in let b = h.right_len in let c = h.middle_lt in
    let left = ends n (take (length run / 2) run) in
    let right = ends n (drop (length run / 2 + 1) run) in
    let p = ends_len_at n (take (length run / 2) run) (omega (arith, a, c, l)) in
    let q = ends_len_at n (drop (length run / 2 + 1) run) (omega (arith, b, l)) in
    let s = length-append left (x ∷ map (plus x) right) in
    let t = length-map right (plus x) in
    ap length (ends_step n run x h) ∙ omega (arith, p, q, s, t, a, b)

pub ends_len : (run : List EndOffset) → length (ends_of run) ≡ length run
ends_len run = ends_len_at (length run) run (omega arith)

-- ---- lists of places

pub one_reach : (a b : EndOffset) → a.old ≡ b.old → a.new ≡ b.new → a ≡ b
one_reach a b p q = λ i. record { old = p i; new = q i }

pub beyond_assoc : (a b c : EndOffset) → plus (plus a b) c ≡ plus a (plus b c)
beyond_assoc a b c = one_reach _ _ (omega arith) (omega arith)

pub from_nowhere : (es : List EndOffset) → map (plus no_offset) es ≡ es
from_nowhere [] = refl
from_nowhere (e ∷ es) =
    let p : plus no_offset e ≡ e = one_reach _ _ (omega arith) (omega arith) in
    let q = from_nowhere es in
    λ i. p i ∷ q i

pub beyond_both : (a b : EndOffset) (es : List EndOffset) → map (plus a) (map (plus b) es) ≡ map (plus (plus a b)) es
beyond_both a b [] = refl
beyond_both a b (e ∷ es) = let p = sym (beyond_assoc a b e) in let q = beyond_both a b es in λ i. p i ∷ q i

-- a run in its two parts and the middle
pub record Halves (left before : List EndOffset) (x : EndOffset) (following : List EndOffset) : Type 0 where
  pub parts : ends_of left ≡ ends_of before ++ x ∷ map (plus x) (ends_of following)
  pub lens : length left ≡ length before + 1 + length following

pub in_halves : (run : List EndOffset) (x : EndOffset) → Halved run x → Halves run (take (length run / 2) run) x (drop (length run / 2 + 1) run)
in_halves run x h = let a = h.left_len in let b = h.right_len in record { parts = ends_half run x h; lens = omega (arith, a, b) }

-- as a split and a pattern give them
pub split_halves : (left before rest : List EndOffset) → before ≡ take (length left / 2) left → rest ≡ drop (length left / 2) left → 0 < length rest
    → Halves left before (get_or rest 0 no_offset) (take (length rest - 1) (drop 1 rest))
split_halves left before rest b r lt =
    let l = length-drop (length left / 2) left in
    let n = ap length r in
    let h = halved_or left no_offset (omega (arith, l, n, lt)) in
    let x = get_or left (length left / 2) no_offset in
    let following = drop (length left / 2 + 1) left in
    let whole : rest ≡ x ∷ following = r ∙ h.middle_is in
    let m : drop 1 (x ∷ following) ≡ following = refl in
    let k = ap length whole in
    let all : take (length rest - 1) following ≡ following = take_all (length rest - 1) following (omega (arith, k)) in
    let back : take (length rest - 1) (drop 1 rest) ≡ following = ap (λ (z : List EndOffset). take (length rest - 1) (drop 1 z)) whole ∙ all in
    let item : get_or rest 0 no_offset ≡ x = ap (λ (z : List EndOffset). get_or z 0 no_offset) whole in
    let g = in_halves left x h in
    subst (λ (z : List EndOffset). Halves left z (get_or rest 0 no_offset) (take (length rest - 1) (drop 1 rest))) (sym b)
    (subst (λ (z : EndOffset). Halves left (take (length left / 2) left) z (take (length rest - 1) (drop 1 rest))) (sym item)
    (subst (λ (z : List EndOffset). Halves left (take (length left / 2) left) x z) (sym back) g))

-- a run after a place, halved
pub halves_beyond : (last : EndOffset) (left before : List EndOffset) (x : EndOffset) (following : List EndOffset) → Halves left before x following
    → map (plus last) (ends_of left) ≡ map (plus last) (ends_of before) ++ plus last x ∷ map (plus (plus last x)) (ends_of following)
halves_beyond last left before x following h =
    let l = ends_of before in
    let r = ends_of following in
    ap (map (plus last)) h.parts ∙ map-append (plus last) l (x ∷ map (plus x) r) ∙ ap (λ (z : List EndOffset). map (plus last) l ++ plus last x ∷ z) (beyond_both last x r)

pub all_left : {X : Type 0} (P : X → Type 0) (xs ys : List X) → AllByRecursion P (xs ++ ys) → AllByRecursion P xs
all_left P [] ys h = tt
all_left P (x ∷ xs) ys h = (h.0, all_left P xs ys h.1)

pub all_right : {X : Type 0} (P : X → Type 0) (xs ys : List X) → AllByRecursion P (xs ++ ys) → AllByRecursion P ys
all_right P [] ys h = h
all_right P (x ∷ xs) ys h = all_right P xs ys h.1

pub all_both : {X : Type 0} (P : X → Type 0) (xs ys : List X) → AllByRecursion P xs → AllByRecursion P ys → AllByRecursion P (xs ++ ys)
all_both P [] ys h k = k
all_both P (x ∷ xs) ys h k = (h.0, all_both P xs ys h.1 k)
