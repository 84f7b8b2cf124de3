-- The parts of a text between its commas, one after another.
use Rattle.std.proofs.Common.{◌≡◌, ℕ, ◌<◌, ◌≤◌, ◌⊎◌, inl, inr, ◌+◌, suc, zero, Bool, true, false, not, cond, ◌==◌, ◌&&◌, ◌||◌, List, [], ◌∷◌, length, take, drop, refl, ap, ◌∙◌, sym, arith}
use Rattle.std.specs.Prelude.{if◌then◌else◌}
use Rattle.std.proofs.lemmas.List.{take_all}
use Rattle.std.proofs.lemmas.List.Sums.{prefix_len-le-length}
use Rattle.std.specs.List.{list_all, list_any}
use Rattle.tf_rules.specs.declared.rule.Rule.{Rule}
use Rattle.tf_findings.specs.declared.silencing.class.ByteClass.TheVariants.{NotComma}
use Rattle.tf_findings.specs.Inner.ByteCounts.{is_in_class, class_prefix_len, split_commas, cons_to_first, is_name, names_rule}

below : (n m : ℕ) → n ≤ m → (n < m) ⊎ (n ≡ m)
below zero zero h = inr refl
below zero (suc m) h = inl (omega arith)
below (suc n) zero h = absurd (omega (arith, h))
below (suc n) (suc m) h = elim (below n m (omega (arith, h))) [
  | inl less ↦ inl (omega (arith, less))
  | inr same ↦ inr (ap (λ k. suc k) same)
]

more_at : (c : Bool) (b : ℕ) (bs : List ℕ) (f : ℕ) → (f < length bs → split_commas bs ≡ take f bs ∷ split_commas (drop (f + 1) bs)) → cond (not c) (1 + f) 0 < suc (length bs)
    → (if c then [] ∷ split_commas bs else cons_to_first b (split_commas bs)) ≡ take (cond (not c) (1 + f) 0) (b ∷ bs) ∷ split_commas (drop (cond (not c) (1 + f) 0 + 1) (b ∷ bs))
more_at true b bs f ih h = refl
more_at false b bs f ih h =
    let e : 1 + f ≡ suc f = omega arith in
    let d : suc f + 1 ≡ suc (f + 1) = omega arith in
    rw (e, d, ih (omega (arith, h))) refl

pub split_more : (t : List ℕ) → class_prefix_len NotComma t < length t → split_commas t ≡ take (class_prefix_len NotComma t) t ∷ split_commas (drop (class_prefix_len NotComma t + 1) t)
split_more [] h = absurd (omega arith)
split_more (b ∷ bs) h = more_at (b == 44) b bs (class_prefix_len NotComma bs) (split_more bs) h

last_at : (c : Bool) (b : ℕ) (bs : List ℕ) (f : ℕ) → (f ≡ length bs → split_commas bs ≡ bs ∷ []) → cond (not c) (1 + f) 0 ≡ suc (length bs)
    → (if c then [] ∷ split_commas bs else cons_to_first b (split_commas bs)) ≡ (b ∷ bs) ∷ []
last_at true b bs f ih h = absurd (omega (arith, h))
last_at false b bs f ih h = rw (ih (omega (arith, h))) refl

pub split_last : (t : List ℕ) → class_prefix_len NotComma t ≡ length t → split_commas t ≡ t ∷ []
split_last [] h = refl
split_last (b ∷ bs) h = last_at (b == 44) b bs (class_prefix_len NotComma bs) (split_last bs) h

prefix_cases : (t : List ℕ) → (class_prefix_len NotComma t < length t) ⊎ (class_prefix_len NotComma t ≡ length t)
prefix_cases t = below (class_prefix_len NotComma t) (length t) (prefix_len-le-length (is_in_class NotComma) t)

or_assoc : (a b c : Bool) → (a || (b || c)) ≡ ((a || b) || c)
or_assoc true b c = refl
or_assoc false b c = refl

tidy : (a : Bool) → (true && (a || false)) ≡ a
tidy true = refl
tidy false = refl

-- all and any of a list whose first member is known, and is a name
known : (rule : Rule) (part : List ℕ) (parts : List (List ℕ)) (met : Bool) → is_name part ≡ true
    → (list_all is_name (part ∷ parts) && (met || list_any (names_rule rule) (part ∷ parts))) ≡ (list_all is_name parts && ((met || names_rule rule part) || list_any (names_rule rule) parts))
known rule part parts met e = rw (e, ← or_assoc met (names_rule rule part) (list_any (names_rule rule) parts)) refl

pub first_not : (rule : Rule) (t : List ℕ) (met : Bool) → is_name (take (class_prefix_len NotComma t) t) ≡ false
    → (list_all is_name (split_commas t) && (met || list_any (names_rule rule) (split_commas t))) ≡ false
first_not rule t met e = elim (prefix_cases t) [
  | inl more ↦ rw (split_more t more, e) refl
  | inr all ↦ rw (split_last t all, ← take_all (class_prefix_len NotComma t) t (omega (arith, all)), e) refl
]

pub last_one : (rule : Rule) (t : List ℕ) (met : Bool) → length t ≤ class_prefix_len NotComma t → is_name (take (class_prefix_len NotComma t) t) ≡ true
    → (list_all is_name (split_commas t) && (met || list_any (names_rule rule) (split_commas t))) ≡ (met || names_rule rule (take (class_prefix_len NotComma t) t))
last_one rule t met past e =
    let all : class_prefix_len NotComma t ≡ length t = omega (arith, past, prefix_len-le-length (is_in_class NotComma) t) in
    let same : take (class_prefix_len NotComma t) t ≡ t = take_all (class_prefix_len NotComma t) t past in
    let one : split_commas t ≡ take (class_prefix_len NotComma t) t ∷ [] = split_last t all ∙ ap (λ x. x ∷ []) (sym same) in
    ap (λ ps. list_all is_name ps && (met || list_any (names_rule rule) ps)) one ∙ (known rule (take (class_prefix_len NotComma t) t) [] met e ∙ tidy _)

pub one_more : (rule : Rule) (t : List ℕ) (met : Bool) → class_prefix_len NotComma t < length t → is_name (take (class_prefix_len NotComma t) t) ≡ true
    → (list_all is_name (split_commas t) && (met || list_any (names_rule rule) (split_commas t)))
    ≡ (list_all is_name (split_commas (drop (class_prefix_len NotComma t + 1) t)) && ((met || names_rule rule (take (class_prefix_len NotComma t) t)) || list_any (names_rule rule) (split_commas (drop (class_prefix_len NotComma t + 1) t))))
one_more rule t met more e = ap (λ ps. list_all is_name ps && (met || list_any (names_rule rule) ps)) (split_more t more)
    ∙ known rule (take (class_prefix_len NotComma t) t) (split_commas (drop (class_prefix_len NotComma t + 1) t)) met e
