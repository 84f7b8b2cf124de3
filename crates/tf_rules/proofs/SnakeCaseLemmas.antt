-- The loop over the bytes of a name accepts exactly the names of the definition.
use Rattle.std.proofs.Common.{◌≡◌, ◌≤◌, ◌<◌, rules, ℕ, zero, suc, ◌+◌, ◌-◌, Bool, true, false, not, ◌&&◌, ◌||◌, ◌==◌, List, [], ◌∷◌, length, drop, slice_index, refl, sym, ap, subst, ◌∙◌, inl, inr, arith, if◌then◌else◌}
use Rattle.std.proofs.lemmas.Bool.{cases_lt}
use Rattle.std.proofs.lemmas.List.{drop_more}
use Rattle.std.specs.Prelude.{nat_le}
use Rattle.std.specs.List.{list_all}
use Rattle.tf_rules.specs.SnakeCase.{is_lower, is_lower_or_digit, is_group, add_to_first, split_underscores, is_snake_case}
use Rattle.tf_rules.specs.Inner.SnakeCaseRest.{is_valid_next, is_valid_rest, AreValid}

-- what the groups after a byte are, if that byte is an underscore or not: the first one goes on
abbrev groups_after : Bool → List (List ℕ) → Bool
groups_after true gs = list_all is_group gs
groups_after false [] = true
groups_after false (g ∷ gs) = list_all is_lower_or_digit g && list_all is_group gs

and_assoc : (a b c : Bool) → ((a && b) && c) ≡ (a && (b && c))
and_assoc true b c = refl
and_assoc false b c = refl

and_true : (a : Bool) → ((a && true) && true) ≡ (a && true)
and_true true = refl
and_true false = refl

or_false : (a : Bool) → (a || false) ≡ a
or_false true = refl
or_false false = refl

groups_add_to_first : (after : Bool) (c : ℕ) (gs : List (List ℕ)) → groups_after after (add_to_first c gs) ≡ (is_lower_or_digit c && groups_after false gs)
groups_add_to_first true c [] = and_true (is_lower_or_digit c)
groups_add_to_first true c (g ∷ gs) = and_assoc (is_lower_or_digit c) (list_all is_lower_or_digit g) (list_all is_group gs)
groups_add_to_first false c [] = and_true (is_lower_or_digit c)
groups_add_to_first false c (g ∷ gs) = and_assoc (is_lower_or_digit c) (list_all is_lower_or_digit g) (list_all is_group gs)

at_byte : (here after : Bool) (c : ℕ) (cs : List ℕ) → (c == 95) ≡ here → ((b : Bool) → is_valid_rest b cs ≡ groups_after b (split_underscores cs))
    → ((is_lower_or_digit c || (here && not after)) && is_valid_rest here cs) ≡ groups_after after (if here then [] ∷ split_underscores cs else add_to_first c (split_underscores cs))
at_byte true true c cs e more = let same : c ≡ 95 = search rules in rw same refl
at_byte true false c cs e more = let same : c ≡ 95 = search rules in rw same (more true)
at_byte false after c cs e more =
    ap (λ b. b && is_valid_rest false cs) (or_false (is_lower_or_digit c))
    ∙ (ap (λ b. is_lower_or_digit c && b) (more false) ∙ sym (groups_add_to_first after c (split_underscores cs)))

rest_groups : (after : Bool) (cs : List ℕ) → is_valid_rest after cs ≡ groups_after after (split_underscores cs)
rest_groups true [] = refl
rest_groups false [] = refl
rest_groups after (c ∷ cs) = at_byte (c == 95) after c cs refl (λ b. rest_groups b cs)

first_byte : (here : Bool) (c : ℕ) (cs : List ℕ) → (c == 95) ≡ here → is_lower c ≡ true
    → is_valid_rest false cs ≡ list_all is_group (if here then [] ∷ split_underscores cs else add_to_first c (split_underscores cs))
first_byte true c cs e lower = let same : c ≡ 95 = search rules in absurd (cc (same, lower))
first_byte false c cs e lower =
    rest_groups false cs
    ∙ sym (groups_add_to_first true c (split_underscores cs) ∙ ap (λ b. (b || (nat_le 48 c && nat_le c 57)) && groups_after false (split_underscores cs)) lower)

if_lower : (b : Bool) (c : ℕ) (cs : List ℕ) → is_lower c ≡ b → (b && is_valid_rest false cs) ≡ (b && list_all is_group (split_underscores (c ∷ cs)))
if_lower false c cs e = refl
if_lower true c cs e = first_byte (c == 95) c cs refl e

pub snake_case_rest : (c : ℕ) (cs : List ℕ) → (is_lower c && is_valid_rest false cs) ≡ is_snake_case (c ∷ cs)
snake_case_rest c cs = if_lower (is_lower c) c cs refl

-- the first byte is no underscore
no_underscore : (here : Bool) (c : ℕ) (cs : List ℕ) → (c == 95) ≡ here → is_lower c ≡ true → is_valid_rest here cs ≡ is_valid_rest false cs
no_underscore true c cs e lower = let same : c ≡ 95 = search rules in absurd (cc (same, lower))
no_underscore false c cs e lower = refl

both : (b : Bool) (c : ℕ) (cs : List ℕ) → is_lower c ≡ b → (b && is_valid_rest (c == 95) cs) ≡ (b && is_valid_rest false cs)
both false c cs e = refl
both true c cs e = no_underscore (c == 95) c cs refl e

pub snake_case_next : (c : ℕ) (cs : List ℕ) → (is_lower c && is_valid_rest (c == 95) cs) ≡ is_snake_case (c ∷ cs)
snake_case_next c cs = both (is_lower c) c cs refl ∙ snake_case_rest c cs

-- ---- bytes that may come one after the other

-- what is left from a place on, after the byte before it
abbrev pub valid_from : List ℕ → ℕ → Bool
valid_from name at = is_valid_rest (slice_index name (at - 1) == 95) (drop at name)

pub none_valid : (name : List ℕ) (from : ℕ) → AreValid name from from
none_valid name from = record { each = λ n below above. absurd (omega (arith, below, above)) }

pub joined_valid : (name : List ℕ) (from middle to : ℕ) → AreValid name from middle → AreValid name middle to → AreValid name from to
joined_valid name from middle to a b = record {
  each = λ n below above. elim (cases_lt n middle) [
    | inl l ↦ a.each n below l
    | inr more ↦ b.each n (omega (arith, more)) above
  ];
}

pub one_more_valid : (name : List ℕ) (from i : ℕ) → AreValid name from i → is_valid_next (slice_index name (i - 1) == 95) (slice_index name i) ≡ true → AreValid name from (i + 1)
one_more_valid name from i a h = record { each = λ n below above. by_place n below above }
  where
    by_place : (n : ℕ) → from ≤ n → n < i + 1 → is_valid_next (slice_index name (n - 1) == 95) (slice_index name n) ≡ true
    by_place n below above = elim (cases_lt n i) [
      | inl l ↦ a.each n below l
      | inr more ↦ let e : i ≡ n = omega (arith, above, more) in subst (λ (m : ℕ). is_valid_next (slice_index name (m - 1) == 95) (slice_index name m) ≡ true) e h
    ]

one_passed : (name : List ℕ) (at : ℕ) → at < length name → is_valid_next (slice_index name (at - 1) == 95) (slice_index name at) ≡ true → valid_from name at ≡ valid_from name (at + 1)
one_passed name at within h =
    let back : at ≡ at + 1 - 1 = omega arith in
    ap (is_valid_rest (slice_index name (at - 1) == 95)) (drop_more name at 0 within)
    ∙ (ap (λ b. b && is_valid_rest (slice_index name at == 95) (drop (at + 1) name)) h
    ∙ ap (λ n. is_valid_rest (slice_index name n == 95) (drop (at + 1) name)) back)

passed : (name : List ℕ) (count from : ℕ) → from + count ≤ length name → AreValid name from (from + count) → valid_from name from ≡ valid_from name (from + count)
passed name zero from within a = let e : from ≡ from + zero = omega arith in ap (valid_from name) e
passed name (suc count) from within a =
    let e : from + 1 + count ≡ from + suc count = omega arith in
    one_passed name from (omega (arith, within)) (a.each from (omega arith) (omega arith))
    ∙ (passed name count (from + 1) (omega (arith, within)) (record { each = λ n below above. a.each n (omega (arith, below)) (omega (arith, above, e)) })
    ∙ ap (valid_from name) e)

pub all_passed : (name : List ℕ) (from to : ℕ) → from ≤ to → to ≤ length name → AreValid name from to → valid_from name from ≡ valid_from name to
all_passed name from to order within a =
    let e : from + (to - from) ≡ to = omega (arith, order) in
    passed name (to - from) from (omega (arith, within, e)) (subst (AreValid name from) (sym e) a) ∙ ap (valid_from name) e

-- those from a place on that is not beyond `middle`
pub later_valid : (name : List ℕ) (from middle to : ℕ) → from ≤ middle → AreValid name from to → AreValid name middle to
later_valid name from middle to order a = record { each = λ n below above. a.each n (omega (arith, order, below)) above }

pub up_to : (name : List ℕ) (from to other : ℕ) → to ≡ other → AreValid name from to → AreValid name from other
up_to name from to other e a = subst (AreValid name from) e a

-- a name that begins with a lower-case letter
pub snake_case_is : (name : List ℕ) → 1 ≤ length name → is_lower (slice_index name 0) ≡ true → valid_from name 1 ≡ is_snake_case name
snake_case_is [] some lower = absurd (omega (arith, some))
snake_case_is (c ∷ cs) some lower = ap (λ b. b && is_valid_rest (c == 95) cs) (sym lower) ∙ snake_case_next c cs
