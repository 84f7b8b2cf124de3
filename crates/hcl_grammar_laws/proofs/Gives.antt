-- What a step of the parser gives, where it reads something: a rule is followed step by step.
use Rattle.std.proofs.Common.{◌≡◌, ◌≢◌, ℕ, Bool, true, false, if◌then◌else◌, List, [], ◌∷◌, ◌++◌, Option, Some, None, Ok, Err, refl, sym, ap, ◌∙◌, subst, append_assoc, append-nil}
use Rattle.hcl_token.specs.declared.kind.Kind.{Kind}
use Rattle.hcl_grammar.specs.declared.fault.TokenFault.{TokenFault}
use Rattle.hcl_grammar.specs.Tokens.{Token, next_kind, after_next, is_kind}
use Rattle.hcl_grammar.specs.Pure.Reading.{Outcome, Step, and_then, next_is, after_if_next, expect, next_is_word, expect_word}
use Rattle.hcl_grammar.specs.Lookahead.{NextIs, NextIsWord, NextIsNotWord}
use Rattle.hcl_grammar_laws.proofs.Steps.{same-eq, sees-yes, if_next-yes, if_next-no, reads-yes, reads-word}

-- P holds of what is read and of the place after it
pub data Gives {A : Type 0} (P : A → ℕ → Type 0) : Outcome A → Type 0 where
  read : {x : A} {j : ℕ} → P x j → Gives P (Ok (x, j))
  fault : {e : TokenFault} → Gives P (Err e)

pub given : {A : Type 0} {P : A → ℕ → Type 0} {o : Outcome A} {x : A} {j : ℕ} → Gives P o → o ≡ Ok (x, j) → P x j
given {A} {P} {x} {j} (read {x = y} {j = l} h) e =
    let same : (y, l) ≡ (x, j) = cc in
    subst (λ (p : A × ℕ). P p.0 p.1) same h
given fault e = absurd (cc)

pub implies : {A : Type 0} {P Q : A → ℕ → Type 0} {o : Outcome A} → Gives P o → ((x : A) (j : ℕ) → P x j → Q x j) → Gives Q o
implies (read {x} {j} h) more = read (more x j h)
implies fault more = fault

-- a step, and what follows it
pub next : {A B : Type 0} {P : A → ℕ → Type 0} {Q : B → ℕ → Type 0} {o : Outcome A} (f : A → Step B) → Gives P o → ((x : A) (j : ℕ) → P x j → Gives Q (f x j)) → Gives Q (and_then o f)
next f (read {x} {j} h) more = more x j h
next f fault more = fault

-- something is taken, or nothing is and the place stays
pub data Eats (T : ℕ → Type 0) (i : ℕ) : Bool → ℕ → Type 0 where
  taken : {j : ℕ} → T j → Eats T i true j
  untaken : Eats T i false i

pub then_taken : {B : Type 0} {T : ℕ → Type 0} {i : ℕ} {Q : B → ℕ → Type 0} {o : Outcome Bool} (f : Bool → Step B) → Gives (Eats T i) o → ((j : ℕ) → T j → Gives Q (f true j)) → Gives Q (f false i) → Gives Q (and_then o f)
then_taken f (read (taken {j} h)) more other = more j h
then_taken f (read untaken) more other = other
then_taken f fault more other = fault

pub data Finds {A : Type 0} (P : A → ℕ → Type 0) (i : ℕ) : Option A → ℕ → Type 0 where
  found : {x : A} {j : ℕ} → P x j → Finds P i (Some x) j
  unfound : Finds P i None i

pub then_found : {A B : Type 0} {P : A → ℕ → Type 0} {i : ℕ} {Q : B → ℕ → Type 0} {o : Outcome (Option A)} (f : Option A → Step B) → Gives (Finds P i) o → ((x : A) (j : ℕ) → P x j → Gives Q (f (Some x) j)) → Gives Q (f None i) → Gives Q (and_then o f)
then_found f (read (found {x} {j} h)) more other = more x j h
then_found f (read unfound) more other = other
then_found f fault more other = fault

-- ---- lists

-- what is found is added to a list
pub data Extends {A : Type 0} (P : List A → ℕ → Type 0) (acc : List A) : List A → ℕ → Type 0 where
  extended : {xs : List A} {j : ℕ} → P xs j → Extends P acc (acc ++ xs) j

pub then_extended : {A B : Type 0} {P : List A → ℕ → Type 0} {acc : List A} {Q : B → ℕ → Type 0} {o : Outcome (List A)} (f : List A → Step B) → Gives (Extends P acc) o → ((xs : List A) (j : ℕ) → P xs j → Gives Q (f (acc ++ xs) j)) → Gives Q (and_then o f)
then_extended f (read (extended {xs} {j} h)) more = more xs j h
then_extended f fault more = fault

-- the list from its start on
pub whole_list : {A : Type 0} {P : List A → ℕ → Type 0} {o : Outcome (List A)} → Gives (Extends P []) o → Gives P o
whole_list (read (extended h)) = read h
whole_list fault = fault

pub no_more : {A : Type 0} {P : List A → ℕ → Type 0} (acc : List A) {j : ℕ} → P [] j → Extends P acc acc j
no_more {P} acc {j} h = subst (λ ys. Extends P acc ys j) (append-nil acc) (extended h)

pub one_more : {A : Type 0} {P Q : List A → ℕ → Type 0} (acc : List A) (x : A) {o : Outcome (List A)} → ((xs : List A) (j : ℕ) → P xs j → Q (x ∷ xs) j) → Gives (Extends P (acc ++ x ∷ [])) o → Gives (Extends Q acc) o
one_more {Q} acc x more (read {j = l} (extended {xs} {j} h)) = read (subst (λ ys. Extends Q acc ys j) (sym (append_assoc acc (x ∷ []) xs)) (extended (more xs j h)))
one_more acc x more fault = fault

-- ---- tokens

pub sees-true : (ts : List Token) (m : Bool) (t : Kind) (i : ℕ) → next_is ts m t i ≡ true → NextIs ts m t i
unfolding next_is
sees-true ts m t i h = go (next_kind ts m i) refl
  where
    go : (o : Option Kind) → next_kind ts m i ≡ o → next_kind ts m i ≡ Some t
    go None e = absurd (let clash : false ≡ true = sym (ap (λ o. is_kind o t) e) ∙ h in cc)
    go (Some u) e = e ∙ ap Some (same-eq u t (sym (ap (λ o. is_kind o t) e) ∙ h))

pub unseen : (ts : List Token) (m : Bool) (t : Kind) (i : ℕ) → next_is ts m t i ≡ false → next_kind ts m i ≢ Some t
unseen ts m t i h e = let clash : true ≡ false = sym (sees-yes ts m t i e) ∙ h in cc

-- a token that is all that is expected
pub expected : {P : Unit {0} → ℕ → Type 0} (ts : List Token) (m : Bool) (t : Kind) (i : ℕ) → (NextIs ts m t i → P tt (after_next ts m i)) → Gives P (expect ts m t i)
unfolding expect
expected {P} ts m t i x = by (next_is ts m t i) refl
  where
    by : (b : Bool) → next_is ts m t i ≡ b → Gives P (expect ts m t i)
    by true e = rw e (read (x (sees-true ts m t i e)))
    by false e = rw e fault

module _ (ts : List Token) {B : Type 0} {Q : B → ℕ → Type 0} where
  pub branch : (b : Bool) (i : ℕ) (f g : Step B) → (b ≡ true → Gives Q (f i)) → (b ≡ false → Gives Q (g i)) → Gives Q ((if b then f else g) i)
  branch true i f g x y = x refl
  branch false i f g x y = y refl

  -- a token of this kind is taken, if it comes next
  pub eat_then : (m : Bool) (t : Kind) (i : ℕ) (f : Bool → Step B) → (NextIs ts m t i → Gives Q (f true (after_next ts m i))) → (next_kind ts m i ≢ Some t → Gives Q (f false i))
      → Gives Q (f (next_is ts m t i) (after_if_next ts m t i))
  eat_then m t i f x y = by (next_is ts m t i) refl
    where
      by : (b : Bool) → next_is ts m t i ≡ b → Gives Q (f (next_is ts m t i) (after_if_next ts m t i))
      by true e = let h = sees-true ts m t i e in rw (e, if_next-yes ts m t i h) (x h)
      by false e = rw (e, if_next-no ts m t i e) (y (unseen ts m t i e))

  pub eat_or : (m : Bool) (t : Kind) (i : ℕ) (f g : Step B) → (NextIs ts m t i → Gives Q (f (after_next ts m i))) → (next_kind ts m i ≢ Some t → Gives Q (g i))
      → Gives Q ((if next_is ts m t i then f else g) (after_if_next ts m t i))
  eat_or m t i f g = eat_then m t i (λ b. if b then f else g)

  pub expect_then : (m : Bool) (t : Kind) (i : ℕ) (f : Unit {0} → Step B) → (NextIs ts m t i → Gives Q (f tt (after_next ts m i))) → Gives Q (and_then (expect ts m t i) f)
  unfolding expect
  expect_then m t i f x = by (next_is ts m t i) refl
    where
      by : (b : Bool) → next_is ts m t i ≡ b → Gives Q (and_then (expect ts m t i) f)
      by true e = rw e (x (sees-true ts m t i e))
      by false e = rw e fault

  pub word_or : (m : Bool) (w : List ℕ) (n i : ℕ) (f g : Step B) → (NextIsWord ts m w n → Gives Q (f i)) → (NextIsNotWord ts m w n → Gives Q (g i)) → Gives Q ((if next_is_word ts m w n then f else g) i)
  word_or m w n i f g x y = branch (next_is_word ts m w n) i f g (λ e. x (reads-word ts m w n e)) (λ e. y (λ h. let clash : true ≡ false = sym (reads-yes ts m w n h) ∙ e in cc))

  pub word_then : (m : Bool) (w : List ℕ) (i : ℕ) (f : Unit {0} → Step B) → (NextIsWord ts m w i → Gives Q (f tt (after_next ts m i))) → Gives Q (and_then (expect_word ts m w i) f)
  unfolding expect_word
  word_then m w i f x = by (next_is_word ts m w i) refl
    where
      by : (b : Bool) → next_is_word ts m w i ≡ b → Gives Q (and_then (expect_word ts m w i) f)
      by true e = rw e (x (reads-word ts m w i e))
      by false e = rw e fault
