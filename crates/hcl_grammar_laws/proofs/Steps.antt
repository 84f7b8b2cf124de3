-- What a parser answers at a derivation, step by step.
use Rattle.std.proofs.Common.{◌≡◌, ℕ, suc, ◌<◌, Bool, true, false, ◌&&◌, List, Option, Some, None, Ok, Err, nat_eq, refl, sym, ap, ap₂, ◌∙◌, arith, rules}
use Rattle.std.proofs.lemmas.Bool.Decides.{Decides-eqb}
use Rattle.std.proofs.lemmas.Slice.Eq.{slice_eq-Decides}
use Rattle.std.specs.Option.{option_map}
use Rattle.std.specs.Cmp.Lexicographic.{pointwise}
use denote.Enum.Bare.{same_true}
use Rattle.hcl_token.specs.contracts.kind.Kind.{the_type}
use Rattle.hcl_token.specs.declared.kind.Kind.{Kind}
use Rattle.hcl_token.specs.declared.kind.Kind.TheVariants as k
use Rattle.hcl_grammar.specs.declared.fault.TokenFault.TheVariants.{TooDeep}
use Rattle.hcl_grammar.specs.Tokens.{Token, next_token, next_kind, after_next, same_kind, is_kind, is_word}
use Rattle.hcl_grammar.specs.Pure.Reading.{Outcome, Step, and_then, next_is, after_if_next, expect, next_is_word, expect_word}
use Rattle.hcl_grammar.specs.Lookahead.{NextIs, NextIsWord}

-- The parser answers this value and goes on from j. Where fewer constructs may nest than do, it may find that too.
pub data Answers {A : Type 0} (d b : ℕ) (x : A) (j : ℕ) : Outcome A → Type 0 where
  found : Answers d b x j (Ok (x, j))
  deep : {at : ℕ} → b < d → Answers d b x j (Err (TooDeep at))

pub bind : {A B : Type 0} {d b : ℕ} {x : A} {j : ℕ} {y : B} {k : ℕ} {r : Outcome A} (f : A → Step B) → Answers d b x j r → Answers d b y k (f x j) → Answers d b y k (and_then r f)
bind f found h = h
bind f (deep l) h = deep l

pub deeper_found : {A : Type 0} {d b : ℕ} {x : A} {j : ℕ} {r : Outcome A} → Answers d b x j r → Answers (suc d) (suc b) x j r
deeper_found found = found
deeper_found (deep l) = deep (omega arith)

pub same-self : (t : Kind) → same_kind t t ≡ true
unfolding same_kind
same-self t = search rules

pub same-eq : (s t : Kind) → same_kind s t ≡ true → s ≡ t
unfolding same_kind
same-eq s t h = same_true the_type (search rules) s t h

pub sees-yes : (ts : List Token) (m : Bool) (t : Kind) (i : ℕ) → NextIs ts m t i → next_is ts m t i ≡ true
unfolding next_is
sees-yes ts m t i h = ap (λ o. is_kind o t) h ∙ same-self t

pub if_next-yes : (ts : List Token) (m : Bool) (t : Kind) (i : ℕ) → NextIs ts m t i → after_if_next ts m t i ≡ after_next ts m i
unfolding after_if_next
if_next-yes ts m t i h = rw (sees-yes ts m t i h)

pub if_next-no : (ts : List Token) (m : Bool) (t : Kind) (i : ℕ) → next_is ts m t i ≡ false → after_if_next ts m t i ≡ i
unfolding after_if_next
if_next-no ts m t i h = rw h

pub expect-yes : (ts : List Token) (m : Bool) (t : Kind) (i : ℕ) → NextIs ts m t i → expect ts m t i ≡ Ok (tt, after_next ts m i)
unfolding expect
expect-yes ts m t i h = rw (sees-yes ts m t i h)

-- ---- words

pub same_text-self : (w : List ℕ) → pointwise nat_eq w w ≡ true
same_text-self w = (slice_eq-Decides Decides-eqb w w _ refl).1 refl

pub same_text-eq : (v w : List ℕ) → pointwise nat_eq v w ≡ true → v ≡ w
same_text-eq v w h = (slice_eq-Decides Decides-eqb v w _ refl).0 h

pub word-is : (w : List ℕ) → is_word w (Some (k.Identifier, w)) ≡ true
word-is w = rw (same-self k.Identifier) (same_text-self w)

-- a word is an Identifier
pub word_at : (ts : List Token) (m : Bool) (w : List ℕ) (i : ℕ) → NextIsWord ts m w i → NextIs ts m k.Identifier i
unfolding next_kind
word_at ts m w i h = ap (λ o. option_map (λ (t : Token). t.0) o) h

pub reads-yes : (ts : List Token) (m : Bool) (w : List ℕ) (i : ℕ) → NextIsWord ts m w i → next_is_word ts m w i ≡ true
unfolding next_is_word
reads-yes ts m w i h = ap (is_word w) h ∙ word-is w

pub word-yes : (ts : List Token) (m : Bool) (w : List ℕ) (i : ℕ) → NextIsWord ts m w i → expect_word ts m w i ≡ Ok (tt, after_next ts m i)
unfolding expect_word
word-yes ts m w i h = rw (reads-yes ts m w i h)

-- the other way
pub is-word : (w : List ℕ) (o : Option Token) → is_word w o ≡ true → o ≡ Some (k.Identifier, w)
is-word w None h = absurd (let clash : false ≡ true = h in cc)
is-word w (Some t) h = go (same_kind t.0 k.Identifier) refl (pointwise nat_eq t.1 w) refl h
  where
    go : (a : Bool) → same_kind t.0 k.Identifier ≡ a → (b : Bool) → pointwise nat_eq t.1 w ≡ b → (a && b) ≡ true → Some t ≡ Some (k.Identifier, w)
    go true p true q e = let x : t.0 ≡ k.Identifier = same-eq t.0 k.Identifier p in let y : t.1 ≡ w = same_text-eq t.1 w q in ap₂ (λ (a : Kind) (b : List ℕ). Some (a, b)) x y
    go true p false q e = absurd (let clash : false ≡ true = e in cc)
    go false p b q e = absurd (let clash : false ≡ true = e in cc)

pub reads-word : (ts : List Token) (m : Bool) (w : List ℕ) (i : ℕ) → next_is_word ts m w i ≡ true → NextIsWord ts m w i
unfolding next_is_word
reads-word ts m w i h = is-word w (next_token ts m i) h

bool-no : (b : Bool) → (b ≡ true → ⊥) → b ≡ false
bool-no true h = absurd (h refl)
bool-no false h = refl

pub reads-no : (ts : List Token) (m : Bool) (w : List ℕ) (i : ℕ) → (NextIsWord ts m w i → ⊥) → next_is_word ts m w i ≡ false
reads-no ts m w i h = bool-no (next_is_word ts m w i) (λ e. h (reads-word ts m w i e))

-- a token that is no Identifier is no word
pub reads-other : (ts : List Token) (m : Bool) (w : List ℕ) (t : Kind) (i : ℕ) → NextIs ts m t i → same_kind k.Identifier t ≡ false → next_is_word ts m w i ≡ false
reads-other ts m w t i h e = reads-no ts m w i (λ x. let both : Some k.Identifier ≡ Some t = sym (word_at ts m w i x) ∙ h in let same : k.Identifier ≡ t = cc in let clash : true ≡ false = sym (same-self k.Identifier) ∙ ap (same_kind k.Identifier) same ∙ e in cc)

-- one word is not another
pub reads-another : (ts : List Token) (m : Bool) (v w : List ℕ) (i : ℕ) → NextIsWord ts m v i → pointwise nat_eq v w ≡ false → next_is_word ts m w i ≡ false
unfolding next_is_word
reads-another ts m v w i h e = ap (is_word w) h ∙ rw (same-self k.Identifier) e
