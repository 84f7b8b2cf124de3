-- Lists of tokens in which the same comes next everywhere, and the places that follow from it.
use Rattle.std.proofs.Common.{◌≡◌, ◌≢◌, ◌==◌, ℕ, suc, Bool, List, Option, length, if◌then◌else◌, sym, ap, subst, ◌∙◌}
use Rattle.hcl_token.specs.declared.kind.Kind.{Kind}
use Rattle.hcl_grammar.specs.Lookahead.{NextIs, NextIsWord, NextIsNotWord}
use Rattle.hcl_grammar.specs.Tokens.{Token, next_index, next_kind, after_next, first_token_in}

-- Everywhere the same kind of token comes next, as token of the same number, and the same words do.
pub record Alike (ts us : List Token) : Type 0 where
  pub starts : (m : Bool) (i : ℕ) → next_index us m i ≡ next_index ts m i
  pub nexts : (m : Bool) (i : ℕ) → next_kind us m i ≡ next_kind ts m i
  pub words : (m : Bool) (w : List ℕ) (i : ℕ) → NextIsWord ts m w i → NextIsWord us m w i
  pub others : (m : Bool) (w : List ℕ) (i : ℕ) → NextIsNotWord ts m w i → NextIsNotWord us m w i
  pub lengths : length us ≡ length ts

module _ {ts us : List Token} (h : Alike ts us) where
  -- numbers of tokens, and the places after one token, two, three
  pub s0 : (m : Bool) (i : ℕ) → next_index ts m i ≡ next_index us m i
  s0 m i = sym (h.starts m i)

  pub a1 : (m : Bool) (i : ℕ) → after_next ts m i ≡ after_next us m i
  unfolding after_next
  a1 m i = ap suc (s0 m i)

  pub a2 : (m n : Bool) (i : ℕ) → after_next ts m (after_next ts n i) ≡ after_next us m (after_next us n i)
  a2 m n i = a1 m (after_next ts n i) ∙ ap (after_next us m) (a1 n i)

  pub a3 : (m n o : Bool) (i : ℕ) → after_next ts m (after_next ts n (after_next ts o i)) ≡ after_next us m (after_next us n (after_next us o i))
  a3 m n o i = a1 m (after_next ts n (after_next ts o i)) ∙ ap (after_next us m) (a2 n o i)

  pub s1 : (m n : Bool) (i : ℕ) → next_index ts m (after_next ts n i) ≡ next_index us m (after_next us n i)
  s1 m n i = s0 m (after_next ts n i) ∙ ap (next_index us m) (a1 n i)

  pub first0 : (m : Bool) (i j : ℕ) → first_token_in ts m i j ≡ first_token_in us m i j
  unfolding first_token_in
  first0 m i j = ap (λ n. if i == j then i else n) (s0 m i)

  pub first1 : (m n : Bool) (i j : ℕ) → first_token_in ts m (after_next ts n i) j ≡ first_token_in us m (after_next us n i) j
  first1 m n i j = first0 m (after_next ts n i) j ∙ ap (λ x. first_token_in us m x j) (a1 n i)

  -- what comes next there
  pub at0 : {t : Kind} (m : Bool) (i : ℕ) → NextIs ts m t i → NextIs us m t i
  at0 m i p = h.nexts m i ∙ p

  pub at1 : {t : Kind} (m n : Bool) (i : ℕ) → NextIs ts m t (after_next ts n i) → NextIs us m t (after_next us n i)
  at1 {t} m n i p = subst (NextIs us m t) (a1 n i) (at0 m (after_next ts n i) p)

  pub at2 : {t : Kind} (m n o : Bool) (i : ℕ) → NextIs ts m t (after_next ts n (after_next ts o i)) → NextIs us m t (after_next us n (after_next us o i))
  at2 {t} m n o i p = subst (NextIs us m t) (a2 n o i) (at0 m (after_next ts n (after_next ts o i)) p)

  pub not1 : {o : Option Kind} (m n : Bool) (i : ℕ) → next_kind ts m (after_next ts n i) ≢ o → next_kind us m (after_next us n i) ≢ o
  not1 m n i p = λ e. p (sym (ap (next_kind us m) (sym (a1 n i)) ∙ h.nexts m (after_next ts n i)) ∙ e)

  pub is0 : {o : Option Kind} (m : Bool) (i : ℕ) → next_kind ts m i ≡ o → next_kind us m i ≡ o
  is0 m i p = h.nexts m i ∙ p

  pub is1 : {o : Option Kind} (m n : Bool) (i : ℕ) → next_kind ts m (after_next ts n i) ≡ o → next_kind us m (after_next us n i) ≡ o
  is1 {o} m n i p = subst (λ x. next_kind us m x ≡ o) (a1 n i) (is0 m (after_next ts n i) p)

  pub word1 : (m n : Bool) (w : List ℕ) (i : ℕ) → NextIsWord ts m w (after_next ts n i) → NextIsWord us m w (after_next us n i)
  word1 m n w i p = subst (NextIsWord us m w) (a1 n i) (h.words m w (after_next ts n i) p)

  pub other1 : (m n : Bool) (w : List ℕ) (i : ℕ) → NextIsNotWord ts m w (after_next ts n i) → NextIsNotWord us m w (after_next us n i)
  other1 m n w i p = subst (NextIsNotWord us m w) (a1 n i) (h.others m w (after_next ts n i) p)
