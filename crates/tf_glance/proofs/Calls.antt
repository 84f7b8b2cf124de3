-- Calls, by their names and their arguments.
use Rattle.std.proofs.Common.{◌≡◌, ℕ, not, ◌&&◌, Bool, true, false, List, [], ◌∷◌, ◌++◌, Option, None, refl, rules, subst}
use Rattle.hcl_grammar.specs.Nodes as node
use Rattle.hcl_grammar.specs.declared.tree.Call.{Call, out-Call, roll-Call}
use Rattle.hcl_grammar.specs.declared.tree.Expr.{Expr}
use Rattle.hcl_grammar.specs.declared.tree.ExprKind.TheViews.{the_lemmas}
use Rattle.hcl_grammar_laws.proofs.Opens.{open_call, call_names, call_arguments}
use Rattle.hcl_token.specs.Tokens.{Pair}
use Rattle.tf_glance.proofs.Expressions.{left, right, refuted, ExprsOf, TermOf, plain_term}
use Rattle.tf_glance.specs.Inner.Summary.{plain_if}
use Rattle.tf_rules.specs.Arguments.{sole_name}
use Rattle.tf_rules.specs.Rules.{may_find_at_call}
use Rattle.tf_rules.specs.Summaries.{is_clean_count, count_of}
use Rattle.tf_rules.specs.declared.role.Role.TheVariants.{Argument}
use Rattle.tf_rules.specs.declared.summary.Count.{Count}
use Rattle.tf_rules_laws.proofs.Rules.{none_at_call}

abbrev the_call : List ℕ → List Expr → Bool → Call
the_call ns es more = roll-Call (record { names = ns; arguments = es; expand_final = more })

call_expands : (a : List ℕ) (b : List Expr) (c : Bool) → (out-Call (the_call a b c)).expand_final ≡ c
call_expands a b c = search (rules, the_lemmas)

abbrev is_named : List ℕ → Bool
is_named [] = false
is_named (n ∷ ns) = true

abbrev pub NamesOf : Option ℕ → List ℕ → Type 0
NamesOf o ns = (o ≡ sole_name ns) × (is_named ns ≡ true)

pub names : (o : Option ℕ) (ns : List ℕ) (n : ℕ) → NamesOf o ns → NamesOf None (ns ++ n ∷ [])
names o [] n h = absurd (let f : false ≡ true = h.1 in cc)
names o (x ∷ []) n h = (refl, refl)
names o (x ∷ y ∷ ns) n h = (refl, refl)

module _ (pairs : List Pair) where
  none_found : (o : Option ℕ) (ns : List ℕ) (n : Count) (es : List Expr) (more : Bool) → o ≡ sole_name ns → n ≡ count_of es → may_find_at_call pairs o n more ≡ false
      → may_find_at_call pairs (sole_name ns) (count_of es) more ≡ false
  none_found o ns n es more e f h =
      subst (λ (m : Count). may_find_at_call pairs (sole_name ns) m more ≡ false) f (subst (λ (p : Option ℕ). may_find_at_call pairs p n more ≡ false) e h)

  pub call : (i j : ℕ) (o : Option ℕ) (ns : List ℕ) (n : Count) (es : List Expr) (more : Bool) → NamesOf o ns → ExprsOf pairs n es
      → TermOf pairs (plain_if (is_clean_count n && not (may_find_at_call pairs o n more))) (node.term i j (node.call ns es more))
  unfolding node.call
  call i j o ns n es more f g = plain_term pairs (is_clean_count n && not (may_find_at_call pairs o n more)) i j (node.call ns es more) _ (open_call _) refl (λ w.
      let known = g (left (is_clean_count n) _ w) in
      let none = none_found o ns n es more f.0 known.0 (refuted _ (right (is_clean_count n) _ w)) in (
        λ rules role. none_at_call rules pairs role i j (the_call ns es more) (rw (call_expands ns es more, call_names ns es more, call_arguments ns es more) none),
        rw (call_arguments ns es more) (known.1 Argument),
      ))
