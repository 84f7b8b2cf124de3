-- Collecting findings node by node.
use Rattle.std.proofs.Common.{◌≡◌, ℕ, ◌<◌, ◌≤◌, ◌+◌, List, [], ◌∷◌, ◌++◌, length, get_or, drop, Result, Ok, Err, sym, subst, ap, ◌∙◌}
use Rattle.std.specs.Prelude.{OnOk}
use Rattle.std.proofs.lemmas.List.{at_drop_more, drop_all}
use Rattle.hcl_token.specs.Tokens.{Pair}
use Rattle.tf_rules.specs.declared.rule_set.RuleSet.{RuleSet}
use Rattle.tf_rules.specs.declared.finding.Finding.{Finding}
use Rattle.tf_findings.specs.Inner.Collects.{Collects, no_nodes, visit}
use Rattle.tf_rules.specs.Findings.{valid_findings}
use Rattle.tf_rules.specs.Rules.{node_findings}
use Rattle.tf_rules.specs.Preorder.{Node, children}

-- what holds where there is an answer, from what else holds there
pub where_ok : {T E : Type 0} (r : Result T E) {P Q : Type 0} → (P → Q) → OnOk r P → OnOk r Q
where_ok (Ok x) f h = f h
where_ok (Err e) f h = tt

module _ {rules : RuleSet} {pairs : List Pair} where
  -- one list of nodes after another
  pub joined : {ms ns : List Node} {xs ys zs : List Finding} → Collects rules pairs ms xs ys → Collects rules pairs ns ys zs → Collects rules pairs (ms ++ ns) xs zs
  joined no_nodes b = b
  joined (visit a c) b = visit a (joined c b)

  pub nowhere : {ns : List Node} {xs : List Finding} → ns ≡ [] → Collects rules pairs ns xs xs
  nowhere {ns} {xs} e = subst (λ ms. Collects rules pairs ms xs xs) (sym e) no_nodes

  pub among : {ms ns : List Node} {xs ys : List Finding} → ms ≡ ns → Collects rules pairs ns xs ys → Collects rules pairs ms xs ys
  among {ms} {ns} {xs} {ys} e c = subst (λ ls. Collects rules pairs ls xs ys) (sym e) c

  -- a node with what is in it
  pub whole : (n : Node) {xs ys zs : List Finding} → ys ≡ xs ++ valid_findings (length pairs) (node_findings rules pairs n) → Collects rules pairs (children n) ys zs → Collects rules pairs (n ∷ []) xs zs
  whole n {xs} {ys} {zs} e c = visit (subst (λ l. Collects rules pairs (children n) l zs) e c) no_nodes

  -- one turn of a loop over xs, where F gives the nodes of what is left of them
  pub loop_step : {X : Type 0} (F : List X → List Node) (xs : List X) (i : ℕ) (x : X) (ns rest : List Node) {all : List Node} {begun old new : List Finding}
      → x ≡ get_or xs i x → i < length xs → F (x ∷ drop (i + 1) xs) ≡ ns ++ rest
      → ((zs : List Finding) → Collects rules pairs (F (drop i xs)) old zs → Collects rules pairs all begun zs)
      → Collects rules pairs ns old new
      → (zs : List Finding) → Collects rules pairs rest new zs → Collects rules pairs all begun zs
  loop_step F xs i x ns rest is within e kept c zs d =
      kept zs (among (at_drop_more F xs i x within ∙ (ap (λ y. F (y ∷ drop (i + 1) xs)) (sym is) ∙ e)) (joined c d))

  -- the end of a loop
  pub finished : {X : Type 0} (F : List X → List Node) (xs : List X) (i : ℕ) {all : List Node} {begun found : List Finding}
      → length xs ≤ i → F [] ≡ []
      → ((zs : List Finding) → Collects rules pairs (F (drop i xs)) found zs → Collects rules pairs all begun zs)
      → Collects rules pairs all begun found
  finished F xs i {found = found} past e kept = kept found (nowhere (ap F (drop_all i xs past) ∙ e))
