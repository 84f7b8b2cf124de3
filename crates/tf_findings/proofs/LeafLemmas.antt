-- Terms at which no rule finds anything.
use Rattle.std.proofs.Common.{◌≡◌, List, [], ◌∷◌, ◌++◌, length, sym, ap, ◌∙◌, append-nil}
use Rattle.hcl_grammar.specs.TreeLayers.{PrimaryLayer}
use Rattle.hcl_grammar.specs.declared.tree.Primary.{out-Primary}
use Rattle.hcl_grammar.specs.declared.tree.Term.{Term}
use Rattle.hcl_token.specs.Tokens.{Pair}
use Rattle.tf_rules.specs.declared.finding.Finding.{Finding}
use Rattle.tf_rules.specs.declared.role.Role.{Role}
use Rattle.tf_rules.specs.declared.rule_set.RuleSet.{RuleSet}
use Rattle.tf_rules.specs.Findings.{valid_findings}
use Rattle.tf_rules.specs.Rules.{term_findings}
use Rattle.tf_rules.specs.Preorder.{term, primary_children}
use Rattle.tf_findings.specs.Inner.Collects.{Collects}
use Rattle.tf_findings.proofs.WalkLemmas.{whole, among, nowhere}

-- a term of this kind, at which nothing is found, with what is in it
pub branch : (rules : RuleSet) (pairs : List Pair) (role : Role) (t : Term) {l : PrimaryLayer} {xs ys : List Finding} → out-Primary t.kind ≡ l → term_findings rules pairs role t.first t.past l ≡ []
    → Collects rules pairs (primary_children l) xs ys → Collects rules pairs (term role t ∷ []) xs ys
branch rules pairs role t {l} {xs} e none inside =
    let nothing = ap (term_findings rules pairs role t.first t.past) e ∙ none in
    whole (term role t) (sym (ap (λ fs. xs ++ valid_findings (length pairs) fs) nothing ∙ append-nil xs)) (among (ap primary_children e) inside)

pub leaf : (rules : RuleSet) (pairs : List Pair) (role : Role) (t : Term) {l : PrimaryLayer} (xs : List Finding) → out-Primary t.kind ≡ l → term_findings rules pairs role t.first t.past l ≡ []
    → primary_children l ≡ [] → Collects rules pairs (term role t ∷ []) xs xs
leaf rules pairs role t xs e none inside = branch rules pairs role t e none (nowhere inside)
