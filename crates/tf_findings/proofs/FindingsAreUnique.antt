-- A text with its tree has one list of findings.
use Rattle.std.proofs.Common.{◌≡◌, not, List, length, filter, ap, sym, subst, ◌∙◌}
use Rattle.std.proofs.lemmas.List.Sorted.{ranks_by}
use Rattle.std.specs.List.Sorted.{IsStable}
use Rattle.std.specs.Ordering.{is_lt}
use Rattle.hcl_grammar.specs.declared.tree.Member.{Member}
use Rattle.hcl_token.specs.Tokens.{Pair}
use Rattle.tf_rules.specs.declared.finding.Finding.{Finding}
use Rattle.tf_rules.specs.declared.rule_set.RuleSet.{RuleSet}
use Rattle.tf_rules.specs.Findings.{valid_findings}
use Rattle.tf_rules.specs.Preorder.{PreorderIsUnique}
use Rattle.tf_findings.proofs.SortIsUnique.{sorted_are_one}
use Rattle.tf_findings.proofs.TotalOrder.{total}
use Rattle.tf_findings.specs.Findings.{AreFindings, all_findings}
use Rattle.tf_findings.specs.Order.{report_order}
use Rattle.tf_findings.specs.Silencing.{is_silenced}

pub findings_are_one : PreorderIsUnique → {rules : RuleSet} {pairs : List Pair} {members : List Member} {xs ys : List Finding}
    → AreFindings rules pairs members xs → AreFindings rules pairs members ys → xs ≡ ys
findings_are_one law {rules} {pairs} {members} {xs} {ys} a b =
    let nodes : b.nodes ≡ a.nodes = law _ b.nodes a.nodes b.preorder a.preorder in
    let stable : IsStable report_order (valid_findings (length pairs) (all_findings rules pairs members a.nodes)) b.all = subst (λ ns. IsStable report_order (valid_findings (length pairs) (all_findings rules pairs members ns)) b.all) nodes b.stable in
    let all : a.all ≡ b.all =
    sorted_are_one (λ (x y : Finding). is_lt (report_order x y)) (ranks_by total (λ (f : Finding). f)) (valid_findings (length pairs) (all_findings rules pairs members a.nodes)) a.all b.all a.sorted b.sorted a.stable stable in
    a.kept ∙ (ap (filter (λ (f : Finding). not (is_silenced pairs f))) all ∙ sym b.kept)
