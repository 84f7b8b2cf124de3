-- What one rule of a set finds is what of all that the set finds is of that rule.
use Rattle.std.proofs.Common.{◌≡◌, ◌∙◌, true, not, List, refl, sym, ap, subst, length}
use Rattle.std.specs.Prelude.{filter}
use Rattle.std.specs.List.Sorted.{IsPermutation, ties}
use Rattle.std.specs.Ordering.{is_lt}
use Rattle.std.proofs.lemmas.List.Kept.{IsSortedBy-filter}
use Rattle.std.proofs.lemmas.List.Sorted.{ranks_by}
use Rattle.hcl_grammar.specs.declared.tree.Member.{Member, out-Member}
use Rattle.hcl_token.specs.Tokens.{Pair}
use Rattle.tf_findings.proofs.FilterLemmas.{filter_commutes, filter_permutation, each_kept, each_in_order}
use Rattle.tf_findings.proofs.TotalOrder.{total}
use Rattle.tf_findings.specs.Findings.{all_findings}
use Rattle.tf_findings.specs.Order.{report_order}
use Rattle.tf_findings.specs.RuleFilter.{is_found_by}
use Rattle.tf_findings.specs.Silencing.{is_silenced}
use Rattle.tf_rules.specs.Findings.{is_valid, valid_findings}
use Rattle.tf_rules.specs.Preorder.{Node}
use Rattle.tf_rules.specs.RuleSets.{has_rule}
use Rattle.tf_rules.specs.Rules.{node_findings, top_level_member_findings}
use Rattle.tf_rules.specs.SingleRule.{only}
use Rattle.tf_rules.specs.declared.finding.Finding.{Finding}
use Rattle.tf_rules.specs.declared.rule.Rule.TheVariants.{CommentSyntax}
use Rattle.tf_rules.specs.declared.rule.Rule.{Rule}
use Rattle.tf_rules.specs.declared.rule_set.RuleSet.{RuleSet}
use Rattle.tf_rules_laws.proofs.OfRule.{AreFrom}
use Rattle.tf_rules_laws.proofs.Picks.{Picks, both, each}
use Rattle.tf_rules_laws.proofs.Rules.{node_picks, member_picks, comment_picks}
use Rattle.tf_rules_laws.specs.OneRule.{FindingsOfOneRule, FindingsMatchTheirRule, MatchesRule}

-- of all that is found
all_picks : (rules : RuleSet) (rule : Rule) → has_rule rules rule ≡ true → (pairs : List Pair) (members : List Member) (ns : List Node) → Picks pairs rule (all_findings rules pairs members ns) (all_findings (only rule) pairs members ns)
all_picks rules rule has pairs members ns =
    let at_nodes = each (node_findings rules pairs) (node_findings (only rule) pairs) (node_picks rules rule has pairs) ns in
    let at_blocks = each (top_level_member_findings rules pairs) (top_level_member_findings (only rule) pairs) (λ m. member_picks rules rule has pairs (out-Member m)) members in
    both at_nodes (both at_blocks (comment_picks rules rule has pairs))

pub found_by_one : FindingsOfOneRule
found_by_one rules rule pairs members found has a =
    let p = is_found_by rule in
    let named = all_findings rules pairs members a.nodes in
    let whole = valid_findings (length pairs) named in
    let part : filter p whole ≡ valid_findings (length pairs) (all_findings (only rule) pairs members a.nodes) =
    filter_commutes p (is_valid (length pairs)) named ∙ ap (valid_findings (length pairs)) ((all_picks rules rule has pairs members a.nodes).is) in
    let lt = λ (x y : Finding). is_lt (report_order x y) in
    let loud = λ (f : Finding). not (is_silenced pairs f) in
    record {
      nodes = a.nodes;
      preorder = a.preorder;
      all = filter p a.all;
      same = subst (λ l. IsPermutation l (filter p a.all)) part (filter_permutation p whole a.all a.same);
      sorted = IsSortedBy-filter lt (ranks_by total (λ (f : Finding). f)) p a.all a.sorted;
      stable = λ x. filter_commutes (ties lt x) p a.all ∙ ap (filter p) (a.stable x) ∙ filter_commutes p (ties lt x) whole ∙ ap (filter (ties lt x)) part;
      kept = ap (filter p) a.kept ∙ filter_commutes p loud a.all;
    }

-- ---- where what one rule finds comes from

-- the set of one rule has it
pub has_itself : (rule : Rule) → has_rule (only rule) rule ≡ true
has_itself CommentSyntax = refl
has_itself rule = refl

pub one_origin : FindingsMatchTheirRule
one_origin rule pairs members found a =
    let P = MatchesRule pairs rule in
    let named = all_findings (only rule) pairs members a.nodes in
    let are = (all_picks (only rule) rule (has_itself rule) pairs members a.nodes).are in
    subst (AreFrom pairs rule) (sym a.kept)
    (each_kept P (λ f. not (is_silenced pairs f)) a.all (each_in_order P (valid_findings (length pairs) named) a.all a.same (each_kept P (is_valid (length pairs)) named are)))
