-- A clean member is one that was linted, without findings.
use Rattle.std.proofs.Common.{◌≡◌, ℕ, List, [], ◌∷◌, length, Some, sym, ap, subst, ◌∙◌}
use Rattle.hcl_grammar.specs.declared.bounds.TheConstants.{MAX_NESTING}
use Rattle.hcl_scan.specs.Follows.{tokens_of}
use Rattle.hcl_token.specs.Tokens.{Pair}
use Rattle.tf_findings.specs.TreeFindings.{AreTreeFindings}
use Rattle.tf_glance.specs.CleanMember.{IsCleanMember}
use Rattle.tf_lint.proofs.MemberAnswers.{member_derives}
use Rattle.tf_lint.specs.Inner.BodyFindings.{IsNextMember}
use Rattle.tf_lint.specs.declared.member.LintedMember.{LintedMember}
use Rattle.tf_rules.specs.Findings.{valid_findings}
use Rattle.tf_rules.specs.Preorder.{member}
use Rattle.tf_rules.specs.declared.finding.Finding.{Finding}
use Rattle.tf_rules.specs.declared.rule_set.RuleSet.{RuleSet}

pub clean_next : (rules : RuleSet) (pairs : List Pair) (from past : ℕ) (x : LintedMember) → IsCleanMember pairs from past → x.from ≡ from → x.past ≡ past → x.node_findings.items ≡ [] → x.block_findings.items ≡ []
    → IsNextMember rules pairs from (Some x) past
clean_next rules pairs from past x q starts ends at_nodes at_block =
    let member_is_derived = member_derives (tokens_of pairs) MAX_NESTING from q.member past q.answer in (
      starts,
      ends,
      record {
        member = q.member;
        is_member = rw (starts, ends) member_is_derived;
        at_nodes = subst (λ (found : List Finding). AreTreeFindings rules pairs (member q.member ∷ []) found) (sym at_nodes) (q.at_nodes rules);
        at_block = at_block ∙ sym (ap (valid_findings (length pairs)) (q.at_block rules));
      },
    )
