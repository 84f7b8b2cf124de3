-- What one rule of a set finds, and what is known of a finding by its rule.
use Rattle.std.specs.Prelude.{◌≡◌, ◌++◌, ℕ, true, List, Some, filter, codes}
use Rattle.std.specs.List.{AllByRecursion}
use Rattle.hcl_grammar.specs.declared.tree.Member.{Member}
use Rattle.hcl_token.specs.TokenizedText.{kind_of, spelling_of}
use Rattle.hcl_token.specs.Tokens.{Pair}
use Rattle.hcl_token.specs.declared.kind.Kind.TheVariants.{LineComment}
use Rattle.tf_rules.specs.declared.finding.Finding.{Finding}
use Rattle.tf_rules.specs.declared.rule.Rule.{Rule}
use Rattle.tf_rules.specs.declared.rule_set.RuleSet.{RuleSet}
use Rattle.tf_rules.specs.Findings.{is_fixable}
use Rattle.tf_rules.specs.Fixes.{is_comment_fix}
use Rattle.tf_rules.specs.RuleSets.{has_rule}
use Rattle.tf_rules.specs.SingleRule.{only}
use Rattle.tf_rules.specs.Table.{is_comment_rule, has_fix}
use Rattle.tf_findings.specs.Findings.{AreFindings}
use Rattle.tf_findings.specs.RuleFilter.{is_found_by}

-- what one rule of a set finds in a text by itself is what, of all that the set finds there, is of
-- that rule
abbrev pub FindingsOfOneRule : Type 0
FindingsOfOneRule = (rules : RuleSet) (rule : Rule) (pairs : List Pair) (members : List Member)
    (found : List Finding)
    → has_rule rules rule ≡ true → AreFindings rules pairs members found
    → AreFindings (only rule) pairs members (filter (is_found_by rule) found)

-- the token of this number is a line comment that begins with `//`
abbrev pub IsSlashComment : List Pair → ℕ → Type 0
IsSlashComment pairs i =
    (kind_of pairs i ≡ Some LineComment)
    × ((text : List ℕ) × (spelling_of pairs i ≡ Some (codes "//" ++ text)))

-- the finding is of this rule, and is as its findings are
pub record MatchesRule (pairs : List Pair) (rule : Rule) (f : Finding) : Type 0 where
  pub rule_is : f.rule ≡ rule
  -- the rule on comments writes in comments, and no other does
  pub inside : is_comment_fix f.fix ≡ is_comment_rule rule
  pub has_slashes : is_comment_fix f.fix ≡ true → IsSlashComment pairs f.first
  -- a rule whose findings can be fixed has a step in a fix
  pub has_fix : is_fixable f.fix ≡ true → has_fix rule ≡ true

-- what a rule by itself finds in a text is found by that rule
abbrev pub FindingsMatchTheirRule : Type 0
FindingsMatchTheirRule = (rule : Rule) (pairs : List Pair) (members : List Member) (found : List Finding)
    → AreFindings (only rule) pairs members found → AllByRecursion (MatchesRule pairs rule) found
