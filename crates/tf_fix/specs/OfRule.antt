-- Of which rule findings are, as far as their fixes differ.
use Rattle.std.specs.Prelude.{◌≡◌, true, false, List, [], ◌∷◌, ⊤}
use Rattle.hcl_token.specs.Tokens.{Pair}
use Rattle.tf_rules.specs.declared.finding.Finding.{Finding}
use Rattle.tf_rules.specs.declared.rule.Rule.{Rule}
use Rattle.tf_rules.specs.declared.rule.Rule.TheVariants.{CommentSyntax}
use Rattle.tf_rules.specs.Fixes.{is_comment_fix}
use Rattle.tf_rules_laws.specs.OneRule.{IsSlashComment}

-- what the rule on comments finds is a comment that begins with `//`, and what the other rules find
-- is none
abbrev pub IsOfRule : Rule → List Pair → Finding → Type 0
IsOfRule CommentSyntax pairs finding =
    (is_comment_fix finding.fix ≡ true) × IsSlashComment pairs finding.first
IsOfRule _ pairs finding = is_comment_fix finding.fix ≡ false

-- the findings are of this rule
abbrev pub AreOfRule : Rule → List Pair → List Finding → Type 0
AreOfRule rule pairs [] = ⊤
AreOfRule rule pairs (finding ∷ findings) =
    IsOfRule rule pairs finding × AreOfRule rule pairs findings
