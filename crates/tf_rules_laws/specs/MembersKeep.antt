-- What is found in a member whose tokens are also the tokens of another text.
use Rattle.std.specs.Prelude.{◌≡◌, ◌≢◌, ℕ, ◌+◌, false, List, [], ◌∷◌, length, map}
use Rattle.std.specs.Prelude.{None}
use Rattle.hcl_grammar.specs.Tokens.{next_kind}
use Rattle.hcl_grammar.specs.declared.tree.Member.{Member}
use Rattle.hcl_scan.specs.Follows.{tokens_of}
use Rattle.hcl_token.specs.Tokens.{Pair}
use Rattle.tf_rules.specs.Preorder.{member}
use Rattle.tf_rules.specs.declared.finding.Finding.{Finding}
use Rattle.tf_rules.specs.Findings.{valid_findings}
use Rattle.tf_rules.specs.declared.rule_set.RuleSet.{RuleSet}
use Rattle.tf_rules.specs.Rules.{top_level_member_findings}
use Rattle.tf_findings.specs.TreeFindings.{AreTreeFindings}
use Rattle.hcl_grammar_laws.specs.OneMember.{IsOneMember}
use Rattle.tf_reuse.specs.Renumbering.{renumber_finding}
use Rattle.tf_reuse.specs.SameTokens.{SameTokens}

-- The grammar derives a member from these tokens, if it does so elsewhere, with more tokens after
-- it; and the findings in it are those found there, with their numbers moved.
abbrev pub UnchangedMembersKeepFindings : Type 0
UnchangedMembersKeepFindings = (rules : RuleSet) (old new : List Pair) (depth from to count : ℕ) (x : Member)
    → SameTokens (tokens_of old) (tokens_of new) from to count
    → IsOneMember (tokens_of old) depth x from (from + count)
    → next_kind (tokens_of old) false (from + count) ≢ None
    → (y : Member) × IsOneMember (tokens_of new) depth y to (to + count)
    × ((found : List Finding) → AreTreeFindings rules old (member x ∷ []) found
    → AreTreeFindings rules new (member y ∷ []) (map (renumber_finding from to) found))
    × (valid_findings (length new) (top_level_member_findings rules new y)
    ≡ map (renumber_finding from to) (valid_findings (length old) (top_level_member_findings rules old x)))
