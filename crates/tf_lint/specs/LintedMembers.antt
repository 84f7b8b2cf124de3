-- What is found in the members of a text's body.
use Rattle.std.specs.Prelude.{◌≡◌, ℕ, List, [], ◌∷◌, slice_get, length, Some}
use Rattle.hcl_grammar_laws.specs.OneMember.{IsOneMember}
use Rattle.hcl_grammar.specs.declared.tree.Member.{Member}
use Rattle.hcl_grammar.specs.declared.bounds.TheConstants.{MAX_NESTING}
use Rattle.hcl_scan.specs.Follows.{tokens_of}
use Rattle.hcl_token.specs.Tokens.{Pair}
use Rattle.tf_rules.specs.Preorder as node
use Rattle.tf_findings.specs.TreeFindings.{AreTreeFindings}
use Rattle.tf_lint.specs.declared.member.LintedMember.{LintedMember}
use Rattle.tf_rules.specs.Findings.{valid_findings}
use Rattle.tf_rules.specs.declared.rule_set.RuleSet.{RuleSet}
use Rattle.tf_rules.specs.Rules.{top_level_member_findings}

-- a member is there, and these are the findings in it
pub record IsLintedMember (rules : RuleSet) (pairs : List Pair) (x : LintedMember) : Type 0 where
  pub member : Member
  pub is_member : IsOneMember (tokens_of pairs) MAX_NESTING member x.from x.past
  pub at_nodes : AreTreeFindings rules pairs (node.member member ∷ []) x.node_findings.items
  pub at_block : x.block_findings.items
      ≡ valid_findings (length pairs) (top_level_member_findings rules pairs member)

-- each of these is
abbrev pub AreLintedMembers : RuleSet → List Pair → List LintedMember → Type 0
AreLintedMembers rules pairs xs =
    (i : ℕ) (x : LintedMember) → slice_get xs i ≡ Some x → IsLintedMember rules pairs x
