-- What is found in the members that a parser reads.
use Rattle.std.specs.Prelude.{◌≡◌, ℕ, List, Option, Some, None, Ok, map, length}
use Rattle.hcl_grammar.specs.Pure.BodyParser.{deeper_members, member_of}
use Rattle.hcl_grammar.specs.Pure.NodeMakers.{nodes}
use Rattle.hcl_grammar.specs.Pure.Reading.{Outcome}
use Rattle.hcl_grammar.specs.declared.bounds.TheConstants.{MAX_NESTING}
use Rattle.hcl_grammar.specs.declared.tree.Member.{Member}
use Rattle.hcl_scan.specs.Follows.{tokens_of}
use Rattle.hcl_token.specs.Tokens.{Pair}
use Rattle.tf_rules.specs.Preorder.{member}
use Rattle.tf_findings.specs.TreeFindings.{AreTreeFindings}
use Rattle.tf_lint.specs.LintedMembers.{IsLintedMember, AreLintedMembers}
use Rattle.tf_lint.specs.declared.body.BodyFindings.{BodyFindings}
use Rattle.tf_lint.specs.declared.member.LintedMember.{LintedMember}
use Rattle.tf_rules.specs.Findings.{valid_findings}
use Rattle.tf_rules.specs.declared.rule_set.RuleSet.{RuleSet}
use Rattle.tf_rules.specs.Rules.{top_level_findings}

-- the member, or none, that the parser reads from one place up to another, with what is found in it
abbrev pub IsNextMember : RuleSet → List Pair → ℕ → Option LintedMember → ℕ → Type 0
IsNextMember rules pairs from None past =
    member_of nodes (tokens_of pairs) MAX_NESTING
    (deeper_members nodes (tokens_of pairs) MAX_NESTING) from ≡ Ok (None, past)
IsNextMember rules pairs from (Some x) past =
    (x.from ≡ from) × (x.past ≡ past) × IsLintedMember rules pairs x

-- these members, with what is found in each that is kept, and in all
pub record AreBodyFindings (rules : RuleSet) (pairs : List Pair) (ms : List Member)
    (g : BodyFindings) : Type 0 where
  pub each : AreLintedMembers rules pairs g.members.items
  pub at_nodes : AreTreeFindings rules pairs (map member ms) g.node_findings.items
  pub at_blocks : g.block_findings.items
      ≡ valid_findings (length pairs) (top_level_findings rules pairs ms)

-- the parser reads members up to this place, and this is found in them
abbrev pub IsBodyRead : RuleSet → List Pair → Outcome (List Member) → ℕ → BodyFindings → Type 0
IsBodyRead rules pairs outcome new g =
    (ms : List Member) × (outcome ≡ Ok (ms, new)) × AreBodyFindings rules pairs ms g
