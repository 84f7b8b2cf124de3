-- A clean member: an attribute or a block in which no rule finds anything.
use Rattle.std.specs.Prelude.{◌≡◌, ℕ, List, [], ◌∷◌, Some, Ok, Err}
use Rattle.hcl_grammar.specs.Pure.BodyParser.{deeper_members, member_of}
use Rattle.hcl_grammar.specs.Pure.NodeMakers.{nodes}
use Rattle.hcl_grammar.specs.declared.bounds.TheConstants.{MAX_NESTING}
use Rattle.hcl_grammar.specs.declared.fault.TokenFault.{TokenFault}
use Rattle.hcl_grammar.specs.declared.tree.Member.{Member}
use Rattle.hcl_scan.specs.Follows.{tokens_of}
use Rattle.hcl_token.specs.Tokens.{Pair}
use Rattle.tf_findings.specs.TreeFindings.{AreTreeFindings}
use Rattle.tf_rules.specs.Preorder as node
use Rattle.tf_rules.specs.Rules.{top_level_member_findings}
use Rattle.tf_rules.specs.declared.rule_set.RuleSet.{RuleSet}

-- the parser reads a member between these places, and nothing is found at its nodes or at itself
pub record IsCleanMember (pairs : List Pair) (from past : ℕ) : Type 0 where
  pub member : Member
  pub answer :
      member_of nodes (tokens_of pairs) MAX_NESTING
      (deeper_members nodes (tokens_of pairs) MAX_NESTING) from ≡ Ok (Some member, past)
  pub at_nodes : (rules : RuleSet) → AreTreeFindings rules pairs (node.member member ∷ []) []
  pub at_block : (rules : RuleSet) → top_level_member_findings rules pairs member ≡ []

-- the parser has this error at a member from this place on
abbrev pub IsMemberFault : List Pair → ℕ → TokenFault → Type 0
IsMemberFault pairs from e =
    member_of nodes (tokens_of pairs) MAX_NESTING
    (deeper_members nodes (tokens_of pairs) MAX_NESTING) from ≡ Err e
