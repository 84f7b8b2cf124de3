-- What the rules on blocks find in a member whose tokens are elsewhere too: the same, its numbers
-- moved.
use Rattle.std.proofs.Common.{◌≡◌, ℕ, List, length, map}
use Rattle.hcl_grammar.specs.Nodes as node
use Rattle.hcl_grammar.specs.declared.tree.Member.{Member}
use Rattle.hcl_grammar_laws.proofs.Opens as opens
use Rattle.hcl_scan.specs.Follows.{tokens_of}
use Rattle.hcl_token.specs.Tokens.{Pair}
use Rattle.tf_reuse.proofs.RenumberedNodes as moved
use Rattle.tf_reuse.proofs.RenumberedNodes.{MovedMember}
use Rattle.tf_reuse.proofs.Renumbering as moves
use Rattle.tf_reuse.proofs.Renumbering.{Moves}
use Rattle.tf_reuse.proofs.Window.{Here, Same}
use Rattle.tf_reuse.specs.SameTokens.{SameTokens}
use Rattle.tf_reuse.specs.Renumbering.{renumber_finding}
use Rattle.tf_rules.specs.Findings.{valid_findings}
use Rattle.tf_rules.specs.Rules.{top_level_member_findings}
use Rattle.tf_rules.specs.declared.rule_set.RuleSet.{RuleSet}
use Rattle.tf_rules_laws.proofs.MovedBlocks.{first_same, rolled, content_attributes}
use Rattle.tf_rules_laws.proofs.Rules.{block_moves}

module _ (old new : List Pair) {from to count : ℕ} (w : SameTokens (tokens_of old) (tokens_of new) from to count) where
  top_moved : (rules : RuleSet) {x y : Member} → MovedMember (Here w) (Same w) x y → Moves old new from to (top_level_member_findings rules old x) (top_level_member_findings rules new y)
  unfolding node.block rolled
  top_moved rules (moved.attribute {i} {i'} {j} {j'} {e} {e'} h g l x) = rw (opens.open_attribute (node.attribute i j e), opens.open_attribute (node.attribute i' j' e')) moves.none
  top_moved rules (moved.block {i} {i'} {j} {j'} {ls} {ls'} {x} {x'} h g l n c) =
      let b = rolled old new w i j ls x in
      let b' = rolled old new w i' j' ls' x' in
      rw (opens.open_block b, opens.open_block b') (block_moves old new w rules b b' (record { name = first_same old new w h g l; labelled = n; inside = content_attributes old new w c }))

  pub top_moves : (rules : RuleSet) {x y : Member} → MovedMember (Here w) (Same w) x y
      → valid_findings (length new) (top_level_member_findings rules new y) ≡ map (renumber_finding from to) (valid_findings (length old) (top_level_member_findings rules old x))
  top_moves rules m = (top_moved rules m).is
