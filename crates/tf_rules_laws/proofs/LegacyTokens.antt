-- The legacy indices among a text's tokens are those among the nodes of its tree, in order.
use Rattle.std.proofs.Common.{◌∙◌, sym, ap, map}
use Rattle.tf_rules.specs.Preorder.{member, PreorderIsUnique}
use Rattle.tf_rules_laws.proofs.TreeNodes.{tree_nodes}
use Rattle.tf_rules_laws.specs.LegacyIndices.{legacy_numbers, LegacyIndicesAreAll}

pub legacy_are_all : PreorderIsUnique → LegacyIndicesAreAll
legacy_are_all unique text tree parses nodes is_in_preorder =
    let c = tree_nodes parses.derived in
    ap legacy_numbers (unique (map member tree.body.members) nodes c.nodes is_in_preorder c.preorder) ∙ sym c.indices
