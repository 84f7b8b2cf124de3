use Rattle.std.proofs.Common.{◌≡◌, ◌<◌, ◌++◌, codes, string_bytes}
use Rattle.tf_rules.specs.declared.rule.Rule.{Rule}
use Rattle.tf_rules.specs.Table.{index_of}
use Rattle.tf_cli.specs.Choices.{IsSimilar}
use Rattle.tf_cli.proofs.similar.similar_rule.Given as goal

-- the name with its beginning, and none of the rules before number i has a name similar to it
abbrev pub invariant-loop-i : goal.invariant-loop-i
invariant-loop-i l =
    (string_bytes l.whole ≡ codes "terraform_" ++ l.name)
    × ((other : Rule) → index_of other < l.i → ¬ (IsSimilar l.name other))
