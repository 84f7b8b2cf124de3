use Rattle.tf_lint.proofs.StepLemmas.{never_unmet}
use Rattle.tf_lint.proofs.steps.squash_two.Goals.{in-Memory, in_default}
use Rattle.tf_lint.proofs.steps.squash_two.Goals as goal

-- the edits go on from those before them, so squash fails only if an allocation does
pub prove-unreachable-requires : goal.prove-unreachable-requires
prove-unreachable-requires c =
    let is = never_unmet c.transformed_lengths_match.ensures c.args.edits_so_far.now c.args.more.now c.in-Err.unmet c.requires c.in-Err.ensures in
    elim c.match-matches.branch [
      | in-Memory w ↦ absurd (cc (w.matches-is, c.if-prove.true))
      | in_default w ↦ w.in_default.not-Memory is
    ]
