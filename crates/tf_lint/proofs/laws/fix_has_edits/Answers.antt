use Rattle.tf_lint.proofs.FixEdits.{steps_turn, has_edits}
use Rattle.tf_lint.proofs.laws.fix_has_edits.Goals as goal

pub returns : goal.returns
returns c =
    has_edits (steps_turn c.pieces_transform.ensures c.pieces_make_valid_edits.ensures c.make_is_exact.ensures c.parsed_tokens_are_apart.ensures c.findings_match_their_rule.ensures c.is_valid_is_exact.ensures.valid)
    c.composable_lists_squash.ensures
