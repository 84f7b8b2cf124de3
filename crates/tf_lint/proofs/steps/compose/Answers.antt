-- Where no edits are kept there are some all the same.
use Rattle.edit_record.specs.Squashes.Squash.{AreComposable}
use Rattle.tf_lint.proofs.steps.compose.Goals as goal

pub returns-in-None-clause-composed : goal.returns-in-None-clause-composed
returns-in-None-clause-composed c = λ edits old between new leads turns.
    let follow : AreComposable edits c.args.more.now = (old, between, new, leads.transforms, turns) in
    let (all, list, is) = c.composable_lists_squash.ensures edits c.args.more.now leads.valid c.edits_are_valid.ensures follow in
    (all, is, record { kept_are = tt; valid = list; transforms = (is.equivalent old new).1 (between, leads.transforms, turns) })
