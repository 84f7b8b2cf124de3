-- The edits turn the text into one text, so that is what applying them makes.
use Rattle.tf_lint.proofs.step.apply_step_edits.Goals as goal

pub returns-in-Ok-clause-made : goal.returns-in-Ok-clause-made
returns-in-Ok-clause-made c = λ new turns.
    let there = (c.apply_is_exact.ensures c.args.text.now new).1 turns in
    let agrees = c.in-Ok.ensures.agrees in
    cc
