-- The command is done on the file; or what changes no file, once all that was held is finished.
use Rattle.std.proofs.Common.{◌∙◌, sym}
use Rattle.tf_program.proofs.Holding.{finished_one}
use Rattle.tf_program.proofs.Running.{answer_in}
use Rattle.tf_program.proofs.run.run_on_file.Goals as goal

pub returns-in-Some : goal.returns-in-Some
returns-in-Some g c = c.change.ensures

pub returns-in-None : goal.returns-in-None
returns-in-None g c =
    let step = c.finish.ensures.step in
    let action = step.advances.action ∙ c.requires.action in
    let locate = step.advances.locate ∙ c.requires.locate in
    finished_one _ _ _ _ _ _ _ _ step c.finish.ensures.none c.note.ensures.same
    (answer_in c.args.task.now.action _ c.args.task.now.locate _ _ _ _ c.run_read_only-met.result _ action locate (sym c.file_command.ensures ∙ c.in-None.is) c.run_read_only-met.ensures (c.note.ensures.noted _))
