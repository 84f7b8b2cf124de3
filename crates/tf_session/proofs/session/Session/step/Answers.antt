-- What was made is pushed.
use Rattle.std.proofs.Common.{sym, subst, IfOk}
use Rattle.tf_session.specs.declared.command.Command.{Command}
use Rattle.tf_session.specs.declared.command.Done.{Done}
use Rattle.tf_session.specs.Records.{DoesStep}
use Rattle.tf_session.specs.Session.{contents_of, text_of, records_of}
use Rattle.tf_session.proofs.PushChange.{push_layout}
use Rattle.tf_session.proofs.session.Session.step.Goals as goal

pub returns-in_ok-change-in-Fmt-clause-done : goal.returns-in_ok-change-in-Fmt-clause-done
returns-in_ok-change-in-Fmt-clause-done c =
    let makes = c.in_ok-change-in-Fmt.ensures.rewrites in
    let does = push_layout c.as_slice.result.now (text_of c.args.self.now) (records_of c.args.self.now) c.in_ok-change-in-Fmt.change 0 0 c.push_change.result (text_of c.push_change.new.self) (records_of c.push_change.new.self)
    c.as_slice.ensures.value makes c.in_ok-change-in-Fmt.ensures.change c.push_change.ensures.replied c.push_change.ensures.pushed c.push_change.ensures.added in
    subst (λ (command : Command). IfOk c.push_change.result (λ (d : Done). DoesStep command (contents_of c.args.self.now) d (contents_of c.push_change.new.self))) (sym c.in-Fmt.is) does
