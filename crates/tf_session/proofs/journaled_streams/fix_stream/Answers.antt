-- The clauses of `command_stream`, as fields.
use Rattle.tf_session.proofs.JournalRefusing.{stream_result}
use Rattle.tf_session.proofs.journaled_streams.fix_stream.Goals as goal

pub returns-clause-streams : goal.returns-clause-streams
returns-clause-streams g c =
    let call = c.command_stream.ensures in
    stream_result _ c.command_stream.result _ call.done call.fault call.journal_untouched call.text_untouched

pub returns-clause-failed : goal.returns-clause-failed
returns-clause-failed g c =
    let call = c.command_stream.ensures in
    record { readers = call.read; journal = call.journal_failed; text = call.text_failed }
