-- What a stream returns, from what its calls do.
use Rattle.std.proofs.Common.{◌≡◌, false, IfOk, IfErr, Result, Ok, Err, refl, inl, inr}
use Rattle.tf_stream.specs.Streams.{Untouched}
use Rattle.tf_session.specs.declared.command.Command.{Command}
use Rattle.tf_session.specs.declared.command.Done.{Done}
use Rattle.tf_session.specs.declared.command.Fault.{Fault}
use Rattle.tf_session.specs.declared.fault.RunFault.{RunFault}
use Rattle.tf_session.specs.Faults.{run_fault_of}
use Rattle.tf_session.specs.Records.{RefusesStep}
use Rattle.tf_session.specs.Session.{SessionContents}
use Rattle.tf_session.specs.Journals.{Loads, LoadFault, Endpoints, NothingWritten}
use Rattle.tf_session.specs.Journals.{StreamsCommand, JournaledStreamFault, JournaledStreamResult}
use Rattle.tf_session.specs.Streams.{is_write}

pub not_loaded : (command : Command) (fault : RunFault) (e : Endpoints)
    → LoadFault fault e.text_in e.journal_in → NothingWritten e → JournaledStreamFault command fault e
not_loaded command fault e why still = inl (why, still)

pub not_done : (command : Command) (refusal : Fault) (e : Endpoints) (contents : SessionContents)
    → Loads contents e.text_in e.journal_in → RefusesStep command contents refusal → NothingWritten e
    → JournaledStreamFault command (run_fault_of refusal) e
not_done command refusal e contents loads refuses still = inr (inl ((contents, loads, refusal, refl, refuses), still))

-- the clauses of `command_stream` as the fields of one record
pub stream_result : (command : Command) (result : Result Done RunFault) (e : Endpoints)
    → IfOk result (λ d. StreamsCommand command d e)
    → IfErr result (λ fault. JournaledStreamFault command fault e)
    → IfErr result (λ fault. is_write fault ≡ false → Untouched e.journal_out)
    → IfErr result (λ fault. is_write fault ≡ false → Untouched e.text_out)
    → JournaledStreamResult command result e
stream_result command (Ok d) e done fault journal text = record { done = done; fault = fault; untouched = tt }
stream_result command (Err why) e done fault journal text = record { done = done; fault = fault; untouched = λ other. (journal other, text other) }
