-- What a save or a recovery returns at its end.
use Rattle.std.specs.Prelude.{ℕ, Bool, true, false, Result, Ok, Err, if◌then◌else◌}
use Rattle.tf_saving.specs.declared.call.SavedFile.{SavedFile}
use Rattle.tf_saving.specs.declared.step.End.{End}
use Rattle.tf_session.specs.declared.fault.RunFault.{RunFault}
use Rattle.tf_session.specs.declared.fault.SessionPart.{SessionPart}
use Rattle.tf_files.specs.declared.saves.Attempt.{Attempt}

-- the part, as errors name it
abbrev pub session_part : SavedFile → SessionPart
session_part SavedFile.Text = SessionPart.Text
session_part SavedFile.Journal = SessionPart.Journal

-- not all of this part was written: `text_sent` bytes of the text, `journal_sent` of the journal
abbrev pub part_fault : SavedFile → ℕ → ℕ → RunFault
part_fault SavedFile.Text text_sent journal_sent = RunFault.Write SessionPart.Text text_sent
part_fault SavedFile.Journal text_sent journal_sent =
    RunFault.Write SessionPart.Journal journal_sent

-- it is not known what the next recovery will find: memory ran out, or a file can't be read
abbrev pub unknown_fault : Bool → RunFault
unknown_fault no_memory = if no_memory then RunFault.Memory else RunFault.Read

-- whether the new files have replaced the old ones, or the error
abbrev pub result_of_end : End → ℕ → ℕ → Bool → Result Bool RunFault
result_of_end End.Success text_sent journal_sent no_memory = Ok true
result_of_end End.InPlace text_sent journal_sent no_memory = Ok false
result_of_end End.Unknown text_sent journal_sent no_memory = Err (unknown_fault no_memory)
result_of_end (End.Error part) text_sent journal_sent no_memory =
    Err (part_fault part text_sent journal_sent)
result_of_end End.Late text_sent journal_sent no_memory =
    Err (part_fault SavedFile.Journal text_sent journal_sent)

-- ---- how far a save in company has come

-- both files are replaced, or are to be written in place
abbrev pub ended_attempt : Bool → Attempt
ended_attempt is_replaced = if is_replaced then Attempt.Replaced else Attempt.InPlace

-- both files are as they were, or the next recovery finds both old or both new
abbrev pub failed_attempt : End → RunFault → Attempt
failed_attempt (End.Error part) fault = Attempt.Refused
failed_attempt _ fault = Attempt.Fault fault

-- by its end and what that is
abbrev pub attempt_of : End → Result Bool RunFault → Attempt
attempt_of end (Ok is_replaced) = ended_attempt is_replaced
attempt_of end (Err fault) = failed_attempt end fault
