-- What is said of an error beside its own text, where errors are located.
use Rattle.std.specs.Prelude.{ℕ, Bool, Option, Some, None, ◌==◌, if◌then◌else◌}
use Rattle.edit_record.specs.declared.lists.change.Refused.{Refused}
use Rattle.tf_session.specs.declared.command.Command.{Command}
use Rattle.tf_session.specs.declared.fault.RunFault.{RunFault}
use Rattle.tf_program.specs.declared.hint.Hint.{Hint}

-- there is no record: none of this number, or none at all
abbrev pub hint_of_no_record : Command → Hint
hint_of_no_record (Command.Take number) = Hint.NoCommand
hint_of_no_record _ = Hint.NothingRecorded

-- Of a text of `len` bytes, a record expects `expected` bytes, and there are `found`: a take compares
-- with each other also records, any other command the text with the last record.
abbrev pub hint_of_length : Command → ℕ → ℕ → ℕ → Hint
hint_of_length (Command.Take number) expected found len =
    if found == len then Hint.ChangedSomewhere else Hint.ChangedBetween found expected
hint_of_length _ expected found len = Hint.Changed expected found

-- a record does not fit
abbrev pub hint_of_refused : Command → Refused → ℕ → Option Hint
hint_of_refused command (Refused.Length expected found) len =
    Some (hint_of_length command expected found len)
hint_of_refused command (Refused.Differs step edit) len = Some Hint.ChangedInPlace
hint_of_refused command Refused.Memory len = None

-- an error that is met before any command is done
abbrev pub hint_of_unread : RunFault → Option Hint
hint_of_unread (RunFault.BadJournal error) = Some Hint.NotDecoded
hint_of_unread _ = None

-- an error of a command on a text of `len` bytes
abbrev pub hint_of : Command → RunFault → ℕ → Option Hint
hint_of command (RunFault.Refused refused) len = hint_of_refused command refused len
hint_of command RunFault.NoRecord len = Some (hint_of_no_record command)
hint_of command (RunFault.Blocked number) len = Some (Hint.Blocked number)
hint_of command fault len = hint_of_unread fault

-- an error of an action that changes no file
abbrev pub hint_of_answer : RunFault → Option Hint
hint_of_answer (RunFault.Write part sent) = Some Hint.NotPrinted
hint_of_answer _ = None

-- this is said only if errors are located
abbrev pub said_if : Bool → Option Hint → Option Hint
said_if locate hint = if locate then hint else None
