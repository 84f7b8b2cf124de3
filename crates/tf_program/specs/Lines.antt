-- The lines of a journal's records.
use Rattle.std.specs.Prelude.{◌≡◌, ◌≤◌, ◌<◌, ℕ, ◌+◌, ◌-◌, List, [], ◌∷◌, ◌++◌, ◌==◌, if◌then◌else◌, length}
use Rattle.std.specs.Prelude.{codes, Option, Some, None, IfSome}
use Rattle.std.specs.Fmt.{decimal}
use Rattle.edit_record.specs.declared.lists.record.Word.{Word}
use Rattle.edit_record.specs.declared.lists.record.Word.TheVariants.{Fmt, Fix}
use Rattle.edit_record.specs.Lists.Journal.{JournalEntry}
use Rattle.tf_session.specs.declared.command.Fault.{Fault}
use Rattle.tf_session.specs.Faults.{message_of, run_fault_of}
use Rattle.tf_session.specs.RemovingRecord.{IsTakeRefusal}
use Rattle.tf_session.specs.Session.{SessionContents}
use Rattle.tf_program.specs.declared.record_list.TheConstants.{MAX_TRIED}

abbrev pub command_name : Word → List ℕ
command_name Fmt = codes "fmt"
command_name Fix = codes "fix"

abbrev pub edit_unit : ℕ → List ℕ
edit_unit count = if count == 1 then codes "edit" else codes "edits"

-- NUMBER COMMAND COUNT edits, and what follows
abbrev pub record_line : ℕ → Word → ℕ → List ℕ → List ℕ
record_line number word count suffix =
    decimal number ++ (codes " "
    ++ (command_name word ++
    (codes " " ++ (decimal count ++ (codes " " ++ (edit_unit count ++ (suffix ++ codes "\n")))))))

-- Why the command of this number can't be undone, or nothing if it can. Of one with 1,000 or more
-- after it nothing is said.
abbrev pub IsListedRefusal : ℕ → SessionContents → Option Fault → Type 0
IsListedRefusal number contents refusal =
    (MAX_TRIED ≤ length contents.records - number → refusal ≡ None)
    × (length contents.records - number < MAX_TRIED → IsTakeRefusal number contents refusal)

-- nothing, or the message of the error
abbrev pub IsSuffix : Option Fault → List ℕ → Type 0
IsSuffix None suffix = suffix ≡ []
IsSuffix (Some fault) suffix =
    IfSome (message_of (run_fault_of fault)) (λ message. suffix ≡ codes ": " ++ message)

-- the line of this record, which has this number
abbrev pub IsRecordLine : SessionContents → ℕ → JournalEntry → List ℕ → Type 0
IsRecordLine contents number r line =
    (refusal : Option Fault) × IsListedRefusal number contents refusal
    × (suffix : List ℕ) × IsSuffix refusal suffix
    × (line ≡ record_line number r.word (length r.edits.entries) suffix)

-- a line for each of these records, of which the first has this number
abbrev pub AreRecordLines : SessionContents → ℕ → List JournalEntry → List ℕ → Type 0
AreRecordLines contents number [] lines = lines ≡ []
AreRecordLines contents number (r ∷ rs) lines =
    (line : List ℕ) × (rest : List ℕ) × (lines ≡ line ++ rest)
    × IsRecordLine contents number r line × AreRecordLines contents (number + 1) rs rest
