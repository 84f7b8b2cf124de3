-- What a run prints: bytes, the lines of an error, and what arguments without a task print.
use Rattle.std.specs.Prelude.{◌≡◌, ◌⊎◌, ℕ, Bool, true, false, List, [], ◌++◌, codes}
use Rattle.std.specs.Prelude.{Option, Some, None, IfSome, string_bytes}
use Rattle.std.specs.Fmt.{decimal}
use Rattle.tf_cli.specs.declared.exits.Exit.{Exit}
use Rattle.tf_stream.specs.declared.told.Told.{Told}
use Rattle.tf_stream.specs.Streams.{Target, WritesBytes}
use Rattle.tf_stream.specs.Told.{inner_of, has_failed}
use Rattle.tf_session.specs.declared.fault.RunFault.{RunFault}
use Rattle.tf_session.specs.declared.fault.SessionPart.{SessionPart}
use Rattle.tf_session.specs.Faults.{message_of}
use Rattle.tf_session.specs.Streams.{IsWriteFault}
use Rattle.tf_files.specs.declared.cause.Cause.{Cause}
use Rattle.tf_program.specs.declared.file_error.Explained.{Explained}
use Rattle.tf_program.specs.declared.file_error.FileError.{FileError}
use Rattle.tf_program.specs.declared.hint.Hint.{Hint}
use Rattle.tf_program.specs.declared.location.Location.{Location}
use Rattle.tf_program.specs.declared.streams.Streams.{Streams}

-- ---- the streams

-- a stream to which a run prints: the bytes in it, where they are known, and whether a call has failed
pub record Channel : Type 0 where
  pub bytes : Option (List ℕ)
  pub failed : Bool

abbrev pub channel_of : {W : Type 0} → (W → Option (List ℕ)) → Told W → Channel
channel_of contents stream = record { bytes = contents (inner_of stream); failed = has_failed stream }

-- what standard input has left, where that is known; standard output; and standard error
pub record Console : Type 0 where
  pub unread : Option (List ℕ)
  pub output : Channel
  pub errors : Channel

abbrev pub console_of : {I O F : Type 0} → (I → Option (List ℕ)) → (O → Option (List ℕ))
    → (F → Option (List ℕ)) → Streams I O F → Console
console_of remaining output errors streams = record {
  unread = remaining (inner_of streams.input);
  output = channel_of output streams.output;
  errors = channel_of errors streams.errors;
}

-- ---- bytes

abbrev pub between : Channel → Channel → Target
between old new = record { before = old.bytes; after = new.bytes }

-- all of these bytes were printed
abbrev pub PrintsAll : List ℕ → Channel → Channel → Type 0
PrintsAll bytes old new = WritesBytes (between old new) bytes × (new.failed ≡ old.failed)

-- a call failed, after as many of these bytes as the error says
abbrev pub FailsToPrint : List ℕ → RunFault → Channel → Channel → Type 0
FailsToPrint bytes fault old new =
    IsWriteFault SessionPart.Text fault (between old new) bytes × (new.failed ≡ true)

-- a call failed, after the first of these bytes
abbrev pub PrintsPart : List ℕ → Channel → Channel → Type 0
PrintsPart bytes old new = (fault : RunFault) × FailsToPrint bytes fault old new

-- all of these bytes were printed; or a call failed, after the first of them
abbrev pub Prints : List ℕ → Channel → Channel → Type 0
Prints bytes old new = PrintsAll bytes old new ⊎ PrintsPart bytes old new

-- ---- the lines of an error

-- the message of an error; of one of another crate nothing is stated
abbrev pub IsMessage : RunFault → List ℕ → Type 0
IsMessage fault message = IfSome (message_of fault) (λ text. message ≡ text)

-- tfk: NAME: MESSAGE
abbrev pub error_line : List ℕ → List ℕ → List ℕ
error_line name message = codes "tfk: " ++ (name ++ (codes ": " ++ (message ++ codes "\n")))

-- NAME:LINE:COLUMN: error: SENTENCE
abbrev pub located_line : List ℕ → Location → List ℕ → List ℕ
located_line name location sentence =
    name ++ (codes ":" ++ (decimal location.line ++ (codes ":" ++ (decimal location.column
    ++ (codes ": error: " ++ (sentence ++ codes "\n"))))))

-- NAME: error: SENTENCE
abbrev pub unlocated_line : List ℕ → List ℕ → List ℕ
unlocated_line name sentence = name ++ (codes ": error: " ++ (sentence ++ codes "\n"))

-- why a file can't be read or written, if errors are located, or what an error of its journal means
abbrev pub IsReasonLine : List ℕ → Bool → Option Cause → Option Hint → List ℕ → Type 0
IsReasonLine name true (Some cause) hint line =
    (sentence : List ℕ) × (line ≡ unlocated_line name sentence)
IsReasonLine name false (Some cause) hint line = line ≡ []
IsReasonLine name locate None (Some hint) line =
    (sentence : List ℕ) × (line ≡ unlocated_line name sentence)
IsReasonLine name locate None None line = line ≡ []

-- what is said of the error, where that is; or where it is; or such a reason; or nothing
abbrev pub IsSecondLine : List ℕ → Bool → Option Explained → Option Location → Option Cause
    → Option Hint → List ℕ → Type 0
IsSecondLine name locate (Some explained) location cause hint line =
    line ≡ located_line name explained.location (string_bytes explained.sentence)
IsSecondLine name locate None (Some location) cause hint line =
    (sentence : List ℕ) × (line ≡ located_line name location sentence)
IsSecondLine name locate None None cause hint line = IsReasonLine name locate cause hint line

abbrev pub IsErrorText : List ℕ → Bool → FileError → List ℕ → Type 0
IsErrorText name locate error text =
    (message : List ℕ) × IsMessage error.fault message
    × (second : List ℕ)
    × IsSecondLine name locate error.explained error.location error.cause error.hint second
    × (text ≡ error_line name message ++ second)

-- the same where memory runs out for these lines: the message or, in its place and in place of a
-- second line, that memory ran out
abbrev pub IsShortErrorText : List ℕ → FileError → List ℕ → Type 0
IsShortErrorText name error text =
    (message : List ℕ) × (IsMessage error.fault message ⊎ (message ≡ codes "out of memory"))
    × (second : List ℕ) × ((second ≡ []) ⊎ (second ≡ error_line name (codes "out of memory")))
    × (text ≡ error_line name message ++ second)

abbrev pub PrintsError : List ℕ → Bool → FileError → Channel → Channel → Type 0
PrintsError name locate error old new =
    (text : List ℕ) × (IsErrorText name locate error text ⊎ IsShortErrorText name error text)
    × Prints text old new

-- ---- arguments without a task

abbrev pub out_of_memory : List ℕ
out_of_memory = codes "tfk: out of memory\n"

abbrev pub cannot_write : List ℕ
cannot_write = codes "tfk: cannot write standard output\n"

-- the text was printed on standard error, and nothing else
abbrev pub PrintsFault : List ℕ → ℕ → Console → Console → Type 0
PrintsFault text status old new =
    (status ≡ 1) × (new.unread ≡ old.unread) × (new.output ≡ old.output)
    × Prints text old.errors new.errors

-- what follows a text, so that its last line ends
abbrev pub IsLineEnd : List ℕ → Type 0
IsLineEnd end = (end ≡ []) ⊎ (end ≡ codes "\n")

-- The text was printed, with the end of its last line; or a call failed, which was printed on
-- standard error.
abbrev pub PrintsHelp : List ℕ → ℕ → Console → Console → Type 0
PrintsHelp text status old new =
    (end : List ℕ) × IsLineEnd end × (new.unread ≡ old.unread)
    × (((status ≡ 0) × PrintsAll (text ++ end) old.output new.output × (new.errors ≡ old.errors))
    ⊎ ((status ≡ 1) × PrintsPart (text ++ end) old.output new.output
    × Prints cannot_write old.errors new.errors))

-- what is printed of this end, and the exit status
abbrev pub PrintsExit : Exit → ℕ → Console → Console → Type 0
PrintsExit (Exit.Help text) status old new = PrintsHelp (string_bytes text) status old new
PrintsExit (Exit.UsageError text) status old new = PrintsFault (string_bytes text) status old new
PrintsExit Exit.Memory status old new = PrintsFault out_of_memory status old new
