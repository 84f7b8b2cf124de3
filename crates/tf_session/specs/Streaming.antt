-- One command over a whole text, from a reader to a writer, with no journal before it; and whether
-- a whole text is formatted.
use Rattle.std.specs.Prelude.{◌↔◌, ◌⊎◌, ℕ, Bool, List, IsTrue}
use Rattle.edit_record.specs.Lists.Journal.{JournalEntry}
use Rattle.hcl_layout.specs.Layouts.{IsLayout, IsTooLong}
use Rattle.tf_stream.specs.Streams.{Source, Target, WritesBytes}
use Rattle.tf_session.specs.declared.command.Command.{Command}
use Rattle.tf_session.specs.declared.command.Command.TheVariants.{Fmt}
use Rattle.tf_session.specs.declared.command.Done.{Done}
use Rattle.tf_session.specs.declared.fault.RunFault.{RunFault}
use Rattle.tf_session.specs.Parsing.{DoesParse}
use Rattle.tf_session.specs.Rewrites.{RefusesText}
use Rattle.tf_session.specs.Records.{DoesStep, StepsTo, RefusesAlone}
use Rattle.tf_session.specs.Session.{SessionContents, with_records, without_records}
use Rattle.tf_session.specs.Streams.{ReadsText, IsReadStreamFault, RefusesInput, StreamFault}

-- The source had a whole text; the command made this of it, with no record before it, and the new
-- text was written to the target.
abbrev pub StepsStream : Command → Done → SessionContents → Source → Target → Type 0
StepsStream command d new source target =
    (text : List ℕ) × ReadsText source text × DoesStep command (without_records text) d new
    × WritesBytes target new.text

-- There is no whole text, or the command refuses it, or not all of the new text was written.
abbrev pub StepStreamFault : Command → RunFault → Source → Target → Type 0
StepStreamFault command fault source target =
    StreamFault (RefusesAlone command) (StepsTo command) fault source target

-- The source had a whole text, and what a fmt makes of it was written to the target.
abbrev pub FormatsStream : Source → Target → Type 0
FormatsStream source target =
    (d : Done) × (new : List ℕ) × (records : List JournalEntry)
    × StepsStream Fmt d (with_records new records) source target

-- The source had a text that parses, with a layout within the limit, and the answer is true if and
-- only if it is its own layout.
abbrev pub ChecksStream : Bool → Source → Type 0
ChecksStream answer source =
    (text : List ℕ) × ReadsText source text × DoesParse text × ¬ (IsTooLong text)
    × (IsTrue answer ↔ IsLayout text text)

-- There is no whole text, or a fmt refuses it.
abbrev pub CheckStreamFault : RunFault → Source → Type 0
CheckStreamFault fault source = IsReadStreamFault fault source ⊎ RefusesInput (RefusesText Fmt) fault source
