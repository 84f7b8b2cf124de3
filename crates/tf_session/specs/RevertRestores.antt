-- A command is reverted over what it wrote.
use Rattle.std.specs.Prelude.{◌≡◌, ℕ, Bool, true, false, List, [], Some}
use Rattle.tf_stream.specs.Streams.{Source, Target}
use Rattle.tf_session.specs.declared.command.Command.{Command}
use Rattle.tf_session.specs.declared.command.Command.TheVariants.{Fmt, Fix, Revert}
use Rattle.tf_session.specs.declared.command.Done.{Done}
use Rattle.tf_session.specs.declared.fault.RunFault.{RunFault}
use Rattle.tf_session.specs.declared.fault.RunFault.TheVariants.{Memory, Read, Write}
use Rattle.tf_session.specs.Machine.{done}
use Rattle.tf_session.specs.Journals.{Loads, Saves, Endpoints, StreamsCommand, JournaledStreamFault}
use Rattle.tf_session.specs.Session.{SessionContents}

-- the source has just what was written to the target, which held nothing before
pub record ReadsBack (target : Target) (source : Source) : Type 0 where
  pub bytes : List ℕ
  pub empty : target.before ≡ Some []
  pub written : target.after ≡ Some bytes
  pub read : source.before ≡ Some bytes

-- The second call reads what the first one wrote.
pub record ReadsWhatWasWritten (first second : Endpoints) : Type 0 where
  pub text : ReadsBack first.text_out second.text_in
  pub journal : ReadsBack first.journal_out second.journal_in

-- fmt and fix add a record, if the text changes
abbrev pub AddsOneRecord : Command → Type 0
AddsOneRecord Fmt = Unit {0}
AddsOneRecord (Fix rules) = Unit {0}
AddsOneRecord _ = ⊥

-- A fmt or a fix that changed the text, and then a revert over what it wrote: that writes the first
-- text again, with the journal as it was read.
abbrev pub RevertRestores : Type 0
RevertRestores = (command : Command) (d again : Done) (first second : Endpoints) → AddsOneRecord command
    → StreamsCommand command d first → d.changed ≡ true
    → ReadsWhatWasWritten first second → StreamsCommand Revert again second
    → (old : SessionContents) × Loads old first.text_in first.journal_in
    × Saves old second.journal_out second.text_out × (again ≡ done true 0 0)

-- memory ran out, or a read or a write failed
abbrev pub is_from_outside : RunFault → Bool
is_from_outside Memory = true
is_from_outside Read = true
is_from_outside (Write part sent) = true
is_from_outside _ = false

-- That revert is never refused for what it reads.
abbrev pub RevertSucceeds : Type 0
RevertSucceeds = (command : Command) (d : Done) (first second : Endpoints) → AddsOneRecord command
    → StreamsCommand command d first → d.changed ≡ true
    → ReadsWhatWasWritten first second → (fault : RunFault)
    → JournaledStreamFault Revert fault second → is_from_outside fault ≡ true
