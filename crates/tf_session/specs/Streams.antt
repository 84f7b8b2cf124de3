-- Whole texts from a source and to a target, and what was read and written at each error.
use Rattle.std.specs.Prelude.{◌≡◌, ◌⊎◌, ℕ, Bool, true, false, List}
use Rattle.hcl_scan.specs.Tokenization.{MAX_TEXT}
use Rattle.tf_stream.specs.Streams.{Source, Target, ReadsAll, ReadAtFault, WritesPrefix, Untouched}
use Rattle.tf_stream.specs.declared.fault.ReadFault.{ReadFault}
use Rattle.tf_session.specs.declared.command.Fault.{Fault}
use Rattle.tf_session.specs.declared.fault.RunFault.{RunFault}
use Rattle.tf_session.specs.declared.fault.RunFault.TheVariants.{Memory, Read, Write, Endless}
use Rattle.tf_session.specs.declared.fault.SessionPart.{SessionPart}
use Rattle.tf_session.specs.Faults.{run_fault_of}

-- this text is all that the source had
abbrev pub ReadsText : Source → List ℕ → Type 0
ReadsText source text = ReadsAll MAX_TEXT source text

-- why not all of the source was read within a limit, and what was read of it
abbrev pub ReadAllFault : ℕ → RunFault → Source → Type 0
ReadAllFault limit Memory source = ReadAtFault limit ReadFault.Memory source
ReadAllFault limit Read source = ReadAtFault limit ReadFault.Read source
ReadAllFault limit Endless source = ReadAtFault limit ReadFault.Endless source
ReadAllFault limit _ source = ⊥

-- why there is no text, and what was read of the source
abbrev pub IsReadStreamFault : RunFault → Source → Type 0
IsReadStreamFault fault source = ReadAllFault MAX_TEXT fault source

-- the error is Write of this part, and just the bytes that it says were sent are in the target
abbrev pub IsWriteFault : SessionPart → RunFault → Target → List ℕ → Type 0
IsWriteFault part (Write named sent) target bytes = (named ≡ part) × WritesPrefix sent target bytes
IsWriteFault part _ target bytes = ⊥

-- whether a write failed, or a flush
abbrev pub is_write : RunFault → Bool
is_write (Write part sent) = true
is_write _ = false

-- the whole text is refused, for one of these reasons
abbrev pub RefusesInput : (List ℕ → Fault → Type 0) → RunFault → Source → Type 0
RefusesInput Refuses fault source =
    (text : List ℕ) × ReadsText source text × (refusal : Fault) × (fault ≡ run_fault_of refusal)
    × Refuses text refusal

-- ---- how a call from a source to a target fails

-- there is no whole text, and nothing was written
abbrev pub FailsToRead : RunFault → Source → Target → Type 0
FailsToRead fault source target = IsReadStreamFault fault source × Untouched target

-- the whole text is refused, and nothing was written
abbrev pub FailsToMake : (List ℕ → Fault → Type 0) → RunFault → Source → Target → Type 0
FailsToMake Refuses fault source target = RefusesInput Refuses fault source × Untouched target

-- not all that was made of the whole text was written
abbrev pub FailsToWrite : (List ℕ → List ℕ → Type 0) → RunFault → Source → Target → Type 0
FailsToWrite Makes fault source target =
    (text : List ℕ) × (made : List ℕ) × ReadsText source text × Makes text made
    × IsWriteFault SessionPart.Text fault target made

abbrev pub StreamFault : (List ℕ → Fault → Type 0) → (List ℕ → List ℕ → Type 0) → RunFault
    → Source → Target → Type 0
StreamFault Refuses Makes fault source target =
    FailsToRead fault source target
    ⊎ FailsToMake Refuses fault source target
    ⊎ FailsToWrite Makes fault source target
