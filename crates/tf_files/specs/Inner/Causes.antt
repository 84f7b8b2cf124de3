-- What a save notes of its causes.
use Rattle.std.specs.Prelude.{Option, Some, None}
use Rattle.tf_session.specs.declared.fault.SessionPart.{SessionPart}
use Rattle.tf_files.specs.declared.calls.PartFile.{PartFile}
use Rattle.tf_files.specs.declared.cause.Cause.{Cause}
use Rattle.tf_files.specs.declared.cause.Subject.{Subject}

-- the first of two that is known
abbrev pub first_known : Option Cause → Option Cause → Option Cause
first_known (Some cause) other = Some cause
first_known None other = other

-- the file that is saved as this part
abbrev pub subject_of : SessionPart → Subject
subject_of SessionPart.Text = Subject.File
subject_of SessionPart.Journal = Subject.Journal

-- a part, of which a call failed for this reason
abbrev pub with_cause : PartFile → Option Cause → PartFile
with_cause file cause = record file { cause = cause }

-- and of which none of the bytes that were written is to be reported
abbrev pub unlike : PartFile → Option Cause → PartFile
unlike file cause = record file { sent = 0; cause = cause }
