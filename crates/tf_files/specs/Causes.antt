-- What is known of why a file can't be read or written.
use Rattle.std.specs.Prelude.{ℕ, ℤ, Bool, false, Option, Some, None, if◌then◌else◌}
use Rattle.std.specs.Ordering.{int_eq}
use Rattle.tf_session.specs.declared.fault.RunFault.{RunFault}
use Rattle.tf_files.specs.declared.cause.Cause.{Cause}
use Rattle.tf_files.specs.declared.cause.Reason.{Reason}
use Rattle.tf_files.specs.declared.cause.Subject.{Subject}
use Rattle.tf_files.specs.declared.cause.TheConstants.{NO_SUCH_FILE}

-- the system refused a call on this file with this number, if it gave one
abbrev pub refused_with : Subject → Option ℤ → Option Cause
refused_with subject (Some number) =
    Some (record { subject = subject; reason = Reason.System number })
refused_with subject None = None

-- this file has more bytes than it may have, if that is the error
abbrev pub over_limit : RunFault → Subject → ℕ → Option Cause
over_limit RunFault.Endless subject limit =
    Some (record { subject = subject; reason = Reason.Over limit })
over_limit _ subject limit = None

-- the same reason, of another file
abbrev pub with_subject : Subject → Option Cause → Option Cause
with_subject subject (Some cause) = Some (record { subject = subject; reason = cause.reason })
with_subject subject None = None

-- there is no such file
abbrev pub is_missing : Reason → Bool
is_missing (Reason.System number) = int_eq number NO_SUCH_FILE
is_missing _ = false

-- the reason of what a link leads to, said of the link
abbrev pub reason_of_link : Reason → Reason
reason_of_link reason = if is_missing reason then Reason.LinkToNothing else reason

abbrev pub cause_of_link : Option Cause → Option Cause
cause_of_link (Some cause) =
    Some (record { subject = cause.subject; reason = reason_of_link cause.reason })
cause_of_link None = None

-- there is no file of the name that was given
abbrev pub is_file_missing : Subject → Reason → Bool
is_file_missing Subject.File reason = is_missing reason
is_file_missing _ reason = false

abbrev pub is_no_file : Cause → Bool
is_no_file cause = is_file_missing cause.subject cause.reason
