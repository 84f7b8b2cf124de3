-- The reply to a call by what the system answered.
use Rattle.std.specs.Prelude.{Bool, true, false, Result, Ok, Err, if◌then◌else◌}
use Rattle.std.specs.IoError.{error_kind}
use Rattle.std.specs.declared.io.Error.{Error}
use Rattle.std.specs.declared.io.ErrorKind.{ErrorKind}
use Rattle.tf_saving.specs.declared.call.Reply.{Reply}

-- no file has its name, or none can have it
abbrev pub shows_none : ErrorKind → Bool
shows_none ErrorKind.NotFound = true
shows_none ErrorKind.InvalidFilename = true
shows_none _ = false

-- after an error of this kind
abbrev pub reply_to_kind : ErrorKind → Reply
reply_to_kind kind = if shows_none kind then Reply.NotFound else Reply.Failed

abbrev pub reply_to : {T : Type 0} → Result T Error → Reply
reply_to (Ok value) = Reply.Done
reply_to (Err error) = reply_to_kind (error_kind error)
