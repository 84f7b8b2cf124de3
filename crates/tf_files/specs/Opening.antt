-- Why a file and its journal are not opened.
use Rattle.std.specs.Prelude.{Bool, true, false}
use Rattle.tf_session.specs.declared.fault.RunFault.{RunFault}

-- Whether an error is one of files, and of nothing that they hold: a read, a write or a removal
-- failed, a file is too long, or memory ran out.
abbrev pub is_file_fault : RunFault → Bool
is_file_fault RunFault.Memory = true
is_file_fault RunFault.Read = true
is_file_fault (RunFault.Write part sent) = true
is_file_fault RunFault.Endless = true
is_file_fault _ = false
