-- Errors of the crates below as those of a command and of a stream: out of memory is `Memory` in
-- each of them, and no other error is.
use Rattle.std.specs.Prelude.{ℕ, List, ◌++◌, codes, Option, Some, None}
use Rattle.std.specs.Fmt.{decimal}
use Rattle.hcl_token.specs.declared.limit.TheConstants.{MAX_TEXT}
use Rattle.edit_record.specs.Lists.ChangeResults.{refused_message}
use Rattle.edit_record.specs.declared.fault.RecordFault.{RecordFault}
use Rattle.tf_rules.specs.Table.{name_of}
use Rattle.tf_session.specs.declared.command.Fault.{Fault}
use Rattle.tf_session.specs.declared.fault.RunFault.{RunFault}

abbrev pub run_fault_of : Fault → RunFault
run_fault_of (Fault.Scan fault) = RunFault.Scan fault
run_fault_of (Fault.Parse fault) = RunFault.Parse fault
run_fault_of (Fault.FixBroken rule) = RunFault.FixBroken rule
run_fault_of Fault.TooLong = RunFault.TooLong
run_fault_of Fault.NoRecord = RunFault.NoRecord
run_fault_of (Fault.Refused refused) = RunFault.Refused refused
run_fault_of Fault.Memory = RunFault.Memory
run_fault_of (Fault.Blocked number) = RunFault.Blocked number

abbrev pub run_fault_of_record : RecordFault → RunFault
run_fault_of_record RecordFault.Memory = RunFault.Memory
run_fault_of_record fault = RunFault.BadJournal fault

-- What is written of an error; nothing is stated of a message that is another crate's, but of that
-- of a record that does not fit.
abbrev pub message_of : RunFault → Option (List ℕ)
message_of (RunFault.FixBroken rule) =
    Some (codes "fix of " ++ (name_of rule ++ codes " does not parse"))
message_of RunFault.TooLong =
    Some (codes "the text has more than " ++ (decimal MAX_TEXT ++ codes " bytes"))
message_of RunFault.NoRecord = Some (codes "nothing to revert")
message_of (RunFault.Refused refused) = Some (refused_message refused)
message_of RunFault.Memory = Some (codes "out of memory")
message_of (RunFault.Blocked number) = Some (codes "blocked by command " ++ decimal number)
message_of RunFault.Read = Some (codes "cannot read")
message_of (RunFault.Write part sent) =
    Some (codes "cannot write, " ++ (decimal sent ++ codes " bytes sent"))
message_of RunFault.Endless = Some (codes "text or journal is too long")
message_of (RunFault.Scan fault) = None
message_of (RunFault.Parse fault) = None
message_of (RunFault.BadJournal fault) = None
