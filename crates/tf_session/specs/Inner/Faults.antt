-- Errors of the crates below as those of a command: what the conversions of the code return.
use Rattle.std.specs.Prelude.{ℕ, ◌+◌}
use Rattle.hcl_layout.specs.declared.gaps.fault.LayoutFault.{LayoutFault}
use Rattle.edit_record.specs.declared.lists.change.Refused.{Refused}
use Rattle.edit_record.specs.declared.swaps.reorder.MoveFault.{MoveFault}
use Rattle.tf_fix.specs.declared.fault.LintFault.{LintFault}
use Rattle.tf_lint.specs.declared.fault.FixFault.{FixFault}
use Rattle.tf_stream.specs.declared.fault.ReadFault.{ReadFault}
use Rattle.tf_session.specs.declared.command.Fault.{Fault}
use Rattle.tf_session.specs.declared.fault.RunFault.{RunFault}

abbrev pub fault_of_fix : FixFault → Fault
fault_of_fix (FixFault.Scan fault) = Fault.Scan fault
fault_of_fix (FixFault.Parse fault) = Fault.Parse fault
fault_of_fix (FixFault.FixBroken rule) = Fault.FixBroken rule
fault_of_fix FixFault.TooLong = Fault.TooLong
fault_of_fix FixFault.Memory = Fault.Memory

abbrev pub fault_of_layout : LayoutFault → Fault
fault_of_layout LayoutFault.TooLong = Fault.TooLong
fault_of_layout LayoutFault.Memory = Fault.Memory

abbrev pub fault_of_lint : LintFault → Fault
fault_of_lint LintFault.TooLong = Fault.TooLong
fault_of_lint LintFault.Memory = Fault.Memory

abbrev pub fault_of_refused : Refused → Fault
fault_of_refused Refused.Memory = Fault.Memory
fault_of_refused refused = Fault.Refused refused

abbrev pub run_fault_of_read : ReadFault → RunFault
run_fault_of_read ReadFault.Read = RunFault.Read
run_fault_of_read ReadFault.Endless = RunFault.Endless
run_fault_of_read ReadFault.Memory = RunFault.Memory

-- how many records, from record n on, are counted for this result
abbrev pub counted_records : MoveFault → ℕ
counted_records (MoveFault.Blocked passed) = passed + 1
counted_records _ = 0

-- what `move_to_end` returns of the records after record n, of which it counts the first as 0
abbrev pub fault_of_move : ℕ → MoveFault → Fault
fault_of_move n (MoveFault.Length expected found) = Fault.Refused (Refused.Length expected found)
fault_of_move n (MoveFault.Blocked passed) = Fault.Blocked (n + passed + 1)
fault_of_move n MoveFault.TooLong = Fault.TooLong
fault_of_move n MoveFault.Memory = Fault.Memory
