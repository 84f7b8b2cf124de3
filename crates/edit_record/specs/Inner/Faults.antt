-- The public error for a reader's stop, and the stop for steps that do not squash.
use Rattle.std.specs.Prelude.{ℕ}
use Rattle.edit_record.specs.Decoding.{fault_in}
use Rattle.edit_record.specs.declared.fault.RecordFault.{RecordFault}
use Rattle.edit_record.specs.declared.fault.RecordFault.TheVariants as faults
use Rattle.edit_record.specs.declared.fault.DecodeStop.{DecodeStop}
use Rattle.edit_record.specs.declared.fault.DecodeStop.TheVariants as stops
use Rattle.edit_record.specs.declared.fault.FaultKind.TheVariants.{Steps}
use Rattle.edit_record.specs.declared.squashes.squash_lists.Unmet.{Unmet}
use Rattle.edit_record.specs.declared.squashes.squash_lists.Unmet.TheVariants as unmets

abbrev pub fault_of : DecodeStop → ℕ → RecordFault
fault_of stops.Memory len = faults.Memory
fault_of (stops.Bad e) len = fault_in len e

-- why a step is not squashed with those before it, if it begins `left` bytes before the end
abbrev pub stop_of : Unmet → ℕ → DecodeStop
stop_of unmets.LengthsDiffer left = stops.Bad (record { kind = Steps; left = left })
stop_of (unmets.Contradicts edit) left = stops.Bad (record { kind = Steps; left = left })
stop_of unmets.Memory left = stops.Memory
