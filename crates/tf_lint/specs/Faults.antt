-- Errors of the layers below as those of a fix: out of memory is always an error of its own.
use Rattle.hcl_scan.specs.declared.fault.ScanFault.{ScanFault}
use Rattle.hcl_scan.specs.declared.fault.ScanFault.TheVariants.{Memory}
use Rattle.hcl_text_laws.specs.declared.fault.ParseFault.{ParseFault}
use Rattle.tf_fix.specs.declared.fault.LintFault.{LintFault}
use Rattle.tf_lint.specs.declared.fault.FixFault.{FixFault}

abbrev pub fault_of_scan : ScanFault → FixFault
fault_of_scan Memory = FixFault.Memory
fault_of_scan fault = FixFault.Scan fault

abbrev pub fault_of_parse : ParseFault → FixFault
fault_of_parse ParseFault.Memory = FixFault.Memory
fault_of_parse fault = FixFault.Parse fault

abbrev pub fault_of_lint : LintFault → FixFault
fault_of_lint LintFault.TooLong = FixFault.TooLong
fault_of_lint LintFault.Memory = FixFault.Memory
