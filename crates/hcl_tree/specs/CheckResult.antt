-- Which error is that too much nests.
use Rattle.hcl_text_laws.specs.declared.fault.ParseFault.{ParseFault}
use Rattle.hcl_text_laws.specs.declared.fault.ParseFault.TheVariants as fault

-- too much nests
abbrev pub IsTooDeep : ParseFault → Type 0
IsTooDeep (fault.TooDeep at) = Unit {0}
IsTooDeep (fault.Syntax at) = ⊥
IsTooDeep fault.Memory = ⊥
