-- Where what is said of an error of a text is printed.
use Rattle.std.specs.Prelude.{ℕ, List}
use Rattle.hcl_explain.specs.Said.{IsSaidOfScan, IsSaidOfParse}
use Rattle.tf_session.specs.declared.fault.RunFault.{RunFault}
use Rattle.tf_session.specs.declared.fault.RunFault.TheVariants as fault
use Rattle.tf_program.specs.Location.{IsLocation}
use Rattle.tf_program.specs.declared.location.Location.{Location}

-- it is printed here
abbrev pub IsSaidAt : List ℕ → RunFault → Location → Type 0
IsSaidAt text (fault.Scan error) location =
    (at : ℕ) × IsSaidOfScan text error at × IsLocation text at location
IsSaidAt text (fault.Parse error) location =
    (at : ℕ) × IsSaidOfParse text error at × IsLocation text at location
IsSaidAt text _ location = ⊥
