-- The error is at a byte, or at none.
use Rattle.std.proofs.Common.{ℕ, Option, Some, None, subst}
use Rattle.tf_program.specs.declared.location.Location.{Location}
use Rattle.tf_program.specs.Location.{IsLocationOf}
use Rattle.tf_program.proofs.file_error.location_in.Goals as goal

pub returns-in-Some : goal.returns-in-Some
returns-in-Some c =
    subst (λ (at : Option ℕ). IsLocationOf c.args.text.now at (Some c.location_of.result)) c.in-Some.ensures c.location_of.ensures

pub returns-in-None : goal.returns-in-None
returns-in-None c =
    let none : Option Location = None in
    subst (λ (at : Option ℕ). IsLocationOf c.args.text.now at none) c.in-None.ensures tt
