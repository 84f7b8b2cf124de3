-- The machine has at most one reply to each command, but for which `Parse` error it is, and leaves
-- at most one stack.
use Rattle.std.specs.Prelude.{◌≡◌, ◌⊎◌, Result, Err}
use Rattle.hcl_text_laws.specs.declared.fault.ParseFault.{ParseFault}
use Rattle.tf_session.specs.declared.command.Command.{Command}
use Rattle.tf_session.specs.declared.command.Done.{Done}
use Rattle.tf_session.specs.declared.command.Fault.{Fault}
use Rattle.tf_session.specs.declared.command.Fault.TheVariants.{Parse}
use Rattle.tf_session.specs.Machine.{Stack, StackStep}

-- Two results are one; but if the text does not parse, the error is one only in what it says of the
-- text.
abbrev pub AreSameUpToParseFault : {X : Type 0} → Result X Fault → Result X Fault → Type 0
AreSameUpToParseFault a b = (a ≡ b)
    ⊎ ((fault : ParseFault) × (other : ParseFault) × (a ≡ Err (Parse fault))
    × (b ≡ Err (Parse other)))

-- a command over a stack has at most one reply, but for which `Parse` error it is, and at most one
-- new stack
abbrev pub CommandResultIsUnique : Type 0
CommandResultIsUnique =
    (command : Command) (old : Stack) (reply other : Result Done Fault) (new another : Stack)
    → StackStep command old reply new → StackStep command old other another
    → AreSameUpToParseFault reply other × (new ≡ another)
