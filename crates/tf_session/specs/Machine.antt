-- The machine: a stack of whole texts. A fmt pushes the layout and a fix the stated replacement, if
-- it differs, and a revert pops the top. There is no record and no place in it, and no edit.
use Rattle.std.specs.Prelude.{◌≡◌, ◌≢◌, ℕ, Bool, true, List, [], ◌∷◌, Result, Ok, Err, if◌then◌else◌}
use Rattle.std.specs.List.{AllByRecursion}
use Rattle.tf_session.specs.declared.command.Command.{Command}
use Rattle.tf_session.specs.declared.command.Command.TheVariants.{Fmt, Fix, Revert, Take}
use Rattle.tf_session.specs.declared.command.Done.{Done}
use Rattle.tf_session.specs.declared.command.Fault.{Fault}
use Rattle.tf_session.specs.declared.command.Fault.TheVariants.{NoRecord}
use Rattle.tf_lint.specs.Steps.{Rewrite, texts_differ}
use Rattle.tf_session.specs.Rewrites.{Rewrites}
use Rattle.tf_session.specs.Runs.{StepOrMemory, RunBy}
use Rattle.tf_lint.specs.ParseFaults.{IsUtf8WithinLimit}

-- a text, and the command that pushed the next one
pub record StackEntry : Type 0 where
  pub text : List ℕ
  pub command : Command

-- whole texts, never none: the top, which was pushed last, and those below it, the nearest first
pub record Stack : Type 0 where
  pub top : List ℕ
  pub below : List StackEntry

abbrev pub initial_stack : List ℕ → Stack
initial_stack text = record { top = text; below = [] }

-- the text is pushed, if it differs
abbrev pub push_text : Command → List ℕ → Stack → Stack
push_text command text s =
    if texts_differ s.top text
    then record { top = text; below = (record { text = s.top; command = command }) ∷ s.below }
    else s

abbrev pub done : Bool → ℕ → ℕ → Done
done changed fixed left = record { changed = changed; fixed = fixed; left = left }

-- A command that makes a text pushes it, and one that refuses the top changes nothing.
abbrev pub PushesText : Command → Result Rewrite Fault → Stack → Result Done Fault → Stack → Type 0
PushesText command (Ok made) old reply new =
    (reply ≡ Ok (done (texts_differ old.top made.text) made.fixed made.left))
    × (new ≡ push_text command made.text old)
PushesText command (Err fault) old reply new = (reply ≡ Err fault) × (new ≡ old)

-- The top is popped, unless it is the only text.
abbrev pub PopsText : List ℕ → List StackEntry → Result Done Fault → Stack → Type 0
PopsText top [] reply new = (reply ≡ Err NoRecord) × (new ≡ initial_stack top)
PopsText top (under ∷ rest) reply new =
    (reply ≡ Ok (done true 0 0)) × (new ≡ record { top = under.text; below = rest })

-- One command over a stack, its reply, and the stack that it leaves. Take needs the edits between
-- the texts, so this machine does not have it.
abbrev pub StackStep : Command → Stack → Result Done Fault → Stack → Type 0
StackStep Fmt old reply new =
    (answer : Result Rewrite Fault) × Rewrites Fmt old.top answer × PushesText Fmt answer old reply new
StackStep (Fix rules) old reply new =
    (answer : Result Rewrite Fault) × Rewrites (Fix rules) old.top answer
    × PushesText (Fix rules) answer old reply new
StackStep Revert old reply new = PopsText old.top old.below reply new
StackStep (Take n) old reply new = ⊥

-- A fmt or a fix allocates only for a text that it reads, and a revert only if there is something
-- below.
abbrev pub StackMayAllocate : Command → Stack → Type 0
StackMayAllocate Fmt s = IsUtf8WithinLimit s.top
StackMayAllocate (Fix rules) s = IsUtf8WithinLimit s.top
StackMayAllocate Revert s = s.below ≢ []
StackMayAllocate (Take n) s = ⊥

-- one command where memory may run out
abbrev pub StackStepOrMemory : Command → Stack → Result Done Fault → Stack → Type 0
StackStepOrMemory = StepOrMemory StackMayAllocate StackStep

-- Each command has its reply, in order. One whose reply is Memory might as well not be in the list.
abbrev pub StackRun : Stack → List Command → List (Result Done Fault) → Stack → Type 0
StackRun = RunBy StackStepOrMemory

-- ---- the commands that this machine has

abbrev pub IsNotTake : Command → Type 0
IsNotTake (Take n) = ⊥
IsNotTake command = Unit {0}

abbrev pub WithoutTake : List Command → Type 0
WithoutTake = AllByRecursion IsNotTake
