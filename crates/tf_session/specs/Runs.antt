-- Lists of commands over a state, by what one command does.
use Rattle.std.specs.Prelude.{◌≡◌, Bool, false, List, [], ◌∷◌, Result, Ok, Err, MatchBool}
use Rattle.tf_session.specs.declared.command.Command.{Command}
use Rattle.tf_session.specs.declared.command.Done.{Done}
use Rattle.tf_session.specs.declared.command.Fault.{Fault}
use Rattle.tf_session.specs.Rewrites.{is_memory_fault}

-- whether memory ran out inside the command
abbrev pub is_memory : Result Done Fault → Bool
is_memory (Ok d) = false
is_memory (Err fault) = is_memory_fault fault

-- One command where memory may run out: then its reply is Memory, and it changes nothing.
abbrev pub StepOrMemory : {State : Type 0} → (Command → State → Type 0)
    → (Command → State → Result Done Fault → State → Type 0)
    → Command → State → Result Done Fault → State → Type 0
StepOrMemory MayAllocate Step command old reply new =
    MatchBool (is_memory reply) (MayAllocate command old × (new ≡ old)) (Step command old reply new)

-- Each command has its reply, in order: there is a state between each two of them.
abbrev pub RunBy : {State Reply : Type 0} → (Command → State → Reply → State → Type 0)
    → State → List Command → List Reply → State → Type 0
RunBy Step old [] [] new = new ≡ old
RunBy Step old [] (reply ∷ replies) new = ⊥
RunBy Step old (command ∷ commands) [] new = ⊥
RunBy {State} Step old (command ∷ commands) (reply ∷ replies) new =
    (mid : State) × Step command old reply mid × RunBy Step mid commands replies new
