-- Laws of the machine, over lists of commands.
use Rattle.std.specs.Prelude.{◌≡◌, ◌≤◌, ℕ, true, List, [], ◌∷◌, map, length, drop, replicate, Result, Ok}
use Rattle.std.specs.Prelude.{if◌then◌else◌}
use Rattle.tf_session.specs.declared.command.Command.{Command}
use Rattle.tf_session.specs.declared.command.Command.TheVariants.{Revert}
use Rattle.tf_session.specs.declared.command.Done.{Done}
use Rattle.tf_session.specs.declared.command.Fault.{Fault}
use Rattle.tf_session.specs.Machine.{StackEntry, Stack, initial_stack, done, StackStep, StackRun}
use Rattle.tf_session.specs.Runs.{is_memory, RunBy}

-- the commands whose reply is not Memory
abbrev pub completed_commands : List Command → List (Result Done Fault) → List Command
completed_commands [] replies = []
completed_commands (command ∷ commands) [] = []
completed_commands (command ∷ commands) (reply ∷ replies) =
    if is_memory reply
    then completed_commands commands replies
    else command ∷ completed_commands commands replies

-- the replies that are not Memory
abbrev pub completed_replies : List (Result Done Fault) → List (Result Done Fault)
completed_replies [] = []
completed_replies (reply ∷ replies) =
    if is_memory reply
    then completed_replies replies
    else reply ∷ completed_replies replies

-- the machine over a list of commands, if memory does not run out
abbrev pub StackRunWithMemory : Stack → List Command → List (Result Done Fault) → Stack → Type 0
StackRunWithMemory = RunBy StackStep

-- In any run, replies and stack are those of the machine over the commands that had memory.
abbrev pub OutOfMemoryChangesNothing : Type 0
OutOfMemoryChangesNothing =
    (old new : Stack) (commands : List Command) (replies : List (Result Done Fault))
    → StackRun old commands replies new
    → StackRunWithMemory old (completed_commands commands replies) (completed_replies replies) new

-- the texts of a stack, from the top down
abbrev pub texts_of : Stack → List (List ℕ)
texts_of s = s.top ∷ map (λ (u : StackEntry). u.text) s.below

abbrev pub revert_reply : Result Done Fault
revert_reply = Ok (done true 0 0)

-- As many reverts as there are texts below, or fewer, pop one text each and leave the rest byte for
-- byte.
abbrev pub RevertsPop : Type 0
RevertsPop = (k : ℕ) (old new : Stack) (replies : List (Result Done Fault))
    → k ≤ length old.below → StackRunWithMemory old (replicate k Revert) replies new
    → (texts_of new ≡ drop k (texts_of old)) × (replies ≡ replicate k revert_reply)

-- After any commands over a text, as many reverts as there are texts below the top leave the text
-- that was there first, alone.
abbrev pub RevertsRestoreTheFirst : Type 0
RevertsRestoreTheFirst =
    (text : List ℕ) (commands : List Command) (replies answers : List (Result Done Fault))
    (mid new : Stack) → StackRunWithMemory (initial_stack text) commands replies mid
    → StackRunWithMemory mid (replicate (length mid.below) Revert) answers new → new ≡ initial_stack text
