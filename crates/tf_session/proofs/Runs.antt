-- Runs of any machine: by induction on the commands.
use Rattle.std.proofs.Common.{◌≡◌, List, [], ◌∷◌, ◌++◌, Bool, true, false, MatchBool, Result, refl, subst}
use Rattle.tf_session.specs.declared.command.Command.{Command}
use Rattle.tf_session.specs.declared.command.Done.{Done}
use Rattle.tf_session.specs.declared.command.Fault.{Fault}
use Rattle.tf_session.specs.Runs.{is_memory, StepOrMemory, RunBy}
use Rattle.tf_session.specs.RunLaws.{completed_commands, completed_replies}

-- a run goes on by one command
pub run_more : {State : Type 0} (Step : Command → State → Result Done Fault → State → Type 0) (old mid new : State) (cs : List Command) (rs : List (Result Done Fault)) (c : Command) (r : Result Done Fault)
    → RunBy Step old cs rs mid → Step c mid r new → RunBy Step old (cs ++ c ∷ []) (rs ++ r ∷ []) new
run_more {State} Step old mid new [] [] c r h st = (new, subst (λ (x : State). Step c x r new) h st, refl)
run_more Step old mid new [] (x ∷ rs) c r h st = absurd h
run_more Step old mid new (x ∷ cs) [] c r h st = absurd h
run_more Step old mid new (x ∷ cs) (y ∷ rs) c r h st = (h.0, h.1, run_more Step h.0 mid new cs rs c r h.2 st)

module _ {State : Type 0} (MayAllocate : Command → State → Type 0) (Step : Command → State → Result Done Fault → State → Type 0) where
  by_memory : (b : Bool) (old mid new : State) (command : Command) (commands : List Command) (reply : Result Done Fault) (replies : List (Result Done Fault)) → is_memory reply ≡ b
      → MatchBool b (MayAllocate command old × (mid ≡ old)) (Step command old reply mid) → RunBy Step mid (completed_commands commands replies) (completed_replies replies) new
      → RunBy Step old (completed_commands (command ∷ commands) (reply ∷ replies)) (completed_replies (reply ∷ replies)) new
  by_memory true old mid new command commands reply replies e step h =
      rw e (subst (λ (s : State). RunBy Step s (completed_commands commands replies) (completed_replies replies) new) step.1 h)
  by_memory false old mid new command commands reply replies e step h = rw e (mid, step, h)

  -- commands that ran out of memory do not count
  pub memory_does_not_count : (old new : State) (commands : List Command) (replies : List (Result Done Fault)) → RunBy (StepOrMemory MayAllocate Step) old commands replies new
      → RunBy Step old (completed_commands commands replies) (completed_replies replies) new
  memory_does_not_count old new [] [] run = run
  memory_does_not_count old new [] (reply ∷ replies) run = absurd run
  memory_does_not_count old new (command ∷ commands) [] run = absurd run
  memory_does_not_count old new (command ∷ commands) (reply ∷ replies) run =
      by_memory (is_memory reply) old run.0 new command commands reply replies refl run.1 (memory_does_not_count run.0 new commands replies run.2)
