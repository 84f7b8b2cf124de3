-- Without take the machine that keeps the edits is the machine of whole texts.
use Rattle.std.specs.Prelude.{◌≡◌, true, ℕ, List, [], ◌∷◌, ◌++◌, Result}
use Rattle.tf_session.specs.declared.command.Command.{Command}
use Rattle.tf_session.specs.declared.command.Done.{Done}
use Rattle.tf_session.specs.declared.command.Fault.{Fault}
use Rattle.tf_lint.specs.Steps.{texts_differ}
use Rattle.tf_session.specs.Layers.{Layer, History, initial_history, HistoryRun}
use Rattle.tf_session.specs.Machine.{StackEntry, Stack, initial_stack, StackRun, WithoutTake}

-- the texts of the layers are those of the stack, and neighbors differ
abbrev pub LayersMatchStack : List ℕ → List Layer → List ℕ → List StackEntry → Type 0
LayersMatchStack first layers top [] = (layers ≡ []) × (top ≡ first)
LayersMatchStack first layers top (under ∷ rest) =
    (lower : List Layer) × (last : Layer) × (layers ≡ lower ++ last ∷ []) × (last.text ≡ top)
    × (texts_differ under.text top ≡ true) × LayersMatchStack first lower under.text rest

abbrev pub MatchesStack : History → Stack → Type 0
MatchesStack h s = LayersMatchStack h.first h.layers s.top s.below

-- If there is no take among the commands, each run of the one machine is one of the other, with
-- the same replies and texts.
pub record MachinesAgree (text : List ℕ) (commands : List Command)
    (replies : List (Result Done Fault)) : Type 0 where
  pub history_to_stack : (end : History) → HistoryRun (initial_history text) commands replies end
      → (s : Stack) × StackRun (initial_stack text) commands replies s × MatchesStack end s
  pub stack_to_history : (end : Stack) → StackRun (initial_stack text) commands replies end
      → (h : History) × HistoryRun (initial_history text) commands replies h × MatchesStack h end

abbrev pub MachinesAgreeWithoutTake : Type 0
MachinesAgreeWithoutTake =
    (text : List ℕ) (commands : List Command) (replies : List (Result Done Fault))
    → WithoutTake commands → MachinesAgree text commands replies
