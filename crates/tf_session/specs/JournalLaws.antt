-- The records of a journal as one list of edits.
use Rattle.std.specs.Prelude.{◌≡◌, ℕ, List, ◌∷◌, ◌++◌, Result}
use Rattle.edit_record.specs.Lists.Journal.{JournalEntry, edits_of}
use Rattle.std.specs.List.{AllByRecursion}
use Rattle.edit_record.specs.Lists.Validity.{IsValidList, new_len}
use Rattle.edit_record.specs.Lists.Pieces.{EditList, Transforms}
use Rattle.edit_record.specs.Squashes.SquashLists.{SquashAll}
use Rattle.edit_record.specs.Squashes.Squash.{AreComposable}
use Rattle.tf_session.specs.declared.command.Command.{Command}
use Rattle.tf_session.specs.declared.command.Done.{Done}
use Rattle.tf_session.specs.declared.command.Fault.{Fault}
use Rattle.tf_session.specs.Machine.{Stack, initial_stack, StackRun}
use Rattle.tf_session.specs.Records.{IsJournalOfStack}

-- The lists, squashed from the first on, each into the result up to there, become one that turns
-- the one text into the other. On the way each can follow those before it, so squashing it fails
-- only if memory runs out. There is such a list, as those of a journal's records are valid (law
-- `edits_are_valid` of edit_record).
pub record SquashToOne (text top : List ℕ) (first : EditList) (others : List EditList) : Type 0 where
  pub composable : (before : List EditList) (next : EditList) (after : List EditList)
      (so_far : EditList) → others ≡ before ++ next ∷ after
      → SquashAll first before so_far → (new_len so_far ≡ next.old_len) × AreComposable so_far next
  pub exists : AllByRecursion IsValidList (first ∷ others)
      → (one : EditList) × SquashAll first others one
  pub transforms : (one : EditList) → SquashAll first others one → Transforms one text top

-- The records of the journal of any run, if it has any, become one list that turns the first text
-- into the last.
abbrev pub JournalSquashesToOne : Type 0
JournalSquashesToOne = (text : List ℕ) (commands : List Command) (replies : List (Result Done Fault))
    (end : Stack) (records : List JournalEntry)
    → StackRun (initial_stack text) commands replies end → IsJournalOfStack records end.top end.below
    → (first : EditList) (others : List EditList) → edits_of records ≡ first ∷ others
    → SquashToOne text end.top first others
