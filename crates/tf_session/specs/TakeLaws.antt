-- Laws of the machine with take, over lists of commands; and of a take over any text and journal.
use Rattle.std.specs.Prelude.{◌≡◌, ◌↔◌, ◌+◌, ◌⊎◌, ℕ, List, ◌∷◌, length, replicate, Result}
use Rattle.edit_record.specs.Lists.Pieces.{EditList, Transforms}
use Rattle.edit_record.specs.Lists.Journal.{edits_of}
use Rattle.tf_session.specs.declared.command.Command.{Command}
use Rattle.tf_session.specs.declared.command.Command.TheVariants.{Revert}
use Rattle.tf_session.specs.declared.command.Done.{Done}
use Rattle.tf_session.specs.declared.command.Fault.{Fault}
use Rattle.tf_session.specs.declared.command.Fault.TheVariants.{Memory}
use Rattle.tf_session.specs.JournalLaws.{SquashToOne}
use Rattle.tf_session.specs.ResultIsUnique.{AreSameUpToParseFault}
use Rattle.tf_session.specs.RunLaws.{completed_commands, completed_replies}
use Rattle.tf_session.specs.Records.{RevertsLast, RefusesRevert}
use Rattle.tf_session.specs.RemovingRecord.{RemovesRecord, RefusesTake}
use Rattle.tf_session.specs.Session.{SessionContents}
use Rattle.tf_session.specs.Runs.{RunBy}
use Rattle.tf_session.specs.Layers.{History, initial_history, top_text, records_in, IsHistory, RemovesLayer}
use Rattle.tf_session.specs.Layers.{TakeStep, HistoryStep, HistoryRun}

-- the machine over a list of commands, if memory does not run out
abbrev pub HistoryRunWithMemory : History → List Command → List (Result Done Fault) → History → Type 0
HistoryRunWithMemory = RunBy HistoryStep

-- In any run, takes among its commands, replies and history are those of the machine over the
-- commands that had memory.
abbrev pub OutOfMemoryChangesNothingOverLayers : Type 0
OutOfMemoryChangesNothingOverLayers =
    (old new : History) (commands : List Command) (replies : List (Result Done Fault))
    → HistoryRun old commands replies new
    → HistoryRunWithMemory old (completed_commands commands replies) (completed_replies replies) new

-- a command over a history has at most one reply, but for which `Parse` error it is, and leaves at
-- most one history
abbrev pub CommandResultIsUniqueOverLayers : Type 0
CommandResultIsUniqueOverLayers =
    (command : Command) (old : History) (reply other : Result Done Fault) (new another : History)
    → HistoryStep command old reply new → HistoryStep command old other another
    → AreSameUpToParseFault reply other × (new ≡ another)

-- What a take leaves is a history again, on the same first text and with one layer less. The edits
-- of the removed layer, as they are after all others, turn its text into the one before the take:
-- so it is that text without what the command did.
pub record PreservesHistory (n : ℕ) (old : History) (d : Done) (new : History)
    (out : RemovesLayer n old d new) : Type 0 where
  pub first : new.first ≡ old.first
  pub one_less : length new.layers + 1 ≡ length old.layers
  pub is_history : IsHistory new
  pub transforms : Transforms out.moved_edits (top_text new) (top_text old)

abbrev pub TakePreservesHistory : Type 0
TakePreservesHistory = (n : ℕ) (old : History) (d : Done) (new : History) → IsHistory old
    → (out : RemovesLayer n old d new) → PreservesHistory n old d new out

-- After any commands over a text, takes among them, as many reverts as there are layers leave the
-- text that was there first, alone.
abbrev pub RevertsRestoreTheFirstAfterTakes : Type 0
RevertsRestoreTheFirstAfterTakes =
    (text : List ℕ) (commands : List Command) (replies answers : List (Result Done Fault))
    (mid new : History) → HistoryRun (initial_history text) commands replies mid
    → HistoryRunWithMemory mid (replicate (length mid.layers) Revert) answers new → new ≡ initial_history text

-- The records of the journal of any run, takes among its commands, become one list that turns the
-- first text into the last.
abbrev pub JournalSquashesToOneAfterTakes : Type 0
JournalSquashesToOneAfterTakes =
    (text : List ℕ) (commands : List Command) (replies : List (Result Done Fault)) (end : History)
    → HistoryRun (initial_history text) commands replies end → IsHistory end
    → (first : EditList) (others : List EditList)
    → edits_of (records_in end.layers) ≡ first ∷ others → SquashToOne text (top_text end) first others

-- A take has at most one reply and leaves at most one history. So Blocked, TooLong, NoRecord and
-- Done exclude each other, and each is the reply if and only if it holds.
abbrev pub TakeResultIsUnique : Type 0
TakeResultIsUnique = (n : ℕ) (old : History) (reply other : Result Done Fault)
    (new another : History) → TakeStep n old reply new → TakeStep n old other another
    → (reply ≡ other) × (new ≡ another)

-- ---- over any text and any journal, from outside too

-- A take has one result, memory aside: it leaves one text and one journal; it is not both done and
-- refused; and it is refused for one reason.
pub record TakeResultIsUniqueOverRecords (n : ℕ) (old : SessionContents) : Type 0 where
  pub one_result : (d e : Done) (new other : SessionContents) → RemovesRecord n old d new
      → RemovesRecord n old e other → (d ≡ e) × (new ≡ other)
  pub not_both : (d : Done) (new : SessionContents) (fault : Fault) → RemovesRecord n old d new
      → RefusesTake n old fault → fault ≡ Memory
  pub one_reason : (fault other : Fault) → RefusesTake n old fault
      → RefusesTake n old other → (fault ≡ other) ⊎ (fault ≡ Memory) ⊎ (other ≡ Memory)

-- A take of the last record is a revert: it leaves the same, and is refused for the same reasons.
pub record LastTakeIsRevert (old : SessionContents) : Type 0 where
  pub leaves : (d : Done) (new : SessionContents)
      → RemovesRecord (length old.records) old d new ↔ RevertsLast old d new
  pub refuses : (fault : Fault)
      → RefusesTake (length old.records) old fault ↔ RefusesRevert old fault
