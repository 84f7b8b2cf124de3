-- The machine that keeps the edits between its texts: fmt and fix push a layer, revert pops the
-- last one, and take removes any one, as if the command that pushed it had not been given. Without
-- take it is the machine of whole texts.
use Rattle.std.specs.Prelude.{◌≡◌, ◌≢◌, ℕ, List, [], ◌∷◌, ◌++◌, map, Result, Ok, Err, if◌then◌else◌}
use Rattle.edit_record.specs.declared.lists.record.Word.{Word}
use Rattle.edit_record.specs.Lists.Pieces.{EditList, Transforms}
use Rattle.edit_record.specs.Lists.Journal.{JournalEntry, edits_of, words_of}
use Rattle.edit_record.specs.Swaps.MoveToEnd.{IsMovedToEnd}
use Rattle.tf_session.specs.declared.command.Command.{Command}
use Rattle.tf_session.specs.declared.command.Command.TheVariants.{Fmt, Fix, Revert, Take}
use Rattle.tf_session.specs.declared.command.Done.{Done}
use Rattle.tf_session.specs.declared.command.Fault.{Fault}
use Rattle.tf_session.specs.declared.command.Fault.TheVariants.{NoRecord}
use Rattle.tf_lint.specs.Steps.{Rewrite, texts_differ}
use Rattle.tf_session.specs.Fixing.{FixRewritesBy}
use Rattle.tf_session.specs.Rewrites.{Rewrites}
use Rattle.tf_lint.specs.ParseFaults.{IsUtf8WithinLimit}
use Rattle.tf_session.specs.Machine.{done}
use Rattle.tf_session.specs.Runs.{StepOrMemory, RunBy}
use Rattle.tf_session.specs.NthItem.{Nth}
use Rattle.tf_session.specs.RemovingRecord.{CannotRemove, TakeMayAllocate}
use Rattle.tf_session.specs.Session.{with_records}

-- one text on another: the word of the command that pushed it, the edits between the two, and the
-- upper text
pub record Layer : Type 0 where
  pub word : Word
  pub edits : EditList
  pub text : List ℕ

-- the first text, and the layers on it, the oldest first
pub record History : Type 0 where
  pub first : List ℕ
  pub layers : List Layer

abbrev pub initial_history : List ℕ → History
initial_history text = record { first = text; layers = [] }

-- the text of the last layer, or the first text where there is none
abbrev pub last_text : List ℕ → List Layer → List ℕ
last_text text [] = text
last_text text (layer ∷ layers) = last_text layer.text layers

abbrev pub top_text : History → List ℕ
top_text h = last_text h.first h.layers

-- the record of each layer, the oldest first
abbrev pub record_of : Layer → JournalEntry
record_of layer = record { word = layer.word; edits = layer.edits }

abbrev pub records_in : List Layer → List JournalEntry
records_in layers = map record_of layers

-- the edits of each layer turn the text below it into its own
abbrev pub LayersAreConsistent : List ℕ → List Layer → Type 0
LayersAreConsistent below [] = Unit {0}
LayersAreConsistent below (layer ∷ layers) =
    Transforms layer.edits below layer.text
    × LayersAreConsistent layer.text layers

abbrev pub IsHistory : History → Type 0
IsHistory h = LayersAreConsistent h.first h.layers

-- ---- fmt and fix

-- a layer with these edits is pushed, if the text differs
abbrev pub push_layer : Word → Rewrite → History → History
push_layer word made h =
    if texts_differ (top_text h) made.text
    then record {
      first = h.first;
      layers = h.layers ++ (record { word = word; edits = made.edits; text = made.text })
          ∷ [];
    } else h

abbrev pub PushesLayer : Word → Result Rewrite Fault → History → Result Done Fault → History → Type 0
PushesLayer word (Ok made) old reply new =
    (reply ≡ Ok (done (texts_differ (top_text old) made.text) made.fixed made.left))
    × (new ≡ push_layer word made old)
PushesLayer word (Err fault) old reply new = (reply ≡ Err fault) × (new ≡ old)

-- ---- revert

-- The last layer is popped. The reply says whether the two texts differ.
pub record PopsLast (old : History) (d : Done) (new : History) : Type 0 where
  pub rest : List Layer
  pub last : Layer
  pub layers_are : old.layers ≡ rest ++ last ∷ []
  pub new_is : new ≡ record { first = old.first; layers = rest }
  pub done_is : d ≡ done (texts_differ (top_text new) (top_text old)) 0 0

abbrev pub PopsLayer : History → Result Done Fault → History → Type 0
PopsLayer old (Ok d) new = PopsLast old d new
PopsLayer old (Err fault) new = (fault ≡ NoRecord) × (old.layers ≡ []) × (new ≡ old)

-- ---- take

-- Layer n is removed. Its edits are swapped with those of each later layer in turn; what these
-- become are the edits of the new layers, which keep their words, and the new texts are what these
-- edits make in order of the text below layer n.
pub record RemovesLayer (n : ℕ) (old : History) (d : Done) (new : History) : Type 0 where
  pub nth : Nth n old.layers
  pub new_layers : List Layer
  pub moved_edits : EditList
  pub is_moved : IsMovedToEnd nth.item.edits (edits_of (records_in nth.after))
      (edits_of (records_in new_layers)) moved_edits
  pub words : words_of (records_in new_layers) ≡ words_of (records_in nth.after)
  pub consistent : LayersAreConsistent (last_text old.first nth.before) new_layers
  pub new_is : new ≡ record { first = old.first; layers = nth.before ++ new_layers }
  pub done_is : d ≡ done (texts_differ (top_text new) (top_text old)) 0 0

abbrev pub TakeStep : ℕ → History → Result Done Fault → History → Type 0
TakeStep n old (Ok d) new = RemovesLayer n old d new
TakeStep n old (Err fault) new = CannotRemove n (records_in old.layers) fault × (new ≡ old)

-- ---- the machine

-- one command over a history, its reply, and the history that it leaves
abbrev pub HistoryStep : Command → History → Result Done Fault → History → Type 0
HistoryStep Fmt old reply new =
    (answer : Result Rewrite Fault) × Rewrites Fmt (top_text old) answer
    × PushesLayer Word.Fmt answer old reply new
HistoryStep (Fix rules) old reply new =
    (answer : Result Rewrite Fault) × FixRewritesBy rules (top_text old) answer
    × PushesLayer Word.Fix answer old reply new
HistoryStep Revert old reply new = PopsLayer old reply new
HistoryStep (Take n) old reply new = TakeStep n old reply new

-- A fmt or a fix allocates only for a text that it reads, a revert only if there is a layer, and a
-- take as `TakeMayAllocate` says of records.
abbrev pub HistoryMayAllocate : Command → History → Type 0
HistoryMayAllocate Fmt h = IsUtf8WithinLimit (top_text h)
HistoryMayAllocate (Fix rules) h = IsUtf8WithinLimit (top_text h)
HistoryMayAllocate Revert h = h.layers ≢ []
HistoryMayAllocate (Take n) h = TakeMayAllocate n (with_records (top_text h) (records_in h.layers))

-- one command where memory may run out
abbrev pub HistoryStepOrMemory : Command → History → Result Done Fault → History → Type 0
HistoryStepOrMemory = StepOrMemory HistoryMayAllocate HistoryStep

-- Each command has its reply, in order. One whose reply is Memory might as well not be in the list.
abbrev pub HistoryRun : History → List Command → List (Result Done Fault) → History → Type 0
HistoryRun = RunBy HistoryStepOrMemory
