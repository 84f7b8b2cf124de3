-- How a record of version 1 is read: its steps are read and squashed in order, or the first error.
-- They say which error `decode` returns for such a text.
use Rattle.std.specs.Prelude.{◌≡◌, ◌⊎◌, ℕ, zero, suc, ◌-◌, List, length, Result, Ok, Err, codes}
use Rattle.edit_record.specs.declared.lists.record.Word.{Word}
use Rattle.edit_record.specs.declared.fault.FaultKind.TheVariants.{Head, End, Steps}
use Rattle.edit_record.specs.declared.fault.TextError.{TextError}
use Rattle.edit_record.specs.declared.version_1.TheConstants.{MAX_STEPS}
use Rattle.edit_record.specs.Lists.Pieces.{EditList}
use Rattle.edit_record.specs.Squashes.Squash.{IsSquash}
use Rattle.edit_record.specs.Squashes.SquashLists.{SquashAll}
use Rattle.edit_record.specs.Text.{newline}
use Rattle.edit_record.specs.Parsing.{◌>>=◌, expect, number_at, edit_list_at, word_at, repeat_at}

unfoldable pub step_at : List ℕ → Result (EditList × List ℕ) TextError
step_at t = do
  a ← expect (codes "step ") Head t
  edit_list_at (length t) a

unfoldable pub steps_at : ℕ → List ℕ → Result (List EditList × List ℕ) TextError
steps_at n t = repeat_at step_at n t

-- the word of an old record, its first step, and how many others there are
pub record OldHead : Type 0 where
  pub word : Word
  pub first : EditList
  pub others : ℕ

unfoldable pub old_head_at : List ℕ → Result (OldHead × List ℕ) TextError
old_head_at t = do
  a ← expect (codes "tfrec 1 ") Head t
  word ← word_at a
  count ← number_at 1 MAX_STEPS newline word.1
  first ← step_at count.1
  Ok (record { word = word.0; first = first.0; others = count.0 - 1 }, first.1)

-- n steps follow the first, and squash with it to e
abbrev pub SquashAt : EditList → ℕ → List ℕ → EditList → List ℕ → Type 0
SquashAt first n t e rest =
    (others : List EditList) × (steps_at n t ≡ Ok (others, rest)) × SquashAll first others e

-- The next step squashes with those before it, which are `edits`, and the error is in what follows;
-- or it does not squash with them, and that is the error, where the step begins.
abbrev pub SquashError : EditList → EditList → ℕ → (EditList → TextError → Type 0) → TextError
    → Type 0
SquashError edits next left Later error =
    ((both : EditList) × IsSquash edits next both × Later both error)
    ⊎ (((both : EditList) → IsSquash edits next both → ⊥)
    × (error ≡ record { kind = Steps; left = left }))

-- the first error of n steps that follow `edits`, to which those before them squash
abbrev pub StepsError : ℕ → EditList → List ℕ → TextError → Type 0
StepsError zero edits t error = ⊥
StepsError (suc n) edits t error =
    (step_at t ≡ Err error)
    ⊎ ((next : EditList) × (rest : List ℕ) × (step_at t ≡ Ok (next, rest))
    × SquashError edits next (length t) (λ both e. StepsError n both rest e) error)

-- the first error of a record of version 1: in its head, in its further steps, or at its end
abbrev pub OldRecordError : List ℕ → TextError → Type 0
OldRecordError t error =
    (old_head_at t ≡ Err error)
    ⊎ ((head : OldHead) × (rest : List ℕ) × (old_head_at t ≡ Ok (head, rest))
    × (StepsError head.others head.first rest error
    ⊎ ((edits : EditList) × (end : List ℕ) × SquashAt head.first head.others rest edits end
    × (expect (codes "end\n") End end ≡ Err error))))
