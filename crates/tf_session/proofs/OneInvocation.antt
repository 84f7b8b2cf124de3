-- One command on a file, by what a session does with its text and its records.
use Rattle.std.proofs.Common.{◌≡◌, ◌∙◌, ◌⊎◌, ◌<◌, ℕ, List, [], ◌∷◌, length, Option, Some, None}
use Rattle.std.proofs.Common.{Result, Ok, Err, IfOk, IfErr, ap, sym, subst, refl, inl, inr}
use Rattle.edit_record.specs.Decoding.{IsDecodeResult}
use Rattle.edit_record.specs.Lists.ChangeResults.{ChangeResultIsUnique}
use Rattle.edit_record.specs.Lists.Journal.{JournalEntry}
use Rattle.edit_record.specs.Text.{journal_text, IsJournalText}
use Rattle.edit_record.specs.declared.fault.RecordFault.{RecordFault}
use Rattle.edit_record.specs.declared.fault.RecordFault.TheVariants.{BadHead, BadNumber, CutShort}
use Rattle.edit_record.specs.declared.fault.RecordFault.TheVariants.{BadEdits, BadEnd, BadSteps}
use Rattle.tf_session.specs.declared.command.Command.{Command}
use Rattle.tf_session.specs.declared.command.Command.TheVariants.{Fmt, Fix, Revert, Take}
use Rattle.tf_session.specs.declared.command.Done.{Done}
use Rattle.tf_session.specs.declared.command.Fault.{Fault}
use Rattle.tf_session.specs.declared.fault.RunFault.{RunFault}
use Rattle.tf_session.specs.declared.invocation.Effect.{Effect}
use Rattle.tf_session.specs.declared.saver.SavedTexts.{SavedTexts}
use Rattle.tf_session.specs.Faults.{run_fault_of, run_fault_of_record}
use Rattle.tf_session.specs.Invocations.{FileContents, file_of, contents_after, IsFileOf}
use Rattle.tf_session.specs.Invocations.{StepFileFault, StepsFile, AreSaved, HasEffect, HasNoEffect}
use Rattle.tf_session.specs.Invocations.{Invokes, InvocationsStepFiles}
use Rattle.tf_session.specs.Journals.{MAX_JOURNAL, IsSavedText, JournalTextFault}
use Rattle.tf_session.specs.Machine.{IsNotTake}
use Rattle.tf_session.specs.Records.{ChangesContents, CannotRevert, RefusesContents, DoesStep}
use Rattle.tf_session.specs.Records.{RefusesRevert, RefusesStep}
use Rattle.tf_session.specs.Rewrites.{Rewrites, RefusesText}
use Rattle.tf_session.specs.Session.{SessionContents, with_records}
use Rattle.tf_session.proofs.Contents.{with_same}
use Rattle.tf_session.proofs.Stacks.{changes, undone_or_refused}

-- a journal's text is that of one list of records at most
abbrev pub Unambiguous : Type 0
Unambiguous =
    (text : List ℕ) (rs ss : List JournalEntry) → IsJournalText text rs → IsJournalText text ss → rs ≡ ss

-- what is saved, or else the file as it was, has the new text and records
after : (old : FileContents) (saved : Option SavedTexts) (js : List JournalEntry) (new : SessionContents)
    → IsSavedText js old.journal → AreSaved (with_records old.text js) new saved
    → IsFileOf new (contents_after old saved)
after old None js new is same =
    (sym same.0, subst (λ (rs : List JournalEntry). IsSavedText rs old.journal) (sym same.1) is)
after old (Some saved) js new is are = (are.1, are.2)

-- what is saved is the text of a journal
journal_text_of : (records : List JournalEntry) (bytes : List ℕ) → IsSavedText records bytes
    → IsJournalText bytes records
journal_text_of records bytes is = inl is.0

-- a text of a journal is decoded, unless memory runs out
decoded : (text : List ℕ) (js : List JournalEntry) (reading : RecordFault) → IsJournalText text js
    → IsDecodeResult text (Err reading) → run_fault_of_record reading ≡ RunFault.Memory
decoded text js (BadHead at) is why = absurd (why.0 js is)
decoded text js (BadNumber at) is why = absurd (why.0 js is)
decoded text js (CutShort at) is why = absurd (why.0 js is)
decoded text js (BadEdits at) is why = absurd (why.0 js is)
decoded text js (BadEnd at) is why = absurd (why.0 js is)
decoded text js RecordFault.Memory is why = refl
decoded text js (BadSteps at) is why = absurd (why.0 js is)

-- the text of these records would be too long
abbrev pub TooLong : List JournalEntry → Type 0
TooLong records = MAX_JOURNAL < length (journal_text records)

-- there is no text of a new journal at a limit alone
unsaved : (ks : List JournalEntry) (fault : RunFault) → JournalTextFault ks fault
    → (fault ≡ RunFault.Memory) ⊎ ((fault ≡ RunFault.Endless) × TooLong ks)
unsaved ks (RunFault.Scan fault) why = absurd why
unsaved ks (RunFault.Parse fault) why = absurd why
unsaved ks (RunFault.FixBroken rule) why = absurd why
unsaved ks RunFault.TooLong why = absurd why
unsaved ks RunFault.NoRecord why = absurd why
unsaved ks (RunFault.Refused refused) why = absurd why
unsaved ks RunFault.Memory why = inl refl
unsaved ks (RunFault.Blocked number) why = absurd why
unsaved ks RunFault.Read why = absurd why
unsaved ks (RunFault.Write part sent) why = absurd why
unsaved ks RunFault.Endless why = inr (refl, why)
unsaved ks (RunFault.BadJournal fault) why = absurd why

-- ---- what a command does to a file of these contents, if this is what it does and why it is refused

module _ (DoesIt : Command → SessionContents → Done → SessionContents → Type 0) (RefusesIt : Command → SessionContents → Fault → Type 0) where
  abbrev pub FailsOn : Command → SessionContents → RunFault → Type 0
  FailsOn command contents fault =
      (fault ≡ RunFault.Memory)
      ⊎ ((fault ≡ RunFault.Endless) × (d : Done) × (new : SessionContents) × DoesIt command contents d new × TooLong new.records)
      ⊎ ((refusal : Fault) × (fault ≡ run_fault_of refusal) × RefusesIt command contents refusal)

  abbrev pub StepsContents : Command → SessionContents → Result Done RunFault → FileContents
      → FileContents → Type 0
  StepsContents command contents (Ok d) old new =
      (left : SessionContents) × DoesIt command contents d left × IsFileOf left new
  StepsContents command contents (Err fault) old new = (new ≡ old) × FailsOn command contents fault

-- by `StepsFile`
pub steps_contents : (command : Command) (contents : SessionContents)
    (result : Result Done RunFault) (old new : FileContents)
    → IsNotTake command → IsFileOf contents old → StepsFile command old result new
    → StepsContents ChangesContents RefusesContents command contents result old new
steps_contents command contents (Ok d) old new untaken file steps = steps contents untaken file
steps_contents command contents (Err fault) old new untaken file steps =
    (steps.0, steps.1 contents untaken file)

-- ---- of a fmt, a fix and a revert less is said of why it is refused

refuses_text : (command : Command) (text : List ℕ) (fault : Fault) → RefusesText command text fault
    → (fault ≡ Fault.Memory) ⊎ Rewrites command text (Err fault)
refuses_text command text Fault.Memory h = inl refl
refuses_text command text _ h = inr h

cannot_revert : ChangeResultIsUnique → (contents : SessionContents) (fault : Fault)
    → RefusesRevert contents fault → (fault ≡ Fault.Memory) ⊎ CannotRevert contents fault
cannot_revert unique contents Fault.NoRecord h = inr h
cannot_revert unique contents (Fault.Refused refused) (r, last, why) =
    inr (r, last, λ u turns. undone_or_refused unique r.edits contents.text u refused why turns)
cannot_revert unique contents Fault.Memory h = inl refl
cannot_revert unique contents _ h = absurd h

pub refuses : ChangeResultIsUnique → (command : Command) (contents : SessionContents) (fault : Fault)
    → IsNotTake command → RefusesStep command contents fault
    → (fault ≡ Fault.Memory) ⊎ RefusesContents command contents fault
refuses unique Fmt contents fault untaken h = refuses_text Fmt contents.text fault h
refuses unique (Fix rules) contents fault untaken h = refuses_text (Fix rules) contents.text fault h
refuses unique Revert contents fault untaken h = cannot_revert unique contents fault h
refuses unique (Take n) contents fault untaken h = absurd untaken

step_file_fault : ChangeResultIsUnique
    → (command : Command) (contents : SessionContents) (fault : RunFault) → IsNotTake command
    → FailsOn DoesStep RefusesStep command contents fault → StepFileFault command contents fault
step_file_fault unique command contents fault untaken (inl memory) = inl memory
step_file_fault unique command contents fault untaken (inr (inl (is, d, new, does, long))) =
    inr (inl (is, d, new, changes command contents new d untaken does, long))
step_file_fault unique command contents fault untaken (inr (inr (refusal, is, why))) =
    elim (refuses unique command contents refusal untaken why) [
      | inl memory ↦ inl (is ∙ ap run_fault_of memory)
      | inr refuses ↦ inr (inr (refusal, is, refuses))
    ]

-- ---- by `Invokes`

module _ (one : Unambiguous) where
  -- the records of a file are those that its journal is read as
  same_records : (contents : SessionContents) (file : FileContents) (js : List JournalEntry)
      → IsFileOf contents file → IsJournalText file.journal js → js ≡ contents.records
  same_records contents file js is read =
      one file.journal js contents.records read (journal_text_of contents.records file.journal is.1)

  done_on : (command : Command) (contents : SessionContents) (old new : FileContents) (d : Done)
      → IsFileOf contents old → Invokes command old (Ok d) new
      → StepsContents DoesStep RefusesStep command contents (Ok d) old new
  done_on command contents old new d file (name, effect, has, is_done, is_new) =
      let same = same_records contents old has.records file has.is_journal in
      let read : IsSavedText has.records old.journal = subst (λ (rs : List JournalEntry). IsSavedText rs old.journal) (sym same) file.1 in
      let here : DoesStep command contents d has.new =
      subst (λ (x : Done). DoesStep command contents x has.new) (sym is_done)
      (with_same (λ (x : SessionContents). DoesStep command x effect.done has.new) old.text contents.text has.records contents.records file.0 same has.does) in
      (has.new, here, subst (λ (x : FileContents). IsFileOf has.new x) (sym is_new) (after old effect.saved has.records has.new read has.saved))

  failed_on : (command : Command) (contents : SessionContents) (old : FileContents) (fault : RunFault)
      → IsFileOf contents old → HasNoEffect command old.text old.journal fault
      → FailsOn DoesStep RefusesStep command contents fault
  failed_on command contents old fault file (inl (reading, is, why)) =
      inl (is ∙ decoded old.journal contents.records reading (journal_text_of contents.records old.journal file.1) why)
  failed_on command contents old fault file (inr (inl (js, is, inl (refusal, is_fault, why)))) =
      inr (inr (refusal, is_fault, with_same (λ (x : SessionContents). RefusesStep command x refusal) old.text contents.text js contents.records file.0 (same_records contents old js file is) why))
  failed_on command contents old fault file (inr (inl (js, is, inr (memory, _, _, _, _)))) = inl memory
  failed_on command contents old fault file (inr (inr (js, is, (d, new, does, _, why)))) =
      elim (unsaved new.records fault why) [
        | inl memory ↦ inl memory
        | inr (endless, long) ↦
            inr (inl (endless, d, new, with_same (λ (x : SessionContents). DoesStep command x d new) old.text contents.text js contents.records file.0 (same_records contents old js file is) does, long))
      ]

  pub invoked_on : (command : Command) (contents : SessionContents) (result : Result Done RunFault)
      (old new : FileContents)
      → IsFileOf contents old → Invokes command old result new
      → StepsContents DoesStep RefusesStep command contents result old new
  invoked_on command contents (Ok d) old new file h = done_on command contents old new d file h
  invoked_on command contents (Err fault) old new file h =
      (h.1, failed_on command contents old fault file h.0)

  invocation_steps : ChangeResultIsUnique
      → (command : Command) (result : Result Done RunFault) (old new : FileContents)
      → Invokes command old result new → StepsFile command old result new
  invocation_steps unique command (Ok d) old new h = λ contents untaken file.
      let steps = done_on command contents old new d file h in
      (steps.0, changes command contents steps.0 d untaken steps.1, steps.2)
  invocation_steps unique command (Err fault) old new h =
      (h.1, λ contents untaken file. step_file_fault unique command contents fault untaken (failed_on command contents old fault file h.0))

  pub invocations_step : ChangeResultIsUnique → InvocationsStepFiles
  invocations_step unique old new [] [] h = h
  invocations_step unique old new [] (result ∷ results) h = h
  invocations_step unique old new (command ∷ commands) [] h = h
  invocations_step unique old new (command ∷ commands) (result ∷ results) (mid, first, rest) =
      (mid, invocation_steps unique command result old mid first, invocations_step unique mid new commands results rest)

  -- as clauses of `invoke`
  pub effect_steps : ChangeResultIsUnique
      → (command : Command) (name text journal : List ℕ) (r : Result Effect RunFault)
      → IfOk r (HasEffect command name text journal)
      → IfOk r (λ effect. StepsFile command (file_of text journal) (Ok effect.done) (contents_after (file_of text journal) effect.saved))
  effect_steps unique command name text journal (Ok effect) h =
      invocation_steps unique command (Ok effect.done) (file_of text journal) (contents_after (file_of text journal) effect.saved) (name, effect, h, refl, refl)
  effect_steps unique command name text journal (Err fault) h = h

  pub fault_steps : ChangeResultIsUnique
      → (command : Command) (text journal : List ℕ) (r : Result Effect RunFault)
      → IfErr r (HasNoEffect command text journal)
      → IfErr r (λ fault. StepsFile command (file_of text journal) (Err fault) (file_of text journal))
  fault_steps unique command text journal (Ok effect) h = h
  fault_steps unique command text journal (Err fault) h =
      invocation_steps unique command (Err fault) (file_of text journal) (file_of text journal) (h, refl)
