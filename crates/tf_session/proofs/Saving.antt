-- What is saved of a command, by what its step is.
use Rattle.std.proofs.Common.{◌≡◌, ◌∙◌, ◌+◌, ℕ, suc, List, [], ◌∷◌, ◌++◌, length, Bool, true, false, Option, Some, None, Result, Ok, Err, IfOk, IfErr, Vec, ap, sym, subst, refl, arith, inl, inr}
use Rattle.std.proofs.lemmas.List.{length-append, length-map}
use Rattle.std.specs.Global.{Global}
use Rattle.edit_record.specs.Lists.Journal.{JournalEntry, words_of}
use Rattle.edit_record.specs.Text.{IsJournalText}
use Rattle.tf_lint.specs.Steps.{Rewrite, texts_differ}
use Rattle.tf_session.specs.declared.command.Command.{Command}
use Rattle.tf_session.specs.declared.command.Command.TheVariants.{Fmt, Fix, Revert, Take}
use Rattle.tf_session.specs.declared.command.Done.{Done}
use Rattle.tf_session.specs.declared.fault.RunFault.{RunFault}
use Rattle.tf_session.specs.declared.invocation.Effect.{Effect}
use Rattle.tf_session.specs.declared.saver.SavedTexts.{SavedTexts}
use Rattle.tf_session.specs.Invocations.{KeepsContents, AreSaved, AreReportLines, HasEffect, NewJournalFault, HasNoEffect}
use Rattle.tf_session.specs.Inner.Saving.{must_save, AreSavedTexts}
use Rattle.tf_session.specs.Journals.{JournalTextFault}
use Rattle.tf_session.specs.Records.{AddsRecordOf, DoesStep, ReplacesText}
use Rattle.tf_session.specs.Session.{SessionContents, with_records}
use Rattle.tf_session.proofs.Stacks.{same_texts}

-- a list is not itself and one more
longer : (js : List JournalEntry) (r : JournalEntry) → js ++ r ∷ [] ≡ js → ⊥
longer js r e =
    let more : length (js ++ r ∷ []) ≡ length js = ap length e in
    let one : length (r ∷ []) ≡ 1 = refl in
    omega (arith, length-append js (r ∷ []), more, one)

-- ---- fmt and fix

differs_as_done : (command : Command) (made : Rewrite) (old : SessionContents) (d : Done) (new : SessionContents) (b : Bool)
    → ReplacesText command made old d new → d.changed ≡ b → texts_differ old.text made.text ≡ b
differs_as_done command made old d new b p e = sym (ap (λ (x : Done). x.changed) p.1) ∙ e

replaced_same : (command : Command) (made : Rewrite) (old : SessionContents) (d : Done) (new : SessionContents)
    → ReplacesText command made old d new → d.changed ≡ false → KeepsContents old new
replaced_same command made old d new p e =
    let differs = differs_as_done command made old d new false p e in
    let adds : AddsRecordOf false command old.text made old.records new.records = subst (λ (b : Bool). AddsRecordOf b command old.text made old.records new.records) differs p.2 in
    (p.0 ∙ sym (same_texts old.text made.text differs), adds)

replaced_other : (command : Command) (made : Rewrite) (old : SessionContents) (d : Done) (new : SessionContents)
    → ReplacesText command made old d new → d.changed ≡ true → KeepsContents old new → ⊥
replaced_other command made old d new p e same =
    let differs = differs_as_done command made old d new true p e in
    let adds : AddsRecordOf true command old.text made old.records new.records = subst (λ (b : Bool). AddsRecordOf b command old.text made old.records new.records) differs p.2 in
    longer old.records adds.0 (sym adds.1 ∙ same.1)

-- ---- any command

unchanged : (command : Command) (old : SessionContents) (d : Done) (new : SessionContents)
    → DoesStep command old d new → must_save command d ≡ false → KeepsContents old new
unchanged Fmt old d new p e = replaced_same Fmt p.0 old d new p.2 e
unchanged (Fix rules) old d new p e = replaced_same (Fix rules) p.0 old d new p.2 e
unchanged Revert old d new p e = cc
unchanged (Take n) old d new p e = cc

-- a record is removed
one_less : (n : ℕ) (contents : SessionContents) (d : Done) (new : SessionContents)
    → DoesStep (Take n) contents d new → length new.records + 1 ≡ length contents.records
one_less n contents d new p =
    let words : length p.new_records ≡ length p.nth.after = sym (length-map p.new_records (λ (r : JournalEntry). r.word)) ∙ ap length p.words ∙ length-map p.nth.after (λ (r : JournalEntry). r.word) in
    let before : length contents.records ≡ length (p.nth.before ++ p.nth.item ∷ p.nth.after) = ap length p.nth.all in
    let after : length new.records ≡ length (p.nth.before ++ p.new_records) = ap length p.records in
    let item : length (p.nth.item ∷ p.nth.after) ≡ suc (length p.nth.after) = refl in
    omega (arith, words, before, after, item, length-append p.nth.before (p.nth.item ∷ p.nth.after), length-append p.nth.before p.new_records)

changed : (command : Command) (old : SessionContents) (d : Done) (new : SessionContents)
    → DoesStep command old d new → must_save command d ≡ true → KeepsContents old new → ⊥
changed Fmt old d new p e same = replaced_other Fmt p.0 old d new p.2 e same
changed (Fix rules) old d new p e same = replaced_other (Fix rules) p.0 old d new p.2 e same
changed Revert old d new p e same = longer new.records p.0 (sym p.1 ∙ sym same.1)
changed (Take n) old d new p e same =
    let less = one_less n old d new p in
    let len : length new.records ≡ length old.records = ap length same.1 in
    omega (arith, less, len)

saved_texts : (b : Bool) (command : Command) (old : SessionContents) (d : Done) (new : SessionContents) (saved : Option SavedTexts)
    → DoesStep command old d new → must_save command d ≡ b → AreSavedTexts b new saved → AreSaved old new saved
saved_texts false command old d new saved does e none =
    subst (AreSaved old new) (sym none) (unchanged command old d new does e)
saved_texts true command old d new None does e none = absurd none
saved_texts true command old d new (Some saved) does e are = (changed command old d new does e, are.0, are.1)

-- ---- an effect, and none

pub lines_are : (lines : Vec ℕ Global) (r : Result Effect RunFault)
    → IfOk r (λ effect. effect.lines ≡ lines) → IfOk r (λ effect. effect.lines.items ≡ lines.items)
lines_are lines (Ok effect) h = ap (λ (v : Vec ℕ Global). v.items) h
lines_are lines (Err fault) h = h

pub made : (command : Command) (name text journal : List ℕ) (js : List JournalEntry) (d : Done) (lines : List ℕ) (new : SessionContents) (r : Result Effect RunFault)
    → IsJournalText journal js → DoesStep command (with_records text js) d new → AreReportLines command name d new.text lines
    → IfOk r (λ effect. effect.done ≡ d) → IfOk r (λ effect. effect.lines.items ≡ lines)
    → IfOk r (λ effect. AreSavedTexts (must_save command d) new effect.saved)
    → IfOk r (HasEffect command name text journal)
made command name text journal js d lines new (Ok effect) is does are_lines same put saved = record {
  records = js;
  is_journal = is;
  new = new;
  does = subst (λ (x : Done). DoesStep command (with_records text js) x new) (sym same) does;
  saved = saved_texts (must_save command d) command (with_records text js) d new effect.saved does refl saved;
  lines = subst (λ (x : List ℕ). AreReportLines command name effect.done new.text x) (sym put) (subst (λ (x : Done). AreReportLines command name x new.text lines) (sym same) are_lines);
}
made command name text journal js d lines new (Err fault) is does are_lines same put saved = same

pub not_made : (command : Command) (name text journal : List ℕ) (js : List JournalEntry) (d : Done) (new : SessionContents) (r : Result Effect RunFault)
    → IsJournalText journal js → DoesStep command (with_records text js) d new
    → IfErr r (λ fault. must_save command d ≡ true) → IfErr r (JournalTextFault new.records)
    → IfErr r (HasNoEffect command text journal)
not_made command name text journal js d new (Ok effect) is does e why = e
not_made command name text journal js d new (Err fault) is does e why =
    inr (inr (js, is, (d, new, does, changed command (with_records text js) d new does e, why)))
