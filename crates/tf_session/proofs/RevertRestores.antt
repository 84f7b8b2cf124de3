-- A command that changed the text is reverted over what it wrote.
use Rattle.std.proofs.Common.{◌≡◌, ◌∙◌, ◌≤◌, ℕ, length, List, [], ◌∷◌, ◌++◌, Bool, true, Option, Some, None, ap, sym, refl, subst, inl}
use Rattle.std.specs.Io.KnownBytes.{Appends, Consumes, IsAtEnd}
use Rattle.hcl_scan.specs.Tokenization.{MAX_TEXT}
use Rattle.edit_record.specs.Lists.Journal.{JournalEntry, record_transforms}
use Rattle.edit_record.specs.Text.{IsJournalText}
use Rattle.tf_stream.specs.Streams.{Source, Target, WritesBytes, ReadsAll}
use Rattle.tf_session.specs.declared.command.Command.{Command}
use Rattle.tf_session.specs.declared.command.Command.TheVariants.{Fmt, Fix, Revert, Take}
use Rattle.tf_session.specs.declared.command.Done.{Done}
use Rattle.tf_lint.specs.Steps.{Rewrite, texts_differ}
use Rattle.tf_session.specs.Machine.{done}
use Rattle.tf_session.specs.Records.{AddsRecordOf, DoesStep, ReplacesText}
use Rattle.tf_session.specs.Journals.{Saves}
use Rattle.tf_session.specs.RevertRestores.{ReadsBack, AddsOneRecord, RevertRestores}
use Rattle.tf_session.specs.Session.{with_records}
use Rattle.tf_session.proofs.Lists.{same_last}

no_more : (xs : List ℕ) → xs ++ [] ≡ xs
no_more [] = refl
no_more (x ∷ xs) = ap (λ (ys : List ℕ). x ∷ ys) (no_more xs)

-- what was put to a writer that held nothing is what it holds
pub bytes_are_kept : (before after : Option (List ℕ)) (bytes kept : List ℕ) → before ≡ Some [] → after ≡ Some kept → Appends before after bytes → kept ≡ bytes
bytes_are_kept None after bytes kept b a p = cc
bytes_are_kept (Some xs) None bytes kept b a p = absurd p
bytes_are_kept (Some xs) (Some ys) bytes kept b a p =
    let x : xs ≡ [] = cc in
    let y : ys ≡ kept = cc in
    sym y ∙ p ∙ ap (λ (z : List ℕ). z ++ bytes) x

-- what was taken up to the end is what there was
pub had : (before after : Option (List ℕ)) (bytes kept : List ℕ) → before ≡ Some kept → Consumes before after bytes → IsAtEnd after → kept ≡ bytes
had None after bytes kept b p end = cc
had (Some xs) None bytes kept b p end = absurd p
had (Some xs) (Some ys) bytes kept b p end =
    let x : xs ≡ kept = cc in
    sym x ∙ p ∙ ap (λ (z : List ℕ). bytes ++ z) end ∙ no_more bytes

-- what is read back is what was written
pub same_bytes : (limit : ℕ) (target : Target) (source : Source) (put taken : List ℕ) → ReadsBack target source → WritesBytes target put → ReadsAll limit source taken → put ≡ taken
same_bytes limit target source put taken back p t =
    sym (bytes_are_kept target.before target.after put back.bytes back.empty back.written p) ∙ had source.before source.after taken back.bytes back.read t.0 t.1

-- ---- a command that changed the text

-- what it pushed: a text that differs, with one record more
pub record Put (command : Command) (t : List ℕ) (js : List JournalEntry) (u : List ℕ) (ks : List JournalEntry) : Type 0 where
  pub r : JournalEntry
  pub added : ks ≡ js ++ r ∷ []
  pub transforms : record_transforms r t u
  pub differs : texts_differ t u ≡ true
  pub short : length u ≤ MAX_TEXT

pub put_in : (command : Command) (made : Rewrite) (t : List ℕ) (js : List JournalEntry) (d : Done) (u : List ℕ) (ks : List JournalEntry) → length made.text ≤ MAX_TEXT
    → ReplacesText command made (with_records t js) d (with_records u ks) → d.changed ≡ true → Put command t js u ks
put_in command made t js d u ks short p changed =
    let differs : texts_differ t made.text ≡ true = sym (ap (λ (x : Done). x.changed) p.1) ∙ changed in
    let adds = subst (λ (b : Bool). AddsRecordOf b command t made js ks) differs p.2 in
    let same : made.text ≡ u = sym p.0 in
    record {
      r = adds.0;
      added = adds.1;
      transforms = subst (λ (x : List ℕ). record_transforms adds.0 t x) same adds.2.transforms;
      differs = subst (λ (x : List ℕ). texts_differ t x ≡ true) same differs;
      short = subst (λ (x : List ℕ). length x ≤ MAX_TEXT) same short;
    }

pub put : (command : Command) (t : List ℕ) (js : List JournalEntry) (d : Done) (u : List ℕ) (ks : List JournalEntry) → AddsOneRecord command
    → DoesStep command (with_records t js) d (with_records u ks) → d.changed ≡ true → Put command t js u ks
put Fmt t js d u ks other p changed = put_in Fmt p.0 t js d u ks p.1.short p.2 changed
put (Fix rules) t js d u ks other p changed = put_in (Fix rules) p.0 t js d u ks (subst (λ (x : List ℕ). length x ≤ MAX_TEXT) p.1.fixes_text.new_reads.0 p.1.fixes_text.new_reads.1.short) p.2 changed
put Revert t js d u ks other p changed = absurd other
put (Take n) t js d u ks other p changed = absurd other

pub command_is_reverted : ((text : List ℕ) (rs ss : List JournalEntry) → IsJournalText text rs → IsJournalText text ss → rs ≡ ss) → RevertRestores
command_is_reverted one command d again first second other s changed proceeds t =
    let (old, loads, new, does, saves) = s in
    let (old2, loads2, new2, takes, saves2) = t in
    let text = old.text in
    let text2 = old2.text in
    let p = put command text old.records d new.text new.records other does changed in
    let same_text : new.text ≡ text2 = same_bytes _ first.text_out second.text_in new.text text2 proceeds.text saves.3 loads2.0 in
    let same_journal : saves.0 ≡ loads2.1 = same_bytes _ first.journal_out second.journal_in saves.0 loads2.1 proceeds.journal saves.2 loads2.2 in
    let written : IsJournalText loads2.1 new.records = subst (λ (b : List ℕ). IsJournalText b new.records) same_journal (inl saves.1.0) in
    let same_records : old2.records ≡ new.records = one loads2.1 old2.records new.records loads2.3 written in
    let lasts = same_last new2.records old.records takes.0 p.r (sym takes.1 ∙ same_records ∙ p.added) in
    let turns : record_transforms p.r text text2 = subst (λ (x : List ℕ). record_transforms p.r text x) same_text p.transforms in
    let turns2 : record_transforms takes.0 text text2 = subst (λ (r : JournalEntry). record_transforms r text text2) (sym lasts.1) turns in
    let back : new2.text ≡ text = sym (takes.2.1 text turns2) in
    let changed2 : texts_differ new2.text text2 ≡ true = ap (λ (x : List ℕ). texts_differ x text2) back ∙ ap (λ (x : List ℕ). texts_differ text x) (sym same_text) ∙ p.differs in
    let saved : Saves (with_records text new2.records) second.journal_out second.text_out = subst (λ (x : List ℕ). Saves (with_records x new2.records) second.journal_out second.text_out) back saves2 in (
      old,
      loads,
      subst (λ (rs : List JournalEntry). Saves (with_records text rs) second.journal_out second.text_out) lasts.0 saved,
      takes.3 ∙ ap (λ (b : Bool). done b 0 0) changed2,
    )
