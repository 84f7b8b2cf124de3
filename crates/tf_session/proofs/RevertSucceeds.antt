-- A revert over what a command wrote is refused for nothing that it reads.
use Rattle.std.proofs.Common.{◌≡◌, ◌∙◌, ◌+◌, ◌≤◌, ℕ, List, [], ◌∷◌, ◌++◌, true, Option, Some, None, Err, length, length-append, arith, ap, sym, refl, subst, inl, inr}
use Rattle.std.specs.Io.KnownBytes.{Consumes}
use Rattle.hcl_scan.specs.Tokenization.{MAX_TEXT}
use Rattle.edit_record.specs.Lists.Journal.{JournalEntry, record_transforms}
use Rattle.edit_record.specs.Lists.ChangeResults.{ChangeResultIsUnique}
use Rattle.edit_record.specs.Text.{record_text, journal_text, IsCurrentText, IsJournalText}
use Rattle.edit_record.specs.Decoding.{IsDecodeResult}
use Rattle.edit_record.specs.declared.fault.RecordFault.{RecordFault}
use Rattle.edit_record.specs.declared.fault.RecordFault.TheVariants.{BadHead, BadNumber, CutShort, BadEdits, BadEnd, BadSteps}
use Rattle.tf_stream.specs.Streams.{Source, Target, ReadsAll, ReadAtFault, WritesBytes}
use Rattle.tf_stream.specs.declared.fault.ReadFault.{ReadFault}
use Rattle.tf_session.specs.declared.command.Command.{Command}
use Rattle.tf_session.specs.declared.command.Command.TheVariants.{Revert}
use Rattle.tf_session.specs.declared.command.Done.{Done}
use Rattle.tf_session.specs.declared.command.Fault.{Fault}
use Rattle.tf_session.specs.declared.fault.SessionPart.{SessionPart}
use Rattle.tf_session.specs.declared.fault.RunFault.{RunFault}
use Rattle.tf_session.specs.declared.fault.RunFault.TheVariants.{Scan, Memory, Read, Write, Endless}
use Rattle.tf_session.specs.Faults.{run_fault_of, run_fault_of_record}
use Rattle.tf_session.specs.Records.{RefusesStep}
use Rattle.tf_session.specs.Streams.{ReadAllFault, IsWriteFault}
use Rattle.tf_session.specs.Journals.{MAX_JOURNAL, Loads, JournalTextFault, SaveFault, Endpoints, StreamsCommand, JournaledStreamFault}
use Rattle.tf_session.specs.RevertRestores.{ReadsBack, AddsOneRecord, ReadsWhatWasWritten, is_from_outside, RevertSucceeds}
use Rattle.tf_session.specs.Session.{SessionContents, with_records}
use Rattle.tf_session.proofs.Lists.{not_nil, same_last}
use Rattle.tf_session.proofs.Stacks.{undone_or_refused}
use Rattle.tf_session.proofs.RevertRestores.{bytes_are_kept, same_bytes, put}

abbrev TextIsOne : Type 0
TextIsOne = (text : List ℕ) (rs ss : List JournalEntry) → IsJournalText text rs → IsJournalText text ss → rs ≡ ss

-- ---- what is read ends within its limit

not_over : (before after : Option (List ℕ)) (bytes kept : List ℕ) (limit : ℕ) → before ≡ Some kept → Consumes before after bytes → length kept ≤ limit → length bytes ≡ limit + 1 → ⊥
not_over None after bytes kept limit b p short over = cc
not_over (Some xs) None bytes kept limit b p short over = absurd p
not_over (Some xs) (Some ys) bytes kept limit b p short over =
    let x : xs ≡ kept = cc in
    let whole : length kept ≡ length bytes + length ys = ap length (sym x ∙ p) ∙ length-append bytes ys in
    omega (arith, whole, short, over)

not_endless : (limit : ℕ) (target : Target) (source : Source) (bytes : List ℕ) → ReadsBack target source → WritesBytes target bytes → length bytes ≤ limit → ReadAtFault limit ReadFault.Endless source → ⊥
not_endless limit target source bytes back p short t =
    let same : back.bytes ≡ bytes = bytes_are_kept target.before target.after bytes back.bytes back.empty back.written p in
    let within : length back.bytes ≤ limit = subst (λ (x : List ℕ). length x ≤ limit) (sym same) short in
    not_over source.before source.after t.0 back.bytes limit back.read t.1 within t.2

-- what was read back was not all read, for an error from outside
read_fault : (limit : ℕ) (fault : RunFault) (target : Target) (source : Source) (bytes : List ℕ) → ReadsBack target source → WritesBytes target bytes → length bytes ≤ limit → ReadAllFault limit fault source → is_from_outside fault ≡ true
read_fault limit Memory target source bytes back p short t = refl
read_fault limit Read target source bytes back p short t = refl
read_fault limit Endless target source bytes back p short t = absurd (not_endless limit target source bytes back p short t)
read_fault limit _ target source bytes back p short t = absurd t

-- ---- what is read for the journal is the text of one

decoding : (fault : RecordFault) (bytes : List ℕ) (records : List JournalEntry) → IsJournalText bytes records → IsDecodeResult bytes (Err fault) → is_from_outside (run_fault_of_record fault) ≡ true
decoding (BadHead at) bytes records is d = absurd (d.0 records is)
decoding (BadNumber at) bytes records is d = absurd (d.0 records is)
decoding (CutShort at) bytes records is d = absurd (d.0 records is)
decoding (BadEdits at) bytes records is d = absurd (d.0 records is)
decoding (BadEnd at) bytes records is d = absurd (d.0 records is)
decoding RecordFault.Memory bytes records is d = refl
decoding (BadSteps at) bytes records is d = absurd (d.0 records is)

-- ---- the last record makes the text

refusing : ChangeResultIsUnique → (refusal : Fault) (text new : List ℕ) (records earlier : List JournalEntry) (r : JournalEntry) → records ≡ earlier ++ r ∷ [] → record_transforms r text new
    → RefusesStep Revert (with_records new records) refusal → is_from_outside (run_fault_of refusal) ≡ true
refusing unique Fault.NoRecord text new records earlier r is turns p = absurd (not_nil earlier r (sym is ∙ p))
refusing unique (Fault.Refused refused) text new records earlier r is turns p =
    let lasts = same_last earlier p.1.0 r p.0 (sym is ∙ p.1.1) in
    absurd (undone_or_refused unique p.0.edits new text refused p.2 (subst (λ (x : JournalEntry). record_transforms x text new) lasts.1 turns))
refusing unique Fault.Memory text new records earlier r is turns p = refl
refusing unique _ text new records earlier r is turns p = absurd p

-- ---- what is left is not too long

fewer : (records : List JournalEntry) (r : JournalEntry) → length (journal_text records) ≤ length (journal_text (records ++ r ∷ []))
fewer [] r = omega (arith)
fewer (s ∷ records) r =
    let more = fewer records r in
    let before = length-append (record_text s) (journal_text records) in
    let after = length-append (record_text s) (journal_text (records ++ r ∷ [])) in
    omega (arith, more, before, after)

no_text : (fault : RunFault) (records : List JournalEntry) → length (journal_text records) ≤ MAX_JOURNAL → JournalTextFault records fault → is_from_outside fault ≡ true
no_text Memory records short p = refl
no_text Endless records short p = absurd (omega (arith, short, p))
no_text _ records short p = absurd p

write_fault : (part : SessionPart) (fault : RunFault) (target : Target) (bytes : List ℕ) → IsWriteFault part fault target bytes → is_from_outside fault ≡ true
write_fault part (Scan fault) target bytes p = absurd p
write_fault part (Write named sent) target bytes p = refl
write_fault part _ target bytes p = absurd p

saving : (fault : RunFault) (contents : SessionContents) (journal_out text_out : Target) → length (journal_text contents.records) ≤ MAX_JOURNAL
    → SaveFault fault contents journal_out text_out → is_from_outside fault ≡ true
saving fault contents journal_out text_out short (inl p) = no_text fault contents.records short p.0
saving fault contents journal_out text_out short (inr (inl p)) = write_fault SessionPart.Journal fault journal_out p.0 p.2
saving fault contents journal_out text_out short (inr (inr p)) = write_fault SessionPart.Text fault text_out contents.text p.3

-- ---- a command that changed the text

-- what it wrote: a text and a journal within their limits, the last record of which turns the first text into the new one
record Wrote (first : Endpoints) : Type 0 where
  text : List ℕ
  new : List ℕ
  earlier : List JournalEntry
  r : JournalEntry
  bytes : List ℕ
  short : length new ≤ MAX_TEXT
  is_text : IsCurrentText bytes (earlier ++ r ∷ [])
  within : length bytes ≤ MAX_JOURNAL
  transforms : record_transforms r text new
  journal_put : WritesBytes first.journal_out bytes
  text_put : WritesBytes first.text_out new

wrote : (command : Command) (d : Done) (first : Endpoints) → AddsOneRecord command → StreamsCommand command d first → d.changed ≡ true → Wrote first
wrote command d first other s changed =
    let (old, loads, new, does, saves) = s in
    let p = put command old.text old.records d new.text new.records other does changed in
    record {
      text = old.text;
      new = new.text;
      earlier = old.records;
      r = p.r;
      bytes = saves.0;
      short = p.short;
      is_text = subst (λ (rs : List JournalEntry). IsCurrentText saves.0 rs) p.added saves.1.0;
      within = saves.1.1;
      transforms = p.transforms;
      journal_put = saves.2;
      text_put = saves.3;
    }

-- what was loaded is what it wrote
loaded : TextIsOne → (first second : Endpoints) (w : Wrote first) → ReadsWhatWasWritten first second → (contents : SessionContents) → Loads contents second.text_in second.journal_in
    → (contents.text ≡ w.new) × (contents.records ≡ w.earlier ++ w.r ∷ [])
loaded one first second w proceeds contents loads =
    let same_text : w.new ≡ contents.text = same_bytes _ first.text_out second.text_in w.new contents.text proceeds.text w.text_put loads.0 in
    let same_journal : w.bytes ≡ loads.1 = same_bytes _ first.journal_out second.journal_in w.bytes loads.1 proceeds.journal w.journal_put loads.2 in
    let written : IsJournalText loads.1 (w.earlier ++ w.r ∷ []) = subst (λ (b : List ℕ). IsJournalText b (w.earlier ++ w.r ∷ [])) same_journal (inl w.is_text) in
    (sym same_text, one loads.1 contents.records (w.earlier ++ w.r ∷ []) loads.3 written)

not_decoded : (fault : RecordFault) (bytes : List ℕ) (first second : Endpoints) (w : Wrote first) → ReadsWhatWasWritten first second → ReadsAll MAX_JOURNAL second.journal_in bytes → IsDecodeResult bytes (Err fault) → is_from_outside (run_fault_of_record fault) ≡ true
not_decoded fault bytes first second w proceeds all p =
    let same_journal : w.bytes ≡ bytes = same_bytes _ first.journal_out second.journal_in w.bytes bytes proceeds.journal w.journal_put all in
    let written : IsJournalText bytes (w.earlier ++ w.r ∷ []) = subst (λ (b : List ℕ). IsJournalText b (w.earlier ++ w.r ∷ [])) same_journal (inl w.is_text) in
    decoding fault bytes (w.earlier ++ w.r ∷ []) written p

kept_short : (first : Endpoints) (w : Wrote first) → length (journal_text w.earlier) ≤ MAX_JOURNAL
kept_short first w =
    let more = fewer w.earlier w.r in
    let same = ap length w.is_text.is in
    let within = w.within in
    omega (arith, more, same, within)

outside : (fault given : RunFault) → fault ≡ given → is_from_outside given ≡ true → is_from_outside fault ≡ true
outside fault given e o = ap is_from_outside e ∙ o

fault_of : ChangeResultIsUnique → TextIsOne → (first second : Endpoints) (w : Wrote first) → ReadsWhatWasWritten first second → (fault : RunFault)
    → JournaledStreamFault Revert fault second → is_from_outside fault ≡ true
fault_of unique one first second w proceeds fault (inl (inl (p, unread), nothing)) =
    read_fault MAX_TEXT fault first.text_out second.text_in w.new proceeds.text w.text_put w.short p
fault_of unique one first second w proceeds fault (inl (inr (inl (text, taken, p)), nothing)) =
    read_fault MAX_JOURNAL fault first.journal_out second.journal_in w.bytes proceeds.journal w.journal_put w.within p
fault_of unique one first second w proceeds fault (inl (inr (inr (text, bytes, taken, all, (reading, is, p))), nothing)) =
    outside fault _ is (not_decoded reading bytes first second w proceeds all p)
fault_of unique one first second w proceeds fault (inr (inl ((contents, loads, refusal, is, p), nothing))) =
    let (same_text, same_records) = loaded one first second w proceeds contents loads in
    let turns : record_transforms w.r w.text contents.text = subst (λ (x : List ℕ). record_transforms w.r w.text x) (sym same_text) w.transforms in
    outside fault _ is (refusing unique refusal w.text contents.text contents.records w.earlier w.r same_records turns p)
fault_of unique one first second w proceeds fault (inr (inr (contents, loads, d, new, takes, p))) =
    let (same_text, same_records) = loaded one first second w proceeds contents loads in
    let lasts = same_last new.records w.earlier takes.0 w.r (sym takes.1 ∙ same_records) in
    let short : length (journal_text new.records) ≤ MAX_JOURNAL = subst (λ (rs : List JournalEntry). length (journal_text rs) ≤ MAX_JOURNAL) (sym lasts.0) (kept_short first w) in
    saving fault new second.journal_out second.text_out short p

pub command_revert_succeeds : ChangeResultIsUnique → TextIsOne → RevertSucceeds
command_revert_succeeds unique one command d first second other s changed proceeds fault p =
    fault_of unique one first second (wrote command d first other s changed) proceeds fault p
