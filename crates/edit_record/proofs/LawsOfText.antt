-- A text is that of one journal. If the text of one journal is a prefix of the text of another, the
-- records of the first are the first records of the other.
use Rattle.std.proofs.Common.{◌≡◌, ◌↔◌, ℕ, List, [], ◌∷◌, ◌++◌, drop, Bool, true, false, Some, None, refl, sym, ap, subst, ◌∙◌, append_assoc}
use Rattle.std.specs.Prelude.{codes}
use Rattle.std.specs.List.{AllByRecursion}
use Rattle.std.proofs.lemmas.List.Concat.{flat_map-cons}
use Rattle.edit_record.specs.Lists.Pieces.{Transforms}
use Rattle.edit_record.specs.Lists.Sequence.{TransformsInOrder}
use Rattle.edit_record.specs.Lists.Journal.{JournalEntry, journal_transforms}
use Rattle.edit_record.proofs.SquashesLemmas.Groupings.{squash_as_one}
use Rattle.edit_record.specs.Text.{record_text, journal_text, IsCurrentText, OldRecord, MigratesTo, MigrateAllTo, old_transforms, IsJournalText}
use Rattle.edit_record.specs.Lists.Validity.{IsValidList}
use Rattle.edit_record.specs.Parsing.{strip}
use Rattle.edit_record.specs.Decoding.{IsVersion}
use Rattle.edit_record.specs.Inner.ParseResults.{RecordsAt}
use Rattle.edit_record.proofs.Fields.{after_takes, after_again}
use Rattle.edit_record.proofs.Journals.{record_one, not_empty, from_journal, from_text, text_from}

records_one : (old : Bool) (t : List ℕ) (rs ss : List JournalEntry) → RecordsAt old t rs → RecordsAt old t ss → rs ≡ ss
records_one old t [] [] h k = refl
records_one old t [] (s ∷ ss) h k = absurd (not_empty old t s k.0 h k.1)
records_one old t (r ∷ rs) [] h k = absurd (not_empty old t r h.0 k h.1)
records_one old t (r ∷ rs) (s ∷ ss) h k =
    let one = record_one old t r s h.0 k.0 h.1 k.1 in
    let later = records_one old h.0 rs ss h.2 (subst (λ (x : List ℕ). RecordsAt old x ss) (sym one.1) k.2) in
    (λ i. one.0 i ∷ later i)

is_prefix : (t x : List ℕ) → t ≡ codes "tfrec 1" ++ x → t ≡ codes "tfrec 1" ++ drop 7 t
is_prefix t x e = e ∙ ap (λ (y : List ℕ). codes "tfrec 1" ++ drop 7 y) (sym e)

none_some : {A : Type 0} {x : A} → None ≡ Some x → ⊥
none_some e = absurd cc

none_is : (t x : List ℕ) → strip (codes "tfrec 1") t ≡ None → t ≡ codes "tfrec 1" ++ x → false ≡ true
none_is t x e k = let found = ap (strip (codes "tfrec 1")) k ∙ after_again (codes "tfrec 1") x in absurd (none_some (sym e ∙ found))

version_of : (t : List ℕ) → (old : Bool) × IsVersion old t
version_of t =
    elim (strip (codes "tfrec 1") t) as (λ o. strip (codes "tfrec 1") t ≡ o → (old : Bool) × IsVersion old t) [
      | Some x ↦ λ e. (true, record { is_old = λ _. is_prefix t x (after_takes (codes "tfrec 1") t x e); if_old = λ _ _. refl })
      | None ↦ λ e. (false, record { is_old = λ f. absurd cc; if_old = λ x k. none_is t x e k })
    ] refl

pub one_journal : (t : List ℕ) (rs ss : List JournalEntry) → IsJournalText t rs → IsJournalText t ss → rs ≡ ss
one_journal t rs ss h k =
    let f = version_of t in
    records_one f.0 t rs ss (from_journal f.0 t rs f.1 h) (from_journal f.0 t ss f.1 k)

first_alike : (r : JournalEntry) (t more : List ℕ) (rs ss : List JournalEntry) → IsValidList r.edits → ((later : List JournalEntry) → RecordsAt false t later → (others : List JournalEntry) × (later ≡ rs ++ others) × RecordsAt false more others)
    → RecordsAt false (record_text r ++ t) ss → (others : List JournalEntry) × (ss ≡ (r ∷ rs) ++ others) × RecordsAt false more others
first_alike r t more rs [] made on k = absurd (not_empty false (record_text r ++ t) r t k (refl, made))
first_alike r t more rs (s ∷ ss) made on k =
    let one = record_one false (record_text r ++ t) r s t k.0 (refl, made) k.1 in
    let i = on ss (subst (λ (x : List ℕ). RecordsAt false x ss) (sym one.1) k.2) in
    (i.0, (λ j. sym one.0 j ∷ i.1 j), i.2)

begin_alike : (rs ss : List JournalEntry) (more : List ℕ) → AllByRecursion (λ r. IsValidList r.edits) rs → RecordsAt false (journal_text rs ++ more) ss → (others : List JournalEntry) × (ss ≡ rs ++ others) × RecordsAt false more others
begin_alike [] ss more made h = (ss, refl, h)
begin_alike (r ∷ rs) ss more made h =
    let text : journal_text (r ∷ rs) ++ more ≡ record_text r ++ (journal_text rs ++ more) = ap (λ (x : List ℕ). x ++ more) (flat_map-cons record_text r rs) ∙ append_assoc (record_text r) (journal_text rs) more in
    first_alike r (journal_text rs ++ more) more rs ss made.0 (λ later k. begin_alike rs later more made.1 k) (subst (λ (x : List ℕ). RecordsAt false x ss) text h)

pub begins_alike : (leading more : List ℕ) (rs ss : List JournalEntry) → IsCurrentText leading rs → IsCurrentText (leading ++ more) ss → (others : List JournalEntry) × (ss ≡ rs ++ others) × IsCurrentText more others
begins_alike leading more rs ss h k =
    let text = ap (λ (x : List ℕ). x ++ more) h.is in
    let b = begin_alike rs ss more h.made (subst (λ (x : List ℕ). RecordsAt false x ss) text (from_text (leading ++ more) ss k.made k.is)) in
    (b.0, b.1, text_from more b.0 b.2)

one_alike : (old : OldRecord) (r : JournalEntry) → MigratesTo old r → (t u : List ℕ) → Transforms r.edits t u ↔ old_transforms old t u
one_alike old r b = (squash_as_one old.first old.others).equivalent r.edits b.squashed

pub transform_alike : (olds : List OldRecord) (rs : List JournalEntry) → MigrateAllTo olds rs → (t u : List ℕ) → journal_transforms rs t u ↔ TransformsInOrder old_transforms olds t u
transform_alike [] [] b t u = (λ h. h, λ h. h)
transform_alike [] (r ∷ rs) b t u = absurd b
transform_alike (old ∷ olds) [] b t u = absurd b
transform_alike (old ∷ olds) (r ∷ rs) b t u = (
  λ h. (h.0, (one_alike old r b.0 t h.0).0 h.1, (transform_alike olds rs b.1 h.0 u).0 h.2),
  λ h. (h.0, (one_alike old r b.0 t h.0).1 h.1, (transform_alike olds rs b.1 h.0 u).1 h.2),
)
