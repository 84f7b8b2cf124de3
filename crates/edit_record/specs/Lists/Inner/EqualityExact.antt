-- Edits, lists, records and journals are equal if and only if they are one.
use Rattle.std.proofs.Common.{◌≡◌, List, Bool, refl, sym, ap, true≢false}
use Rattle.std.specs.Bool.{Decides}
use Rattle.std.specs.Cmp.{IsEquivalence, both_ways}
use Rattle.std.specs.Cmp.Lexicographic.{pointwise_decides}
use Rattle.std.proofs.lemmas.Bool.Decides.{Decides-eqb, Decides-and, Decides-like}
use Rattle.edit_record.specs.declared.lists.record.Word.{Word}
use Rattle.edit_record.specs.declared.lists.record.Word.TheVariants.{Fmt, Fix}
use Rattle.edit_record.specs.Lists.Pieces.{EditEntry, EditList}
use Rattle.edit_record.specs.Lists.Journal.{JournalEntry}
use Rattle.edit_record.specs.Lists.Equality.{is_same_edit, is_same_list, is_same_word, is_same_record}
use Rattle.edit_record.specs.Lists.Equality.{is_same_journal}

-- a test of equality is an equivalence
pub equivalence : {A : Type 0} {test : A → A → Bool} → ((x y : A) → Decides (test x y) (x ≡ y))
    → IsEquivalence test
equivalence {A} {test} exact = record {
  refl = λ x. (exact x x).1 refl;
  symm = λ x y. both_ways (test x y) (test y x)
      (λ e. (exact y x).1 (sym ((exact x y).0 e)))
      (λ e. (exact x y).1 (sym ((exact y x).0 e)));
  congr = λ x y z e. ap (λ (w : A). test w z) ((exact x y).0 e);
}

edit_is : (a b : EditEntry)
    → ((a.at ≡ b.at) × (a.removed ≡ b.removed)) × (a.added ≡ b.added) → a ≡ b
edit_is a b p = λ i. record { at = p.0.0 i; removed = p.0.1 i; added = p.1 i }

edit_parts : (a b : EditEntry) → a ≡ b
    → ((a.at ≡ b.at) × (a.removed ≡ b.removed)) × (a.added ≡ b.added)
edit_parts a b e = (
  (ap (λ (x : EditEntry). x.at) e, ap (λ (x : EditEntry). x.removed) e),
  ap (λ (x : EditEntry). x.added) e,
)

pub edits_exact : (a b : EditEntry) → Decides (is_same_edit a b) (a ≡ b)
edits_exact a b =
    Decides-like (is_same_edit a b) (edit_is a b) (edit_parts a b)
    (Decides-and _ _
    (Decides-and _ _ (Decides-eqb a.at b.at) (pointwise_decides Decides-eqb a.removed b.removed))
    (pointwise_decides Decides-eqb a.added b.added))

list_is : (a b : EditList) → (a.old_len ≡ b.old_len) × (a.entries ≡ b.entries) → a ≡ b
list_is a b p = λ i. record { old_len = p.0 i; entries = p.1 i }

list_parts : (a b : EditList) → a ≡ b → (a.old_len ≡ b.old_len) × (a.entries ≡ b.entries)
list_parts a b e = (ap (λ (x : EditList). x.old_len) e, ap (λ (x : EditList). x.entries) e)

pub lists_exact : (a b : EditList) → Decides (is_same_list a b) (a ≡ b)
lists_exact a b =
    Decides-like (is_same_list a b) (list_is a b) (list_parts a b)
    (Decides-and _ _ (Decides-eqb a.old_len b.old_len)
    (pointwise_decides edits_exact a.entries b.entries))

words_exact : (a b : Word) → Decides (is_same_word a b) (a ≡ b)
words_exact Fmt Fmt = (λ e. refl, λ e. refl)
words_exact Fmt Fix = (λ e. absurd (true≢false (sym e)), λ e. sym (ap (is_same_word Fmt) e))
words_exact Fix Fmt = (λ e. absurd (true≢false (sym e)), λ e. sym (ap (is_same_word Fix) e))
words_exact Fix Fix = (λ e. refl, λ e. refl)

record_is : (a b : JournalEntry) → (a.word ≡ b.word) × (a.edits ≡ b.edits) → a ≡ b
record_is a b p = λ i. record { word = p.0 i; edits = p.1 i }

record_parts : (a b : JournalEntry) → a ≡ b → (a.word ≡ b.word) × (a.edits ≡ b.edits)
record_parts a b e = (ap (λ (x : JournalEntry). x.word) e, ap (λ (x : JournalEntry). x.edits) e)

pub records_exact : (a b : JournalEntry) → Decides (is_same_record a b) (a ≡ b)
records_exact a b =
    Decides-like (is_same_record a b) (record_is a b) (record_parts a b)
    (Decides-and _ _ (words_exact a.word b.word) (lists_exact a.edits b.edits))

pub journals_exact : (a b : List JournalEntry) → Decides (is_same_journal a b) (a ≡ b)
journals_exact = pointwise_decides records_exact
