-- Records one after another, in one version or the other.
use Rattle.std.proofs.Common.{◌≡◌, ◌↔◌, ℕ, ◌≤◌, ◌<◌, List, [], ◌∷◌, ◌++◌, length, drop, get_or, Bool, true, false, Result, Ok, Err, refl, sym, ap, subst, ◌∙◌, append_assoc, length-append, arith, inl, inr}
use Rattle.std.specs.Prelude.{codes, ◌==◌, IfErr}
use Rattle.std.proofs.lemmas.Bool.{eqb-true}
use Rattle.std.specs.List.{flat_map, AllByRecursion}
use Rattle.std.proofs.lemmas.List.{append-nil, nil_from_length}
use Rattle.std.proofs.lemmas.List.Concat.{flat_map-cons}
use Rattle.std.proofs.lemmas.Grind.{flat_map-append}
use Rattle.edit_record.specs.Lists.Journal.{JournalEntry}
use Rattle.edit_record.specs.Squashes.SquashLists.{SquashAll}
use Rattle.edit_record.proofs.SquashesLemmas.Groupings.{squash_as_one}
use Rattle.edit_record.specs.declared.fault.DecodeStop.{DecodeStop}
use Rattle.edit_record.specs.declared.fault.DecodeStop.TheVariants as stops
use Rattle.edit_record.specs.Text.{word_text, list_text, number_text, newline, record_text, journal_text, IsCurrentText, OldRecord, steps, step_text, old_record_text, MigratesTo, MigrateAllTo, IsOldText, IsJournalText}
use Rattle.edit_record.specs.Lists.Validity.{IsValidList}
use Rattle.edit_record.specs.declared.fault.TextError.{TextError}
use Rattle.edit_record.specs.Decoding.{RecordError, IsVersion}
use Rattle.edit_record.specs.Parsing.{record_at}
use Rattle.edit_record.specs.OldParsing.{OldRecordError}
use Rattle.edit_record.specs.Inner.Allocating.{allocates}
use Rattle.edit_record.specs.Inner.ParseResults.{IsRead, ParsesAs, IsStopFor, OldRecordAt, RecordAt, RecordsAt, StartsWith, HasError, IsReadResult, old_record_at}
use Rattle.edit_record.proofs.Choices.{ok_is, err_ok}
use Rattle.edit_record.proofs.Allocating.{UnreadOrAllocates, runs_out}
use Rattle.edit_record.proofs.Records.{three, four, record_takes, record_again, old_takes, old_again}

module _ {X Y : Type 0} (view : X → Y) (rest : X → List ℕ) where
  pub finds_alike : (R S : Y → List ℕ → Type 0) → ((y : Y) (t : List ℕ) → R y t ↔ S y t) → (takes : Bool) (r : Result X DecodeStop) → ParsesAs view rest takes r R → ParsesAs view rest takes r S
  finds_alike R S same takes (Ok x) h = (same (view x) (rest x)).0 h
  finds_alike R S same takes (Err stops.Memory) h = h
  finds_alike R S same takes (Err (stops.Bad bad)) h = λ y t s. h y t ((same y t).1 s)

  pub finds_read : (read : Result (Y × List ℕ) TextError) (takes : Bool) (r : Result X DecodeStop) → IsRead (λ x. (view x, rest x)) takes r read → ParsesAs view rest takes r (λ y t. read ≡ Ok (y, t))
  finds_read read takes (Ok x) h = h
  finds_read read takes (Err stops.Memory) h = h
  finds_read read takes (Err (stops.Bad bad)) h = λ y t s. err_ok bad _ (sym h ∙ s)

pub new_alike : (t : List ℕ) (r : JournalEntry) (rest : List ℕ) → (record_at t ≡ Ok (r, rest)) ↔ RecordAt false t r rest
new_alike t r rest = (λ h. record_takes t r rest h, λ h. ap record_at h.0 ∙ record_again r rest h.1)

pub old_alike : (t : List ℕ) (r : JournalEntry) (rest : List ℕ) → OldRecordAt t r rest ↔ RecordAt true t r rest
old_alike t r rest = (
  λ h. let k = old_takes t h.0 rest h.1 in (h.0, k.0, record { made = k.1.made; within_limit = k.1.within_limit; word = h.2; squashed = h.3 }),
  λ h. (h.0, ap old_record_at h.1 ∙ old_again h.0 rest (record { made = h.2.made; within_limit = h.2.within_limit }), h.2.word, h.2.squashed),
)

one_entered : (r s : JournalEntry) → r.word ≡ s.word → r.edits ≡ s.edits → r ≡ s
one_entered r s w e = λ i. record { word = w i; edits = e i }

-- A text begins with one record at most.
pub record_one : (old : Bool) (t : List ℕ) (r s : JournalEntry) (rest more : List ℕ) → RecordAt old t r rest → RecordAt old t s more → (r ≡ s) × (rest ≡ more)
record_one false t r s rest more h k =
    let e = ok_is (r, rest) (s, more) (sym ((new_alike t r rest).1 h) ∙ (new_alike t s more).1 k) in
    (ap (λ (x : JournalEntry × List ℕ). x.0) e, ap (λ (x : JournalEntry × List ℕ). x.1) e)
record_one true t r s rest more h k =
    let a = (old_alike t r rest).1 h in
    let b = (old_alike t s more).1 k in
    let e = ok_is (a.0, rest) (b.0, more) (sym a.1 ∙ b.1) in
    let old_eq = ap (λ (x : OldRecord × List ℕ). x.0) e in
    let squashed : SquashAll a.0.first a.0.others s.edits = subst (λ (x : OldRecord). SquashAll x.first x.others s.edits) (sym old_eq) b.3 in
    let edits_eq = (squash_as_one a.0.first a.0.others).one r.edits s.edits a.3 squashed in
    let word_eq : r.word ≡ s.word = sym a.2 ∙ ap (λ (x : OldRecord). x.word) old_eq ∙ b.2 in
    (one_entered r s word_eq edits_eq, ap (λ (x : OldRecord × List ℕ). x.1) e)

-- what a record begins with
head_of : Bool → List ℕ
head_of false = codes "tfrec 2 "
head_of true = codes "tfrec 1 "

record_begins : (old : Bool) (t : List ℕ) (r : JournalEntry) (rest : List ℕ) → RecordAt old t r rest → (x : List ℕ) × (t ≡ head_of old ++ x) × (length rest ≤ length x)
unfolding head_of
record_begins false t r rest h =
    let x = word_text r.word ++ (list_text r.edits ++ (codes "end\n" ++ rest)) in (
      x,
      h.0 ∙ three (codes "tfrec 2 ") (word_text r.word) (list_text r.edits) (codes "end\n") rest,
      omega (arith, length-append (word_text r.word) (list_text r.edits ++ (codes "end\n" ++ rest)), length-append (list_text r.edits) (codes "end\n" ++ rest)),
    )
record_begins true t r rest h =
    let n = number_text newline (length (steps h.0)) in
    let ss = flat_map step_text (steps h.0) in
    let x = word_text h.0.word ++ (n ++ (ss ++ (codes "end\n" ++ rest))) in (
      x,
      h.1 ∙ four (codes "tfrec 1 ") (word_text h.0.word) n ss (codes "end\n") rest,
      omega (arith, length-append (word_text h.0.word) (n ++ (ss ++ (codes "end\n" ++ rest))), length-append n (ss ++ (codes "end\n" ++ rest)), length-append ss (codes "end\n" ++ rest)),
    )

head_len : (old : Bool) (x : List ℕ) → length x < length (head_of old ++ x)
unfolding head_of
head_len false x = omega arith
head_len true x = omega arith

pub record_shorter : (old : Bool) (t : List ℕ) (r : JournalEntry) (rest : List ℕ) → RecordAt old t r rest → length rest < length t
record_shorter old t r rest h =
    let b = record_begins old t r rest h in
    let l = head_len old b.0 in
    rw b.1 (omega (arith, b.2))

-- A text is the leading records, and then the rest, whatever it is.
abbrev pub Begins : Bool → List ℕ → List JournalEntry → List ℕ → Type 0
Begins old text leading rest = (ss : List JournalEntry) → RecordsAt old text ss ↔ ((rs : List JournalEntry) × (ss ≡ leading ++ rs) × RecordsAt old rest rs)

next_of : (old : Bool) (leading : List JournalEntry) (rest after : List ℕ) (r : JournalEntry) → RecordAt old rest r after → (ss rs : List JournalEntry) → ss ≡ leading ++ rs → RecordsAt old rest rs
    → (more : List JournalEntry) × (ss ≡ (leading ++ r ∷ []) ++ more) × RecordsAt old after more
next_of old leading rest after r h ss [] e k = absurd (omega (arith, record_shorter old rest r after h, ap length k))
next_of old leading rest after r h ss (s ∷ rs) e k =
    let one = record_one old rest s r k.0 after k.1 h in
    (rs, e ∙ ap (λ (x : JournalEntry). leading ++ x ∷ rs) one.0 ∙ sym (append_assoc leading (r ∷ []) rs), subst (λ (x : List ℕ). RecordsAt old x rs) one.1 k.2)

pub begins_on : (old : Bool) (text : List ℕ) (leading : List JournalEntry) (rest after : List ℕ) (r : JournalEntry) → Begins old text leading rest → RecordAt old rest r after → Begins old text (leading ++ r ∷ []) after
begins_on old text leading rest after r so_far h ss = (
  λ k. let b = (so_far ss).0 k in next_of old leading rest after r h ss b.0 b.1 b.2,
  λ k. (so_far ss).1 (r ∷ k.0, k.1 ∙ append_assoc leading (r ∷ []) k.0, (after, h, k.2)),
)

pub begins_none : (old : Bool) (text : List ℕ) (leading : List JournalEntry) (rest : List ℕ) → Begins old text leading rest → 0 < length rest → ((r : JournalEntry) (after : List ℕ) → RecordAt old rest r after → ⊥) → (ss : List JournalEntry) → RecordsAt old text ss → ⊥
begins_none old text leading rest so_far some none ss h =
    let b = (so_far ss).0 h in
    no b.0 b.2
  where
    no : (rs : List JournalEntry) → RecordsAt old rest rs → ⊥
    no [] k = omega (arith, ap length k, some)
    no (r ∷ rs) k = none r k.0 k.1

pub begins_all : (old : Bool) (text : List ℕ) (leading : List JournalEntry) (rest : List ℕ) → Begins old text leading rest → rest ≡ [] → RecordsAt old text leading
begins_all old text leading rest so_far done = (so_far leading).1 ([], sym (append-nil leading), done)

-- the records one after another are the text of a journal
pub text_from : (t : List ℕ) (rs : List JournalEntry) → RecordsAt false t rs → IsCurrentText t rs
text_from t [] h = record { made = tt; is = h }
text_from t (r ∷ rs) h =
    let i = text_from h.0 rs h.2 in
    record { made = (h.1.1, i.made); is = h.1.0 ∙ ap (λ (x : List ℕ). record_text r ++ x) i.is ∙ sym (flat_map-cons record_text r rs) }

pub from_text : (t : List ℕ) (rs : List JournalEntry) → AllByRecursion (λ r. IsValidList r.edits) rs → t ≡ journal_text rs → RecordsAt false t rs
from_text t [] made is = is
from_text t (r ∷ rs) made is = (journal_text rs, (is ∙ flat_map-cons record_text r rs, made.0), from_text (journal_text rs) rs made.1 refl)

pub old_text_from : (t : List ℕ) (rs : List JournalEntry) → RecordsAt true t rs → IsOldText t rs
old_text_from t [] h = record { olds = []; migrated = tt; is = h }
old_text_from t (r ∷ rs) h =
    let i = old_text_from h.0 rs h.2 in
    record { olds = h.1.0 ∷ i.olds; migrated = (h.1.2, i.migrated); is = h.1.1 ∙ ap (λ (x : List ℕ). old_record_text h.1.0 ++ x) i.is ∙ sym (flat_map-cons old_record_text h.1.0 i.olds) }

pub from_old_text : (t : List ℕ) (olds : List OldRecord) (rs : List JournalEntry) → MigrateAllTo olds rs → t ≡ flat_map old_record_text olds → RecordsAt true t rs
from_old_text t [] [] migrated is = is
from_old_text t [] (r ∷ rs) migrated is = absurd migrated
from_old_text t (old ∷ olds) [] migrated is = absurd migrated
from_old_text t (old ∷ olds) (r ∷ rs) migrated is =
    (flat_map old_record_text olds, (old, is ∙ flat_map-cons old_record_text old olds, migrated.0), from_old_text (flat_map old_record_text olds) olds rs migrated.1 refl)

-- the version is known by the head of the first record
pub journal_from : (old : Bool) (t : List ℕ) (rs : List JournalEntry) → RecordsAt old t rs → IsJournalText t rs
journal_from false t rs h = inl (text_from t rs h)
journal_from true t rs h = inr (old_text_from t rs h)

not_both : (t x y : List ℕ) → t ≡ codes "tfrec 1" ++ x → t ≡ codes "tfrec 2 " ++ y → ⊥
not_both t x y a b = let e : ◌≡◌ {A = ℕ} 49 50 = ap (λ (l : List ℕ). get_or l 6 0) (sym a ∙ b) in omega (arith, e)

kept_new : (old : Bool) (t : List ℕ) (rs : List JournalEntry) → IsVersion old t → RecordsAt false t rs → RecordsAt old t rs
unfolding head_of
kept_new false t rs version h = h
kept_new true t [] version h = absurd (let e = sym (version.is_old refl) ∙ h in omega (arith, ap length e))
kept_new true t (r ∷ rs) version h = let b = record_begins false t r h.0 h.1 in absurd (not_both t (drop 7 t) b.0 (version.is_old refl) b.1)

kept_old : (old : Bool) (t : List ℕ) (rs : List JournalEntry) → IsVersion old t → RecordsAt true t rs → RecordsAt old t rs
unfolding head_of
kept_old true t rs version h = h
kept_old false t [] version h = h
kept_old false t (r ∷ rs) version h = let b = record_begins true t r h.0 h.1 in let e = version.if_old (32 ∷ b.0) b.1 in absurd cc

pub from_journal : (old : Bool) (t : List ℕ) (rs : List JournalEntry) → IsVersion old t → IsJournalText t rs → RecordsAt old t rs
from_journal old t rs version (inl h) = kept_new old t rs version (from_text t rs h.made h.is)
from_journal old t rs version (inr h) = kept_old old t rs version (from_old_text t h.olds rs h.migrated h.is)

pub version_is : (old : Bool) (t : List ℕ) → (old ≡ true → t ≡ codes "tfrec 1" ++ drop 7 t) × ((x : List ℕ) → t ≡ codes "tfrec 1" ++ x → old ≡ true) → IsVersion old t
version_is old t h = record { is_old = h.0; if_old = h.1 }

-- ---- the first error of a text of version 2

pub read_none : (old : Bool) (text : List ℕ) → StartsWith old text [] text
read_none false text = ([], record { made = tt; is = refl }, refl)
read_none true text = ([], record { olds = []; migrated = tt; is = refl }, refl)

all_push : (rs : List JournalEntry) (r : JournalEntry) → AllByRecursion (λ (x : JournalEntry). IsValidList x.edits) rs → IsValidList r.edits → AllByRecursion (λ (x : JournalEntry). IsValidList x.edits) (rs ++ r ∷ [])
all_push [] r all valid = (valid, tt)
all_push (s ∷ rs) r all valid = (all.0, all_push rs r all.1 valid)

migrate_push : (olds : List OldRecord) (rs : List JournalEntry) (old : OldRecord) (r : JournalEntry) → MigrateAllTo olds rs → MigratesTo old r → MigrateAllTo (olds ++ old ∷ []) (rs ++ r ∷ [])
migrate_push [] [] old r all m = (m, tt)
migrate_push [] (s ∷ rs) old r all m = absurd all
migrate_push (o ∷ olds) [] old r all m = absurd all
migrate_push (o ∷ olds) (s ∷ rs) old r all m = (all.0, migrate_push olds rs old r all.1 m)

-- the text of one more
text_push : {X : Type 0} (text : X → List ℕ) (xs : List X) (x : X) (done : List ℕ) → done ≡ flat_map text xs → done ++ text x ≡ flat_map text (xs ++ x ∷ [])
text_push text xs x done is =
    ap (λ (y : List ℕ). y ++ text x) is
    ∙ ap (λ (y : List ℕ). flat_map text xs ++ y) (sym (append-nil (text x)) ∙ sym (flat_map-cons text x []))
    ∙ sym (flat_map-append text xs (x ∷ []))

more_read : (text done one rest after : List ℕ) → text ≡ done ++ rest → rest ≡ one ++ after → text ≡ (done ++ one) ++ after
more_read text done one rest after is h = is ∙ ap (λ (x : List ℕ). done ++ x) h ∙ sym (append_assoc done one after)

pub read_on : (old : Bool) (text : List ℕ) (records : List JournalEntry) (rest after : List ℕ) (r : JournalEntry) → StartsWith old text records rest → RecordAt old rest r after → StartsWith old text (records ++ r ∷ []) after
read_on false text records rest after r so_far h = (
  so_far.0 ++ record_text r,
  record { made = all_push records r so_far.1.made h.1; is = text_push record_text records r so_far.0 so_far.1.is },
  more_read text so_far.0 (record_text r) rest after so_far.2 h.0,
)
read_on true text records rest after r so_far h = (
  so_far.0 ++ old_record_text h.0,
  record {
    olds = so_far.1.olds ++ h.0 ∷ [];
    migrated = migrate_push so_far.1.olds records h.0 r so_far.1.migrated h.2;
    is = text_push old_record_text so_far.1.olds h.0 so_far.0 so_far.1.is;
  },
  more_read text so_far.0 (old_record_text h.0) rest after so_far.2 h.1,
)

module _ (old : Bool) (text : List ℕ) (leading : List JournalEntry) (rest : List ℕ) (so_far : Begins old text leading rest) where
  pub reads_stop : UnreadOrAllocates text rest → StartsWith old text leading rest → IsVersion old text → 0 < length rest → (stop : DecodeStop) → IsStopFor (allocates old rest) stop (RecordAt old rest) → HasError stop (RecordError old rest) → IsReadResult text (Err stop)
  reads_stop begun read version some stops.Memory taken error = runs_out old text rest begun taken
  reads_stop begun read version some (stops.Bad bad) none error = (
    λ rs h. begins_none old text leading rest so_far some none rs (from_journal old text rs version h),
    record { old = old; version = version; done = read.0; records = leading; is_done = read.1; rest = rest; is = read.2; error_is = error },
  )

  pub reads_all : rest ≡ [] → IsReadResult text (Ok leading)
  reads_all done = journal_from old text leading (begins_all old text leading rest so_far done)

-- the error of the one record
pub new_error : {X : Type 0} (view : X → JournalEntry × List ℕ) (takes : Bool) (t : List ℕ) (r : Result X DecodeStop) → IsRead view takes r (record_at t) → IfErr r (λ stop. HasError stop (RecordError false t))
new_error view takes t (Ok x) h = tt
new_error view takes t (Err stops.Memory) h = tt
new_error view takes t (Err (stops.Bad bad)) h = h

pub old_error : {X : Type 0} (t : List ℕ) (r : Result X DecodeStop) → IfErr r (λ stop. HasError stop (OldRecordError t)) → IfErr r (λ stop. HasError stop (RecordError true t))
old_error t (Ok x) h = tt
old_error t (Err stops.Memory) h = tt
old_error t (Err (stops.Bad bad)) h = h

pub some_left : (t : List ℕ) → false ≡ (length t == 0) → 0 < length t
some_left t e = grind (arith, e)

pub none_left : (t : List ℕ) → true ≡ (length t == 0) → t ≡ []
none_left t e = nil_from_length t (eqb-true (length t) 0 (sym e))

pub not_empty : (old : Bool) (t : List ℕ) (r : JournalEntry) (rest : List ℕ) → t ≡ [] → RecordAt old t r rest → ⊥
not_empty old t r rest e h = omega (arith, record_shorter old t r rest h, ap length e)
