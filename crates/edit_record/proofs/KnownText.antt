-- The text that the first records of a journal were read from: when records are removed, it is
-- truncated, and what is written after it is the text of the others.
use Rattle.std.proofs.Common.{◌≡◌, ℕ, zero, suc, ◌+◌, ◌-◌, ◌≤◌, ◌<◌, List, [], ◌∷◌, ◌++◌, length, take, drop, refl, false, sym, ap, subst, ◌∙◌, arith, append_assoc, length-append}
use Rattle.std.specs.List.{AllByRecursion, slice_range}
use Rattle.std.proofs.lemmas.Grind.{flat_map-append}
use Rattle.std.proofs.Math.Seq.{take-append_seam}
use Rattle.edit_record.specs.Lists.Journal.{JournalEntry}
use Rattle.edit_record.specs.Lists.Validity.{IsValidList}
use Rattle.edit_record.specs.Text.{record_text, journal_text, IsCurrentText, IsJournalText}
use Rattle.edit_record.specs.Decoding.{IsVersion}
use Rattle.edit_record.proofs.Journals.{from_journal, text_from}
use Rattle.edit_record.proofs.SwapsLemmas.Spans.{all_push}
use Rattle.std.proofs.lemmas.List.{append-nil, flat_map_more}
use Rattle.edit_record.specs.Inner.KnownText.{IsKnownText, SplitsKnown}

take_none : {X : Type 0} (n : ℕ) (xs : List X) → xs ≡ [] → take n xs ≡ []
take_none zero xs e = refl
take_none (suc n) xs e = ap (take (suc n)) e

take_both : {X : Type 0} (k n : ℕ) (xs : List X) → take (k + n) xs ≡ take k xs ++ take n (drop k xs)
take_both zero n xs = let e : zero + n ≡ n = omega arith in ap (λ (m : ℕ). take m xs) e
take_both (suc k) n [] =
    let e : suc k + n ≡ suc (k + n) = omega arith in ap (λ (m : ℕ). take m []) e ∙ sym (take_none n [] refl)
take_both (suc k) n (x ∷ xs) =
    let e : suc k + n ≡ suc (k + n) = omega arith in ap (λ (m : ℕ). take m (x ∷ xs)) e ∙ ap (λ ys. x ∷ ys) (take_both k n xs)

pub take_split : {X : Type 0} (to known : ℕ) (xs : List X) → to ≤ known → take known xs ≡ take to xs ++ slice_range xs to known
take_split to known xs l =
    let whole : to + (known - to) ≡ known = omega (arith, l) in
    subst (λ (n : ℕ). take n xs ≡ take to xs ++ slice_range xs to known) whole (take_both to (known - to) xs)

all_left : {X : Type 0} (P : X → Type 0) (xs ys : List X) → AllByRecursion P (xs ++ ys) → AllByRecursion P xs
all_left P [] ys h = tt
all_left P (x ∷ xs) ys h = (h.0, all_left P xs ys h.1)

-- the kept text, cut in two
pub known_split : (rs : List JournalEntry) (known to : ℕ) (text : List ℕ) → IsKnownText rs known text → to ≤ known
    → text ≡ journal_text (take to rs) ++ journal_text (slice_range rs to known)
known_split rs known to text h l = h.is.is ∙ ap journal_text (take_split to known rs l) ∙ flat_map-append record_text (take to rs) (slice_range rs to known)

pub known_fits : (rs : List JournalEntry) (known to : ℕ) (text : List ℕ) → IsKnownText rs known text → to ≤ known
    → length (journal_text (slice_range rs to known)) ≤ length text
known_fits rs known to text h l =
    let e = ap length (known_split rs known to text h l) in
    omega (arith, e, length-append (journal_text (take to rs)) (journal_text (slice_range rs to known)))

pub known_prefix : (rs : List JournalEntry) (known to len : ℕ) (text : List ℕ) → IsKnownText rs known text → to ≤ known
    → len ≡ length text - length (journal_text (slice_range rs to known)) → IsKnownText rs to (take len text)
known_prefix rs known to len text h l e =
    let two = known_split rs known to text h l in
    let at : len ≡ length (journal_text (take to rs)) = omega (arith, e, ap length two, length-append (journal_text (take to rs)) (journal_text (slice_range rs to known))) in
    let prefix : take len text ≡ journal_text (take to rs) =
    ap (λ (n : ℕ). take n text) at ∙ ap (take (length (journal_text (take to rs)))) two ∙ take-append_seam (journal_text (take to rs)) (journal_text (slice_range rs to known)) in
    let made = all_left (λ (r : JournalEntry). IsValidList r.edits) (take to rs) (slice_range rs to known)
    (subst (λ (xs : List JournalEntry). AllByRecursion (λ (r : JournalEntry). IsValidList r.edits) xs) (take_split to known rs l) h.is.made) in
    record { within = omega (arith, l, h.within); is = record { made = made; is = prefix } }

-- ---- a journal whose text is written: what is written is the text of the records before those left

pub written_next : (rs : List JournalEntry) (out new : List ℕ) (others : List JournalEntry) (i : ℕ) (r : JournalEntry) → SplitsKnown rs out (drop i others)
    → drop i others ≡ r ∷ drop (i + 1) others → new ≡ out ++ record_text r → IsValidList r.edits → SplitsKnown rs new (drop (i + 1) others)
written_next rs out new others i r h next text valid = record {
  start = h.start ++ r ∷ [];
  is = record {
    made = all_push (λ (x : JournalEntry). IsValidList x.edits) h.start r h.is.made valid;
    is = text ∙ ap (λ (t : List ℕ). t ++ record_text r) h.is.is ∙ flat_map_more record_text [] h.start r;
  };
  whole = h.whole ∙ ap (λ (xs : List JournalEntry). h.start ++ xs) next ∙ sym (append_assoc h.start (r ∷ []) (drop (i + 1) others));
}

pub written_all : (rs : List JournalEntry) (out : List ℕ) (rest : List JournalEntry) → SplitsKnown rs out rest → rest ≡ [] → IsCurrentText out rs
written_all rs out rest h none =
    subst (λ (xs : List JournalEntry). IsCurrentText out xs) (sym (h.whole ∙ ap (λ (xs : List JournalEntry). h.start ++ xs) none ∙ append-nil h.start)) h.is

pub some_record : (rs : List JournalEntry) (out : List ℕ) (r : JournalEntry) (rest more : List JournalEntry) → SplitsKnown rs out rest → rest ≡ r ∷ more → 0 < length rs
some_record rs out r rest more h next =
    omega (arith, ap length h.whole, length-append h.start rest, ap length next)

pub some_text : (rs : List JournalEntry) (text : List ℕ) (rest : List JournalEntry) → SplitsKnown rs text rest → 0 < length text → 0 < length rs
some_text rs text rest h some = by_start h.start refl
  where
    by_start : (start : List JournalEntry) → h.start ≡ start → 0 < length rs
    by_start [] e = absurd (omega (arith, some, ap length (h.is.is ∙ ap journal_text e)))
    by_start (x ∷ xs) e = omega (arith, ap length h.whole, length-append h.start rest, ap length e)

pub current : (text : List ℕ) (rs : List JournalEntry) → IsVersion false text → IsJournalText text rs → IsCurrentText text rs
current text rs version h = text_from text rs (from_journal false text rs version h)
