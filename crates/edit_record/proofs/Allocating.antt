-- Where memory is taken, the text begins with a head and the whole of what follows it.
use Rattle.std.proofs.Common.{◌≡◌, ℕ, zero, suc, ◌-◌, ◌<◌, ◌≤◌, List, [], ◌∷◌, ◌++◌, length, Bool, true, false, Result, Ok, Err, refl, sym, ap, subst, ◌∙◌, append_assoc, arith, ◌⊎◌, inl, inr}
use Rattle.std.specs.Prelude.{codes, is_ok, ◌||◌}
use Rattle.std.specs.List.{flat_map, AllByRecursion}
use Rattle.std.proofs.lemmas.List.Concat.{flat_map-cons}
use Rattle.edit_record.specs.declared.version_1.TheConstants.{MAX_STEPS}
use Rattle.edit_record.specs.Lists.Pieces.{EditEntry, EditList}
use Rattle.edit_record.specs.Lists.Journal.{JournalEntry}
use Rattle.edit_record.specs.Text.{newline, NumbersFit, number_text, edit_text, list_head, list_text, word_text, steps, step_text}
use Rattle.edit_record.specs.Lists.Validity.{IsValidList}
use Rattle.edit_record.specs.Decoding.{mark_after, ReachesEdit, ReachesFirstEdit, OldReachesFirstEdit, DecodeMayAllocate}
use Rattle.edit_record.specs.declared.fault.FaultKind.TheVariants.{Head}
use Rattle.edit_record.specs.declared.fault.TextError.{TextError}
use Rattle.edit_record.specs.Parsing.{expect, number_at, edit_at, list_head_at, word_at}
use Rattle.edit_record.specs.OldParsing.{step_at, OldHead, old_head_at}
use Rattle.edit_record.specs.Inner.Allocating.{is_ok_and, edits_allocate, edit_list_allocates, record_allocates, step_allocates, old_head_allocates, steps_allocate, old_record_allocates, allocates}
use Rattle.edit_record.specs.Inner.ParseResults.{RecordAt}
use Rattle.edit_record.proofs.Choices.{ok_is, through, through_one}
use Rattle.edit_record.proofs.Numbers.{number_takes}
use Rattle.edit_record.proofs.Heads.{ListHeadIs, list_head_takes}
use Rattle.edit_record.proofs.Fields.{expect_takes, edit_takes}
use Rattle.edit_record.proofs.Making.{has_numbers}
use Rattle.edit_record.proofs.Records.{three, four, word_takes, step_takes}

-- what is read where memory is taken
pub found_ok : {A P : Type 0} (r : Result A TextError) (f : A → Bool) → is_ok_and r f ≡ true → ((x : A) → r ≡ Ok x → f x ≡ true → P) → P
found_ok (Err g) f e k = absurd cc
found_ok (Ok x) f e k = k x refl e

ok_read : {A P : Type 0} (r : Result A TextError) → is_ok r ≡ true → ((x : A) → r ≡ Ok x → P) → P
ok_read (Err g) e k = absurd cc
ok_read (Ok x) e k = k x refl

is_read : {A : Type 0} (r : Result A TextError) (x : A) → r ≡ Ok x → is_ok r ≡ true
is_read r x e = rw e refl

either_true : (a b : Bool) → (a || b) ≡ true → (a ≡ true) ⊎ (b ≡ true)
either_true true b e = inl refl
either_true false b e = inr e

-- ---- in the loops over edits and steps

pub one_allocates : (i count : ℕ) (t text : List ℕ) → i < count → (t ≡ text) ⊎ (edits_allocate count text ≡ true) → is_ok (edit_at t) ≡ true → edits_allocate count text ≡ true
one_allocates i zero t text lt begun here = absurd (omega (arith, lt))
one_allocates i (suc n) t text lt (inl e) here = subst (λ (x : List ℕ). is_ok (edit_at x) ≡ true) e here
one_allocates i (suc n) t text lt (inr h) here = h

pub edit_taken : (i count : ℕ) (t text : List ℕ) (x : EditEntry × List ℕ) → i < count → (t ≡ text) ⊎ (edits_allocate count text ≡ true) → edit_at t ≡ Ok x → edits_allocate count text ≡ true
edit_taken i count t text x lt begun e = one_allocates i count t text lt begun (is_read (edit_at t) x e)

step_begins : (t : List ℕ) (x : EditList × List ℕ) → step_at t ≡ Ok x → is_ok (expect (codes "step ") Head t) ≡ true
unfolding step_at
step_begins t x e = through_one (expect (codes "step ") Head t) _ x e λ a a_is e1. is_read (expect (codes "step ") Head t) a a_is

one_more_allocates : (i count : ℕ) (t text : List ℕ) → i < count → (t ≡ text) ⊎ (steps_allocate count text ≡ true) → is_ok (expect (codes "step ") Head t) ≡ true → steps_allocate count text ≡ true
one_more_allocates i zero t text lt begun here = absurd (omega (arith, lt))
one_more_allocates i (suc n) t text lt (inl e) here = subst (λ (x : List ℕ). is_ok (expect (codes "step ") Head x) ≡ true) e here
one_more_allocates i (suc n) t text lt (inr h) here = h

pub step_allocated : (i count : ℕ) (t text : List ℕ) → i < count → (t ≡ text) ⊎ (steps_allocate count text ≡ true) → step_allocates t ≡ true → steps_allocate count text ≡ true
unfolding step_allocates
step_allocated i count t text lt begun here =
    found_ok (expect (codes "step ") Head t) _ here λ a a_is h. one_more_allocates i count t text lt begun (is_read (expect (codes "step ") Head t) a a_is)

pub step_taken : (i count : ℕ) (t text : List ℕ) (x : EditList × List ℕ) → i < count → (t ≡ text) ⊎ (steps_allocate count text ≡ true) → step_at t ≡ Ok x → steps_allocate count text ≡ true
step_taken i count t text x lt begun e = one_more_allocates i count t text lt begun (step_begins t x e)

-- ---- a list of edits that has begun

first_fits : (es : List EditEntry) (f : EditEntry) (others : List EditEntry) → es ≡ f ∷ others → AllByRecursion NumbersFit es → NumbersFit f
first_fits es f others is h = let all : AllByRecursion NumbersFit (f ∷ others) = subst (λ (l : List EditEntry). AllByRecursion NumbersFit l) is h in all.0

opens_at : (mark t t1 : List ℕ) (old_len count : ℕ) → ListHeadIs (old_len, count) t t1 → edits_allocate count t1 ≡ true → ReachesEdit mark t
opens_at mark t t1 old_len zero head h = absurd cc
opens_at mark t t1 old_len (suc n) head h =
    ok_read (edit_at t1) h λ x x_is.
    let first = edit_takes t1 x.0 x.1 x_is in
    record {
      old_len = old_len;
      count = suc n;
      old_len_fits = head.old_len;
      count_fits = head.count;
      next = edit_text x.0;
      next_is = (x.0, refl, first.1);
      rest = x.1;
      is = head.text ∙ ap (λ (y : List ℕ). list_head old_len (suc n) ++ y) first.0;
    }

list_opens : (mark t : List ℕ) → edit_list_allocates t ≡ true → ReachesEdit mark t
unfolding edit_list_allocates
list_opens mark t h =
    found_ok (list_head_at t) _ h λ head head_is h1. opens_at mark t head.1 head.0.0 head.0.1 (list_head_takes t head.0 head.1 head_is) h1

-- one that is there as a whole, with the mark after it
whole_opens : (e : EditList) (es : List EditEntry) (mark rest : List ℕ) → e.entries ≡ es → IsValidList e → ReachesEdit mark (list_text e ++ (mark ++ rest))
whole_opens e [] mark rest is made =
    let parts = append_assoc (list_head e.old_len (length e.entries)) (flat_map edit_text e.entries) (mark ++ rest) in
    let none : (es : List EditEntry) → es ≡ [] → list_head e.old_len (length es) ++ (flat_map edit_text es ++ (mark ++ rest)) ≡ list_head e.old_len 0 ++ (mark ++ rest) = λ es h. ap (λ (x : List EditEntry). list_head e.old_len (length x) ++ (flat_map edit_text x ++ (mark ++ rest))) h in
    record { old_len = e.old_len; count = 0; old_len_fits = (has_numbers e made).old_len; count_fits = omega arith; next = mark; next_is = (refl, made.old_fits); rest = rest; is = parts ∙ none e.entries is }
whole_opens e (f ∷ es) mark rest is made =
    let fits = has_numbers e made in
    let n = length es in
    let parts = append_assoc (list_head e.old_len (length e.entries)) (flat_map edit_text e.entries) (mark ++ rest) in
    let split_is : flat_map edit_text (f ∷ es) ++ (mark ++ rest) ≡ edit_text f ++ (flat_map edit_text es ++ (mark ++ rest)) =
    ap (λ (y : List ℕ). y ++ (mark ++ rest)) (flat_map-cons edit_text f es) ∙ append_assoc (edit_text f) (flat_map edit_text es) (mark ++ rest) in
    let some = ap (λ (x : List EditEntry). list_head e.old_len (length x) ++ (flat_map edit_text x ++ (mark ++ rest))) is ∙ ap (λ (y : List ℕ). list_head e.old_len (suc n) ++ y) split_is in
    record { old_len = e.old_len; count = suc n; old_len_fits = fits.old_len; count_fits = omega (arith, fits.count, ap length is); next = edit_text f; next_is = (f, refl, first_fits e.entries f es is fits.edits); rest = flat_map edit_text es ++ (mark ++ rest); is = parts ∙ some }

-- ---- a record that has begun

head_one : (a b rest : List ℕ) → a ++ (b ++ rest) ≡ (a ++ b) ++ rest
head_one a b rest = sym (append_assoc a b rest)

head_two : (a b c rest : List ℕ) → a ++ (b ++ (c ++ rest)) ≡ (a ++ b ++ c) ++ rest
head_two a b c rest = simp append_assoc

from_new : (t t1 t2 : List ℕ) (word : _) → t ≡ codes "tfrec 2 " ++ t1 → t1 ≡ word_text word ++ t2 → ReachesEdit (codes "end\n") t2 → ReachesFirstEdit t
from_new t t1 t2 word e1 e2 o = record {
  word = word;
  list = t2;
  is = e1 ∙ ap (λ (y : List ℕ). codes "tfrec 2 " ++ y) e2 ∙ head_one (codes "tfrec 2 ") (word_text word) t2;
  reaches = o;
}

from_old : (t t1 t2 t3 t4 : List ℕ) (word : _) (n : ℕ) → t ≡ codes "tfrec 1 " ++ t1 → t1 ≡ word_text word ++ t2 → t2 ≡ number_text newline n ++ t3 → 0 < n → n ≤ MAX_STEPS → t3 ≡ codes "step " ++ t4 → ReachesEdit (mark_after n) t4 → OldReachesFirstEdit t
from_old t t1 t2 t3 t4 word n e1 e2 e3 some few e4 o = record {
  word = word;
  steps = n;
  has_steps = some;
  steps_within_limit = few;
  list = t4;
  is = e1 ∙ ap (λ (y : List ℕ). codes "tfrec 1 " ++ y) (e2 ∙ ap (λ (y : List ℕ). word_text word ++ y) (e3 ∙ ap (λ (y : List ℕ). number_text newline n ++ y) e4))
      ∙ head_two (codes "tfrec 1 ") (word_text word) (number_text newline n) (codes "step " ++ t4);
  reaches = o;
}

record_opens : (t : List ℕ) → record_allocates t ≡ true → ReachesFirstEdit t
unfolding record_allocates
record_opens t h =
    found_ok (expect (codes "tfrec 2 ") Head t) _ h λ t1 t1_is h1.
    found_ok (word_at t1) _ h1 λ word word_is h2.
    from_new t t1 word.1 word.0 (expect_takes (codes "tfrec 2 ") Head t t1 t1_is) (word_takes t1 word.0 word.1 word_is) (list_opens (codes "end\n") word.1 h2)

old_head_opens : (t : List ℕ) → old_head_allocates t ≡ true → OldReachesFirstEdit t
unfolding old_head_allocates step_allocates
old_head_opens t h =
    found_ok (expect (codes "tfrec 1 ") Head t) _ h λ t1 t1_is h1.
    found_ok (word_at t1) _ h1 λ word word_is h2.
    found_ok (number_at 1 MAX_STEPS newline word.1) _ h2 λ count count_is h3.
    found_ok (expect (codes "step ") Head count.1) _ h3 λ t4 t4_is h4.
    let n = number_takes 1 MAX_STEPS newline word.1 count (omega arith) count_is in
    from_old t t1 word.1 count.1 t4 word.0 count.0 (expect_takes (codes "tfrec 1 ") Head t t1 t1_is) (word_takes t1 word.0 word.1 word_is)
    n.0 n.1 n.2 (expect_takes (codes "step ") Head count.1 t4 t4_is) (list_opens (mark_after count.0) t4 h4)

two_marks : (n k : ℕ) → n - 1 ≡ suc k → mark_after n ≡ codes "step "
two_marks zero k e = absurd cc
two_marks (suc zero) k e = absurd cc
two_marks (suc (suc n)) k e = refl

more_steps : {P : Type 0} (m : ℕ) (t : List ℕ) → steps_allocate m t ≡ true → ((k : ℕ) (x : List ℕ) → m ≡ suc k → t ≡ codes "step " ++ x → P) → P
more_steps zero t h k = absurd cc
more_steps (suc n) t h k = ok_read (expect (codes "step ") Head t) h λ x x_is. k n x refl (expect_takes (codes "step ") Head t x x_is)

old_steps_open : (t : List ℕ) (head : OldHead) (after : List ℕ) → old_head_at t ≡ Ok (head, after) → steps_allocate head.others after ≡ true → OldReachesFirstEdit t
unfolding old_head_at
old_steps_open t head after e h =
    through_one (expect (codes "tfrec 1 ") Head t) _ (head, after) e λ t1 begins g1.
    through (word_at t1) _ (head, after) g1 λ word t2 word_is g2.
    through (number_at 1 MAX_STEPS newline t2) _ (head, after) g2 λ count t3 count_is g3.
    through (step_at t3) _ (head, after) g3 λ first t4 first_is g4.
    let head_eq : (record { word = word; first = first; others = count - 1 }, t4) ≡ (head, after) = ok_is _ _ g4 in
    let extended : steps_allocate (count - 1) t4 ≡ true = ap (λ (x : OldHead × List ℕ). steps_allocate x.0.others x.1) head_eq ∙ h in
    more_steps (count - 1) t4 extended λ k x count_eq step_is.
    let mark = two_marks count k count_eq in
    let taken = step_takes t3 first t4 first_is in
    let n = number_takes 1 MAX_STEPS newline t2 (count, t3) (omega arith) count_is in
    let t3_is : t3 ≡ codes "step " ++ (list_text first ++ t4) = taken.0 ∙ append_assoc (codes "step ") (list_text first) t4 in
    let opens : ReachesEdit (codes "step ") (list_text first ++ (codes "step " ++ x)) = whole_opens first first.entries (codes "step ") x refl taken.1 in
    let opens_here : ReachesEdit (mark_after count) (list_text first ++ t4) =
    subst (λ (m : List ℕ). ReachesEdit m (list_text first ++ t4)) (sym mark) (subst (λ (y : List ℕ). ReachesEdit (codes "step ") (list_text first ++ y)) (sym step_is) opens) in
    from_old t t1 t2 t3 (list_text first ++ t4) word count (expect_takes (codes "tfrec 1 ") Head t t1 begins) (word_takes t1 word t2 word_is)
    n.0 n.1 n.2 t3_is opens_here

old_opens : (t : List ℕ) → old_record_allocates t ≡ true → OldReachesFirstEdit t
old_opens t h =
    elim (either_true (old_head_allocates t) _ h) as (λ _. OldReachesFirstEdit t) [
      | inl a ↦ old_head_opens t a
      | inr b ↦ found_ok (old_head_at t) _ b λ head head_is g. old_steps_open t head.0 head.1 head_is g
    ]

allocates_out : (old : Bool) (t : List ℕ) → allocates old t ≡ true → DecodeMayAllocate t
allocates_out false t h = inl (record_opens t h)
allocates_out true t h = inr (old_opens t h)

-- ---- a record that is there as a whole

-- what follows the first step
after_first : (others : List EditList) (rest : List ℕ) → (x : List ℕ) × (flat_map step_text others ++ (codes "end\n" ++ rest) ≡ mark_after (suc (length others)) ++ x)
after_first [] rest = (rest, refl)
after_first (o ∷ others) rest = (
  list_text o ++ (flat_map step_text others ++ (codes "end\n" ++ rest)),
  ap (λ (y : List ℕ). y ++ (codes "end\n" ++ rest)) (flat_map-cons step_text o others) ∙ append_assoc (step_text o) (flat_map step_text others) (codes "end\n" ++ rest)
      ∙ append_assoc (codes "step ") (list_text o) (flat_map step_text others ++ (codes "end\n" ++ rest)),
)

record_out : (old : Bool) (t : List ℕ) (r : JournalEntry) (rest : List ℕ) → RecordAt old t r rest → DecodeMayAllocate t
record_out false t r rest h =
    let parts = h.0 ∙ three (codes "tfrec 2 ") (word_text r.word) (list_text r.edits) (codes "end\n") rest in
    inl (from_new t _ _ r.word parts refl (whole_opens r.edits r.edits.entries (codes "end\n") rest refl h.1))
record_out true t r rest h =
    let old = h.0 in
    let n = length (steps old) in
    let parts = h.1 ∙ four (codes "tfrec 1 ") (word_text old.word) (number_text newline n) (flat_map step_text (steps old)) (codes "end\n") rest in
    let b = after_first old.others rest in
    let later = flat_map step_text old.others ++ (codes "end\n" ++ rest) in
    let split_is : flat_map step_text (steps old) ++ (codes "end\n" ++ rest) ≡ codes "step " ++ (list_text old.first ++ later) =
    ap (λ (y : List ℕ). y ++ (codes "end\n" ++ rest)) (flat_map-cons step_text old.first old.others) ∙ append_assoc (step_text old.first) (flat_map step_text old.others) (codes "end\n" ++ rest)
    ∙ append_assoc (codes "step ") (list_text old.first) later in
    let opens : ReachesEdit (mark_after n) (list_text old.first ++ later) = subst (λ (y : List ℕ). ReachesEdit (mark_after n) (list_text old.first ++ y)) (sym b.1) (whole_opens old.first old.first.entries (mark_after n) b.0 refl h.2.made.0) in
    inr (from_old t _ _ _ _ old.word n parts refl refl (omega arith) h.2.within_limit split_is opens)

-- ---- in the loop over records

-- nothing is read of the text, or it may have taken memory
abbrev pub UnreadOrAllocates : List ℕ → List ℕ → Type 0
UnreadOrAllocates text rest = (rest ≡ text) ⊎ DecodeMayAllocate text

pub runs_out : (old : Bool) (text rest : List ℕ) → UnreadOrAllocates text rest → allocates old rest ≡ true → DecodeMayAllocate text
runs_out old text rest (inl e) h = allocates_out old text (subst (λ (x : List ℕ). allocates old x ≡ true) e h)
runs_out old text rest (inr m) h = m

pub record_taken : (old : Bool) (text rest after : List ℕ) (r : JournalEntry) → UnreadOrAllocates text rest → RecordAt old rest r after → DecodeMayAllocate text
record_taken old text rest after r (inl e) h = record_out old text r after (subst (λ (x : List ℕ). RecordAt old x r after) e h)
record_taken old text rest after r (inr m) h = m
