-- Which record of a journal refuses a text, and why; and what calls answer, from the answers as functions.
use Rattle.std.proofs.Common.{◌≡◌, ℕ, ◌-◌, ◌≤◌, List, [], ◌∷◌, ◌++◌, length, take, get_or, Some, Result, Ok, Err, refl, ap, subst, ◌∙◌, arith}
use Rattle.std.specs.Prelude.{IfErr}
use Rattle.std.specs.Global.{Vec}
use Rattle.edit_record.specs.declared.lists.change.Refused.{Refused}
use Rattle.edit_record.specs.declared.lists.change.Refused.TheVariants.{Length, Differs, Memory}
use Rattle.edit_record.specs.declared.lists.direction.Direction.{Direction}
use Rattle.edit_record.specs.declared.lists.direction.Direction.TheVariants.{Forward, Backward}
use Rattle.edit_record.specs.Lists.Pieces.{EditList}
use Rattle.edit_record.specs.Lists.Sequence.{◌>>=◌}
use Rattle.edit_record.specs.Lists.ChangeResults.{IsChangeResult, IsChangeCallResult, AgreesWith, HasExpectedLen}
use Rattle.edit_record.specs.Lists.Journal.{JournalEntry, record_forward, record_backward, journal_forward, journal_backward}
use Rattle.edit_record.specs.Lists.JournalResults.{IsFirstRefusal, IsJournalResult, IsJournalCallResult, JournalMayAllocate, first_record}
use Rattle.edit_record.specs.Lists.Apply.{apply_edits}
use Rattle.edit_record.specs.Lists.Inner.Exact.{forward_exact, backward_exact, walks_from_transforms}
use Rattle.edit_record.specs.Lists.Inner.WalkExact.{lengths}
use Rattle.edit_record.specs.Lists.Inner.JournalExact.{record_applies, journal_applies, journal_undoes}
use Rattle.edit_record.proofs.ListsLemmas.FirstMismatch.{answers}
use Rattle.edit_record.proofs.ListsLemmas.Undoing.{last_item}

-- ---- what calls on edits answer

pub called : (direction : Direction) (e : EditList) (t : List ℕ) (r : Result (Vec ℕ) Refused) → AgreesWith r (apply_edits direction e t) → IfErr r (λ f. f ≡ Memory → HasExpectedLen direction e t) → IsChangeCallResult direction e t r
called direction e t (Ok v) g m = subst (IsChangeResult direction e t) g (answers direction e t)
called direction e t (Err Memory) g m = m refl
called direction e t (Err (Length a b)) g m = subst (IsChangeResult direction e t) g (answers direction e t)
called direction e t (Err (Differs a b)) g m = subst (IsChangeResult direction e t) g (answers direction e t)

-- a call that ran out of memory was given a text of the length that the edits require
pub given_len : (direction : Direction) (e : EditList) (t : List ℕ) (f : Refused) → IsChangeCallResult direction e t (Err f) → f ≡ Memory → HasExpectedLen direction e t
given_len direction e t Memory h is = h
given_len direction e t (Length a b) h is = absurd cc
given_len direction e t (Differs a b) h is = absurd cc

-- edits that have an answer were given a text of their length
pub worked : (direction : Direction) (e : EditList) (t u : List ℕ) → apply_edits direction e t ≡ Ok u → HasExpectedLen direction e t
worked Forward e t u is = ((forward_exact e t u).0 is).len
worked Backward e t u is =
    let h = (backward_exact e u t).0 is in
    let len = h.len in
    let l = lengths 0 e.entries u t (walks_from_transforms e u t h) in
    omega arith

-- ---- the record that refuses

one_more : (x : JournalEntry) (rs : List JournalEntry) (t : List ℕ) (f : Refused) (r : Result (List ℕ) Refused) → ((u : List ℕ) → journal_forward rs u ≡ Err f → IsFirstRefusal Forward rs u f)
    → record_forward x t ≡ r → (r >>= journal_forward rs) ≡ Err f → IsFirstRefusal Forward (x ∷ rs) t f
one_more x rs t f (Ok u) more is e =
    let s = more u e in
    record {
      before = x ∷ s.before;
      item = s.item;
      after = s.after;
      records_are = ap (λ (y : List JournalEntry). x ∷ y) s.records_are;
      input = s.input;
      is_input = (u, (record_applies x t u).0 is, s.is_input);
      refuses = s.refuses;
    }
one_more x rs t f (Err g) more is e = record {
  before = [];
  item = x;
  after = rs;
  records_are = refl;
  input = t;
  is_input = refl;
  refuses = subst (IsChangeResult Forward x.edits t) (is ∙ e) (answers Forward x.edits t);
}

refuses_forward : (rs : List JournalEntry) (t : List ℕ) (f : Refused) → journal_forward rs t ≡ Err f → IsFirstRefusal Forward rs t f
refuses_forward [] t f e = absurd cc
refuses_forward (x ∷ rs) t f e = one_more x rs t f (record_forward x t) (λ u. refuses_forward rs u f) refl e

one_back : (x : JournalEntry) (rs : List JournalEntry) (u : List ℕ) (f : Refused) (r : Result (List ℕ) Refused) → (journal_backward rs u ≡ Err f → IsFirstRefusal Backward rs u f)
    → journal_backward rs u ≡ r → (r >>= record_backward x) ≡ Err f → IsFirstRefusal Backward (x ∷ rs) u f
one_back x rs u f (Ok t) more is e = record {
  before = [];
  item = x;
  after = rs;
  records_are = refl;
  input = t;
  is_input = (journal_undoes rs t u).0 is;
  refuses = subst (IsChangeResult Backward x.edits t) e (answers Backward x.edits t);
}
one_back x rs u f (Err g) more is e =
    let s = more (is ∙ e) in
    record {
      before = x ∷ s.before;
      item = s.item;
      after = s.after;
      records_are = ap (λ (y : List JournalEntry). x ∷ y) s.records_are;
      input = s.input;
      is_input = s.is_input;
      refuses = s.refuses;
    }

refuses_backward : (rs : List JournalEntry) (u : List ℕ) (f : Refused) → journal_backward rs u ≡ Err f → IsFirstRefusal Backward rs u f
refuses_backward [] u f e = absurd cc
refuses_backward (x ∷ rs) u f e = one_back x rs u f (journal_backward rs u) (λ h. refuses_backward rs u f h) refl e

forward_is : (rs : List JournalEntry) (t : List ℕ) (r : Result (List ℕ) Refused) → journal_forward rs t ≡ r → IsJournalResult Forward rs t r
forward_is rs t (Ok u) e = (journal_applies rs t u).0 e
forward_is rs t (Err f) e = refuses_forward rs t f e

backward_is : (rs : List JournalEntry) (u : List ℕ) (r : Result (List ℕ) Refused) → journal_backward rs u ≡ r → IsJournalResult Backward rs u r
backward_is rs u (Ok t) e = (journal_undoes rs t u).0 e
backward_is rs u (Err f) e = refuses_backward rs u f e

-- ---- what calls on journals answer

pub forward_answers : (rs : List JournalEntry) (t : List ℕ) → IsJournalResult Forward rs t (journal_forward rs t)
forward_answers rs t = forward_is rs t (journal_forward rs t) refl

pub backward_answers : (rs : List JournalEntry) (u : List ℕ) → IsJournalResult Backward rs u (journal_backward rs u)
backward_answers rs u = backward_is rs u (journal_backward rs u) refl

journal_called : (direction : Direction) (rs : List JournalEntry) (t : List ℕ) (a : Result (List ℕ) Refused) (r : Result (Vec ℕ) Refused) → IsJournalResult direction rs t a → AgreesWith r a → IfErr r (λ f. f ≡ Memory → JournalMayAllocate direction rs t) → IsJournalCallResult direction rs t r
journal_called direction rs t a (Ok v) h g m = subst (IsJournalResult direction rs t) g h
journal_called direction rs t a (Err Memory) h g m = m refl
journal_called direction rs t a (Err (Length b c)) h g m = subst (IsJournalResult direction rs t) g h
journal_called direction rs t a (Err (Differs b c)) h g m = subst (IsJournalResult direction rs t) g h

pub applied_so : (rs : List JournalEntry) (t : List ℕ) (r : Result (Vec ℕ) Refused) → AgreesWith r (journal_forward rs t) → IfErr r (λ f. f ≡ Memory → JournalMayAllocate Forward rs t) → IsJournalCallResult Forward rs t r
applied_so rs t r = journal_called Forward rs t (journal_forward rs t) r (forward_answers rs t)

pub undone_so : (rs : List JournalEntry) (u : List ℕ) (r : Result (Vec ℕ) Refused) → AgreesWith r (journal_backward rs u) → IfErr r (λ f. f ≡ Memory → JournalMayAllocate Backward rs u) → IsJournalCallResult Backward rs u r
undone_so rs u r = journal_called Backward rs u (journal_backward rs u) r (backward_answers rs u)

-- the record that works first was given a text of its length, so memory may be taken
pub always : (P : Type 0) (r : Result (Vec ℕ) Refused) → P → IfErr r (λ f. f ≡ Memory → P)
always P (Ok v) h = tt
always P (Err f) h = λ e. h

last_works : (rs : List JournalEntry) (r : JournalEntry) → first_record Backward (rs ++ r ∷ []) ≡ Some r
last_works [] r = refl
last_works (x ∷ []) r = refl
last_works (x ∷ y ∷ rs) r = last_works (y ∷ rs) r

pub last_given : (rs : List JournalEntry) (x : JournalEntry) (t : List ℕ) → 1 ≤ length rs → x ≡ get_or rs (length rs - 1) x → HasExpectedLen Backward x.edits t → JournalMayAllocate Backward rs t
last_given rs x t n is h r e =
    let works : first_record Backward rs ≡ Some x = ap (first_record Backward) (last_item record_backward rs x n is) ∙ last_works (take (length rs - 1) rs) x in
    let same : x ≡ r = cc in
    subst (λ (y : JournalEntry). HasExpectedLen Backward y.edits t) same h
