-- A text has one first error.
use Rattle.std.proofs.Common.{◌≡◌, ℕ, zero, suc, List, [], ◌∷◌, ◌++◌, length, drop, Bool, true, false, Result, Ok, Err, refl, sym, ap, subst, ◌∙◌, append_assoc, inl, inr, ◌⊎◌}
use Rattle.std.specs.Prelude.{codes}
use Rattle.edit_record.specs.Lists.Pieces.{EditList}
use Rattle.edit_record.specs.Lists.Journal.{JournalEntry}
use Rattle.edit_record.specs.Squashes.SquashLists.{SquashAll}
use Rattle.edit_record.specs.Text.{record_text, OldRecord, old_record_text}
use Rattle.edit_record.specs.declared.fault.FaultKind.TheVariants.{End}
use Rattle.edit_record.specs.declared.fault.TextError.{TextError}
use Rattle.edit_record.specs.Parsing.{expect}
use Rattle.edit_record.specs.OldParsing.{step_at, steps_at, OldHead, old_head_at, SquashAt, SquashError, StepsError, OldRecordError}
use Rattle.edit_record.specs.Decoding.{IsVersion, IsTextOf, RecordError, IsFirstError}
use Rattle.edit_record.specs.Inner.ParseResults.{OldRecordAt, RecordAt, RecordsAt, old_record_at}
use Rattle.edit_record.proofs.Choices.{ok_is, err_ok, through, through_one}
use Rattle.edit_record.proofs.Steps.{squash_unique, none_read, none_squashed, back}
use Rattle.edit_record.proofs.Journals.{new_alike, old_alike, record_one, from_text, from_old_text}

err_is : {A : Type 0} (e f : TextError) → ◌≡◌ {A = Result A TextError} (Err e) (Err f) → e ≡ f
err_is e f is = cc

-- ---- steps have an error, or they squash

squash_or_not : (a next : EditList) (n : ℕ) (t after : List ℕ) (x : EditList) (rest : List ℕ) (e : TextError) → step_at t ≡ Ok (next, after)
    → ((both : EditList) → StepsError n both after e → SquashAt both n after x rest → ⊥)
    → SquashError a next (length t) (λ both g. StepsError n both after g) e → SquashAt a (suc n) t x rest → ⊥
unfolding steps_at
squash_or_not a next n t after x rest e is later (inl h) k = later h.0 h.2 (back a next h.0 n t after is h.1 x rest k.0 k.1 k.2)
squash_or_not a next n t after x rest e is later (inr h) k = none_squashed a next n t after is h.0 x rest k

steps_or_not : (n : ℕ) (a : EditList) (t : List ℕ) (e : TextError) (x : EditList) (rest : List ℕ) → StepsError n a t e → SquashAt a n t x rest → ⊥
steps_or_not zero a t e x rest h k = h
steps_or_not (suc n) a t e x rest (inl none) k = none_read a n t e none x rest k
steps_or_not (suc n) a t e x rest (inr h) k = squash_or_not a h.0 n t h.1 x rest e h.2 (λ both later at. steps_or_not n both h.1 e x rest later at) h.3 k

squash_error_unique : (a next : EditList) (left : ℕ) (Later : EditList → TextError → Type 0) (e f : TextError) → ((both : EditList) → Later both e → Later both f → e ≡ f)
    → SquashError a next left Later e → SquashError a next left Later f → e ≡ f
squash_error_unique a next left Later e f one (inl h) (inl k) =
    let same : h.0 ≡ k.0 = squash_unique a next h.0 k.0 h.1 k.1 in
    one h.0 h.2 (subst (λ (b : EditList). Later b f) (sym same) k.2)
squash_error_unique a next left Later e f one (inl h) (inr k) = absurd (k.0 h.0 h.1)
squash_error_unique a next left Later e f one (inr h) (inl k) = absurd (h.0 k.0 k.1)
squash_error_unique a next left Later e f one (inr h) (inr k) = h.1 ∙ sym k.1

steps_error_unique : (n : ℕ) (a : EditList) (t : List ℕ) (e f : TextError) → StepsError n a t e → StepsError n a t f → e ≡ f
steps_error_unique zero a t e f h k = absurd h
steps_error_unique (suc n) a t e f (inl h) (inl k) = err_is e f (sym h ∙ k)
steps_error_unique (suc n) a t e f (inl h) (inr k) = absurd (err_ok e _ (sym h ∙ k.2))
steps_error_unique (suc n) a t e f (inr h) (inl k) = absurd (err_ok f _ (sym k ∙ h.2))
steps_error_unique (suc n) a t e f (inr h) (inr k) =
    let same : (h.0, h.1) ≡ (k.0, k.1) = ok_is _ _ (sym h.2 ∙ k.2) in
    squash_error_unique a h.0 (length t) (λ both g. StepsError n both h.1 g) e f (λ both p q. steps_error_unique n both h.1 e f p q) h.3
    (subst (λ (x : EditList × List ℕ). SquashError a x.0 (length t) (λ both g. StepsError n both x.1 g) f) (sym same) k.3)

-- ---- old records

same_end : (a b : EditList) (n : ℕ) (t end more : List ℕ) (x y : EditList) → SquashAt a n t x end → SquashAt b n t y more → end ≡ more
same_end a b n t end more x y h k = ap (λ (z : List EditList × List ℕ). z.1) (ok_is (h.0, end) (k.0, more) (sym h.1 ∙ k.1))

abbrev AfterHead : OldHead → List ℕ → TextError → Type 0
AfterHead head t e = StepsError head.others head.first t e
    ⊎ ((edits : EditList) × (end : List ℕ) × SquashAt head.first head.others t edits end × (expect (codes "end\n") End end ≡ Err e))

after_head_unique : (head : OldHead) (t : List ℕ) (e f : TextError) → AfterHead head t e → AfterHead head t f → e ≡ f
after_head_unique head t e f (inl h) (inl k) = steps_error_unique head.others head.first t e f h k
after_head_unique head t e f (inl h) (inr k) = absurd (steps_or_not head.others head.first t e k.0 k.1 h k.2)
after_head_unique head t e f (inr h) (inl k) = absurd (steps_or_not head.others head.first t f h.0 h.1 k h.2)
after_head_unique head t e f (inr h) (inr k) =
    let same : h.1 ≡ k.1 = same_end head.first head.first head.others t h.1 k.1 h.0 k.0 h.2 k.2 in
    err_is e f (sym h.3 ∙ ap (λ (x : List ℕ). expect (codes "end\n") End x) same ∙ k.3)

after_head_or_not : (head : OldHead) (t : List ℕ) (e : TextError) (x : EditList) (end rest : List ℕ) → SquashAt head.first head.others t x end → expect (codes "end\n") End end ≡ Ok rest → AfterHead head t e → ⊥
after_head_or_not head t e x end rest at is (inl h) = steps_or_not head.others head.first t e x end h at
after_head_or_not head t e x end rest at is (inr h) =
    let same : h.1 ≡ end = same_end head.first head.first head.others t h.1 end h.0 x h.2 at in
    err_ok e rest (sym h.3 ∙ ap (λ (y : List ℕ). expect (codes "end\n") End y) same ∙ is)

old_error_unique : (t : List ℕ) (e f : TextError) → OldRecordError t e → OldRecordError t f → e ≡ f
old_error_unique t e f (inl h) (inl k) = err_is e f (sym h ∙ k)
old_error_unique t e f (inl h) (inr k) = absurd (err_ok e _ (sym h ∙ k.2))
old_error_unique t e f (inr h) (inl k) = absurd (err_ok f _ (sym k ∙ h.2))
old_error_unique t e f (inr h) (inr k) =
    let same : (h.0, h.1) ≡ (k.0, k.1) = ok_is _ _ (sym h.2 ∙ k.2) in
    after_head_unique h.0 h.1 e f h.3 (subst (λ (x : OldHead × List ℕ). AfterHead x.0 x.1 f) (sym same) k.3)

old_or_not : (t : List ℕ) (e : TextError) (r : JournalEntry) (rest : List ℕ) → OldRecordError t e → OldRecordAt t r rest → ⊥
unfolding old_record_at
old_or_not t e r rest (inl h) k = through (old_head_at t) _ (k.0, rest) k.1 λ found u found_is e1. err_ok e _ (sym h ∙ found_is)
old_or_not t e r rest (inr h) k =
    through (old_head_at t) _ (k.0, rest) k.1 λ found u found_is e1.
    through (steps_at found.others u) _ (k.0, rest) e1 λ others t2 others_are e2.
    through_one (expect (codes "end\n") End t2) _ (k.0, rest) e2 λ t3 end_is e3.
    let same : (h.0, h.1) ≡ (found, u) = ok_is _ _ (sym h.2 ∙ found_is) in
    let made : (record { word = found.word; first = found.first; others = others }, t3) ≡ (k.0, rest) = ok_is _ _ e3 in
    let all : SquashAll found.first others r.edits = subst (λ (x : OldRecord × List ℕ). SquashAll x.0.first x.0.others r.edits) (sym made) k.3 in
    let at : SquashAt found.first found.others u r.edits t2 = (others, others_are, all) in
    let at_head = subst (λ (x : OldHead × List ℕ). SquashAt x.0.first x.0.others x.1 r.edits t2) (sym same) at in
    after_head_or_not h.0 h.1 e r.edits t2 t3 at_head end_is h.3

-- ---- records of either version

error_unique : (old : Bool) (t : List ℕ) (e f : TextError) → RecordError old t e → RecordError old t f → e ≡ f
error_unique false t e f h k = err_is e f (sym h ∙ k)
error_unique true t e f h k = old_error_unique t e f h k

no_record : (old : Bool) (t : List ℕ) (e : TextError) (r : JournalEntry) (rest : List ℕ) → RecordError old t e → RecordAt old t r rest → ⊥
no_record false t e r rest h k = err_ok e _ (sym h ∙ (new_alike t r rest).1 k)
no_record true t e r rest h k = old_or_not t e r rest h ((old_alike t r rest).1 k)

-- the records in order, and then the rest
abbrev Chain : Bool → List ℕ → List JournalEntry → List ℕ → Type 0
Chain old t [] rest = t ≡ rest
Chain old t (r ∷ rs) rest = (mid : List ℕ) × RecordAt old t r mid × Chain old mid rs rest

more_at : (old : Bool) (t : List ℕ) (r : JournalEntry) (mid rest : List ℕ) → RecordAt old t r mid → RecordAt old (t ++ rest) r (mid ++ rest)
more_at false t r mid rest h = (ap (λ (x : List ℕ). x ++ rest) h.0 ∙ append_assoc (record_text r) mid rest, h.1)
more_at true t r mid rest h = (h.0, ap (λ (x : List ℕ). x ++ rest) h.1 ∙ append_assoc (old_record_text h.0) mid rest, h.2)

chain_from : (old : Bool) (t : List ℕ) (rs : List JournalEntry) (rest : List ℕ) → RecordsAt old t rs → Chain old (t ++ rest) rs rest
chain_from old t [] rest h = ap (λ (x : List ℕ). x ++ rest) h
chain_from old t (r ∷ rs) rest h = (h.0 ++ rest, more_at old t r h.0 rest h.1, chain_from old h.0 rs rest h.2)

records_of : (old : Bool) (done : List ℕ) (records : List JournalEntry) → IsTextOf old done records → RecordsAt old done records
records_of false done records h = from_text done records h.made h.is
records_of true done records h = from_old_text done h.olds records h.migrated h.is

chain_of : (text : List ℕ) (e : TextError) (p : IsFirstError text e) → Chain p.old text p.records p.rest
chain_of text e p = subst (λ (x : List ℕ). Chain p.old x p.records p.rest) (sym p.is) (chain_from p.old p.done p.records p.rest (records_of p.old p.done p.records p.is_done))

chain_unique : (old : Bool) (t : List ℕ) (rs ss : List JournalEntry) (rest more : List ℕ) (e f : TextError) → Chain old t rs rest → Chain old t ss more → RecordError old rest e → RecordError old more f → rest ≡ more
chain_unique old t [] [] rest more e f h k p q = sym h ∙ k
chain_unique old t [] (s ∷ ss) rest more e f h k p q = absurd (no_record old t e s k.0 (subst (λ (x : List ℕ). RecordError old x e) (sym h) p) k.1)
chain_unique old t (r ∷ rs) [] rest more e f h k p q = absurd (no_record old t f r h.0 (subst (λ (x : List ℕ). RecordError old x f) (sym k) q) h.1)
chain_unique old t (r ∷ rs) (s ∷ ss) rest more e f h k p q =
    let one = record_one old t r s h.0 k.0 h.1 k.1 in
    chain_unique old h.0 rs ss rest more e f h.2 (subst (λ (x : List ℕ). Chain old x ss more) (sym one.1) k.2) p q

version_unique : (a b : Bool) (t : List ℕ) → IsVersion a t → IsVersion b t → a ≡ b
version_unique true true t v w = refl
version_unique false false t v w = refl
version_unique true false t v w = sym (w.if_old (drop 7 t) (v.is_old refl))
version_unique false true t v w = v.if_old (drop 7 t) (w.is_old refl)

pub first_error_unique : (text : List ℕ) (e f : TextError) → IsFirstError text e → IsFirstError text f → e ≡ f
first_error_unique text e f p q =
    let same : p.old ≡ q.old = version_unique p.old q.old text p.version q.version in
    let chain = subst (λ (o : Bool). Chain o text q.records q.rest) (sym same) (chain_of text f q) in
    let error = subst (λ (o : Bool). RecordError o q.rest f) (sym same) q.error_is in
    let rest : p.rest ≡ q.rest = chain_unique p.old text p.records q.records p.rest q.rest e f (chain_of text e p) chain p.error_is error in
    error_unique p.old p.rest e f p.error_is (subst (λ (x : List ℕ). RecordError p.old x f) (sym rest) error)
