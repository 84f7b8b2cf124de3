-- The steps of an old record, read and squashed one after another.
use Rattle.std.proofs.Common.{◌≡◌, ◌↔◌, ℕ, suc, ◌+◌, ◌-◌, ◌≤◌, ◌<◌, List, [], ◌∷◌, Bool, true, false, Ok, Err, refl, sym, ap, subst, ◌∙◌, arith, length, inl, inr}
use Rattle.std.specs.Prelude.{codes, ◌||◌}
use Rattle.edit_record.specs.Lists.Pieces.{EditList}
use Rattle.edit_record.specs.Lists.Journal.{JournalEntry}
use Rattle.edit_record.specs.Squashes.Squash.{IsSquash, IsSquashResult}
use Rattle.edit_record.specs.Squashes.SquashLists.{SquashAll}
use Rattle.edit_record.proofs.SquashesLemmas.Groupings.{squash_as_one}
use Rattle.edit_record.specs.declared.fault.DecodeStop.{DecodeStop}
use Rattle.edit_record.specs.declared.fault.DecodeStop.TheVariants as stops
use Rattle.edit_record.specs.declared.squashes.squash_lists.Unmet.{Unmet}
use Rattle.edit_record.specs.declared.squashes.squash_lists.Unmet.TheVariants as unmets
use Rattle.edit_record.specs.Text.{OldRecord}
use Rattle.edit_record.specs.declared.fault.FaultKind.TheVariants.{End, Steps}
use Rattle.edit_record.specs.declared.fault.TextError.{TextError}
use Rattle.edit_record.specs.Parsing.{expect, repeat_at}
use Rattle.edit_record.specs.OldParsing.{step_at, steps_at, OldHead, old_head_at, SquashAt, StepsError, OldRecordError}
use Rattle.edit_record.specs.Inner.Allocating.{is_ok_and, old_head_allocates, steps_allocate, old_record_allocates}
use Rattle.edit_record.specs.Inner.Faults.{stop_of}
use Rattle.edit_record.specs.Inner.ParseResults.{IsStop, IsStopFor, IsSquashOrStop, OldRecordAt, HasError, old_record_at}
use Rattle.edit_record.proofs.Choices.{ok_is, err_ok, through, through_one, continues_with}

pub squash_unique : (a b c d : EditList) → IsSquash a b c → IsSquash a b d → c ≡ d
squash_unique a b c d h k = (squash_as_one a (b ∷ [])).one c d (c, h, refl) (d, k, refl)

-- Why two lists are not squashed is why reading stops.
pub stop_is : (a b : EditList) (left : ℕ) (unmet : Unmet) (stop : DecodeStop) → stop ≡ stop_of unmet left → IsSquashResult a b (Err unmet) → IsSquashOrStop a b (Err stop)
stop_is a b left unmets.LengthsDiffer stop is none = subst (λ (s : DecodeStop). IsSquashOrStop a b (Err s)) (sym is) (λ c both. none both.lengths_match)
stop_is a b left (unmets.Contradicts edit) stop is none = subst (λ (s : DecodeStop). IsSquashOrStop a b (Err s)) (sym is) (λ c both. none.1.none both.composable)
stop_is a b left unmets.Memory stop is may = subst (λ (s : DecodeStop). IsSquashOrStop a b (Err s)) (sym is) may

pub stop_error : (left : ℕ) (unmet : Unmet) (stop : DecodeStop) → stop ≡ stop_of unmet left → HasError stop (λ e. e ≡ record { kind = Steps; left = left })
stop_error left unmets.LengthsDiffer stop is = subst (λ (s : DecodeStop). HasError s (λ e. e ≡ record { kind = Steps; left = left })) (sym is) refl
stop_error left (unmets.Contradicts edit) stop is = subst (λ (s : DecodeStop). HasError s (λ e. e ≡ record { kind = Steps; left = left })) (sym is) refl
stop_error left unmets.Memory stop is = subst (λ (s : DecodeStop). HasError s (λ e. e ≡ record { kind = Steps; left = left })) (sym is) tt

-- What squashes from here on is what squashed from the start on.
abbrev pub Alike : EditList → ℕ → List ℕ → EditList → ℕ → List ℕ → Type 0
Alike a n t b m u = (e : EditList) (rest : List ℕ) → SquashAt a n t e rest ↔ SquashAt b m u e rest

onward : (a next both : EditList) (n : ℕ) (t after : List ℕ) → step_at t ≡ Ok (next, after) → IsSquash a next both
    → (e : EditList) (rest : List ℕ) → SquashAt both n after e rest → SquashAt a (suc n) t e rest
unfolding steps_at
onward a next both n t after next_is both_is e rest h = (
  next ∷ h.0,
  continues_with (step_at t) _ (next, after) _ next_is (continues_with (repeat_at step_at n after) _ (h.0, rest) _ h.1 refl),
  (both, both_is, h.2),
)

pub back : (a next both : EditList) (n : ℕ) (t after : List ℕ) → step_at t ≡ Ok (next, after) → IsSquash a next both
    → (e : EditList) (rest : List ℕ) (others : List EditList) → repeat_at step_at (suc n) t ≡ Ok (others, rest) → SquashAll a others e → SquashAt both n after e rest
unfolding steps_at
back a next both n t after next_is both_is e rest others others_are all =
    through (step_at t) _ (others, rest) others_are λ first t1 first_is e1.
    through (repeat_at step_at n t1) _ (others, rest) e1 λ later t2 later_are e2.
    let same : (next, after) ≡ (first, t1) = ok_is _ _ (sym next_is ∙ first_is) in
    let made : (first ∷ later, t2) ≡ (others, rest) = ok_is _ _ e2 in
    let all' : SquashAll a (first ∷ later) e = subst (λ (x : List EditList × List ℕ). SquashAll a x.0 e) (sym made) all in
    let first_eq : next ≡ first = ap (λ (x : EditList × List ℕ). x.0) same in
    let both_eq : all'.0 ≡ both = squash_unique a next all'.0 both (subst (λ (x : EditList). IsSquash a x all'.0) (sym first_eq) all'.1) both_is in
    let later_is : repeat_at step_at n after ≡ Ok (later, t2) = ap (λ (x : EditList × List ℕ). repeat_at step_at n x.1) same ∙ later_are in
    (later, later_is ∙ ap (λ (x : List EditList × List ℕ). Ok (later, x.1)) made, subst (λ (x : EditList). SquashAll x later e) both_eq all'.2)

pub one_step : (a next both b : EditList) (count i m : ℕ) (t after u : List ℕ) → i < count → step_at t ≡ Ok (next, after) → IsSquash a next both
    → Alike a (count - i) t b m u → Alike both (count - (i + 1)) after b m u
unfolding steps_at
one_step a next both b count i m t after u lt next_is both_is so_far e rest =
    let k : count - i ≡ suc (count - (i + 1)) = omega arith in
    let f = so_far e rest in (
      λ h. f.0 (subst (λ (n : ℕ). SquashAt a n t e rest) (sym k) (onward a next both (count - (i + 1)) t after next_is both_is e rest h)),
      λ h. let g = subst (λ (n : ℕ). SquashAt a n t e rest) k (f.1 h) in back a next both (count - (i + 1)) t after next_is both_is e rest g.0 g.1 g.2,
    )

-- where the next step can't be read, or can't be squashed, nothing squashes
pub none_read : (a : EditList) (n : ℕ) (t : List ℕ) (bad : TextError) → step_at t ≡ Err bad → (e : EditList) (rest : List ℕ) → SquashAt a (suc n) t e rest → ⊥
unfolding steps_at
none_read a n t bad none e rest h = through (step_at t) _ (h.0, rest) h.1 λ first t1 first_is e1. absurd (err_ok bad _ (sym none ∙ first_is))

pub none_squashed : (a next : EditList) (n : ℕ) (t after : List ℕ) → step_at t ≡ Ok (next, after) → ((c : EditList) → IsSquash a next c → ⊥) → (e : EditList) (rest : List ℕ) → SquashAt a (suc n) t e rest → ⊥
unfolding steps_at
none_squashed a next n t after next_is none e rest h =
    through (step_at t) _ (h.0, rest) h.1 λ first t1 first_is e1.
    through (repeat_at step_at n t1) _ (h.0, rest) e1 λ later t2 later_are e2.
    let same : (next, after) ≡ (first, t1) = ok_is _ _ (sym next_is ∙ first_is) in
    let made : (first ∷ later, t2) ≡ (h.0, rest) = ok_is _ _ e2 in
    let all : SquashAll a (first ∷ later) e = subst (λ (x : List EditList × List ℕ). SquashAll a x.0 e) (sym made) h.2 in
    let first_eq : next ≡ first = ap (λ (x : EditList × List ℕ). x.0) same in
    none all.0 (subst (λ (x : EditList). IsSquash a x all.0) (sym first_eq) all.1)

module _ (a b : EditList) (count i m : ℕ) (t u : List ℕ) (lt : i < count) (so_far : Alike a (count - i) t b m u) where
  pub no_step : (here takes : Bool) (stop : DecodeStop) → (here ≡ true → takes ≡ true) → IsStop here stop (step_at t) → IsStopFor takes stop (SquashAt b m u)
  no_step here takes stops.Memory more none = more none
  no_step here takes (stops.Bad bad) more none =
      let k : count - i ≡ suc (count - (i + 1)) = omega arith in
      λ e rest h. none_read a (count - (i + 1)) t bad none e rest (subst (λ (n : ℕ). SquashAt a n t e rest) k ((so_far e rest).1 h))

  pub no_squash : (takes : Bool) (next : EditList) (after : List ℕ) (stop : DecodeStop) → takes ≡ true → step_at t ≡ Ok (next, after) → IsSquashOrStop a next (Err stop) → IsStopFor takes stop (SquashAt b m u)
  no_squash takes next after stops.Memory taken next_is none = taken
  no_squash takes next after (stops.Bad bad) taken next_is none =
      let k : count - i ≡ suc (count - (i + 1)) = omega arith in
      λ e rest h. none_squashed a next (count - (i + 1)) t after next_is none e rest (subst (λ (n : ℕ). SquashAt a n t e rest) k ((so_far e rest).1 h))

pub all_steps : (a b : EditList) (count i m : ℕ) (t u : List ℕ) → count ≤ i → Alike a (count - i) t b m u → SquashAt b m u a t
unfolding steps_at
all_steps a b count i m t u le so_far =
    let k : count - i ≡ 0 = omega arith in
    (so_far a t).0 (subst (λ (n : ℕ). SquashAt a n t a t) (sym k) ([], refl, refl))

-- ---- the first error of steps

-- An error from here on is one from the start on.
abbrev pub ErrorsAlike : EditList → ℕ → List ℕ → EditList → ℕ → List ℕ → Type 0
ErrorsAlike a n t b m u = (e : TextError) → StepsError n a t e → StepsError m b u e

pub one_step_error : (a next both b : EditList) (count i m : ℕ) (t after u : List ℕ) → i < count → step_at t ≡ Ok (next, after) → IsSquash a next both
    → ErrorsAlike a (count - i) t b m u → ErrorsAlike both (count - (i + 1)) after b m u
one_step_error a next both b count i m t after u lt next_is both_is so_far e h =
    let k : count - i ≡ suc (count - (i + 1)) = omega arith in
    so_far e (subst (λ (n : ℕ). StepsError n a t e) (sym k) (inr (next, after, next_is, inl (both, both_is, h))))

module _ (a b : EditList) (count i m : ℕ) (t u : List ℕ) (lt : i < count) (so_far : ErrorsAlike a (count - i) t b m u) where
  pub step_error : (takes : Bool) (stop : DecodeStop) → IsStop takes stop (step_at t) → HasError stop (StepsError m b u)
  step_error takes stops.Memory none = tt
  step_error takes (stops.Bad bad) none =
      let k : count - i ≡ suc (count - (i + 1)) = omega arith in
      so_far bad (subst (λ (n : ℕ). StepsError n a t bad) (sym k) (inl none))

  pub squash_error : (next : EditList) (after : List ℕ) (stop : DecodeStop) → step_at t ≡ Ok (next, after) → IsSquashOrStop a next (Err stop) → HasError stop (λ e. e ≡ record { kind = Steps; left = length t }) → HasError stop (StepsError m b u)
  squash_error next after stops.Memory next_is none is = tt
  squash_error next after (stops.Bad bad) next_is none is =
      let k : count - i ≡ suc (count - (i + 1)) = omega arith in
      so_far bad (subst (λ (n : ℕ). StepsError n a t bad) (sym k) (inr (next, after, next_is, inr (none, is))))

-- the first error of a record
pub head_error : (t : List ℕ) (takes : Bool) (stop : DecodeStop) → IsStop takes stop (old_head_at t) → HasError stop (OldRecordError t)
head_error t takes stops.Memory none = tt
head_error t takes (stops.Bad bad) none = inl none

pub steps_error : (t t1 : List ℕ) (head : OldHead) (stop : DecodeStop) → old_head_at t ≡ Ok (head, t1) → HasError stop (StepsError head.others head.first t1) → HasError stop (OldRecordError t)
steps_error t t1 head stops.Memory head_is error = tt
steps_error t t1 head (stops.Bad bad) head_is error = inr (head, t1, head_is, inl error)

pub end_error : (t t1 t2 : List ℕ) (head : OldHead) (edits : EditList) (bad : TextError) → old_head_at t ≡ Ok (head, t1) → SquashAt head.first head.others t1 edits t2 → expect (codes "end\n") End t2 ≡ Err bad → OldRecordError t bad
end_error t t1 t2 head edits bad head_is others none = inr (head, t1, head_is, inr (edits, t2, others, none))

-- where memory is taken for the steps after the head
others_allocate : (t t1 : List ℕ) (head : OldHead) (b : Bool) → old_head_at t ≡ Ok (head, t1) → steps_allocate head.others t1 ≡ true → (b || is_ok_and (old_head_at t) (λ h. steps_allocate h.0.others h.1)) ≡ true
others_allocate t t1 head true head_is taken = refl
others_allocate t t1 head false head_is taken = rw head_is taken

-- an old record, by its head, its other steps, and its end
none_old : (t : List ℕ) (bad : TextError) → old_record_at t ≡ Err bad → (r : JournalEntry) (rest : List ℕ) → OldRecordAt t r rest → ⊥
none_old t bad none r rest h = err_ok bad _ (sym none ∙ h.1)

pub no_head : (t : List ℕ) (stop : DecodeStop) → IsStop (old_head_allocates t) stop (old_head_at t) → IsStopFor (old_record_allocates t) stop (OldRecordAt t)
unfolding old_record_at
no_head t stops.Memory none = rw none refl
no_head t (stops.Bad bad) none =
    let nothing : old_record_at t ≡ Err bad = rw none refl in
    none_old t bad nothing

pub no_others : (t t1 : List ℕ) (head : OldHead) (stop : DecodeStop) → old_head_at t ≡ Ok (head, t1) → IsStopFor (steps_allocate head.others t1) stop (SquashAt head.first head.others t1) → IsStopFor (old_record_allocates t) stop (OldRecordAt t)
unfolding old_record_at
no_others t t1 head stops.Memory head_is none = others_allocate t t1 head (old_head_allocates t) head_is none
no_others t t1 head (stops.Bad bad) head_is none = λ r rest h.
    through (old_head_at t) _ (h.0, rest) h.1 λ found u found_is e1.
    through (steps_at found.others u) _ (h.0, rest) e1 λ others t2 others_are e2.
    through_one (expect (codes "end\n") End t2) _ (h.0, rest) e2 λ t3 end_is e3.
    let same : (head, t1) ≡ (found, u) = ok_is _ _ (sym head_is ∙ found_is) in
    let made : (record { word = found.word; first = found.first; others = others }, t3) ≡ (h.0, rest) = ok_is _ _ e3 in
    let all : SquashAll found.first others r.edits = subst (λ (x : OldRecord × List ℕ). SquashAll x.0.first x.0.others r.edits) (sym made) h.3 in
    subst (λ (x : OldHead × List ℕ). ((e : EditList) (rest : List ℕ) → SquashAt x.0.first x.0.others x.1 e rest → ⊥)) same none r.edits t2 (others, others_are, all)

pub no_end : (t t1 t2 : List ℕ) (head : OldHead) (edits : EditList) (bad : TextError) → old_head_at t ≡ Ok (head, t1) → SquashAt head.first head.others t1 edits t2 → expect (codes "end\n") End t2 ≡ Err bad → IsStopFor (old_record_allocates t) (stops.Bad bad) (OldRecordAt t)
unfolding old_record_at
no_end t t1 t2 head edits bad head_is others none =
    let nothing : old_record_at t ≡ Err bad =
    continues_with (old_head_at t) _ (head, t1) _ head_is (continues_with (steps_at head.others t1) _ (others.0, t2) _ others.1 (rw none refl)) in
    none_old t bad nothing

pub old_is : (t t1 t2 t3 : List ℕ) (head : OldHead) (edits : EditList) → old_head_at t ≡ Ok (head, t1) → SquashAt head.first head.others t1 edits t2 → expect (codes "end\n") End t2 ≡ Ok t3 → OldRecordAt t (record { word = head.word; edits = edits }) t3
unfolding old_record_at
old_is t t1 t2 t3 head edits head_is others end_is = (
  record { word = head.word; first = head.first; others = others.0 },
  continues_with (old_head_at t) _ (head, t1) _ head_is (continues_with (steps_at head.others t1) _ (others.0, t2) _ others.1 (continues_with (expect (codes "end\n") End t2) _ t3 _ end_is refl)),
  refl,
  others.2,
)
