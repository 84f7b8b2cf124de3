-- Where the readers of the code may take memory: a text for which the function here is false is
-- refused without any.
use Rattle.std.specs.Prelude.{ℕ, zero, suc, List, Result, Ok, Err, Bool, true, false, codes, is_ok, ◌||◌}
use Rattle.edit_record.specs.declared.fault.FaultKind.TheVariants.{Head}
use Rattle.edit_record.specs.declared.fault.TextError.{TextError}
use Rattle.edit_record.specs.declared.version_1.TheConstants.{MAX_STEPS}
use Rattle.edit_record.specs.Text.{newline}
use Rattle.edit_record.specs.Parsing.{expect, number_at, edit_at, list_head_at, word_at}
use Rattle.edit_record.specs.OldParsing.{old_head_at}

-- something is read, and of it this is true
abbrev pub is_ok_and : {A : Type 0} → Result A TextError → (A → Bool) → Bool
is_ok_and (Err e) f = false
is_ok_and (Ok x) f = f x

-- the first of `n` edits
abbrev pub edits_allocate : ℕ → List ℕ → Bool
edits_allocate zero t = false
edits_allocate (suc n) t = is_ok (edit_at t)

unfoldable pub edit_list_allocates : List ℕ → Bool
edit_list_allocates t = is_ok_and (list_head_at t) λ head. edits_allocate head.0.1 head.1

unfoldable pub record_allocates : List ℕ → Bool
record_allocates t =
    is_ok_and (expect (codes "tfrec 2 ") Head t) λ a.
    is_ok_and (word_at a) λ word.
    edit_list_allocates word.1

unfoldable pub step_allocates : List ℕ → Bool
step_allocates t = is_ok_and (expect (codes "step ") Head t) λ a. edit_list_allocates a

unfoldable pub old_head_allocates : List ℕ → Bool
old_head_allocates t =
    is_ok_and (expect (codes "tfrec 1 ") Head t) λ a.
    is_ok_and (word_at a) λ word.
    is_ok_and (number_at 1 MAX_STEPS newline word.1) λ count.
    step_allocates count.1

-- the first of `n` further steps
abbrev pub steps_allocate : ℕ → List ℕ → Bool
steps_allocate zero t = false
steps_allocate (suc n) t = is_ok (expect (codes "step ") Head t)

abbrev pub old_record_allocates : List ℕ → Bool
old_record_allocates t =
    old_head_allocates t || is_ok_and (old_head_at t) (λ head. steps_allocate head.0.others head.1)

abbrev pub allocates : Bool → List ℕ → Bool
allocates true t = old_record_allocates t
allocates false t = record_allocates t
