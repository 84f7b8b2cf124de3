-- The heads of edits and of lists of edits: what is read is written so, and what is written so is read.
use Rattle.std.proofs.Common.{◌≡◌, ℕ, ◌≤◌, List, ◌++◌, Ok, refl, sym, ap, subst, ◌∙◌, append_assoc, arith}
use Rattle.edit_record.specs.Text.{space, newline, max_number, number_text, edit_head, list_head}
use Rattle.edit_record.specs.Parsing.{number_at, edit_head_at, list_head_at}
use Rattle.edit_record.proofs.Choices.{ok_is, through, continues_with, part}
use Rattle.edit_record.proofs.Numbers.{number_takes, number_again}

pub record EditHeadIs (n : ℕ × ℕ × ℕ) (t rest : List ℕ) : Type 0 where
  pub text : t ≡ edit_head n.0 n.1 n.2 ++ rest
  pub at : n.0 ≤ max_number
  pub removed : n.1 ≤ max_number
  pub added : n.2 ≤ max_number

pub record ListHeadIs (n : ℕ × ℕ) (t rest : List ℕ) : Type 0 where
  pub text : t ≡ list_head n.0 n.1 ++ rest
  pub old_len : n.0 ≤ max_number
  pub count : n.1 ≤ max_number

three : (a b c rest : List ℕ) → (a ++ b ++ c) ++ rest ≡ a ++ (b ++ (c ++ rest))
three a b c rest = simp append_assoc

pub edit_head_takes : (t : List ℕ) (n : ℕ × ℕ × ℕ) (rest : List ℕ) → edit_head_at t ≡ Ok (n, rest) → EditHeadIs n t rest
unfolding edit_head_at
edit_head_takes t n rest e =
    through (number_at 0 max_number space t) _ (n, rest) e λ at t1 at_is e1.
    through (number_at 0 max_number space t1) _ (n, rest) e1 λ removed t2 removed_is e2.
    through (number_at 0 max_number newline t2) _ (n, rest) e2 λ added t3 added_is e3.
    let n0 = number_takes 0 max_number space t (at, t1) (omega arith) at_is in
    let n1 = number_takes 0 max_number space t1 (removed, t2) (omega arith) removed_is in
    let n2 = number_takes 0 max_number newline t2 (added, t3) (omega arith) added_is in
    let whole = part (number_text space at) t t1 _ n0.0 (part (number_text space removed) t1 t2 _ n1.0 n2.0)
    ∙ sym (three (number_text space at) (number_text space removed) (number_text newline added) t3) in
    subst (λ (y : (ℕ × ℕ × ℕ) × List ℕ). EditHeadIs y.0 t y.1) (ok_is ((at, removed, added), t3) (n, rest) e3)
    (record { text = whole; at = n0.2; removed = n1.2; added = n2.2 })

pub edit_head_again : (at removed added : ℕ) (rest : List ℕ) → at ≤ max_number → removed ≤ max_number → added ≤ max_number
    → edit_head_at (edit_head at removed added ++ rest) ≡ Ok ((at, removed, added), rest)
unfolding edit_head_at
edit_head_again at removed added rest at_fits removed_fits added_fits =
    let t2 = number_text newline added ++ rest in
    let t1 = number_text space removed ++ t2 in
    let t0 = number_text space at ++ t1 in
    let read : edit_head_at t0 ≡ Ok ((at, removed, added), rest) =
    continues_with (number_at 0 max_number space t0) _ (at, t1) _ (number_again 0 max_number space at t1 (omega arith) refl (omega arith) at_fits)
    (continues_with (number_at 0 max_number space t1) _ (removed, t2) _ (number_again 0 max_number space removed t2 (omega arith) refl (omega arith) removed_fits)
    (continues_with (number_at 0 max_number newline t2) _ (added, rest) _ (number_again 0 max_number newline added rest (omega arith) refl (omega arith) added_fits)
    refl)) in
    ap edit_head_at (three (number_text space at) (number_text space removed) (number_text newline added) rest) ∙ read

pub list_head_takes : (t : List ℕ) (n : ℕ × ℕ) (rest : List ℕ) → list_head_at t ≡ Ok (n, rest) → ListHeadIs n t rest
unfolding list_head_at
list_head_takes t n rest e =
    through (number_at 0 max_number space t) _ (n, rest) e λ old_len t1 old_len_is e1.
    through (number_at 0 max_number newline t1) _ (n, rest) e1 λ count t2 count_is e2.
    let n0 = number_takes 0 max_number space t (old_len, t1) (omega arith) old_len_is in
    let n1 = number_takes 0 max_number newline t1 (count, t2) (omega arith) count_is in
    let whole = part (number_text space old_len) t t1 _ n0.0 n1.0 ∙ sym (append_assoc (number_text space old_len) (number_text newline count) t2) in
    subst (λ (y : (ℕ × ℕ) × List ℕ). ListHeadIs y.0 t y.1) (ok_is ((old_len, count), t2) (n, rest) e2)
    (record { text = whole; old_len = n0.2; count = n1.2 })

pub list_head_again : (old_len count : ℕ) (rest : List ℕ) → old_len ≤ max_number → count ≤ max_number
    → list_head_at (list_head old_len count ++ rest) ≡ Ok ((old_len, count), rest)
unfolding list_head_at
list_head_again old_len count rest old_len_fits count_fits =
    let t1 = number_text newline count ++ rest in
    let t0 = number_text space old_len ++ t1 in
    let read : list_head_at t0 ≡ Ok ((old_len, count), rest) =
    continues_with (number_at 0 max_number space t0) _ (old_len, t1) _ (number_again 0 max_number space old_len t1 (omega arith) refl (omega arith) old_len_fits)
    (continues_with (number_at 0 max_number newline t1) _ (count, rest) _ (number_again 0 max_number newline count rest (omega arith) refl (omega arith) count_fits)
    refl) in
    ap list_head_at (append_assoc (number_text space old_len) (number_text newline count) rest) ∙ read
