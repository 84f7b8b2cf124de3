-- An edit that is read in one pass is the one that is read part by part.
use Rattle.std.proofs.Common.{◌≡◌, ℕ, ◌+◌, ◌-◌, ◌≤◌, List, [], ◌∷◌, ◌++◌, length, take, drop, false, Ok, refl, ap, sym, ◌∙◌, arith}
use Rattle.std.proofs.lemmas.Bool.{le-ltb}
use Rattle.std.proofs.lemmas.List.{length-drop, drop-drop, take-take, drop-take}
use Rattle.std.proofs.lemmas.Fmt.{decimal_digit}
use Rattle.edit_record.specs.Text.{space, newline, max_number, number_text}
use Rattle.edit_record.specs.declared.fault.FaultKind.TheVariants.{End}
use Rattle.edit_record.specs.Parsing.{is_digit, expect, number_at, bytes_at, edit_head_at, edit_at}
use Rattle.edit_record.specs.Inner.EditLengths.{lengths_at, after_head_at}
use Rattle.edit_record.proofs.Choices.{ok_is, through, continues_with}
use Rattle.edit_record.proofs.Numbers.{number_again}

bytes_read : (n : ℕ) (t : List ℕ) → n ≤ length t → bytes_at n t ≡ Ok (take n t, drop n t)
unfolding bytes_at
bytes_read n t le = rw (le-ltb (length t) n le) refl

-- the text goes on after a line end
pub line_end : (s after : List ℕ) → s ≡ newline ∷ after → expect (newline ∷ []) End s ≡ Ok after
line_end s after e = ap (expect (newline ∷ []) End) e

-- a number of one digit
one_digit : (stop c : ℕ) (rest : List ℕ) → is_digit stop ≡ false → 48 ≤ c → c ≤ 57 → number_at 0 max_number stop (c ∷ stop ∷ rest) ≡ Ok (c - 48, rest)
one_digit stop c rest no_digit low high =
    let is : 48 + (c - 48) ≡ c = omega arith in
    let text : number_text stop (c - 48) ++ rest ≡ c ∷ stop ∷ rest = rw (decimal_digit (c - 48) (omega arith)) (ap (λ k. k ∷ stop ∷ rest) is) in
    ap (number_at 0 max_number stop) (sym text) ∙ number_again 0 max_number stop (c - 48) rest (omega arith) no_digit (omega arith) (omega arith)

pub two_digits_read : (r a : ℕ) (t rest : List ℕ) → t ≡ r ∷ space ∷ a ∷ newline ∷ rest → 48 ≤ r → r ≤ 57 → 48 ≤ a → a ≤ 57 → lengths_at t ≡ Ok ((r - 48, a - 48), rest)
two_digits_read r a t rest is r_low r_high a_low a_high =
    ap lengths_at is
    ∙ continues_with (number_at 0 max_number space (r ∷ space ∷ a ∷ newline ∷ rest)) _ (r - 48, a ∷ newline ∷ rest) _ (one_digit space r (a ∷ newline ∷ rest) refl r_low r_high)
    (continues_with (number_at 0 max_number newline (a ∷ newline ∷ rest)) _ (a - 48, rest) _ (one_digit newline a rest refl a_low a_high)
    refl)

-- the place, and then the lengths
pub head_read : (t : List ℕ) (at removed added : ℕ) (t1 rest : List ℕ) → number_at 0 max_number space t ≡ Ok (at, t1) → lengths_at t1 ≡ Ok ((removed, added), rest) → edit_at t ≡ after_head_at at removed added rest
unfolding edit_at edit_head_at after_head_at
head_read t at removed added t1 rest place lengths =
    through (number_at 0 max_number space t1) _ ((removed, added), rest) lengths λ r t2 r_is e1.
    through (number_at 0 max_number newline t2) _ ((removed, added), rest) e1 λ a t3 a_is e2.
    let head : edit_head_at t ≡ Ok ((at, removed, added), rest) =
    continues_with (number_at 0 max_number space t) _ (at, t1) _ place
    (continues_with (number_at 0 max_number space t1) _ (r, t2) _ r_is
    (continues_with (number_at 0 max_number newline t2) _ (a, t3) _ a_is
    (ap (λ (x : (ℕ × ℕ) × List ℕ). Ok ((at, x.0.0, x.0.1), x.1)) (ok_is ((r, a), t3) ((removed, added), rest) e2)))) in
    continues_with (edit_head_at t) _ ((at, removed, added), rest) _ head refl

pub edit_read : (at removed added : ℕ) (rest after : List ℕ) → removed + added ≤ length rest → drop (removed + added) rest ≡ newline ∷ after → after_head_at at removed added rest ≡ Ok (record { at = at; removed = take removed rest; added = take added (drop removed rest) }, after)
unfolding after_head_at
edit_read at removed added rest after spare end =
    let following = drop removed rest in
    continues_with (bytes_at removed rest) _ (take removed rest, following) _ (bytes_read removed rest (omega arith))
    (continues_with (bytes_at added following) _ (take added following, drop added following) _ (bytes_read added following (omega (arith, length-drop removed rest)))
    (continues_with (expect (newline ∷ []) End (drop added following)) _ after _ (line_end (drop added following) after (drop-drop added removed rest ∙ end))
    refl))

-- the bytes of both texts are in the first ones
pub in_first : (removed added n : ℕ) (rest texts : List ℕ) → texts ≡ take n rest → removed + added ≤ n → (take removed texts ≡ take removed rest) × (take added (drop removed texts) ≡ take added (drop removed rest))
in_first removed added n rest texts is le = (
  ap (take removed) is ∙ take-take removed n rest (omega arith),
  sym (drop-take removed added texts)
      ∙ ap (drop removed) (ap (take (removed + added)) is ∙ take-take (removed + added) n rest le)
      ∙ drop-take removed added rest,
)
