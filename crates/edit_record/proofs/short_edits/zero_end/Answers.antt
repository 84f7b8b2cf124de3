use Rattle.std.proofs.Common.{◌≡◌, ℕ, ◌-◌, ◌≤◌, List, ◌∷◌, length, take, drop, get_or, refl, ap, sym, ◌∙◌}
use Rattle.std.proofs.lemmas.List.{drop_more, take_rest}
use Rattle.edit_record.proofs.short_edits.zero_end.Goals as goal

-- the first byte, and the others
first_is : (s : List ℕ) (b : ℕ) → 1 ≤ length s → get_or s 0 0 ≡ b → s ≡ b ∷ take (length s - 1) (drop 1 s)
first_is s b le e =
    drop_more s 0 0 le ∙ ap (λ k. k ∷ drop 1 s) e ∙ ap (λ (x : List ℕ). b ∷ x) (sym (take_rest s 1))

pub returns : goal.returns
returns c =
    (refl, sym c.is_ascii_digit.ensures.value ∙ c.if-is_ascii_digit.false, first_is c.args.text.now c.args.terminator c.in-len1-up.len_at_least c.if-end-terminator.false)
