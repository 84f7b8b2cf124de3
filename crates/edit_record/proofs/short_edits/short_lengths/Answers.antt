use Rattle.std.proofs.Common.{◌≡◌, ℕ, ◌-◌, ◌≤◌, List, [], ◌∷◌, length, take, drop, get_or, ap, sym, arith, ◌∙◌}
use Rattle.std.proofs.lemmas.List.{take_rest}
use Rattle.edit_record.specs.Text.{space, newline}
use Rattle.edit_record.proofs.ShortEdits.{two_digits_read}
use Rattle.edit_record.proofs.short_edits.short_lengths.Goals as goal

four_first : (t : List ℕ) → 4 ≤ length t → t ≡ get_or t 0 0 ∷ get_or t 1 0 ∷ get_or t 2 0 ∷ get_or t 3 0 ∷ take (length t - 4) (drop 4 t)
four_first [] le = absurd (omega arith)
four_first (a ∷ []) le = absurd (omega arith)
four_first (a ∷ b ∷ []) le = absurd (omega arith)
four_first (a ∷ b ∷ c ∷ []) le = absurd (omega arith)
four_first (a ∷ b ∷ c ∷ d ∷ t) le = ap (λ (x : List ℕ). a ∷ b ∷ c ∷ d ∷ x) (sym (take_rest (a ∷ b ∷ c ∷ d ∷ t) 4))

ends : (t : List ℕ) → 4 ≤ length t → get_or t 1 0 ≡ space → get_or t 3 0 ≡ newline → t ≡ get_or t 0 0 ∷ space ∷ get_or t 2 0 ∷ newline ∷ take (length t - 4) (drop 4 t)
ends t le e f =
    four_first t le
    ∙ ap (λ k. get_or t 0 0 ∷ k ∷ get_or t 2 0 ∷ get_or t 3 0 ∷ take (length t - 4) (drop 4 t)) e
    ∙ ap (λ k. get_or t 0 0 ∷ space ∷ get_or t 2 0 ∷ k ∷ take (length t - 4) (drop 4 t)) f

pub returns-clause-lengths : goal.returns-clause-lengths
returns-clause-lengths c =
    let t = c.args.text.now in
    two_digits_read (get_or t 0 0) (get_or t 2 0) t (take (length t - 4) (drop 4 t)) (ends t c.in-len4-up.len_at_least c.if-space-ne32.false c.if-end-ne10.false) (omega (arith, c.if-removed-lt48.false)) (omega (arith, c.if-removed-gt57.false)) (omega (arith, c.if-added-lt48.false)) (omega (arith, c.if-added-gt57.false))
