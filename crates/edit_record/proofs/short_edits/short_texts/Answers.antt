use Rattle.std.proofs.Common.{◌≡◌, ℕ, ◌+◌, ◌-◌, ◌<◌, ◌≤◌, List, ◌∷◌, length, take, drop, ap, sym, arith, get_or, ◌∙◌}
use Rattle.std.proofs.lemmas.List.{drop_more, take_rest}
use Rattle.edit_record.specs.Text.{newline}
use Rattle.edit_record.proofs.ShortEdits.{edit_read, in_first}
use Rattle.edit_record.proofs.short_edits.short_texts.Goals as goal

-- the line end, and what follows it
from_end : (s : List ℕ) (n : ℕ) → n < length s → get_or s n 0 ≡ newline → drop n s ≡ newline ∷ take (length s - (n + 1)) (drop (n + 1) s)
from_end s n lt e =
    drop_more s n 0 lt
    ∙ ap (λ b. b ∷ drop (n + 1) s) e
    ∙ ap (λ (x : List ℕ). newline ∷ x) (sym (take_rest s (n + 1)))

pub returns-clause-read : goal.returns-clause-read
returns-clause-read c =
    let removed = c.args.removed in
    let added = c.args.added in
    let text = c.args.text.now in
    let len = c.saturating_add-len.result in
    let after = take (length text - (len + 1)) (drop (len + 1) text) in
    let few : removed + added ≤ 13 = omega arith in
    let len_is : len ≡ removed + added = omega arith in
    let spare : removed + added ≤ length text = omega arith in
    let end : drop (removed + added) text ≡ newline ∷ after = ap (λ n. drop n text) (sym len_is) ∙ from_end text len (omega arith) c.if-text-len-ne10.false in
    let p = in_first removed added 13 text c.in-Some.texts.now c.in-Some.ensures.cases.0 few in
    λ at. rw (p.0, p.1) (edit_read at removed added text after spare end)
