-- The lines of records, one more at a time.
use Rattle.std.proofs.Common.{◌≡◌, ◌∙◌, ◌<◌, ◌+◌, ℕ, List, [], ◌∷◌, ◌++◌, length, take, get_or, refl, ap, sym, subst, append_assoc, arith}
use Rattle.std.proofs.lemmas.List.{take_more, length-take, append-nil}
use Rattle.edit_record.specs.Lists.Journal.{JournalEntry}
use Rattle.tf_session.specs.Session.{SessionContents}
use Rattle.tf_program.specs.Lines.{IsRecordLine, AreRecordLines}

lines-push : (contents : SessionContents) (number : ℕ) (rs : List JournalEntry) (r : JournalEntry) (lines line : List ℕ)
    → AreRecordLines contents number rs lines → IsRecordLine contents (number + length rs) r line
    → AreRecordLines contents number (rs ++ r ∷ []) (lines ++ line)
lines-push contents number [] r lines line are is =
    let here : number + 0 ≡ number = omega arith in
    (line, [], ap (λ (l : List ℕ). l ++ line) are ∙ sym (append-nil line), subst (λ (n : ℕ). IsRecordLine contents n r line) here is, refl)
lines-push contents number (x ∷ rs) r lines line (first, rest, all, first_is, others) is =
    let here : number + length (x ∷ rs) ≡ number + 1 + length rs = omega arith in (
      first,
      rest ++ line,
      ap (λ (l : List ℕ). l ++ line) all ∙ append_assoc first rest line,
      first_is,
      lines-push contents (number + 1) rs r rest line others (subst (λ (n : ℕ). IsRecordLine contents n r line) here is),
    )

pub one_more_line : (contents : SessionContents) (rs : List JournalEntry) (i : ℕ) (r d : JournalEntry) (lines extended line : List ℕ)
    → i < length rs → r ≡ get_or rs i d → AreRecordLines contents 1 (take i rs) lines
    → IsRecordLine contents (i + 1) r line → extended ≡ lines ++ line
    → AreRecordLines contents 1 (take (i + 1) rs) extended
one_more_line contents rs i r d lines extended line below is so_far line_is push =
    let next : take (i + 1) rs ≡ take i rs ++ r ∷ [] = take_more rs i d below ∙ ap (λ y. take i rs ++ y ∷ []) (sym is) in
    let number : i + 1 ≡ 1 + length (take i rs) = omega (arith, length-take i rs) in
    subst (λ (xs : List JournalEntry). AreRecordLines contents 1 xs extended) (sym next)
    (subst (AreRecordLines contents 1 (take i rs ++ r ∷ [])) (sym push)
    (lines-push contents 1 (take i rs) r lines line so_far (subst (λ (n : ℕ). IsRecordLine contents n r line) number line_is)))
