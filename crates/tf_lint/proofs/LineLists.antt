-- The lines of issues, one more at a time.
use Rattle.std.proofs.Common.{◌≡◌, ◌∙◌, ◌<◌, ◌+◌, ℕ, List, [], ◌∷◌, ◌++◌, length, take, map, get_or, refl, ap, sym, append_assoc}
use Rattle.std.proofs.lemmas.List.{take_more, map-append}
use Rattle.tf_lint.specs.Reports.{Report, report_line, report_lines}

report_lines-push : (name : List ℕ) (rs : List Report) (r : Report) → report_lines name (rs ++ r ∷ []) ≡ report_lines name rs ++ report_line name r ++ 10 ∷ []
report_lines-push name [] r = refl
report_lines-push name (x ∷ rs) r =
    ap (λ (rest : List ℕ). report_line name x ++ 10 ∷ rest) (report_lines-push name rs r)
    ∙ sym (append_assoc (report_line name x) (10 ∷ (report_lines name rs ++ report_line name r)) (10 ∷ []))
    ∙ ap (λ (leading : List ℕ). leading ++ 10 ∷ []) (sym (append_assoc (report_line name x) (10 ∷ report_lines name rs) (report_line name r)))

-- the lines of what is reported of the first i things, and that of the next, are those of one thing
-- more
pub one_more_line : {X : Type 0} (name : List ℕ) (report : X → Report) (found : List X) (i : ℕ) (x d : X) (lines extended : List ℕ) → i < length found
    → x ≡ get_or found i d → lines ≡ report_lines name (map report (take i found)) → extended ≡ lines ++ report_line name (report x) ++ 10 ∷ []
    → extended ≡ report_lines name (map report (take (i + 1) found))
one_more_line {X} name report found i x d lines extended lt there so_far push =
    let next : take (i + 1) found ≡ take i found ++ x ∷ [] = take_more found i d lt ∙ ap (λ (y : X). take i found ++ y ∷ []) (sym there) in
    let mapped : map report (take (i + 1) found) ≡ map report (take i found) ++ report x ∷ [] =
    ap (map report) next ∙ map-append report (take i found) (x ∷ []) in
    push ∙ ap (λ (leading : List ℕ). leading ++ report_line name (report x) ++ 10 ∷ []) so_far
    ∙ sym (report_lines-push name (map report (take i found)) (report x)) ∙ ap (report_lines name) (sym mapped)
