-- Findings that are reported in order.
use Rattle.std.proofs.Common.{◌≡◌, ◌∙◌, ◌<◌, ◌+◌, ℕ, zero, suc, List, [], ◌∷◌, ◌++◌, length, take, map, get_or, ap, sym, arith}
use Rattle.std.proofs.lemmas.List.{take_more, map-append}
use Rattle.hcl_token.specs.declared.place.Place.{Place}
use Rattle.hcl_token.specs.Place.{place_of}
use Rattle.hcl_token.specs.Tokens.{Pair}
use Rattle.tf_rules.specs.ValidFindings.{AreValidFindings}
use Rattle.tf_rules.specs.declared.finding.Finding.{Finding}
use Rattle.tf_lint.specs.Issues.{reports}
use Rattle.tf_lint.specs.Reports.{Report, report, report_of}
use Rattle.tf_lint.specs.declared.issue.Issue.{Issue}

-- each of valid findings begins at a token of the text
pub begins_inside : (count : ℕ) (found : List Finding) (i : ℕ) (d : Finding) → AreValidFindings count found → i < length found → (get_or found i d).first < count
begins_inside count [] i d valid below = absurd (omega (arith, below))
begins_inside count (f ∷ fs) zero d valid below = omega (arith, valid.0.0, valid.0.1)
begins_inside count (f ∷ fs) (suc i) d valid below = begins_inside count fs i d valid.1 (omega (arith, below))

-- the same where the places are of these tokens
pub begins_there : (pairs places : List Pair) (found : List Finding) (i : ℕ) (d : Finding) → places ≡ pairs → AreValidFindings (length pairs) found → i < length found → (get_or found i d).first < length places
begins_there pairs places found i d same valid below = omega (arith, begins_inside (length pairs) found i d valid below, ap length same)

pub place_there : (pairs places : List Pair) (i : ℕ) (place : Place) → places ≡ pairs → place ≡ place_of places i → place ≡ place_of pairs i
place_there pairs places i place same is = is ∙ ap (λ (ps : List Pair). place_of ps i) same

-- the first i findings are reported, and one more
pub one_cached : (pairs : List Pair) (found : List Finding) (i : ℕ) (d : Finding) (issues extended : List Issue) (issue : Issue) → i < length found
    → reports issues ≡ map (report_of pairs) (take i found) → report issue ≡ report_of pairs (get_or found i d) → extended ≡ issues ++ issue ∷ []
    → reports extended ≡ map (report_of pairs) (take (i + 1) found)
one_cached pairs found i d issues extended issue below so_far report_is push =
    let next : take (i + 1) found ≡ take i found ++ get_or found i d ∷ [] = take_more found i d below in
    ap reports push ∙ map-append report issues (issue ∷ [])
    ∙ ap (λ (l : List Report). l ++ report issue ∷ []) so_far
    ∙ ap (λ (r : Report). map (report_of pairs) (take i found) ++ r ∷ []) report_is
    ∙ sym (ap (map (report_of pairs)) next ∙ map-append (report_of pairs) (take i found) (get_or found i d ∷ []))
