-- Which findings one step of a fix takes.
use Rattle.std.specs.Prelude.{◌≡◌, ℕ, not, ◌&&◌, ◌||◌, nat_lt, nat_le, Bool, true, List, [], ◌∷◌}
use Rattle.std.specs.Prelude.{if◌then◌else◌}
use Rattle.std.specs.List.Sorted.{IsNonDecreasingBy}
use Rattle.tf_rules.specs.declared.finding.Finding.{Finding}
use Rattle.tf_rules.specs.Findings.{is_fixable}
use Rattle.tf_rules.specs.ValidFindings.{AreValidFindings}

-- Of a list of findings, each is selected that can be fixed and begins after all that were selected
-- before it, which end at token number `past` (exclusive).
abbrev pub selected_from : ℕ → List Finding → List Finding
selected_from past [] = []
selected_from past (finding ∷ findings) =
    if is_fixable finding.fix && not (nat_lt finding.first past)
    then finding ∷ selected_from finding.past findings else selected_from past findings

-- the findings that one step fixes
abbrev pub selected : List Finding → List Finding
selected findings = selected_from 0 findings

-- ---- the same by the tokens that findings share

-- whether two findings share no token
abbrev pub are_apart : Finding → Finding → Bool
are_apart f g = nat_le f.past g.first || nat_le g.past f.first

-- whether a finding shares no token with any of the others
abbrev pub is_apart_from : Finding → List Finding → Bool
is_apart_from finding [] = true
is_apart_from finding (other ∷ others) = are_apart finding other && is_apart_from finding others

-- Of a list of findings, each is selected that can be fixed and shares no token with one selected
-- before it; `before` are those.
abbrev pub selected_apart : List Finding → List Finding → List Finding
selected_apart before [] = []
selected_apart before (finding ∷ findings) =
    if is_fixable finding.fix && is_apart_from finding before
    then finding ∷ selected_apart (finding ∷ before) findings else selected_apart before findings

-- where findings are in order by their first tokens, as in a report, both are one
abbrev pub SelectedAreApart : Type 0
SelectedAreApart = (count : ℕ) (findings : List Finding) → AreValidFindings count findings
    → IsNonDecreasingBy (λ (finding : Finding). finding.first) findings
    → selected findings ≡ selected_apart [] findings
