-- For proofs: the lines on which silencing comments begin, and what these silence.
use Rattle.std.specs.Prelude.{ℕ, ◌+◌, ◌<◌, ◌≤◌, ◌&&◌, Bool, false, List, [], ◌∷◌, Option, Some, None}
use Rattle.std.specs.Prelude.{slice_get, unwrap_or}
use Rattle.std.specs.Option.{option_map}
use Rattle.std.specs.List.{list_any}
use Rattle.hcl_token.specs.Place.{line_of}
use Rattle.hcl_token.specs.Tokens.{Pair}
use Rattle.tf_rules.specs.declared.rule.Rule.{Rule}
use Rattle.tf_rules.specs.declared.rule_set.RuleSet.{RuleSet}
use Rattle.tf_rules.specs.RuleSets.{has_rule}
use Rattle.tf_findings.specs.declared.silencing.annotation.Annotation.{Annotation}
use Rattle.tf_findings.specs.Comments.{silences}
use Rattle.tf_findings.specs.Silencing.{covers_line}

-- whether token i is a comment that silences what the rule finds on this line
abbrev pub silences_at : List Pair → Rule → ℕ → ℕ → Bool
silences_at pairs rule line i =
    unwrap_or (option_map
    (λ (p : Pair). silences p.kind p.spelling rule && covers_line line (line_of pairs i))
    (slice_get pairs i)) false

-- whether one of the tokens of these numbers is
abbrev pub silences_among : List Pair → Rule → ℕ → List ℕ → Bool
silences_among pairs rule line numbers = list_any (silences_at pairs rule line) numbers

-- the numbers rise, from a on, and are below b
abbrev pub AreIncreasing : ℕ → List ℕ → ℕ → Type 0
AreIncreasing a [] b = a ≤ b
AreIncreasing a (n ∷ ns) b = (a ≤ n) × AreIncreasing (n + 1) ns b

-- whether the rule is in the set, if there is one
abbrev pub option_has : Option RuleSet → Rule → Bool
option_has None rule = false
option_has (Some set) rule = has_rule set rule

-- whether the mark silences what the rule finds on this line
abbrev pub covers : Rule → ℕ → Annotation → Bool
covers rule line m = covers_line line m.line && has_rule m.rules rule

-- whether one of the marks does
abbrev pub is_silenced_by : Rule → ℕ → List Annotation → Bool
is_silenced_by rule line marks = list_any (covers rule line) marks

-- the annotations have lines after a, up to b, each after that of the annotation before it
abbrev pub AreLinesIncreasing : ℕ → List Annotation → ℕ → Type 0
AreLinesIncreasing a [] b = a ≤ b
AreLinesIncreasing a (m ∷ ms) b = (a < m.line) × AreLinesIncreasing m.line ms b

-- the annotations ascend, and the first may silence findings on this line or a later one
abbrev pub CanSilence : ℕ → List Annotation → Type 0
CanSilence line [] = Unit {0}
CanSilence line (m ∷ ms) = (line ≤ m.line + 1) × ((b : ℕ) × AreLinesIncreasing m.line ms b)
