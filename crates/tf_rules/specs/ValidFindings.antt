-- Valid findings: what the test `is_valid` of Findings says of numbers, as facts that a clause can
-- hand down. Law `is_valid_is_exact`: a finding passes the test just if it is valid.
use Rattle.std.specs.Prelude.{◌≡◌, ℕ, ◌+◌, ◌<◌, ◌≤◌, List, [], ◌∷◌, Option, Some, None, ⊤}
use Rattle.tf_rules.specs.declared.finding.Finding.{Finding}
use Rattle.tf_rules.specs.declared.fix.Fix.{Fix}
use Rattle.tf_rules.specs.declared.fix.Fix.TheVariants.{CommentMarker, Tokens}
use Rattle.tf_rules.specs.declared.fix.Insertion.{Insertion}
use Rattle.tf_rules.specs.declared.fix.Insertion.TheVariants.{Nothing}
use Rattle.tf_rules.specs.declared.fix.KeptTokens.{KeptTokens}

-- `changes_something`
abbrev pub ChangesSomething : Insertion → ℕ → ℕ → Type 0
ChangesSomething Nothing at to = at < to
ChangesSomething _ at to = at ≤ to

-- `changes_end`
abbrev pub ChangesEnd : ℕ → Insertion → ℕ → ℕ → Type 0
ChangesEnd first Nothing at past = (first < at) × (at < past)
ChangesEnd first _ at past = at ≤ past

-- `are_in_order`
abbrev pub AreInOrder : ℕ → ℕ → ℕ → Insertion → List (Option KeptTokens) → Type 0
AreInOrder first past at written [] = ChangesEnd first written at past
AreInOrder first past at written (None ∷ kept) = AreInOrder first past at written kept
AreInOrder first past at written (Some k ∷ kept) =
    ChangesSomething written at k.from × (k.from < k.to) × AreInOrder first past k.to k.after kept

-- `is_in_order`
abbrev pub IsInOrder : ℕ → ℕ → Fix → Type 0
IsInOrder first past CommentMarker = past ≡ first + 1
IsInOrder first past (Tokens before kept) = AreInOrder first past first before kept

-- `is_fix_valid`
abbrev pub IsFixValid : ℕ → ℕ → Option Fix → Type 0
IsFixValid first past None = ⊤
IsFixValid first past (Some fix) = IsInOrder first past fix

-- the tokens of a finding are tokens of the text, and what its fix keeps is in order inside of them
abbrev pub IsValidFinding : ℕ → Finding → Type 0
IsValidFinding count f = (f.first < f.past) × (f.past ≤ count) × IsFixValid f.first f.past f.fix

-- each of them is valid
abbrev pub AreValidFindings : ℕ → List Finding → Type 0
AreValidFindings count [] = Unit {0}
AreValidFindings count (f ∷ fs) = IsValidFinding count f × AreValidFindings count fs
