-- For proofs: what is known of a finding that is fixed.
use Rattle.std.specs.Prelude.{ℕ, ◌<◌, ◌≤◌, List, [], ◌∷◌, length, Option, Some, None, ⊤}
use Rattle.hcl_token.specs.Tokens.{Pair}
use Rattle.tf_rules.specs.ValidFindings.{IsInOrder}
use Rattle.tf_rules.specs.declared.fix.Fix.{Fix}
use Rattle.tf_rules.specs.declared.finding.Finding.{Finding}

-- each token has a byte
abbrev pub AreNonempty : List Pair → Type 0
AreNonempty [] = ⊤
AreNonempty (p ∷ ps) = (0 < length p.spelling) × AreNonempty ps

-- there is a fix, and what it keeps is in order
abbrev pub HasValidFix : ℕ → ℕ → Option Fix → Type 0
HasValidFix first past None = ⊥
HasValidFix first past (Some fix) = IsInOrder first past fix

-- the finding's tokens are among `count`, and the ranges that a fix needs are in order in them
abbrev pub IsFixableWithin : ℕ → Finding → Type 0
IsFixableWithin count f = (f.past ≤ count) × HasValidFix f.first f.past f.fix × (f.first < f.past)
