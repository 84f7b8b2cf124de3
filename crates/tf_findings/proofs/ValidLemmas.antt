-- What passes the test is valid, in another order too, and some of it.
use Rattle.std.proofs.Common.{◌≡◌, ℕ, Bool, true, false, List, [], ◌∷◌, refl}
use Rattle.std.specs.Prelude.{filter, if◌then◌else◌}
use Rattle.std.specs.List.{AllByRecursion}
use Rattle.std.specs.List.Sorted.{IsPermutation}
use Rattle.tf_rules.specs.declared.finding.Finding.{Finding}
use Rattle.tf_rules.specs.Findings.{is_valid, valid_findings}
use Rattle.tf_rules.specs.ValidFindings.{IsValidFinding, AreValidFindings}
use Rattle.tf_findings.proofs.FilterLemmas.{each_kept, each_in_order}

-- the test says the same as the facts
abbrev pub SoundIsSound : Type 0
SoundIsSound = (count : ℕ) (finding : Finding) → is_valid count finding ≡ true → IsValidFinding count finding

passes : SoundIsSound → (count : ℕ) (f : Finding) (rest : List Finding) (b : Bool) → is_valid count f ≡ b → AreValidFindings count rest → AreValidFindings count (if b then f ∷ rest else rest)
passes law count f rest true e h = (law count f e, h)
passes law count f rest false e h = h

-- what passes the test is valid
pub all_valid : SoundIsSound → (count : ℕ) (fs : List Finding) → AreValidFindings count (valid_findings count fs)
all_valid law count [] = tt
all_valid law count (f ∷ fs) = passes law count f (valid_findings count fs) (is_valid count f) refl (all_valid law count fs)

-- ---- in another order, and some of them

to_each : (count : ℕ) (fs : List Finding) → AreValidFindings count fs → AllByRecursion (IsValidFinding count) fs
to_each count [] h = tt
to_each count (f ∷ fs) h = (h.0, to_each count fs h.1)

from_each : (count : ℕ) (fs : List Finding) → AllByRecursion (IsValidFinding count) fs → AreValidFindings count fs
from_each count [] h = tt
from_each count (f ∷ fs) h = (h.0, from_each count fs h.1)

pub valid_in_order : (count : ℕ) (xs ys : List Finding) → IsPermutation xs ys → AreValidFindings count xs → AreValidFindings count ys
valid_in_order count xs ys p h = from_each count ys (each_in_order (IsValidFinding count) xs ys p (to_each count xs h))

pub valid_kept : (count : ℕ) (p : Finding → Bool) (fs : List Finding) → AreValidFindings count fs → AreValidFindings count (filter p fs)
valid_kept count p fs h = from_each count (filter p fs) (each_kept (IsValidFinding count) p fs (to_each count fs h))
