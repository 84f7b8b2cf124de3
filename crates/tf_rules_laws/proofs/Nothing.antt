-- Lists of findings that are empty.
use Rattle.std.proofs.Common.{◌≡◌, not, ◌||◌, Bool, true, false, List, [], ◌++◌, refl, if◌then◌else◌}
use Rattle.tf_rules.specs.declared.finding.Finding.{Finding}

-- nothing is found; a record, so that the list is found from it
pub record Nothing (fs : List Finding) : Type 0 where
  pub is : fs ≡ []

pub none : Nothing []
none = record { is = refl }

pub choose : (b : Bool) {xs ys : List Finding} → Nothing xs → Nothing ys → Nothing (if b then xs else ys)
choose true h k = h
choose false h k = k

-- the condition does not hold
pub unless : (b : Bool) (xs : List Finding) {ys : List Finding} → b ≡ false → Nothing ys → Nothing (if b then xs else ys)
unless true xs e h = absurd (cc)
unless false xs e h = h

pub unless_not : (b c : Bool) {xs : List Finding} (ys : List Finding) → c ≡ false → Nothing xs → Nothing (if b || not c then xs else ys)
unless_not true c ys e h = h
unless_not false true ys e h = absurd (cc)
unless_not false false ys e h = h

pub append : {xs ys : List Finding} → Nothing xs → Nothing ys → Nothing (xs ++ ys)
append h k = record { is = rw (h.is) (k.is) }
