-- Findings of which the test drops none.
use Rattle.std.proofs.Common.{◌≡◌, ◌∙◌, ℕ, ◌&&◌, Bool, true, false, List, [], ◌∷◌, ◌++◌, Option, refl, ap, arith, ◌<◌, nat_lt, nat_le, ◌≤◌, if◌then◌else◌}
use Rattle.std.specs.List.{flat_map, AllByRecursion}
use Rattle.std.proofs.lemmas.List.Elements.{filter-append}
use Rattle.tf_rules.specs.Findings.{is_valid, valid_findings, finding_at, is_fix_valid}
use Rattle.tf_rules.specs.Fixes.{when, is_in_order}
use Rattle.tf_rules.specs.declared.finding.Finding.{Finding}
use Rattle.tf_rules.specs.declared.finding.Message.{Message}
use Rattle.tf_rules.specs.declared.fix.Fix.{Fix}
use Rattle.tf_rules.specs.declared.rule.Rule.{Rule}
use Rattle.tf_rules_laws.proofs.MovedBlocks.{message}

-- ---- the test

when_all : {X : Type 0} (a b c : Bool) (xs ys : List X) → a ≡ true → b ≡ true → c ≡ true → (if a && (b && c) then xs else ys) ≡ xs
when_all true true true xs ys e f h = refl
when_all true true false xs ys e f h = absurd (cc)
when_all true false c xs ys e f h = absurd (cc)
when_all false b c xs ys e f h = absurd (cc)

pub and : (a b : Bool) → a ≡ true → b ≡ true → (a && b) ≡ true
and true b e f = f
and false b e f = e

-- the test drops none of these; a record, so that the list is found from it
pub record AreValid (count : ℕ) (fs : List Finding) : Type 0 where
  pub is : valid_findings count fs ≡ fs

pub none : {count : ℕ} → AreValid count []
none = record { is = refl }

-- a finding whose numbers are in order is kept
pub keep : (count : ℕ) (rule : Rule) (first past : ℕ) (message : Message) (fix : Option Fix) → first < past → past ≤ count → is_fix_valid first past fix ≡ true
    → AreValid count (finding_at rule first past message fix)
keep count rule first past message fix a b c = record {
  is = when_all (nat_lt first past) (nat_le past count) (is_fix_valid first past fix) (finding_at rule first past message fix) [] (grind (arith, a)) (grind (arith, b)) c;
}

-- a fix that can be made or not
pub fits : (first past : ℕ) (b : Bool) (fix : Fix) → is_in_order first past fix ≡ true → is_fix_valid first past (when b fix) ≡ true
fits first past true fix e = e
fits first past false fix e = refl

-- ---- lists

pub choose : {count : ℕ} (b : Bool) {xs ys : List Finding} → AreValid count xs → AreValid count ys → AreValid count (if b then xs else ys)
choose true h k = h
choose false h k = k

pub append : {count : ℕ} {xs ys : List Finding} → AreValid count xs → AreValid count ys → AreValid count (xs ++ ys)
append {count} {xs} {ys} h k = record { is = filter-append (is_valid count) xs ys ∙ (ap (λ l. l ++ valid_findings count ys) h.is ∙ ap (λ l. xs ++ l) k.is) }

pub mapped : {X : Type 0} {count : ℕ} (f : X → List Finding) (xs : List X) → AllByRecursion (λ x. AreValid count (f x)) xs → AreValid count (flat_map f xs)
mapped f [] a = none
mapped f (x ∷ xs) a = append a.0 (mapped f xs a.1)
