-- What one rule of a set finds, among what all rules of the set find.
use Rattle.std.proofs.Common.{◌≡◌, ◌∙◌, ◌==◌, ◌&&◌, Bool, true, false, List, [], ◌∷◌, ◌++◌, Some, refl, sym, ap, ap₂, subst, arith, if◌then◌else◌, slice_get}
use Rattle.std.specs.Prelude.{filter}
use Rattle.std.specs.List.{flat_map, AllByRecursion}
use Rattle.std.proofs.lemmas.Bool.{false≢true}
use Rattle.std.proofs.lemmas.List.Elements.{filter-append}
use Rattle.std.proofs.lemmas.Bool.Decides.{nat_tests}
use Rattle.hcl_token.specs.Tokens.{Pair}
use Rattle.tf_findings.proofs.FilterLemmas.{filter_all, filter_none}
use Rattle.tf_findings.specs.Order.{rank}
use Rattle.tf_findings.specs.RuleFilter.{is_found_by}
use Rattle.tf_rules.specs.RuleSets.{has_rule}
use Rattle.tf_rules.specs.SingleRule.{only}
use Rattle.tf_rules.specs.Table.{all_rules, index_of}
use Rattle.tf_rules.specs.declared.finding.Finding.{Finding}
use Rattle.tf_rules.specs.declared.rule.Rule.TheVariants.{CommentSyntax}
use Rattle.tf_rules.specs.declared.rule.Rule.{Rule}
use Rattle.tf_rules.specs.declared.rule_set.RuleSet.{RuleSet}
use Rattle.tf_rules_laws.proofs.OfRule as found
use Rattle.tf_rules_laws.proofs.OfRule.{From, AreFrom}

-- ---- rules and their ranks

-- each rule is at its number
rule_at_index : (rule : Rule) → slice_get all_rules (index_of rule) ≡ Some rule
rule_at_index CommentSyntax = refl
rule_at_index rule = refl

-- a rule's rank is its own
same_rule : (other rule : Rule) → (rank other == rank rule) ≡ true → other ≡ rule
same_rule other rule h =
    let one : index_of other ≡ index_of rule = grind (arith, nat_tests) in
    let both : Some other ≡ Some rule = sym (rule_at_index other) ∙ (ap (slice_get all_rules) one ∙ rule_at_index rule) in
    cc both

-- the set of one rule has a rule where their ranks are one
only_has : (rule other : Rule) → has_rule (only rule) other ≡ (rank other == rank rule)
only_has rule CommentSyntax = refl
only_has rule other = refl

-- ---- findings of one rule among others

-- if all are of one rule, its rank decides for each whether it passes
alike : (pairs : List Pair) (rule other : Rule) (b : Bool) (fs : List Finding) → (rank other == rank rule) ≡ b
    → AreFrom pairs other fs → AllByRecursion (λ (f : Finding). is_found_by rule f ≡ b) fs
alike pairs rule other b [] e h = tt
alike pairs rule other b (f ∷ fs) e h = (ap (λ (r : Rule). rank r == rank rule) h.0.rule_is ∙ e, alike pairs rule other b fs e h.1)

-- those of a rule, each with where it comes from; a record, so that the lists are found from it
pub record Picks (pairs : List Pair) (rule : Rule) (all some : List Finding) : Type 0 where
  pub is : filter (is_found_by rule) all ≡ some
  pub are : AreFrom pairs rule some

pub nothing : {pairs : List Pair} {rule : Rule} → Picks pairs rule [] []
nothing = record { is = refl; are = tt }

pub both : {pairs : List Pair} {rule : Rule} {xs ys us vs : List Finding} → Picks pairs rule xs us → Picks pairs rule ys vs → Picks pairs rule (xs ++ ys) (us ++ vs)
both {pairs} {rule} {xs} {ys} {us} {vs} h k =
    record { is = filter-append (is_found_by rule) xs ys ∙ ap₂ ◌++◌ h.is k.is; are = found.append pairs rule us vs h.are k.are }

pub each : {X : Type 0} {pairs : List Pair} {rule : Rule} (f g : X → List Finding) → ((x : X) → Picks pairs rule (f x) (g x)) → (xs : List X)
    → Picks pairs rule (flat_map f xs) (flat_map g xs)
each f g h [] = nothing
each f g h (x ∷ xs) = both (h x) (each f g h xs)

-- b whether the set has the rule of the findings, d whether that is the rule
by_test : (rule : Rule) (fs : List Finding) (b d : Bool) → (d ≡ true → (b ≡ true) × (filter (is_found_by rule) fs ≡ fs)) → (d ≡ false → filter (is_found_by rule) fs ≡ [])
    → filter (is_found_by rule) (if b then fs else []) ≡ (if d then fs else [])
by_test rule fs true true h k = (h refl).1
by_test rule fs false true h k = absurd (false≢true (h refl).0)
by_test rule fs true false h k = k refl
by_test rule fs false false h k = refl

-- d: whether the rule of the findings is the one to filter by
from_test : (pairs : List Pair) (rule other : Rule) (fs : List Finding) (d : Bool) → (d ≡ true → other ≡ rule) → AreFrom pairs other fs → AreFrom pairs rule (if d then fs else [])
from_test pairs rule other fs true same h = subst (λ (r : Rule). AreFrom pairs r fs) (same refl) h
from_test pairs rule other fs false same h = tt

-- a second test of what is found
also : (b c : Bool) (fs : List Finding) → (if b then (if c then fs else []) else []) ≡ (if b && c then fs else [])
also true c fs = refl
also false c fs = refl

if_both : {pairs : List Pair} {rule : Rule} (fs : List Finding) (b d c : Bool)
    → Picks pairs rule (if b then (if c then fs else []) else []) (if d then (if c then fs else []) else [])
    → Picks pairs rule (if b && c then fs else []) (if d && c then fs else [])
if_both {pairs} {rule} fs b d c h =
    record { is = ap (filter (is_found_by rule)) (sym (also b c fs)) ∙ h.is ∙ also d c fs; are = subst (AreFrom pairs rule) (also d c fs) h.are }

from_if : {pairs : List Pair} {other : Rule} (c : Bool) (fs : List Finding) → From pairs other fs → From pairs other (if c then fs else [])
from_if true fs h = h
from_if false fs h = record { are = tt }

module _ (rules : RuleSet) (rule : Rule) (has : has_rule rules rule ≡ true) where
  -- what a rule finds, if it is in the set
  pub chosen : {pairs : List Pair} (other : Rule) (fs : List Finding) → From pairs other fs
      → Picks pairs rule (if has_rule rules other then fs else []) (if has_rule (only rule) other then fs else [])
  chosen {pairs} other fs h =
      let same = λ (t : has_rule (only rule) other ≡ true). same_rule other rule (sym (only_has rule other) ∙ t) in
      record {
        is = by_test rule fs (has_rule rules other) (has_rule (only rule) other)
            (λ t. (ap (has_rule rules) (same t) ∙ has, filter_all (is_found_by rule) fs (alike pairs rule other true fs (sym (only_has rule other) ∙ t) h.are)))
            (λ t. filter_none (is_found_by rule) fs (alike pairs rule other false fs (sym (only_has rule other) ∙ t) h.are));
        are = from_test pairs rule other fs (has_rule (only rule) other) same h.are;
      }

  pub chosen_if : {pairs : List Pair} (other : Rule) (c : Bool) (fs : List Finding) → From pairs other fs
      → Picks pairs rule (if has_rule rules other && c then fs else []) (if has_rule (only rule) other && c then fs else [])
  chosen_if other c fs h = if_both fs (has_rule rules other) (has_rule (only rule) other) c (chosen other (if c then fs else []) (from_if c fs h))
