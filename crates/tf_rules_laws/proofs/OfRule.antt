-- Where findings come from, whatever rule they are of.
use Rattle.std.proofs.Common.{◌≡◌, ◌∙◌, ℕ, Bool, true, false, List, [], ◌∷◌, ◌++◌, Option, Some, None, refl, sym}
use Rattle.std.proofs.lemmas.Bool.{false≢true}
use Rattle.std.specs.Prelude.{if◌then◌else◌}
use Rattle.std.specs.List.{flat_map, AllByRecursion}
use Rattle.hcl_token.specs.Tokens.{Pair}
use Rattle.tf_rules.specs.declared.finding.Finding.{Finding}
use Rattle.tf_rules.specs.declared.finding.Message.{Message}
use Rattle.tf_rules.specs.declared.fix.Fix.{Fix}
use Rattle.tf_rules.specs.declared.rule.Rule.{Rule}
use Rattle.tf_rules.specs.Findings.{is_fixable, finding_at}
use Rattle.tf_rules.specs.Fixes.{when, is_comment_fix}
use Rattle.tf_rules.specs.Table.{is_comment_rule, has_fix}
use Rattle.tf_rules_laws.specs.OneRule.{MatchesRule}

abbrev pub AreFrom : List Pair → Rule → List Finding → Type 0
AreFrom pairs rule fs = AllByRecursion (MatchesRule pairs rule) fs

-- each comes from the rule; a record, so that a list is found from it
pub record From (pairs : List Pair) (rule : Rule) (fs : List Finding) : Type 0 where
  pub are : AreFrom pairs rule fs

pub none : {pairs : List Pair} {rule : Rule} → From pairs rule []
none = record { are = tt }

pub choose : {pairs : List Pair} {rule : Rule} (b : Bool) {xs ys : List Finding} → From pairs rule xs → From pairs rule ys → From pairs rule (if b then xs else ys)
choose true h k = h
choose false h k = k

pub append : (pairs : List Pair) (rule : Rule) (xs ys : List Finding) → AreFrom pairs rule xs → AreFrom pairs rule ys → AreFrom pairs rule (xs ++ ys)
append pairs rule [] ys h k = k
append pairs rule (x ∷ xs) ys h k = (h.0, append pairs rule xs ys h.1 k)

pub both : {pairs : List Pair} {rule : Rule} {xs ys : List Finding} → From pairs rule xs → From pairs rule ys → From pairs rule (xs ++ ys)
both {pairs} {rule} {xs} {ys} h k = record { are = append pairs rule xs ys h.are k.are }

pub each : {X : Type 0} {pairs : List Pair} {rule : Rule} (f : X → List Finding) → ((x : X) → From pairs rule (f x)) → (xs : List X) → From pairs rule (flat_map f xs)
each f h [] = none
each f h (x ∷ xs) = both (h x) (each f h xs)

-- of a rule other than that on comments; where it has a fix, one has a step for it
pub one : {pairs : List Pair} {rule : Rule} {first past : ℕ} {message : Message} {fix : Option Fix} → is_comment_rule rule ≡ false → is_comment_fix fix ≡ false
    → (is_fixable fix ≡ true → has_fix rule ≡ true) → From pairs rule (finding_at rule first past message fix)
one other no_slashes has_fixed_finding =
    record { are = (record { rule_is = refl; inside = no_slashes ∙ sym other; has_slashes = λ e. absurd (false≢true (sym no_slashes ∙ e)); has_fix = has_fixed_finding }, tt) }

-- one without a fix
pub plainly : {pairs : List Pair} {rule : Rule} {first past : ℕ} {message : Message} → is_comment_rule rule ≡ false → From pairs rule (finding_at rule first past message None)
plainly other = one other refl (λ e. absurd (false≢true e))

-- one with a fix, if it can be fixed
pub maybe : {pairs : List Pair} {rule : Rule} {first past : ℕ} {message : Message} (b : Bool) (fix : Fix) → is_comment_fix (Some fix) ≡ false → is_comment_rule rule ≡ false
    → has_fix rule ≡ true → From pairs rule (finding_at rule first past message (when b fix))
maybe true fix no_slashes other fixed = one other no_slashes (λ e. fixed)
maybe false fix no_slashes other fixed = one other refl (λ e. fixed)
