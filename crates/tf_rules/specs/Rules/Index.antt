-- The legacy index. TFLint ruleset for the Terraform language, terraform_deprecated_index.
use Rattle.std.specs.Prelude.{ℕ, ◌+◌, not, Bool, List}
use Rattle.hcl_token.specs.Tokens.{Pair}
use Rattle.tf_rules.specs.declared.finding.Finding.{Finding}
use Rattle.tf_rules.specs.declared.fix.Insertion.TheVariants.{Index}
use Rattle.tf_rules.specs.Fixes.{insert_only, when}
use Rattle.tf_rules.specs.declared.rule.Rule.TheVariants.{DeprecatedIndex}
use Rattle.tf_rules.specs.Findings.{plain_message, finding_at}

-- One at each legacy index, which is a token. It can be written with brackets where one does not
-- come to `.*` going back from it.
abbrev pub index_findings : List Pair → Bool → ℕ → List Finding
index_findings pairs splat n =
    finding_at DeprecatedIndex n (n + 1) plain_message (when (not splat) (insert_only Index))
