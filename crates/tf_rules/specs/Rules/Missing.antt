-- Variables without a type, variables and outputs without a description. TFLint ruleset for the
-- Terraform language, terraform_typed_variables, terraform_documented_variables,
-- terraform_documented_outputs.
use Rattle.std.specs.Prelude.{ℕ, ◌+◌, not, ◌&&◌, ◌||◌, Bool, true, false, List, [], ◌++◌, Option, Some, None}
use Rattle.std.specs.Prelude.{codes, if◌then◌else◌}
use Rattle.std.specs.Str.{bytes_eq}
use Rattle.hcl_grammar.specs.declared.tree.Attribute.{Attribute}
use Rattle.hcl_grammar.specs.declared.tree.Block.{Block}
use Rattle.hcl_grammar.specs.declared.tree.Label.{Label}
use Rattle.hcl_token.specs.Tokens.{Pair}
use Rattle.tf_rules.specs.declared.finding.Finding.{Finding}
use Rattle.tf_rules.specs.declared.rule.Rule.{Rule}
use Rattle.tf_rules.specs.declared.rule.Rule.TheVariants.{TypedVariables, DocumentedVariables}
use Rattle.tf_rules.specs.declared.rule.Rule.TheVariants.{DocumentedOutputs}
use Rattle.tf_rules.specs.declared.rule_set.RuleSet.{RuleSet}
use Rattle.tf_rules.specs.Findings.{finding_at}
use Rattle.tf_rules.specs.RuleSets.{has_rule}
use Rattle.tf_rules.specs.Attributes.{attributes, has_attribute, has_empty_attribute}
use Rattle.tf_rules.specs.Spelling.{token_text}

-- no description, or one that is `""`
abbrev pub is_undocumented : List Pair → List Attribute → Bool
is_undocumented pairs all =
    not (has_attribute pairs (codes "description") all)
    || has_empty_attribute pairs (codes "description") all

-- the finding at the word that the block begins with
abbrev pub missing_finding : Rule → Block → Option ℕ → List Finding
missing_finding rule b name =
    finding_at rule b.block_type (b.block_type + 1) (record { kind = None; name = name }) None

abbrev pub untyped_findings : RuleSet → List Pair → Block → Label → List Finding
untyped_findings rules pairs b l =
    if has_rule rules TypedVariables
    && (bytes_eq (token_text pairs b.block_type) (codes "variable")
    && not (has_attribute pairs (codes "type") (attributes b)))
    then missing_finding TypedVariables b l.name else []

-- of the rule on blocks that begin with this word
abbrev pub undocumented_findings : RuleSet → List Pair → Rule → List ℕ → Block → Label
    → List Finding
undocumented_findings rules pairs rule kind b l =
    if has_rule rules rule
    && (bytes_eq (token_text pairs b.block_type) kind && is_undocumented pairs (attributes b))
    then missing_finding rule b l.name else []

-- those of a block whose first label is this; a block without labels has none
abbrev pub missing_findings : RuleSet → List Pair → Block → Option Label → List Finding
missing_findings rules pairs b None = []
missing_findings rules pairs b (Some l) =
    untyped_findings rules pairs b l
    ++ (undocumented_findings rules pairs DocumentedVariables (codes "variable") b l
    ++ undocumented_findings rules pairs DocumentedOutputs (codes "output") b l)
