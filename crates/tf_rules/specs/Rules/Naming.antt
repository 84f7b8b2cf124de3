-- Names that are not in snake_case. TFLint ruleset for the Terraform language,
-- terraform_naming_convention.
use Rattle.std.specs.Prelude.{ℕ, ◌+◌, List, [], ◌++◌, slice_get, Option, Some, None, codes, if◌then◌else◌}
use Rattle.std.specs.List.{flat_map}
use Rattle.std.specs.Str.{bytes_eq}
use Rattle.hcl_grammar.specs.declared.tree.Attribute.{Attribute}
use Rattle.hcl_grammar.specs.declared.tree.Block.{Block}
use Rattle.hcl_grammar.specs.declared.tree.Label.{Label}
use Rattle.hcl_token.specs.Tokens.{Pair}
use Rattle.tf_rules.specs.declared.finding.Finding.{Finding}
use Rattle.tf_rules.specs.declared.finding.NameKind.{NameKind}
use Rattle.tf_rules.specs.declared.finding.NameKind.TheVariants.{Resource, Data, Variable, Output, Module}
use Rattle.tf_rules.specs.declared.finding.NameKind.TheVariants.{Local}
use Rattle.tf_rules.specs.declared.rule.Rule.TheVariants.{NamingConvention}
use Rattle.tf_rules.specs.Findings.{finding_at}
use Rattle.tf_rules.specs.Attributes.{attributes}
use Rattle.tf_rules.specs.SnakeCase.{is_snake_case}
use Rattle.tf_rules.specs.Spelling.{token_text, name_text}

-- the finding at these tokens, if the name is not in snake_case
abbrev pub naming_finding : List Pair → NameKind → Option ℕ → ℕ → ℕ → List Finding
naming_finding pairs named name first past =
    if is_snake_case (name_text pairs name) then []
    else finding_at NamingConvention first past
    (record { kind = Some named; name = name }) None

-- what a block that begins with this word declares, and the number of the label that names it
abbrev pub declared_name : List ℕ → Option (NameKind × ℕ)
declared_name kind =
    if bytes_eq kind (codes "resource") then Some (Resource, 1)
    else (if bytes_eq kind (codes "data") then Some (Data, 1)
    else (if bytes_eq kind (codes "variable") then Some (Variable, 0)
    else (if bytes_eq kind (codes "output") then Some (Output, 0)
    else (if bytes_eq kind (codes "module") then Some (Module, 0)
    else None))))

abbrev pub label_findings : List Pair → NameKind → Option Label → List Finding
label_findings pairs named None = []
label_findings pairs named (Some l) = naming_finding pairs named l.name l.first l.past

abbrev pub declared_findings : List Pair → Block → Option (NameKind × ℕ) → List Finding
declared_findings pairs b None = []
declared_findings pairs b (Some (named, i)) = label_findings pairs named (slice_get b.labels i)

abbrev pub local_findings : List Pair → Attribute → List Finding
local_findings pairs a = naming_finding pairs Local (Some a.name) a.name (a.name + 1)

-- in a block `locals` each attribute has a name
abbrev pub locals_findings : List Pair → Block → List Finding
locals_findings pairs b =
    if bytes_eq (token_text pairs b.block_type) (codes "locals")
    then flat_map (local_findings pairs) (attributes b) else []

-- at the label that names what the block declares, and at each name in `locals`
abbrev pub naming_findings : List Pair → Block → List Finding
naming_findings pairs b =
    declared_findings pairs b (declared_name (token_text pairs b.block_type)) ++ locals_findings pairs b
