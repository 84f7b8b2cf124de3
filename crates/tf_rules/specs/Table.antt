-- The rules: one line for each. TFLint ruleset for the Terraform language.
use Rattle.std.specs.Prelude.{ℕ, Bool, true, false, List, [], ◌∷◌, ◌++◌, codes}
use Rattle.tf_rules.specs.declared.rule.Rule.{Rule}
use Rattle.tf_rules.specs.declared.rule.Rule.TheVariants.{CommentSyntax, DeprecatedIndex}
use Rattle.tf_rules.specs.declared.rule.Rule.TheVariants.{DeprecatedInterpolation, EmptyListEquality}
use Rattle.tf_rules.specs.declared.rule.Rule.TheVariants.{DeprecatedLookup, NamingConvention, TypedVariables}
use Rattle.tf_rules.specs.declared.rule.Rule.TheVariants.{DocumentedVariables, DocumentedOutputs}
use Rattle.tf_rules.specs.declared.rule.Severity.{Severity}
use Rattle.tf_rules.specs.declared.rule.Severity.TheVariants.{Warning, Notice}

-- what is the same in each finding of a rule
pub record RuleInfo : Type 0 where
  -- its number in the order of reports
  pub index : ℕ
  pub name : List ℕ
  pub severity : Severity
  -- whether a fix has a step for it
  pub has_fix : Bool
  -- what its message says before the name, and after it
  pub before : List ℕ
  pub after : List ℕ

abbrev info : ℕ → List ℕ → Severity → Bool → List ℕ → List ℕ → RuleInfo
info index name severity has_fix before after =
    record {
      index = index;
      name = name;
      severity = severity;
      has_fix = has_fix;
      before = before;
      after = after;
    }

abbrev pub info_of : Rule → RuleInfo
info_of CommentSyntax =
    info 0 (codes "terraform_comment_syntax") Warning true
    (codes "Single line comments should begin with #") (codes "")
info_of DeprecatedIndex =
    info 1 (codes "terraform_deprecated_index") Warning true
    (codes "Legacy dot index syntax, use square brackets") (codes "")
info_of DeprecatedInterpolation =
    info 2 (codes "terraform_deprecated_interpolation") Warning true
    (codes "Interpolation-only expression, write the expression itself") (codes "")
info_of EmptyListEquality =
    info 3 (codes "terraform_empty_list_equality") Warning true
    (codes "Comparison with an empty list, check the length instead") (codes "")
info_of DeprecatedLookup =
    info 4 (codes "terraform_deprecated_lookup") Warning true
    (codes "lookup with two arguments, use square brackets") (codes "")
info_of NamingConvention =
    info 5 (codes "terraform_naming_convention") Notice false (codes " name \"")
    (codes "\" is not snake_case")
info_of TypedVariables =
    info 6 (codes "terraform_typed_variables") Warning false (codes "variable \"")
    (codes "\" has no type")
info_of DocumentedVariables =
    info 7 (codes "terraform_documented_variables") Notice false (codes "variable \"")
    (codes "\" has no description")
info_of DocumentedOutputs =
    info 8 (codes "terraform_documented_outputs") Notice false (codes "output \"")
    (codes "\" has no description")

-- the rules in the order of reports
abbrev pub all_rules : List Rule
all_rules = CommentSyntax ∷ DeprecatedIndex ∷ DeprecatedInterpolation ∷ EmptyListEquality
    ∷ DeprecatedLookup ∷ NamingConvention ∷ TypedVariables ∷ DocumentedVariables
    ∷ DocumentedOutputs ∷ []

abbrev pub index_of : Rule → ℕ
index_of rule = (info_of rule).index

abbrev pub name_of : Rule → List ℕ
name_of rule = (info_of rule).name

abbrev pub severity_of : Rule → Severity
severity_of rule = (info_of rule).severity

-- whether a fix has a step for the rule; the order of the table is that of the steps
abbrev pub has_fix : Rule → Bool
has_fix rule = (info_of rule).has_fix

-- whether the rule is that on comments, whose fixes change the inside of a token
abbrev pub is_comment_rule : Rule → Bool
is_comment_rule CommentSyntax = true
is_comment_rule _ = false

abbrev pub label_of : Severity → List ℕ
label_of Warning = codes "Warning"
label_of Notice = codes "Notice"

-- what a line of a report says before the name that it quotes, where no word says what is named:
-- : SEVERITY - BEFORE
abbrev pub line_opening_of : Rule → List ℕ
line_opening_of rule =
    codes ": " ++ (label_of (severity_of rule) ++ (codes " - " ++ (info_of rule).before))

-- what a line of a report says after the name that it quotes: AFTER (RULE), and LF
abbrev pub line_closing_of : Rule → List ℕ
line_closing_of rule = (info_of rule).after ++ (codes " (" ++ (name_of rule ++ codes ")\n"))
