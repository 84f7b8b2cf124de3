-- Quoted text that is one interpolation. TFLint ruleset for the Terraform language,
-- terraform_deprecated_interpolation.
use Rattle.std.specs.Prelude.{ℕ, ◌+◌, ◌-◌, not, ◌&&◌, ◌||◌, if◌then◌else◌, Bool, true, false, List, [], ◌∷◌}
use Rattle.std.specs.Prelude.{Option, Some, None}
use Rattle.hcl_grammar.specs.declared.tree.Expr.{Expr}
use Rattle.hcl_grammar.specs.declared.tree.ExprKind.{out-ExprKind}
use Rattle.hcl_grammar.specs.declared.tree.ExprKind.TheOpen.{ExprKind-F, Part-F}
use Rattle.hcl_grammar.specs.declared.tree.Part.{Part, out-Part}
use Rattle.hcl_grammar.specs.declared.tree.Template.{Template}
use Rattle.hcl_token.specs.Tokens.{Pair}
use Rattle.tf_rules.specs.declared.finding.Finding.{Finding}
use Rattle.tf_rules.specs.declared.fix.Insertion.TheVariants.{Nothing}
use Rattle.tf_rules.specs.Fixes.{kept, keep_one, when}
use Rattle.tf_rules.specs.declared.rule.Rule.TheVariants.{DeprecatedInterpolation}
use Rattle.tf_rules.specs.Findings.{plain_message, finding_at}
use Rattle.tf_rules.specs.declared.role.Role.{Role}
use Rattle.tf_rules.specs.declared.role.Role.TheVariants.{ObjectKey, Elsewhere}
use Rattle.tf_rules.specs.declared.summary.Pieces.{Pieces}
use Rattle.tf_rules.specs.declared.summary.Pieces.TheVariants as pieces
use Rattle.hcl_grammar.specs.TreeLayers.{ExprKindLayer, PartLayer}
use Rattle.tf_rules.specs.Trivia.{token_range, has_line_end}

-- a term with its tails, if any: no operator and no conditional
abbrev pub is_post_kind : ExprKindLayer → Bool
is_post_kind (ExprKind-F.Postfix t tails) = true
is_post_kind (ExprKind-F.Term t) = true
is_post_kind _ = false

abbrev pub is_post : Expr → Bool
is_post e = is_post_kind (out-ExprKind e.kind)

-- the expression of a part that is an interpolation
abbrev pub part_interpolation : PartLayer → Option Expr
part_interpolation (Part-F.Interp e) = Some e
part_interpolation _ = None

-- the expression of the interpolation that is all of the parts
abbrev pub sole_part : List Part → Option Expr
sole_part [] = None
sole_part (x ∷ []) = part_interpolation (out-Part x)
sole_part (x ∷ y ∷ xs) = None

abbrev pub is_object_key : Role → Bool
is_object_key ObjectKey = true
is_object_key _ = false

abbrev pub is_elsewhere : Role → Bool
is_elsewhere Elsewhere = true
is_elsewhere _ = false

-- Quoted text from token `first` to token `past` (exclusive) that is an interpolation of this
-- expression. What is inside of the interpolation, comments too, begins two tokens after the quote
-- and ends two before the end. It can be written without quotes and braces if no line end would
-- then be outside of brackets, and if it is a term with its tails, or the whole value at its place.
abbrev pub is_interpolation_fixable : List Pair → Role → ℕ → ℕ → Expr → Bool
is_interpolation_fixable pairs role first past e =
    not (has_line_end (token_range pairs (first + 2) (past - 2)))
    && (is_post e || not (is_elsewhere role))

-- One at quoted text that is one interpolation, but for the key of an object.
abbrev pub interpolation_findings : List Pair → Role → ℕ → ℕ → Option Expr → List Finding
interpolation_findings pairs role first past None = []
interpolation_findings pairs role first past (Some e) =
    if is_object_key role then []
    else finding_at DeprecatedInterpolation first past plain_message
    (when (is_interpolation_fixable pairs role first past e)
    (keep_one Nothing (kept (first + 2) (past - 2) Nothing)))

abbrev pub quoted_findings : List Pair → Role → ℕ → ℕ → Template → List Finding
quoted_findings pairs role first past t = interpolation_findings pairs role first past (sole_part t.parts)

-- it may find something at quoted text with these parts
abbrev pub may_find : Pieces → Bool
may_find pieces.Sole = true
may_find _ = false
