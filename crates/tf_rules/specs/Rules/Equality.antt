-- Comparisons with an empty list. TFLint ruleset for the Terraform language,
-- terraform_empty_list_equality.
use Rattle.std.specs.Prelude.{ℕ, ◌+◌, ◌-◌, not, ◌&&◌, ◌==◌, Bool, true, false, List, [], ◌∷◌, ◌++◌}
use Rattle.std.specs.Prelude.{if◌then◌else◌}
use Rattle.hcl_grammar.specs.declared.tree.Expr.{Expr}
use Rattle.hcl_grammar.specs.declared.tree.ExprKind.{out-ExprKind}
use Rattle.hcl_grammar.specs.declared.tree.ExprKind.TheOpen.{ExprKind-F, Primary-F}
use Rattle.hcl_grammar.specs.declared.tree.Operation.{Operation}
use Rattle.hcl_grammar.specs.declared.tree.BinaryOperator.{BinaryOperator}
use Rattle.hcl_grammar.specs.declared.tree.BinaryOperator.TheVariants as operator
use Rattle.hcl_grammar.specs.declared.tree.Primary.{out-Primary}
use Rattle.hcl_token.specs.Tokens.{Pair}
use Rattle.tf_rules.specs.declared.fix.Fix.{Fix}
use Rattle.tf_rules.specs.declared.fix.Insertion.TheVariants.{Length, IsZero, IsPositive}
use Rattle.tf_rules.specs.Fixes.{kept, keep_one, when}
use Rattle.tf_rules.specs.declared.rule.Rule.TheVariants.{EmptyListEquality}
use Rattle.tf_rules.specs.declared.summary.Value.{Value}
use Rattle.tf_rules.specs.declared.summary.Value.TheVariants as value
use Rattle.tf_rules.specs.Findings.{plain_message, finding_at}
use Rattle.tf_rules.specs.declared.finding.Finding.{Finding}
use Rattle.hcl_grammar.specs.TreeLayers.{ExprKindLayer, PrimaryLayer}
use Rattle.tf_rules.specs.Trivia.{token_range, has_trivia, is_here_close}

-- `==` or `!=`
abbrev pub is_equality : BinaryOperator → Bool
is_equality operator.Equal = true
is_equality operator.NotEqual = true
is_equality _ = false

abbrev pub is_empty_list_primary : PrimaryLayer → Bool
is_empty_list_primary (Primary-F.Tuple []) = true
is_empty_list_primary _ = false

abbrev pub is_empty_list_kind : ExprKindLayer → Bool
is_empty_list_kind (ExprKind-F.Term t) = is_empty_list_primary (out-Primary t.kind)
is_empty_list_kind _ = false

-- an empty list by itself, without tails and parentheses
abbrev pub is_empty_list : Expr → Bool
is_empty_list e = is_empty_list_kind (out-ExprKind e.kind)

-- `==`
abbrev pub is_double_equal : BinaryOperator → Bool
is_double_equal operator.Equal = true
is_double_equal _ = false

-- a comparison with an empty list
pub record Comparison : Type 0 where
  pub list : Expr
  -- the tokens of the operand that it is compared with, up to number `operand_past` (exclusive)
  pub operand_first : ℕ
  pub operand_past : ℕ
  -- the tokens between the two, up to number `between_past` (exclusive)
  pub between_first : ℕ
  pub between_past : ℕ

-- the list is on the right, and is compared with all of the chain before the operator
abbrev pub list_on_right : ℕ → Expr → Operation → Comparison
list_on_right first left link =
    record {
      list = link.operand;
      operand_first = first;
      operand_past = left.past;
      between_first = left.past;
      between_past = link.operand.first;
    }

-- the list is on the left
abbrev pub list_on_left : Expr → Operation → Comparison
list_on_left left link =
    record {
      list = left;
      operand_first = link.operand.first;
      operand_past = link.operand.past;
      between_first = left.past;
      between_past = link.operand.first;
    }

-- It can be written as a length if the list's brackets have nothing between them, no comment or
-- line end is next to the operator, and the operand does not end with a heredoc.
abbrev pub is_comparison_fixable : List Pair → Comparison → Bool
is_comparison_fixable pairs c =
    (c.list.past == c.list.first + 2)
    && (not (has_trivia (token_range pairs c.between_first c.between_past))
    && not (is_here_close pairs (c.operand_past - 1)))

-- `length(`, the tokens of the operand, `) == 0` or `) > 0`
abbrev pub length_fix : ℕ → ℕ → Bool → Fix
length_fix from to zero = keep_one Length (kept from to (if zero then IsZero else IsPositive))

-- the finding, in a chain that begins at token first: up to the end of the operand on the right
abbrev pub comparison_findings : List Pair → ℕ → Operation → Comparison → List Finding
comparison_findings pairs first link c =
    finding_at EmptyListEquality first link.operand.past plain_message
    (when (is_comparison_fixable pairs c)
    (length_fix c.operand_first c.operand_past (is_double_equal link.operator)))

-- Which operand of an operator is the empty list: the right one, or else, at the first operator of
-- a chain, `left`, which is the expression before it.
abbrev pub by_list : Bool → Expr → Operation → List Finding → List Finding → List Finding
    → List Finding
by_list is_first left link right_is left_is neither_is =
    if is_empty_list link.operand then right_is
    else (if is_first && is_empty_list left then left_is else neither_is)

-- the comparison at an operator that follows this expression, in a chain that begins at token first
abbrev pub operation_findings : List Pair → ℕ → Bool → Expr → Operation → List Finding
operation_findings pairs first is_first left link =
    if is_equality link.operator
    then by_list is_first left link
    (comparison_findings pairs first link (list_on_right first left link))
    (comparison_findings pairs first link (list_on_left left link)) []
    else []

-- one at each operator of a chain that compares with an empty list
abbrev pub chain_findings : List Pair → ℕ → Bool → Expr → List Operation → List Finding
chain_findings pairs first is_first left [] = []
chain_findings pairs first is_first left (link ∷ links) =
    operation_findings pairs first is_first left link
    ++ chain_findings pairs first false link.operand links

-- it may find something at an operator one of whose operands has this summary
abbrev pub may_find : Value → Bool
may_find value.EmptyList = true
may_find _ = false
