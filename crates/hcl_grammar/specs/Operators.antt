-- Operators and their levels.
-- HCL native syntax specification, Operations.
use Rattle.std.specs.Prelude.{ℕ, Option, Some, None}
use Rattle.hcl_token.specs.declared.kind.Kind.{Kind}
use Rattle.hcl_token.specs.declared.kind.Kind.TheVariants as k
use Rattle.hcl_grammar.specs.declared.tree.UnaryOperator.{UnaryOperator}
use Rattle.hcl_grammar.specs.declared.tree.UnaryOperator.TheVariants as prefix
use Rattle.hcl_grammar.specs.declared.tree.BinaryOperator.{BinaryOperator}
use Rattle.hcl_grammar.specs.declared.tree.BinaryOperator.TheVariants as operator

-- the operator before an operand
abbrev pub unary_operator : Kind → Option UnaryOperator
unary_operator k.Minus = Some prefix.Minus
unary_operator k.Bang = Some prefix.Not
unary_operator _ = None

-- the operator between two operands
abbrev pub operator_between : Kind → Option BinaryOperator
operator_between k.Star = Some operator.Times
operator_between k.Slash = Some operator.Divide
operator_between k.Percent = Some operator.Modulo
operator_between k.Plus = Some operator.Plus
operator_between k.Minus = Some operator.Minus
operator_between k.Greater = Some operator.Greater
operator_between k.GreaterEqual = Some operator.GreaterEqual
operator_between k.Less = Some operator.Less
operator_between k.LessEqual = Some operator.LessEqual
operator_between k.DoubleEqual = Some operator.Equal
operator_between k.NotEqual = Some operator.NotEqual
operator_between k.And = Some operator.And
operator_between k.Or = Some operator.Or
operator_between _ = None

-- its level: level 0 binds closest
abbrev pub operator_level : BinaryOperator → ℕ
operator_level operator.Times = 0
operator_level operator.Divide = 0
operator_level operator.Modulo = 0
operator_level operator.Plus = 1
operator_level operator.Minus = 1
operator_level operator.Greater = 2
operator_level operator.GreaterEqual = 2
operator_level operator.Less = 2
operator_level operator.LessEqual = 2
operator_level operator.Equal = 3
operator_level operator.NotEqual = 3
operator_level operator.And = 4
operator_level operator.Or = 5

-- how many levels there are
abbrev pub levels : ℕ
levels = 6

abbrev pub with_level : Option BinaryOperator → Option (ℕ × BinaryOperator)
with_level None = None
with_level (Some x) = Some (operator_level x, x)

-- the operator between two operands, with its level
abbrev pub binary_operator : Kind → Option (ℕ × BinaryOperator)
binary_operator t = with_level (operator_between t)
