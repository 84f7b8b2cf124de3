use Rattle.std.proofs.Common.{sym, ◌∙◌}
use Rattle.tf_rules.proofs.rules.equality.check_operation.Goals as goal

pub returns-then-is_empty_list : goal.returns-then-is_empty_list
returns-then-is_empty_list c =
    rw (sym c.is_equality.ensures ∙ c.if-not-is_equality.false, sym c.is_empty_list.ensures ∙ c.if-is_empty_list.true, ← c.is_comparison_fixable-fixable.ensures, ← c.is_double_equal-is_zero_test.ensures) c.add_comparison.ensures

pub returns-then-is_empty_list-2 : goal.returns-then-is_empty_list-2
returns-then-is_empty_list-2 c =
    rw (
      sym c.is_equality.ensures ∙ c.if-not-is_equality.false,
      sym c.is_empty_list.ensures ∙ c.if-is_empty_list.false,
      c.if-is_first.true,
      sym c.is_empty_list-then-is_first.ensures ∙ c.if-is_empty_list-2.true,
      ← c.is_comparison_fixable-fixable-then-is_empty_list-2.ensures,
      ← c.is_double_equal-is_zero_test.ensures,
    ) c.add_comparison-then-is_empty_list-2.ensures
