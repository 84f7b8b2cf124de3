use Rattle.std.proofs.Common.{Some, arith, ap, sym, ◌∙◌}
use Rattle.hcl_rescan.proofs.line_starts.last_line_end.Goals as goal

pub returns-then-is_line_end : goal.returns-then-is_line_end
returns-then-is_line_end c = (
  omega (arith, c.loop-left-test.true),
  omega (arith, c.loop-left-test.true, c.loop-left.invariant),
  sym c.kind.ensures ∙ ap Some (c.is_line_end.ensures c.if-is_line_end.true),
)
