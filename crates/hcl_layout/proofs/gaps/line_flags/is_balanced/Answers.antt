use Rattle.hcl_layout.proofs.GapsLemmas.CellCode.{balanced_after}
use Rattle.hcl_layout.proofs.gaps.line_flags.is_balanced.Goals as goal

pub returns-then-opened_before-closed_before : goal.returns-then-opened_before-closed_before
returns-then-opened_before-closed_before c =
    balanced_after c.args.scanned.now.pairs c.args.at c.args.i c.args.line.past c.count_brackets-opened_before.result.0 c.count_brackets-opened_before.result.1 c.args.line.is_balanced
    c.requires.later c.requires.ordered c.count_brackets-opened_before.ensures.opened c.count_brackets-opened_before.ensures.closed c.if-opened_before-closed_before.true c.requires.flags.is_balanced
