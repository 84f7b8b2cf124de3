use Rattle.std.proofs.Common.{arith}
use Rattle.edit_record.proofs.EditSums.{one_more}
use Rattle.edit_record.proofs.edit_sums.EditSums.with.Goals as goal

pub returns-clause-summed : goal.returns-clause-summed
returns-clause-summed c =
    let later = c.if-at-self.false in
    λ es x at removed added h. one_more es x c.args.self _ h (omega (arith, later, at)) (omega (arith, c.if-adds-eq0.either, removed, added))
    (omega (arith, c.saturating_add.ensures, at, removed))
    (omega (arith, c.saturating_add-2.ensures, removed))
    (omega (arith, c.saturating_add-3.ensures, added))
