use Rattle.std.proofs.Common.{arith, ◌+◌}
use Rattle.edit_record.proofs.EditSums.{valid}
use Rattle.edit_record.proofs.edit_sums.EditSums.new_len.Goals as goal

pub returns : goal.returns
returns c =
    let long = c.if-old_len-gt-MAX_TEXT.false in
    let fits = c.if-self-old_len.false in
    let kept = c.saturating_sub-kept.ensures in
    let few = c.if-self-kept.false in
    λ es h. valid c.args.old_len (c.saturating_sub-kept.result + c.args.self.added) es c.args.self h (omega (arith, fits)) (omega (arith, long))
    (omega (arith, kept, few, long)) (omega (arith, kept, few, long)) (omega (arith, kept))
