-- One entry more shares nothing; or it may share something, and the answer is no.
use Rattle.std.proofs.Common.{rules, sym, take}
use Rattle.std.proofs.lemmas.Bool.{false≢true}
use Rattle.std.proofs.lemmas.List.{take_all}
use Rattle.tf_program.proofs.Keeping.{placed_one_more, taken_entry}
use Rattle.tf_program.proofs.entry.none_may_share.Goals as goal

pub loop-entry-preserved : goal.loop-entry-preserved
loop-entry-preserved g c =
    let before = take c.loop-entry.entry-index c.args.entries.now in
    rw (taken_entry c.args.entries.now c.loop-entry.entry-index c.entry-item.result c.loop-entry-test.true c.entry-item.is)
    (placed_one_more _ _ _ before c.entry-item.result c.loop-entry.invariant (c.may_share.ensures c.if-may_share.false))

pub returns-then-may_share : goal.returns-then-may_share
returns-then-may_share g c = λ off. absurd (false≢true off)

pub returns : goal.returns
returns g c =
    λ _. rw (sym (take_all c.loop-entry.entry-index c.args.entries.now (search rules))) c.loop-entry.invariant
