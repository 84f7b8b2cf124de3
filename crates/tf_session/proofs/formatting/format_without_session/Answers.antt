-- The layout, as a step with no record before it.
use Rattle.tf_session.proofs.PushChange.{formats}
use Rattle.tf_session.proofs.formatting.format_without_session.Goals as goal

pub returns-clause-rewrites : goal.returns-clause-rewrites
returns-clause-rewrites c =
    formats c.args.text.now c.in_ok-new.new.items (record { scanned = c.in_ok-scanned.scanned; tree = c.in_ok-scanned.ensures.reads.0 })
    c.in_ok-scanned.ensures.reads.1 c.in_ok-new.ensures.layout c.in_ok-new.ensures.short c.in_ok-new.ensures.turns
