use Rattle.tf_session.proofs.FmtAgain.{fmt_changes_once}
use Rattle.tf_session.proofs.laws.fmt_is_idempotent.Goals as goal

pub returns : goal.returns
returns c = fmt_changes_once c.layout_of_layout.ensures
