use Rattle.tf_session.proofs.FmtAgain.{fmt_keeps_tokens}
use Rattle.tf_session.proofs.laws.fmt_keeps_tokens.Goals as goal

pub returns : goal.returns
returns c = fmt_keeps_tokens c.layout_keeps_tokens.ensures
