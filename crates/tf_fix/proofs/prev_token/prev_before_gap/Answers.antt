use Rattle.tf_fix.specs.Edits.Parts.{boundary_index}
use Rattle.tf_fix.specs.Inner.Views.{prev_view}
use Rattle.tf_fix.proofs.PrevTokenLemmas.{is_not, prev_token}
use Rattle.tf_fix.proofs.prev_token.prev_before_gap.Goals as goal

pub returns-else-is_before_gap : goal.returns-else-is_before_gap
returns-else-is_before_gap c =
    prev_token c.args.scanned.now.pairs c.args.scanned.now.last (prev_view c.args.prev) (boundary_index c.args.from) c.args.i (prev_view c.token_at.result)
    c.requires.order (is_not c.is_before_gap.result c.is_before_gap.ensures c.if-is_before_gap.false) c.requires.within c.token_at.ensures
