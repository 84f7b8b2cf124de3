use Rattle.std.proofs.Common.{sym, ◌∙◌}
use Rattle.hcl_token.proofs.ClusterLemmas.{clusters-ascii}
use Rattle.hcl_token.proofs.graphemes.clusters.Goals as goal

pub returns-then-is_ascii_without_cr : goal.returns-then-is_ascii_without_cr
returns-then-is_ascii_without_cr c = sym (clusters-ascii c.args.text.now (sym c.is_ascii_without_cr.ensures ∙ c.if-is_ascii_without_cr.true))
