use Rattle.tf_lint.proofs.OneFixLemmas.{one_fix}
use Rattle.tf_lint.proofs.laws.fix_is_unique.Goals as goal

pub returns : goal.returns
returns c = one_fix c.one_tokenization.ensures c.one_parse.ensures c.findings_are_unique.ensures c.squash_all_is_unique.ensures
