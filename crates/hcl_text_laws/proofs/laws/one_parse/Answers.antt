use Rattle.hcl_text_laws.proofs.OneParse.{one_parse}
use Rattle.hcl_text_laws.proofs.laws.one_parse.Goals as goal

pub returns : goal.returns
returns c = one_parse c.one_tokenization.ensures c.one_tree.ensures
