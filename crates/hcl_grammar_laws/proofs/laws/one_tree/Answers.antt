use Rattle.hcl_grammar_laws.proofs.Whole.{one_tree}
use Rattle.hcl_grammar_laws.proofs.laws.one_tree.Goals as goal

pub returns : goal.returns
returns c = one_tree
