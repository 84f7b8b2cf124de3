use Rattle.hcl_grammar_laws.proofs.Whole.{weaken}
use Rattle.hcl_grammar_laws.proofs.laws.nesting_is_monotone.Goals as goal

pub returns : goal.returns
returns c = weaken
