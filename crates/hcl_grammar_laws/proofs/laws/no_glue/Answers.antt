use Rattle.hcl_grammar_laws.proofs.Neat.{no_glue}
use Rattle.hcl_grammar_laws.proofs.laws.no_glue.Goals as goal

pub returns : goal.returns
returns c = no_glue
