use Rattle.hcl_grammar_laws.proofs.Whole.{derived, only, deeper_only}
use Rattle.hcl_grammar_laws.proofs.laws.file_parser_is_exact.Goals as goal

pub returns : goal.returns
returns c = λ ts b r new h. record { derived = derived ts b r new h; only = only ts b r new h; deeper = deeper_only ts b r new h }
