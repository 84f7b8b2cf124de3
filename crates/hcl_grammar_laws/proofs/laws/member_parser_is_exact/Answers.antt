use Rattle.hcl_grammar_laws.proofs.Whole.{member_is}
use Rattle.hcl_grammar_laws.proofs.laws.member_parser_is_exact.Goals as goal

pub returns : goal.returns
returns c = λ ts b i r new h. member_is ts b i r new h
