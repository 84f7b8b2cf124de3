use Rattle.hcl_text_laws.proofs.Apart.{parsed_tokens_are_apart}
use Rattle.hcl_text_laws.proofs.laws.parsed_tokens_are_apart.Goals as goal

pub returns : goal.returns
returns c = parsed_tokens_are_apart c.no_glue.ensures
