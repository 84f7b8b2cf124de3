use Rattle.hcl_grammar_laws.proofs.Quiet.{comment_text_is_ignored}
use Rattle.hcl_grammar_laws.proofs.laws.comment_text_is_ignored.Goals as goal

pub returns : goal.returns
returns c = comment_text_is_ignored
