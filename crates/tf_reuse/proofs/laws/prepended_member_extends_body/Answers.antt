use Rattle.hcl_grammar_laws.proofs.BodySound.{member_first}
use Rattle.tf_reuse.proofs.laws.prepended_member_extends_body.Goals as goal

pub returns : goal.returns
returns c = λ ts d x ms i n l one others. member_first one others
