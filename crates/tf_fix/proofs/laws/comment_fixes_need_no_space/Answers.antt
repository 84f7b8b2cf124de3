use Rattle.std.proofs.Common.{refl}
use Rattle.tf_rules.specs.declared.rule.Rule.TheVariants.{CommentSyntax}
use Rattle.tf_fix.proofs.CommentLemmas.{comments_settled}
use Rattle.tf_fix.proofs.laws.comment_fixes_need_no_space.Goals as goal

pub returns : goal.returns
returns c = λ tokenized findings apart of valid. comments_settled CommentSyntax tokenized findings refl apart of valid
