use Rattle.std.proofs.Common.{sym, subst}
use Rattle.hcl_token.specs.TokenizedText.{TokenizedText}
use Rattle.hcl_scan.specs.TokenLists.{IsTokenListOf}
use Rattle.tf_lint.specs.LintedMembers.{AreLintedMembers}
use Rattle.tf_lint.proofs.relint.into_previous.Goals as goal

pub returns-clause-before : goal.returns-clause-before
returns-clause-before c = λ p is. record {
  tokens = subst (λ (x : TokenizedText). IsTokenListOf x c.detach.result) (sym is.same) c.detach.ensures;
  reads = is.reads;
  members_linted = subst (λ (x : TokenizedText). AreLintedMembers c.args.linted.rules x.pairs c.args.linted.members.items) (sym is.same) is.members_linted;
}
