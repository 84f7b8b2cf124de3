use Rattle.std.proofs.Common.{◌≢◌, ◌≡◌, true, Err, subst, sym}
use Rattle.std.specs.Prelude.{List}
use Rattle.hcl_grammar.specs.Pure.BodyParser as spec
use Rattle.hcl_grammar.specs.Pure.NodeMakers.{nodes}
use Rattle.hcl_grammar.specs.declared.fault.TokenFault.{TokenFault}
use Rattle.hcl_grammar.specs.declared.fault.TokenFault.TheVariants.{Memory}
use Rattle.hcl_grammar.specs.declared.tree.Member.{Member}
use Rattle.hcl_grammar.specs.declared.bounds.TheConstants.{MAX_NESTING}
use Rattle.hcl_scan.specs.Follows.{tokens_of}
use Rattle.tf_lint.specs.Inner.BodyFindings.{AreBodyFindings}
use Rattle.hcl_tree.proofs.Passing.{body_refused, end_refused, file_read, file_tree}
use Rattle.tf_lint.proofs.FileLemmas.{residual, its_members}
use Rattle.tf_lint.proofs.text_findings.lint_file.Goals as goal

pub returns-in_err-members-clause-fault : goal.returns-in_err-members-clause-fault
returns-in_err-members-clause-fault c =
    let ts = tokens_of c.args.search.now.scanned.now.pairs in
    let i = c.args.at.now in
    let f = c.in_err-members.field-0.0 in
    residual c.from_residual.result f (λ (e : TokenFault). e ≢ Memory → spec.file nodes ts MAX_NESTING i ≡ Err e) c.from_residual.ensures
    (body_refused ts MAX_NESTING i f c.eat-is_mark.new.at (rw c.new-reader.ensures at c.eat-is_mark.ensures.after) c.in_err-members.ensures.fault)

pub returns-in_err-expect_end-clause-fault : goal.returns-in_err-expect_end-clause-fault
returns-in_err-expect_end-clause-fault c =
    let ts = tokens_of c.args.search.now.scanned.now.pairs in
    let i = c.args.at.now in
    let f = c.in_err-expect_end.field-0.0 in
    let linted = c.in_ok-members.ensures.members_linted in
    residual c.from_residual-in_err-expect_end.result f (λ (e : TokenFault). e ≢ Memory → spec.file nodes ts MAX_NESTING i ≡ Err e) c.from_residual-in_err-expect_end.ensures
    (λ _. end_refused ts MAX_NESTING i linted.0 f c.eat-is_mark.new.at c.lint_body.new.at c.eat-is_comment.new.at (rw c.new-reader.ensures at c.eat-is_mark.ensures.after) linted.1 (rw c.new-reader.ensures at c.eat-is_comment.ensures.after) (rw c.new-reader.ensures at c.in_err-expect_end.ensures))

pub returns-clause-found : goal.returns-clause-found
returns-clause-found c =
    let ts = tokens_of c.args.search.now.scanned.now.pairs in
    let i = c.args.at.now in
    let linted = c.in_ok-members.ensures.members_linted in
    let j = c.lint_body.new.at in (
      file_tree ts MAX_NESTING i linted.0 j,
      file_read ts MAX_NESTING i linted.0 c.eat-is_mark.new.at j c.eat-is_comment.new.at c.expect_end.new.at (rw c.new-reader.ensures at c.eat-is_mark.ensures.after) linted.1 (rw c.new-reader.ensures at c.eat-is_comment.ensures.after) (rw c.new-reader.ensures at c.in_ok-expect_end.ensures),
      subst (λ (ms : List Member). AreBodyFindings c.args.search.now.rules c.args.search.now.scanned.now.pairs ms c.in_ok-members.members) (sym (its_members ts MAX_NESTING i linted.0 j)) linted.2,
    )
