use Rattle.std.proofs.Common.{rules, ◌≡◌, true}
use Rattle.hcl_explain.specs.ScanExplanations.{IsCommentAfter, of}
use Rattle.hcl_explain.specs.Sequences.{IsEnded}
use Rattle.hcl_explain.specs.declared.scan_error.ScanReason.TheVariants as reason
use Rattle.hcl_explain.proofs.SequenceLemmas.{in_first}
use Rattle.hcl_explain.proofs.scan_error.comment_in.Goals as goal

pub returns-then-branch : goal.returns-then-branch
returns-then-branch c =
    let text = c.args.text.now in
    let opened = c.args.opened in
    let at = c.args.at in
    let is : c.in_ok-is_ended.field-0 ≡ true = first_of (cc, search rules) in
    in_first (λ e. IsCommentAfter text opened at e)
    (λ e. (IsEnded text opened at → ⊥) × (e ≡ of opened reason.Foreign))
    c.comment_after.result (c.in_ok-is_ended.ensures.0 is) c.comment_after.ensures
