use Rattle.std.proofs.Common.{◌≡◌, ◌+◌, false, drop, arith, drop-drop}
use Rattle.hcl_scan.specs.Lexeme.{comment_unit}
use Rattle.hcl_scan.specs.Inner.RunLength.{run_length}
use Rattle.hcl_scan.proofs.token.comment_len.Goals as goal

pub returns : goal.returns
returns c =
    let at = c.args.at in
    let text = c.args.text.now in
    let rest : drop 1 (drop at text) ≡ drop (at + 1) text = drop-drop 1 at text in
    let end : c.run_end.result ≡ at + 1 + run_length comment_unit false (drop (at + 1) text) = c.run_end.ensures.value in
    rw rest (omega (arith, end))
