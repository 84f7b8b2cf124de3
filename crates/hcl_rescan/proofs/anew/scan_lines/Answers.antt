use Rattle.std.proofs.Common.{◌++◌, ◌∙◌, ap, arith, ◌+◌, ◌≤◌, length}
use Rattle.std.specs.List.{slice_range}
use Rattle.hcl_token.specs.Pairs.{spans_from}
use Rattle.hcl_rescan.proofs.TakenLemmas.{lines_scanned}
use Rattle.hcl_rescan.proofs.anew.scan_lines.Goals as goal

pub returns-clause-rescanned : goal.returns-clause-rescanned
returns-clause-rescanned c =
    let text = c.args.text.now in
    let at = c.args.rescanned.now.at in
    let lines = c.in_ok-lines.lines in
    let tokens = c.args.rescanned.now.tokens.items in
    let within : at + c.args.len ≤ length text = omega arith in
    let pushed = c.in_ok-push_relocated.ensures ∙ ap (λ n. tokens ++ spans_from at (slice_range lines.pairs 0 n)) c.len.ensures.value in
    lines_scanned text c.slice.result.now tokens c.push_relocated.new.tokens.items at c.args.len lines c.requires.rescanned within c.slice.ensures c.in_ok-lines.ensures.tokenization
    (c.can_follow_lines.ensures c.if-not-can_follow_lines.false) (c.ends_with_line_end.ensures.ended c.if-not-ends_with_line_end.false) (c.ends_with_line_end.ensures.none c.if-not-ends_with_line_end.false) pushed
