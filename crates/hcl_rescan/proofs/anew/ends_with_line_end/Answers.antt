use Rattle.std.proofs.Common.{◌<◌, length, arith, ap, ◌∙◌, ◌-◌}
use Rattle.hcl_token.specs.TokenizedText.{kind_of}
use Rattle.hcl_rescan.proofs.LineLemmas.{last_ends}
use Rattle.hcl_rescan.proofs.anew.ends_with_line_end.Goals as goal

pub returns-then-is_line_end-clause-ended : goal.returns-then-is_line_end-clause-ended
returns-then-is_line_end-clause-ended c = λ _.
    let pairs = c.args.scanned.now.pairs in
    let some : 0 < length pairs = omega arith in
    let is = c.kind.ensures ∙ ap (λ n. kind_of pairs (n - 1)) c.len-count.ensures.value in
    last_ends pairs c.kind.result some is (c.is_line_end.ensures c.if-is_line_end.true)
