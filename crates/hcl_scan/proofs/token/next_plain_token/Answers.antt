use Rattle.hcl_scan.specs.Modes.Mode.{Expression}
use Rattle.hcl_scan.proofs.Steps.{expression_within, gap_at}
use Rattle.hcl_scan.proofs.token.next_plain_token.Goals as goal

pub expression_token-found-requires-clause-utf8 : goal.expression_token-found-requires-clause-utf8
expression_token-found-requires-clause-utf8 c =
    let start = rw c.as_bytes-bytes.ensures.value at c.skip_whitespace-start.ensures.value in
    (gap_at c.args.text.now Expression c.args.at c.skip_whitespace-start.result.0 c.requires.within c.requires.utf8 start).utf8

pub returns-clause-within : goal.returns-clause-within
returns-clause-within c =
    let start = rw c.as_bytes-bytes.ensures.value at c.skip_whitespace-start.ensures in
    let utf8 = (gap_at c.args.text.now Expression c.args.at c.skip_whitespace-start.result.0 c.requires.within c.requires.utf8 start.value).utf8 in
    expression_within c.can_close_sequence.result c.args.text.now c.skip_whitespace-start.result.0 start.within utf8 _ c.expression_token-found.ensures.token
