use Rattle.std.proofs.Common.{sym, arith}
use Rattle.hcl_reader.proofs.Places.{next-at-end}
use Rattle.hcl_reader.proofs.lookahead.next_token.Goals as goal

pub returns-clause-kind : goal.returns-clause-kind
returns-clause-kind c = sym (next-at-end c.args.scanned.now.pairs c.args.skip_newlines c.args.at c.skip.i c.skip.invariant.0 (omega (arith, c.skip-test.false, c.count-end.ensures)))
