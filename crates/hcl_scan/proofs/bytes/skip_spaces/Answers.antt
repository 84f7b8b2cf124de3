use Rattle.std.proofs.Common.{arith}
use Rattle.hcl_scan.proofs.FlagLemmas.{whitespace_after}
use Rattle.hcl_scan.proofs.bytes.skip_spaces.Goals as goal

pub returns-then-from-text-clause-value : goal.returns-then-from-text-clause-value
returns-then-from-text-clause-value c =
    omega (arith, whitespace_after c.args.text.now c.args.from c.count_spaces.result (omega (arith, c.count_spaces.ensures.within)) c.count_spaces.ensures.spaces)
