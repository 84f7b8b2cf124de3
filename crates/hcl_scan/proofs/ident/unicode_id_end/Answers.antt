use Rattle.std.proofs.Common.{arith, ◌≡◌, drop, ap}
use Rattle.std.specs.Str.{chars}
use Rattle.hcl_scan.specs.Inner.NextToken.{id_continue_length}
use Rattle.hcl_scan.proofs.IdentLemmas.{chars_end}
use Rattle.hcl_scan.proofs.ident.unicode_id_end.Goals as goal

pub returns-clause-value : goal.returns-clause-value
returns-clause-value c =
    let none : id_continue_length (chars (drop c.loop-at.at c.args.text.now)) ≡ 0 =
    ap id_continue_length (chars_end c.args.text.now c.loop-at.at c.loop-at-test.false) in
    omega (arith, c.loop-at.invariant.counted, none)
