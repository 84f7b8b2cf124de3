use Rattle.std.proofs.Common.{◌<◌, length, sym, arith}
use Rattle.std.proofs.lemmas.Bool.Decides.{nat_tests}
use Rattle.hcl_scan.proofs.OpeningLemmas.{line_start_after-end}
use Rattle.hcl_scan.proofs.mode.is_line_start_after.Goals as goal

pub returns-else-is_empty : goal.returns-else-is_empty
returns-else-is_empty c =
    let some : 0 < length c.args.text.now = grind (arith, nat_tests) in
    sym (line_start_after-end c.args.at_line_start c.args.text.now some)
