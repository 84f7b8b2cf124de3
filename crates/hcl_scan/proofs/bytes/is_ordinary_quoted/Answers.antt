use Rattle.std.proofs.Common.{refl, arith}
use Rattle.hcl_scan.specs.declared.bytes.TheConstants.{CLASS}
use Rattle.hcl_scan.specs.Inner.RunLength.{is_ordinary_quoted}
use Rattle.hcl_scan.proofs.TableLemmas.{agree_below, from_table}
use Rattle.hcl_scan.proofs.bytes.is_ordinary_quoted.Goals as goal

pub returns : goal.returns
unfolding agree_below
returns c = from_table CLASS 4 is_ordinary_quoted c.args.b (omega arith) refl
