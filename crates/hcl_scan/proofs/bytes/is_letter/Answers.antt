use Rattle.std.proofs.Common.{refl, arith}
use Rattle.hcl_scan.specs.declared.bytes.TheConstants.{CLASS}
use Rattle.hcl_scan.specs.Inner.LexemeStarts.{is_letter}
use Rattle.hcl_scan.proofs.TableLemmas.{agree_below, from_table}
use Rattle.hcl_scan.proofs.bytes.is_letter.Goals as goal

pub returns : goal.returns
unfolding agree_below
returns c = from_table CLASS 2 is_letter c.args.b (omega arith) refl
