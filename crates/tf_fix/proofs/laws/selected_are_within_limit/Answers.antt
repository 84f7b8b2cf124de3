use Rattle.std.proofs.Common.{arith}
use Rattle.hcl_scan.proofs.TokenCount.{few_tokens}
use Rattle.tf_fix.proofs.SelectionLemmas.{selected_few}
use Rattle.tf_fix.proofs.laws.selected_are_within_limit.Goals as goal

pub returns : goal.returns
returns c = λ text pairs last findings tokenized valid. omega (arith, few_tokens text pairs last tokenized, selected_few pairs findings valid)
