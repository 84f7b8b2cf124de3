use Rattle.std.proofs.Common.{arith}
use Rattle.hcl_scan.proofs.TokenCount.{few_tokens}
use Rattle.hcl_scan.proofs.scanned.Scanned.count.Goals as goal

pub overflow_cast-result : goal.overflow_cast-result
overflow_cast-result c = record { fits = omega (arith, c.len.ensures.value, few_tokens _ _ _ c.len.ensures.tokenization) }
