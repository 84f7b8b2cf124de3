use Rattle.std.proofs.Common.{arith}
use Rattle.hcl_scan.proofs.ScannedLemmas.{made}
use Rattle.hcl_scan.proofs.scanned.Scanned.of_tokens.Goals as goal

pub to_u32-requires : goal.to_u32-requires
to_u32-requires c = omega (arith, c.requires.within, c.requires.tokenization.short)

pub invariant_of-result : goal.invariant_of-result
invariant_of-result c = made c.args.text.now c.args.tokens.items c.args.last_gap_at _ c.to_u32.ensures c.requires.order c.requires.within c.requires.tokenization
