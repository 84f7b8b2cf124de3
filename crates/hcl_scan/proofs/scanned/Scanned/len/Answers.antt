use Rattle.std.proofs.Common.{arith}
use Rattle.hcl_token.proofs.TokensLemmas.{number_is}
use Rattle.hcl_scan.proofs.ScannedLemmas.{tokenization_is}
use Rattle.hcl_scan.proofs.scanned.Scanned.len.Goals as goal

pub returns-clause-value : goal.returns-clause-value
returns-clause-value c = omega (arith, c.len.ensures, number_is _ _ _ _ (record { view = c.self.view_is; ordered = c.self.invariant.0 }))

pub returns-clause-tokenization : goal.returns-clause-tokenization
returns-clause-tokenization c = tokenization_is c.self.inside.text.now c.self.inside.tokens.items c.self.inside.last_gap_at _ c.self.view_is c.self.invariant
