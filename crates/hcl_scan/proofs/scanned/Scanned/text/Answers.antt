use Rattle.hcl_scan.proofs.ScannedLemmas.{tokenization_is, utf8_is}
use Rattle.hcl_scan.proofs.scanned.Scanned.text.Goals as goal

pub returns-clause-tokenization : goal.returns-clause-tokenization
returns-clause-tokenization c = tokenization_is c.self.inside.text.now c.self.inside.tokens.items c.self.inside.last_gap_at _ c.self.view_is c.self.invariant

pub returns-clause-utf8 : goal.returns-clause-utf8
returns-clause-utf8 c = utf8_is c.self.inside.text.now c.self.inside.tokens.items c.self.inside.last_gap_at _ c.self.view_is c.self.invariant
