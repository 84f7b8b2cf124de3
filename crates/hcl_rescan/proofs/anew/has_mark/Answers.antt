use Rattle.hcl_rescan.proofs.LineLemmas.{unmarked}
use Rattle.hcl_rescan.proofs.anew.has_mark.Goals as goal

pub returns-in_default : goal.returns-in_default
returns-in_default c = λ _. unmarked c.args.scanned.now.pairs c.args.scanned.now.last c.kind.result (c.tokenization_follows_modes.ensures _ _ _ c.len-count.ensures.tokenization) c.kind.ensures c.in_default.not-Mark
