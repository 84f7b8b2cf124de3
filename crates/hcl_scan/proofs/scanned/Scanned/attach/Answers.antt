use Rattle.hcl_scan.proofs.ScannedLemmas.{attached}
use Rattle.hcl_scan.proofs.scanned.Scanned.attach.Goals as goal

pub invariant_of-result : goal.invariant_of-result
invariant_of-result c = attached c.args.text.now c.args.list c.requires
