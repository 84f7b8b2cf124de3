use Rattle.std.proofs.Common.{◌≡◌, map, take}
use Rattle.tf_reuse.specs.Renumbering.{renumber_finding}
use Rattle.tf_reuse.proofs.renumber.renumber_findings.Given as goal

abbrev pub invariant-loop-finding : goal.invariant-loop-finding
invariant-loop-finding l = l.all.items ≡ map (renumber_finding l.from l.to) (take l.finding-index l.findings)
