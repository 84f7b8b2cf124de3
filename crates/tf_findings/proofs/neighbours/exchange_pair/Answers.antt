-- Two neighbours change places.
use Rattle.std.proofs.Common.{ap, ◌∙◌, filter, arith}
use Rattle.std.proofs.lemmas.List.Sorted.{ranks_by}
use Rattle.std.specs.List.Sorted.{ties}
use Rattle.std.specs.Ordering.{is_lt}
use Rattle.tf_findings.specs.Order.{report_order}
use Rattle.tf_rules.specs.declared.finding.Finding.{Finding}
use Rattle.tf_findings.proofs.NeighbourLemmas.{exchanged}
use Rattle.tf_findings.proofs.TotalOrder.{total}
use Rattle.tf_findings.proofs.neighbours.exchange_pair.Goals as goal

pub returns-clause-stable : goal.returns-clause-stable
returns-clause-stable c = λ x.
    ap (filter (ties (λ (a b : Finding). is_lt (report_order a b)) x)) c.swap.ensures.after
    ∙ exchanged (λ a b. is_lt (report_order a b)) (ranks_by total (λ f. f)) c.args.found.now c.args.i _ (omega arith) c.requires.within.1 c.requires.falls x
