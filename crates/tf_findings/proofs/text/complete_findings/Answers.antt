use Rattle.tf_findings.proofs.TextLemmas.{gather, ordered_valid, reported_valid, are_findings}
use Rattle.tf_findings.proofs.text.complete_findings.Goals as goal

pub remove_silenced-requires-clause-valid : goal.remove_silenced-requires-clause-valid
remove_silenced-requires-clause-valid c =
    let order = c.in_ok-sort_findings.ensures in
    let g = gather c.requires.1 c.in_ok-silencing_tokens.ensures.found order.permutation order.sorted order.stable in
    ordered_valid c.is_valid_is_exact.ensures.valid g

pub returns-clause-are : goal.returns-clause-are
returns-clause-are c = λ members both.
    let order = c.in_ok-sort_findings.ensures in
    let g = gather both c.in_ok-silencing_tokens.ensures.found order.permutation order.sorted order.stable in
    are_findings c.is_valid_is_exact.ensures.valid g c.in_ok-reported.reported.items c.in_ok-reported.ensures

pub returns-clause-valid : goal.returns-clause-valid
returns-clause-valid c =
    let order = c.in_ok-sort_findings.ensures in
    let g = gather c.requires.1 c.in_ok-silencing_tokens.ensures.found order.permutation order.sorted order.stable in
    reported_valid c.is_valid_is_exact.ensures.valid g c.in_ok-reported.reported.items c.in_ok-reported.ensures
