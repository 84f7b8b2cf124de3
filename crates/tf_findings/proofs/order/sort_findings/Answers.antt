use Rattle.std.proofs.Common.{◌≡◌, ◌∙◌, ap, filter, subst, rules}
use Rattle.std.proofs.lemmas.Fn.{always_returns_same}
use Rattle.std.proofs.lemmas.List.Sorted.{IsPermutation-trans, ranks_by}
use Rattle.std.specs.List.Sorted.{IsPermutation, ties}
use Rattle.std.specs.Ordering.{is_lt}
use Rattle.tf_findings.specs.Order.{report_order}
use Rattle.tf_findings.proofs.NeighbourLemmas.{whole_row}
use Rattle.tf_findings.proofs.TotalOrder.{total}
use Rattle.tf_rules.specs.declared.finding.Finding.{Finding}
use Rattle.tf_findings.proofs.order.sort_findings.Goals as goal

pub returns-clause-sorted : goal.returns-clause-sorted
returns-clause-sorted c = c.in_ok-sort_by.ensures.sorted (λ x y. is_lt (report_order x y)) (ranks_by total (λ f. f))
    (always_returns_same _ (λ a r. is_lt r ≡ is_lt (report_order a.0.now a.1.0.now)) _ (λ a r f' k. search rules))

pub returns-clause-permutation : goal.returns-clause-permutation
returns-clause-permutation c =
    let here : c.deref_mut.result.now ≡ c.args.found.now.items = search rules in
    let e = whole_row c.args.found.now.items c.exchange_neighbours.new.found c.args.found.now.len (search rules) (search rules) in
    IsPermutation-trans _ _ _ (subst (λ xs. IsPermutation xs c.exchange_neighbours.new.found) here c.exchange_neighbours.ensures.permutation)
    (subst (λ xs. IsPermutation xs c.sort_by.new.self.items) e c.sort_by.ensures.permutation)

pub returns-clause-stable : goal.returns-clause-stable
returns-clause-stable c = λ x.
    let here : c.deref_mut.result.now ≡ c.args.found.now.items = search rules in
    let e = whole_row c.args.found.now.items c.exchange_neighbours.new.found c.args.found.now.len (search rules) (search rules) in
    c.in_ok-sort_by.ensures.stable (λ a b. is_lt (report_order a b)) (ranks_by total (λ f. f))
    (always_returns_same _ (λ a r. is_lt r ≡ is_lt (report_order a.0.now a.1.0.now)) _ (λ a r f' k. search rules)) x
    ∙ ap (filter (ties (λ (a b : Finding). is_lt (report_order a b)) x)) e
    ∙ c.exchange_neighbours.ensures.stable x
    ∙ ap (filter (ties (λ (a b : Finding). is_lt (report_order a b)) x)) here
