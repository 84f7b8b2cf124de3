use Rattle.std.proofs.lemmas.Result.{err_from_is_err_and}
use Rattle.edit_record.proofs.swaps.swap_lists.swap.Goals as goal

pub returns-in_err-check_swap : goal.returns-in_err-check_swap
returns-in_err-check_swap c =
    let p = err_from_is_err_and c.from_residual.result c.from_residual.ensures.1 in
    rw (p.1, p.2) c.in_err-check_swap.ensures.refused

pub swap_disjoint-requires-clause-lengths_match : goal.swap_disjoint-requires-clause-lengths_match
swap_disjoint-requires-clause-lengths_match c = c.in_ok-check_swap.ensures.swappable.0

pub swap_disjoint-requires-clause-apart : goal.swap_disjoint-requires-clause-apart
swap_disjoint-requires-clause-apart c = c.in_ok-check_swap.ensures.swappable.1

pub swap_disjoint-requires-clause-within : goal.swap_disjoint-requires-clause-within
swap_disjoint-requires-clause-within c = c.in_ok-check_swap.ensures.swappable.2

pub returns-in_err-swap_disjoint : goal.returns-in_err-swap_disjoint
returns-in_err-swap_disjoint c =
    let able = c.in_ok-check_swap.ensures.swappable in
    let p = err_from_is_err_and c.from_residual-in_err-swap_disjoint.result c.from_residual-in_err-swap_disjoint.ensures.1 in
    rw (p.1, p.2) (record {
      lengths_match = able.0;
      apart = able.1;
      within = able.2;
      some = c.in_err-swap_disjoint.ensures.memory;
    })
