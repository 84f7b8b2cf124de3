use Rattle.std.proofs.Common.{◌+◌, ◌-◌, arith, ap, ◌∙◌}
use Rattle.edit_record.specs.Swaps.Inner.SwapStateView.{state}
use Rattle.edit_record.proofs.SwapsLemmas.SwapSteps.{before_made, after_made, is_swap, fits}
use Rattle.edit_record.proofs.swaps.swap_lists.swap_disjoint.Goals as goal

pub swapped_len-len-requires-clause-small : goal.swapped_len-len-requires-clause-small
swapped_len-len-requires-clause-small c = let s = c.in_ok-state.ensures.done.small in let l = c.in_ok-state.ensures.done.first_made.old_fits in omega (arith, c.old_len.ensures)

pub from_valid-before-requires : goal.from_valid-before-requires
from_valid-before-requires c =
    let a = c.args.first.now in let b = c.args.second.now in
    let s = state c.in_ok-state.state in
    let follows = c.requires.lengths_match in
    let len_is = c.swapped_len-len.ensures ∙ ap (λ k. k - s.old + s.other) c.old_len.ensures in
    let short = fits a b s c.in_ok-state.ensures.done c.swapped_len-len.result len_is c.requires.within in
    before_made a b s follows c.in_ok-state.ensures.done c.swapped_len-len.result len_is short c.old_len-2.result c.into_edits-seconds.result.0.items c.old_len-2.ensures c.into_edits-seconds.ensures.seconds

pub from_valid-after-requires : goal.from_valid-after-requires
from_valid-after-requires c =
    let a = c.args.first.now in let b = c.args.second.now in
    let s = state c.in_ok-state.state in
    let follows = c.requires.lengths_match in
    let len_is = c.swapped_len-len.ensures ∙ ap (λ k. k - s.old + s.other) c.old_len.ensures in
    let short = fits a b s c.in_ok-state.ensures.done c.swapped_len-len.result len_is c.requires.within in
    after_made a b s follows c.in_ok-state.ensures.done c.swapped_len-len.result len_is short c.new_len.result c.into_edits-seconds.result.1.items c.new_len.ensures c.into_edits-seconds.ensures.firsts

pub returns-clause-swapped : goal.returns-clause-swapped
returns-clause-swapped c =
    let a = c.args.first.now in let b = c.args.second.now in
    let s = state c.in_ok-state.state in
    let x = c.in_ok-state.ensures.done in
    let follows = c.requires.lengths_match in
    let len_is = c.swapped_len-len.ensures ∙ ap (λ k. k - s.old + s.other) c.old_len.ensures in
    let short = fits a b s c.in_ok-state.ensures.done c.swapped_len-len.result len_is c.requires.within in
    record {
      lengths_match = follows;
      apart = x.apart;
      within = c.requires.within;
      swap = is_swap a b s follows x c.swapped_len-len.result len_is short c.old_len-2.result c.into_edits-seconds.result.0.items c.into_edits-seconds.result.1.items c.from_valid-before.result c.from_valid-after.result
          c.old_len-2.ensures c.into_edits-seconds.ensures.seconds c.into_edits-seconds.ensures.firsts c.from_valid-before.ensures c.from_valid-after.ensures;
    }
