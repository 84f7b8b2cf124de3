use Rattle.std.proofs.Common.{List, arith, sym, subst}
use Rattle.std.specs.List.{AllByRecursion}
use Rattle.edit_record.specs.Lists.Pieces.{EditEntry}
use Rattle.edit_record.specs.declared.swaps.relative_ends.EndOffset.{EndOffset}
use Rattle.edit_record.specs.Swaps.Inner.RelativeEnds.{ends_of, IsSmall}
use Rattle.edit_record.specs.Swaps.Inner.EditEnds.{with_ends, FitRemoved}
use Rattle.edit_record.proofs.SwapsLemmas.RelativeEnds.RelativeEndsLemmas.{ends_len}
use Rattle.edit_record.proofs.SwapsLemmas.RelativeEnds.PendingEnds.{small_ends}
use Rattle.edit_record.proofs.SwapsLemmas.RelativeEnds.SetPlaces.{placed_texts, fitting_ends}
use Rattle.edit_record.proofs.swaps.moving_edits.MovingEdits.into_edits.Goals as goal

pub set_places-requires-clause-small : goal.set_places-requires-clause-small
set_places-requires-clause-small c =
    let m = c.args.self in
    let s = subst (λ (l : List EndOffset). AllByRecursion IsSmall l) (sym c.requires.ends) (small_ends m.old_len m.new_len (with_ends m.edits.items (ends_of m.ends.items)) c.requires.made) in
    subst (λ (l : List EndOffset). AllByRecursion IsSmall (ends_of l)) (sym c.deref.ensures.value) s

pub set_places-requires-clause-fit : goal.set_places-requires-clause-fit
set_places-requires-clause-fit c =
    let m = c.args.self in
    let es = with_ends m.edits.items (ends_of m.ends.items) in
    let l = ends_len m.ends.items in
    let k = c.requires.len in
    let h = fitting_ends 0 0 m.edits.items es (placed_texts m.edits.items (ends_of m.ends.items) (omega (arith, l, k))) in
    let g = subst (λ (z : List EndOffset). FitRemoved m.edits.items z) (sym c.requires.ends) h in
    subst (λ (z : List EditEntry). FitRemoved z (ends_of c.deref.result.now)) (sym c.deref_mut.ensures.value) (subst (λ (z : List EndOffset). FitRemoved m.edits.items (ends_of z)) (sym c.deref.ensures.value) g)
