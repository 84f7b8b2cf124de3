use Rattle.std.proofs.Common.{sym, ◌∙◌, ap, length, min}
use Rattle.edit_record.specs.Squashes.Inner.Merge.{State}
use Rattle.edit_record.specs.Squashes.Inner.MergeState.{state}
use Rattle.edit_record.proofs.SquashesLemmas.Soundness.{apart_first, apart_second, sound_closed}
use Rattle.edit_record.proofs.squashes.merge.Merge.prepare_next.Goals as goal

pub start_edit-requires : goal.start_edit-requires
start_edit-requires c =
    let r = c.requires in
    let s = state c.args.self.now in
    let xs = c.args.xs.now in
    let ys = c.args.ys.now in
    let p = apart_first r.0 r.1 s xs ys r.2 r.3 (sym c.joins_first.ensures ∙ c.if-joins_first.false) in
    let q = apart_second r.0 r.1 s xs ys r.2 r.3 (sym c.joins_second.ensures ∙ c.if-joins_second.false) in
    let e = c.in_ok-finish_edit.ensures in
    (r.0, r.1, rw e (sound_closed r.0 r.1 s xs ys r.2 p q), ap (λ (s : State). min (length s.first_pending) (length s.second_pending)) e)
