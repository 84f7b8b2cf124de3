use Rattle.std.proofs.Common.{◌≡◌, List, ◌++◌, ◌∷◌, [], ap, arith, ◌∙◌}
use Rattle.edit_record.specs.Lists.Pieces.{EditEntry}
use Rattle.std.proofs.lemmas.Result.{err_from_is_err_and}
use Rattle.edit_record.specs.Parsing.{repeat_at, edit_at, edits_at}
use Rattle.edit_record.proofs.Allocating.{one_allocates}
use Rattle.edit_record.proofs.Many.{no_more, all_done}
use Rattle.edit_record.proofs.ReadEdits.{read_one}
use Rattle.edit_record.proofs.readers.edits.Goals as goal
use Rattle.edit_record.proofs.readers.edits.Goals.{in-Some+in-Some-next_edit+in_ok-reserve_read-in-Some-next_edit, in-None+in_ok-rest-in-None, in-Some+in-None-next_edit+in_ok-rest-in-None-next_edit}

-- an edit is pushed after memory for it is reserved
is_pushed : (reserved es pushed : List EditEntry) (e x : EditEntry) → pushed ≡ reserved ++ e ∷ [] → reserved ≡ es → e ≡ x → pushed ≡ es ++ x ∷ []
is_pushed reserved es pushed e x is same made = is ∙ ap (λ xs. xs ++ e ∷ []) same ∙ ap (λ y. es ++ y ∷ []) made

pub returns-in_err-rest-in-None-clause-read : goal.returns-in_err-rest-in-None-clause-read
unfolding edits_at
returns-in_err-rest-in-None-clause-read c =
    let p = err_from_is_err_and c.from_residual-in_err-rest-in-None.result c.from_residual-in_err-rest-in-None.ensures.1 in
    rw (p.1, p.2) (no_more edit_at c.loop.edits.items c.args.count c.loop.counter c.loop.rest.now (repeat_at edit_at c.args.count c.args.text.now) _ _ c.in_err-rest-in-None.field-0.0 c.loop-test.true
    (one_allocates c.loop.counter c.args.count c.loop.rest.now c.args.text.now c.loop-test.true c.loop.invariant.0.begun) c.in_err-rest-in-None.ensures.stops c.loop.invariant.0.same)

pub returns-in_err-rest-in-None-next_edit-clause-read : goal.returns-in_err-rest-in-None-next_edit-clause-read
unfolding edits_at
returns-in_err-rest-in-None-next_edit-clause-read c =
    let p = err_from_is_err_and c.from_residual-in_err-rest-in-None-next_edit.result c.from_residual-in_err-rest-in-None-next_edit.ensures.1 in
    rw (p.1, p.2) (no_more edit_at c.loop.edits.items c.args.count c.loop.counter c.loop.rest.now (repeat_at edit_at c.args.count c.args.text.now) _ _ c.in_err-rest-in-None-next_edit.field-0.0 c.loop-test.true
    (one_allocates c.loop.counter c.args.count c.loop.rest.now c.args.text.now c.loop-test.true c.loop.invariant.0.begun) c.in_err-rest-in-None-next_edit.ensures.stops c.loop.invariant.0.same)

pub returns-in_err-reserve_read-in-Some-next_edit-clause-read : goal.returns-in_err-reserve_read-in-Some-next_edit-clause-read
unfolding edits_at
returns-in_err-reserve_read-in-Some-next_edit-clause-read c =
    let p = err_from_is_err_and c.from_residual.result c.from_residual.ensures.1 in
    rw (p.1, p.2) (no_more edit_at c.loop.edits.items c.args.count c.loop.counter c.loop.rest.now (repeat_at edit_at c.args.count c.args.text.now) _ _ c.in_err-reserve_read-in-Some-next_edit.field-0.0 c.loop-test.true
    (one_allocates c.loop.counter c.args.count c.loop.rest.now c.args.text.now c.loop-test.true c.loop.invariant.0.begun) c.in_err-reserve_read-in-Some-next_edit.ensures.stops c.loop.invariant.0.same)

pub loop-preserved : goal.loop-preserved
loop-preserved c =
    let count = c.args.count in
    let text = c.args.text.now in
    let i = c.loop.counter in
    let rest = c.loop.rest.now in
    let es = c.loop.edits.items in
    let lt = c.loop-test.true in
    elim c.match-short_place.branch [
      | in-Some+in-Some-next_edit+in_ok-reserve_read-in-Some-next_edit w ↦
          rw (w.edits-is, w.sums-is, w.rest-is) (
            (read_one count i text rest w.in-Some-next_edit.after.now es w.push_reserved.new.self.items _ c.loop.sums w.with_next-sums.result c.loop.invariant.0 lt
                (is_pushed _ es _ _ _ w.push_reserved.ensures.items w.reserve_read.ensures.items w.from_adjacent.ensures) (w.in-Some-next_edit.ensures.read w.in-Some.ensures.read) w.with_next-sums.ensures.fewer (w.with_next-sums.ensures.summed es)),
            omega (arith, w.reserve_read.ensures.few c.loop.invariant.1, w.push_reserved.ensures.len, w.push_reserved.ensures.capacity),
          )
      | in-Some+in-None-next_edit+in_ok-rest-in-None-next_edit w ↦
          let x = w.in_ok-rest-in-None-next_edit.ensures.pushed.0 in
          let pushed = w.in_ok-rest-in-None-next_edit.ensures.pushed.1 in
          let lent = w.deref.ensures.value ∙ pushed in
          rw (w.edits-is, w.sums-is, w.rest-is) (
            (read_one count i text rest w.in_ok-rest-in-None-next_edit.rest.now es w.push_placed.new.edits.items x c.loop.sums w.with_last-sums.result c.loop.invariant.0 lt
                pushed w.in_ok-rest-in-None-next_edit.ensures.pushed.2 (w.with_last-sums.ensures.fewer c.loop.invariant.0.fewer) (λ h. rw lent at (w.with_last-sums.ensures.summed es x lent h))),
            w.push_placed.ensures.few c.loop.invariant.1,
          )
      | in-None+in_ok-rest-in-None w ↦
          let x = w.in_ok-rest-in-None.ensures.pushed.0 in
          let pushed = w.in_ok-rest-in-None.ensures.pushed.1 in
          let lent = w.deref-in-None.ensures.value ∙ pushed in
          rw (w.edits-is, w.sums-is, w.rest-is) (
            (read_one count i text rest w.in_ok-rest-in-None.rest.now es w.push_any.new.edits.items x c.loop.sums w.with_last-sums-in-None.result c.loop.invariant.0 lt
                pushed w.in_ok-rest-in-None.ensures.pushed.2 (w.with_last-sums-in-None.ensures.fewer c.loop.invariant.0.fewer) (λ h. rw lent at (w.with_last-sums-in-None.ensures.summed es x lent h))),
            w.push_any.ensures.few c.loop.invariant.1,
          )
    ]

pub returns-clause-read : goal.returns-clause-read
unfolding edits_at
returns-clause-read c = all_done edit_at c.loop.edits.items c.args.count c.loop.counter c.loop.rest.now (repeat_at edit_at c.args.count c.args.text.now) c.loop-test.false c.loop.invariant.0.same
