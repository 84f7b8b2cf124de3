use Rattle.std.proofs.Common.{◌≡◌, ◌+◌, ◌-◌, ◌≤◌, ◌/◌, List, ◌∷◌, ◌++◌, length, take, drop, set, get_or, arith, ap, sym, ◌∙◌, subst}
use Rattle.std.specs.List.{AllByRecursion}
use Rattle.std.proofs.lemmas.List.{length-set, length-drop, take-set, drop-set, take_all}
use Rattle.edit_record.specs.declared.swaps.relative_ends.EndOffset.{EndOffset}
use Rattle.edit_record.specs.Swaps.Inner.RelativeEnds.{no_offset, ends_of, IsSmall, CanShift, shifted, shifted_from}
use Rattle.edit_record.proofs.SwapsLemmas.RelativeEnds.RelativeEndsLemmas.{in_halves, halved_or}
use Rattle.edit_record.proofs.SwapsLemmas.RelativeEnds.ShiftLemmas.{small_middle, small_left, small_right, far_middle, can_shift_left, can_shift_right, back_left, back_right, not_empty, put_back}
use Rattle.edit_record.proofs.swaps.relative_ends.+shift_from.Goals as goal

pub plus-end-requires-clause-old : goal.plus-end-requires-clause-old
plus-end-requires-clause-old t c =
    let run = c.args.run.now in
    let h = in_halves run _ (halved_or run no_offset (not_empty run _ c.is_empty.ensures c.if-is_empty.false)) in
    let s = small_middle run _ _ _ h c.requires.small in
    let l = c.requires.later.0 in
    omega (arith, s.0, l)

pub plus-end-requires-clause-new : goal.plus-end-requires-clause-new
plus-end-requires-clause-new t c =
    let run = c.args.run.now in
    let h = in_halves run _ (halved_or run no_offset (not_empty run _ c.is_empty.ensures c.if-is_empty.false)) in
    let s = small_middle run _ _ _ h c.requires.small in
    let l = c.requires.later.1 in
    omega (arith, s.1, l)

pub overflow_sub-run : goal.overflow_sub-run
overflow_sub-run t c =
    let run = c.args.run.now in
    let w = halved_or run no_offset (not_empty run _ c.is_empty.ensures c.if-is_empty.false) in
    let n = w.left_len in
    let f = far_middle run _ _ _ (in_halves run _ w) c.args.earlier c.args.from (omega (arith, c.if-from-middle.true, n)) c.requires.can_shift in
    let e = ap (λ (r : EndOffset). r.old) c.plus-end.ensures in
    omega (arith, f.0, e)

pub overflow_sub-run-then-from-middle : goal.overflow_sub-run-then-from-middle
overflow_sub-run-then-from-middle t c =
    let run = c.args.run.now in
    let w = halved_or run no_offset (not_empty run _ c.is_empty.ensures c.if-is_empty.false) in
    let n = w.left_len in
    let f = far_middle run _ _ _ (in_halves run _ w) c.args.earlier c.args.from (omega (arith, c.if-from-middle.true, n)) c.requires.can_shift in
    let e = ap (λ (r : EndOffset). r.new) c.plus-end.ensures in
    omega (arith, f.1, e)

pub shift_from-requires : goal.shift_from-requires
shift_from-requires t c =
    let run = c.args.run.now in
    let some = not_empty run _ c.is_empty.ensures c.if-is_empty.false in
    let w = halved_or run no_offset some in
    let h = in_halves run _ w in
    let n = w.left_len in
    let v : EndOffset = record { old = c.plus-end.result.old - c.args.earlier; new = c.plus-end.result.new - c.args.earlier } in
    let same : take (length run / 2) (set run (length run / 2) v) ≡ take (length run / 2) run = take-set run (length run / 2) v in
    let le = length-set run (length run / 2) v in
    let lt = w.middle_lt in
    let tl = ap length same in
    let le_mid : c.args.from ≤ length (take (length run / 2) run) = omega (arith, c.if-from-middle.true, n) in (
      omega (arith, c.decreases, tl, n, lt),
      (
        subst (λ (z : List EndOffset). AllByRecursion IsSmall (ends_of z)) (sym same) (small_left run _ _ _ h c.requires.small),
        (
          c.requires.later,
          subst (λ (z : List EndOffset). CanShift c.args.earlier c.args.from (ends_of z)) (sym same) (can_shift_left run _ _ _ h c.args.earlier c.args.from le_mid c.requires.can_shift),
        ),
      ),
    )

pub shift_from-requires-else-from-middle : goal.shift_from-requires-else-from-middle
shift_from-requires-else-from-middle t c =
    let run = c.args.run.now in
    let some = not_empty run _ c.is_empty.ensures c.if-is_empty.false in
    let w = halved_or run no_offset some in
    let h = in_halves run _ w in
    let n = w.left_len in
    let following = drop (length run / 2 + 1) run in
    let l = length-drop (length run / 2 + 1) run in
    let same : take (length run - (length run / 2 + 1)) following ≡ following = take_all (length run - (length run / 2 + 1)) following (omega (arith, l)) in
    let gt = c.if-from-middle.false in
    let from_is : c.args.from ≡ length (take (length run / 2) run) + 1 + (c.args.from - (length run / 2 + 1)) = omega (arith, gt, n) in
    let al = ap length same in (
      omega (arith, c.decreases, al, l, some),
      (
        subst (λ (z : List EndOffset). AllByRecursion IsSmall (ends_of z)) (sym same) (small_right run _ _ _ h c.requires.small),
        (
          c.requires.later,
          subst (λ (z : List EndOffset). CanShift c.args.earlier (c.args.from - (length run / 2 + 1)) (ends_of z)) (sym same) (can_shift_right run _ _ _ h c.args.earlier c.args.from (c.args.from - (length run / 2 + 1)) from_is c.requires.can_shift),
        ),
      ),
    )

pub returns-then-from-middle : goal.returns-then-from-middle
returns-then-from-middle t c =
    let run = c.args.run.now in
    let w = halved_or run no_offset (not_empty run _ c.is_empty.ensures c.if-is_empty.false) in
    let h = in_halves run _ w in
    let n = w.left_len in
    let m = length run / 2 in
    let v : EndOffset = record { old = c.plus-end.result.old - c.args.earlier; new = c.plus-end.result.new - c.args.earlier } in
    let v_is : v ≡ shifted c.args.later c.args.earlier (get_or run m no_offset) = ap (λ (r : EndOffset). record { old = r.old - c.args.earlier; new = r.new - c.args.earlier }) c.plus-end.ensures in
    let same : take m (set run m v) ≡ take m run = take-set run m v in
    let rest : drop m (set run m v) ≡ v ∷ drop (m + 1) run = drop-set run m v w.middle_lt in
    let is : ends_of c.shift_from.new.run ≡ shifted_from c.args.from c.args.later c.args.earlier (ends_of (take m run)) = c.shift_from.ensures ∙ ap (λ (z : List EndOffset). shifted_from c.args.from c.args.later c.args.earlier (ends_of z)) same in
    let len : length c.shift_from.new.run ≡ length (take m run) = c.shift_from.auto.run ∙ ap length same in
    ap (λ (z : List EndOffset). ends_of (c.shift_from.new.run ++ z)) rest
    ∙ back_left run _ _ _ h c.args.later c.args.earlier c.args.from c.shift_from.new.run v n (omega (arith, c.if-from-middle.true, n)) c.requires.can_shift is len v_is

pub returns-else-from-middle : goal.returns-else-from-middle
returns-else-from-middle t c =
    let run = c.args.run.now in
    let w = halved_or run no_offset (not_empty run _ c.is_empty.ensures c.if-is_empty.false) in
    let h = in_halves run _ w in
    let n = w.left_len in
    let m = length run / 2 in
    let new = c.shift_from-else-from-middle.new.run in
    let following = drop (m + 1) run in
    let l = length-drop (m + 1) run in
    let same : take (length run - (m + 1)) following ≡ following = take_all (length run - (m + 1)) following (omega (arith, l)) in
    let gt = c.if-from-middle.false in
    let from_is : c.args.from ≡ length (take m run) + 1 + (c.args.from - (m + 1)) = omega (arith, gt, n) in
    let is : ends_of new ≡ shifted_from (c.args.from - (m + 1)) c.args.later c.args.earlier (ends_of following) = c.shift_from-else-from-middle.ensures ∙ ap (λ (z : List EndOffset). shifted_from (c.args.from - (m + 1)) c.args.later c.args.earlier (ends_of z)) same in
    let len : length new ≡ length following = c.shift_from-else-from-middle.auto.run ∙ ap length same in
    ap ends_of (put_back run new no_offset m w.middle_lt (len ∙ l))
    ∙ back_right run _ _ _ h c.args.later c.args.earlier c.args.from (c.args.from - (m + 1)) new n from_is c.requires.can_shift is len
