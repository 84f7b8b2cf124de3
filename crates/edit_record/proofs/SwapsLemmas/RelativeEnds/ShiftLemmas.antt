-- All edits from one on come later or earlier.
use Rattle.std.proofs.Common.{◌≡◌, ℕ, ◌+◌, ◌-◌, ◌/◌, ◌≤◌, ◌<◌, List, [], ◌∷◌, ◌++◌, length, map, take, drop, get_or, Bool, false, ◌==◌, refl, arith, sym, ap, ◌∙◌, subst, append_assoc, length-append}
use Rattle.std.specs.List.{AllByRecursion}
use Rattle.std.proofs.lemmas.List.{append-nil, map-append, take-map, drop-map, take-append-le, drop-append-le, take_at, drop_at, take_all, drop_all, take_more, take-append-drop}
use Rattle.std.proofs.lemmas.Bool.{true≢false}
use Rattle.std.proofs.lemmas.Slice.{take-put_mid, drop-put_mid}
use borrow.Rule.Slice.PartMut.{put_mid}
use Rattle.std.proofs.Math.Seq.{take-append-add, drop-append-add}
use Rattle.edit_record.specs.declared.swaps.relative_ends.EndOffset.{EndOffset}
use Rattle.edit_record.specs.Swaps.Inner.RelativeEnds.{plus, no_offset, ends_of, IsSmall, shifted, shifted_from, EndsAfterBy, CanShift}
use Rattle.edit_record.proofs.SwapsLemmas.Spans.{all_map}
use Rattle.edit_record.proofs.SwapsLemmas.RelativeEnds.RelativeEndsLemmas.{Halves, split_halves, ends_len, one_reach, all_left, all_right}

-- a middle between two parts that are halves
pub put_halves : (before : List EndOffset) (x : EndOffset) (following : List EndOffset) → length before ≡ length (before ++ x ∷ following) / 2 → Halves (before ++ x ∷ following) before x following
put_halves before x following m =
    let left : List EndOffset = before ++ x ∷ following in
    let t : before ≡ take (length left / 2) left = sym (take_at before (x ∷ following) (length left / 2) m) in
    let d : x ∷ following ≡ drop (length left / 2) left = sym (drop_at before (x ∷ following) (length left / 2) m) in
    let h = split_halves left before (x ∷ following) t d (omega arith) in
    let all : take (length (x ∷ following) - 1) following ≡ following = take_all (length (x ∷ following) - 1) following (omega arith) in
    subst (λ (z : List EndOffset). Halves left before x z) all h

all_of_map : {X Y : Type 0} (P : Y → Type 0) (f : X → Y) (xs : List X) → AllByRecursion P (map f xs) → AllByRecursion (λ x. P (f x)) xs
all_of_map P f [] h = tt
all_of_map P f (x ∷ xs) h = (h.0, all_of_map P f xs h.1)

small_after : (x : EndOffset) (rs : List EndOffset) → AllByRecursion IsSmall (map (plus x) rs) → AllByRecursion IsSmall rs
small_after x rs h = all_map (λ r. IsSmall (plus x r)) IsSmall (λ r k. let a = k.0 in let b = k.1 in (omega (arith, a), omega (arith, b))) rs (all_of_map IsSmall (plus x) rs h)

-- ---- what each half has of what the whole has

module _ (run before : List EndOffset) (x : EndOffset) (following : List EndOffset) (h : Halves run before x following) where
  pub small_middle : AllByRecursion IsSmall (ends_of run) → IsSmall x
  small_middle s = (all_right IsSmall (ends_of before) _ (subst (λ (z : List EndOffset). AllByRecursion IsSmall z) h.parts s)).0

  pub small_left : AllByRecursion IsSmall (ends_of run) → AllByRecursion IsSmall (ends_of before)
  small_left s = all_left IsSmall (ends_of before) _ (subst (λ (z : List EndOffset). AllByRecursion IsSmall z) h.parts s)

  pub small_right : AllByRecursion IsSmall (ends_of run) → AllByRecursion IsSmall (ends_of following)
  small_right s = small_after x (ends_of following) (all_right IsSmall (ends_of before) _ (subst (λ (z : List EndOffset). AllByRecursion IsSmall z) h.parts s)).1

  -- before the middle, or at it
  drop_left : (from : ℕ) → from ≤ length before → drop from (ends_of run) ≡ drop from (ends_of before) ++ x ∷ map (plus x) (ends_of following)
  drop_left from le = let n = ends_len before in ap (drop from) h.parts ∙ drop-append-le from (ends_of before) (x ∷ map (plus x) (ends_of following)) (omega (arith, le, n))

  take_left : (from : ℕ) → from ≤ length before → take from (ends_of run) ≡ take from (ends_of before)
  take_left from le = let n = ends_len before in ap (take from) h.parts ∙ take-append-le from (ends_of before) (x ∷ map (plus x) (ends_of following)) (omega (arith, le, n))

  pub far_middle : (d from : ℕ) → from ≤ length before → CanShift d from (ends_of run) → EndsAfterBy d no_offset x
  far_middle d from le r = (all_right (EndsAfterBy d no_offset) (drop from (ends_of before)) _ (subst (λ (z : List EndOffset). AllByRecursion (EndsAfterBy d no_offset) z) (drop_left from le) r.start)).0

  pub can_shift_left : (d from : ℕ) → from ≤ length before → CanShift d from (ends_of run) → CanShift d from (ends_of before)
  can_shift_left d from le r = record {
    start = all_left (EndsAfterBy d no_offset) (drop from (ends_of before)) _ (subst (λ (z : List EndOffset). AllByRecursion (EndsAfterBy d no_offset) z) (drop_left from le) r.start);
    after_others = subst (λ (z : List EndOffset). AllByRecursion (λ f. AllByRecursion (EndsAfterBy d f) (drop from (ends_of before))) z) (take_left from le)
        (all_map (λ f. AllByRecursion (EndsAfterBy d f) (drop from (ends_of run))) (λ f. AllByRecursion (EndsAfterBy d f) (drop from (ends_of before)))
        (λ f k. all_left (EndsAfterBy d f) (drop from (ends_of before)) _ (subst (λ (z : List EndOffset). AllByRecursion (EndsAfterBy d f) z) (drop_left from le) k))
        (take from (ends_of run)) r.after_others);
  }

  later_both : (later : EndOffset) (d : ℕ) (rs : List EndOffset) → EndsAfterBy d no_offset x → map (shifted later d) (map (plus x) rs) ≡ map (plus (shifted later d x)) rs
  later_both later d [] f = refl
  later_both later d (r ∷ rs) f =
      let a = f.0 in let b = f.1 in
      let p : shifted later d (plus x r) ≡ plus (shifted later d x) r = one_reach _ _ (omega (arith, a)) (omega (arith, b)) in
      let q = later_both later d rs f in
      λ i. p i ∷ q i

  pub shifted_left : (later : EndOffset) (d from : ℕ) → from ≤ length before → CanShift d from (ends_of run)
      → shifted_from from later d (ends_of run) ≡ shifted_from from later d (ends_of before) ++ shifted later d x ∷ map (plus (shifted later d x)) (ends_of following)
  shifted_left later d from le r =
      let f = far_middle d from le r in
      let m : map (shifted later d) (drop from (ends_of run)) ≡ map (shifted later d) (drop from (ends_of before)) ++ shifted later d x ∷ map (plus (shifted later d x)) (ends_of following) =
      ap (map (shifted later d)) (drop_left from le) ∙ map-append (shifted later d) (drop from (ends_of before)) (x ∷ map (plus x) (ends_of following))
      ∙ ap (λ (z : List EndOffset). map (shifted later d) (drop from (ends_of before)) ++ shifted later d x ∷ z) (later_both later d (ends_of following) f) in
      (λ i. take_left from le i ++ m i) ∙ sym (append_assoc (take from (ends_of before)) (map (shifted later d) (drop from (ends_of before))) _)

  -- after the middle
  whole : ends_of run ≡ (ends_of before ++ x ∷ []) ++ map (plus x) (ends_of following)
  whole = h.parts ∙ sym (append_assoc (ends_of before) (x ∷ []) (map (plus x) (ends_of following)))

  left_half_len : length (ends_of before ++ x ∷ []) ≡ length before + 1
  left_half_len = let n = ends_len before in let m = length-append (ends_of before) (x ∷ []) in omega (arith, n, m)

  drop_right : (from k : ℕ) → from ≡ length before + 1 + k → drop from (ends_of run) ≡ map (plus x) (drop k (ends_of following))
  drop_right from k is =
      let e : from ≡ length (ends_of before ++ x ∷ []) + k = omega (arith, is, left_half_len) in
      (λ i. drop (e i) (whole i)) ∙ drop-append-add (ends_of before ++ x ∷ []) (map (plus x) (ends_of following)) k ∙ drop-map (plus x) k (ends_of following)

  take_right : (from k : ℕ) → from ≡ length before + 1 + k → take from (ends_of run) ≡ (ends_of before ++ x ∷ []) ++ map (plus x) (take k (ends_of following))
  take_right from k is =
      let e : from ≡ length (ends_of before ++ x ∷ []) + k = omega (arith, is, left_half_len) in
      (λ i. take (e i) (whole i)) ∙ take-append-add (ends_of before ++ x ∷ []) (map (plus x) (ends_of following)) k ∙ ap (λ (z : List EndOffset). (ends_of before ++ x ∷ []) ++ z) (take-map (plus x) k (ends_of following))

  nearer : (d : ℕ) (f r : EndOffset) → EndsAfterBy d (plus x f) (plus x r) → EndsAfterBy d f r
  nearer d f r k = let a = k.0 in let b = k.1 in (omega (arith, a), omega (arith, b))

  pub can_shift_right : (d from k : ℕ) → from ≡ length before + 1 + k → CanShift d from (ends_of run) → CanShift d k (ends_of following)
  can_shift_right d from k is r =
      let o = subst (λ (z : List EndOffset). AllByRecursion (λ f. AllByRecursion (EndsAfterBy d f) (drop from (ends_of run))) z) (take_right from k is) r.after_others in
      let P : EndOffset → Type 0 = λ f. AllByRecursion (EndsAfterBy d f) (drop from (ends_of run)) in
      let near : (f : EndOffset) → P (plus x f) → AllByRecursion (EndsAfterBy d f) (drop k (ends_of following)) = λ f z.
      all_map (λ e. EndsAfterBy d (plus x f) (plus x e)) (EndsAfterBy d f) (nearer d f) (drop k (ends_of following))
      (all_of_map (EndsAfterBy d (plus x f)) (plus x) (drop k (ends_of following)) (subst (λ (l : List EndOffset). AllByRecursion (EndsAfterBy d (plus x f)) l) (drop_right from k is) z)) in
      let middle : P x = (all_right P (ends_of before) (x ∷ []) (all_left P (ends_of before ++ x ∷ []) _ o)).0 in
      record {
        start = all_map (λ e. EndsAfterBy d x (plus x e)) (EndsAfterBy d no_offset) (λ e z. let a = z.0 in let b = z.1 in (omega (arith, a), omega (arith, b))) (drop k (ends_of following))
            (all_of_map (EndsAfterBy d x) (plus x) (drop k (ends_of following)) (subst (λ (l : List EndOffset). AllByRecursion (EndsAfterBy d x) l) (drop_right from k is) middle));
        after_others = all_map (λ f. P (plus x f)) (λ f. AllByRecursion (EndsAfterBy d f) (drop k (ends_of following))) near (take k (ends_of following))
            (all_of_map P (plus x) (take k (ends_of following)) (all_right P (ends_of before ++ x ∷ []) _ o));
      }

  right_both : (later : EndOffset) (d : ℕ) (rs : List EndOffset) → AllByRecursion (EndsAfterBy d no_offset) rs → map (shifted later d) (map (plus x) rs) ≡ map (plus x) (map (shifted later d) rs)
  right_both later d [] f = refl
  right_both later d (r ∷ rs) f =
      let a = f.0.0 in let b = f.0.1 in
      let p : shifted later d (plus x r) ≡ plus x (shifted later d r) = one_reach _ _ (omega (arith, a)) (omega (arith, b)) in
      let q = right_both later d rs f.1 in
      λ i. p i ∷ q i

  pub shifted_right : (later : EndOffset) (d from k : ℕ) → from ≡ length before + 1 + k → CanShift d from (ends_of run)
      → shifted_from from later d (ends_of run) ≡ ends_of before ++ x ∷ map (plus x) (shifted_from k later d (ends_of following))
  shifted_right later d from k is r =
      let f = (can_shift_right d from k is r).start in
      let m : map (shifted later d) (drop from (ends_of run)) ≡ map (plus x) (map (shifted later d) (drop k (ends_of following))) =
      ap (map (shifted later d)) (drop_right from k is) ∙ right_both later d (drop k (ends_of following)) f in
      (λ i. take_right from k is i ++ m i)
      ∙ append_assoc (ends_of before ++ x ∷ []) (map (plus x) (take k (ends_of following))) (map (plus x) (map (shifted later d) (drop k (ends_of following))))
      ∙ append_assoc (ends_of before) (x ∷ []) _
      ∙ ap (λ (z : List EndOffset). ends_of before ++ x ∷ z) (sym (map-append (plus x) (take k (ends_of following)) (map (shifted later d) (drop k (ends_of following)))))

  pub back_left : (later : EndOffset) (d from : ℕ) (new_left : List EndOffset) (v : EndOffset) → length before ≡ length run / 2 → from ≤ length before → CanShift d from (ends_of run)
      → ends_of new_left ≡ shifted_from from later d (ends_of before) → length new_left ≡ length before → v ≡ shifted later d x → ends_of (new_left ++ v ∷ following) ≡ shifted_from from later d (ends_of run)
  back_left later d from new_left v m le r is len v_is =
      let n = length-append new_left (v ∷ following) in
      let l = h.lens in
      let same : length (new_left ++ v ∷ following) ≡ length run = omega (arith, n, l, len) in
      let half : length new_left ≡ length (new_left ++ v ∷ following) / 2 = len ∙ m ∙ ap (λ (k : ℕ). k / 2) (sym same) in
      (put_halves new_left v following half).parts ∙ (λ i. is i ++ v_is i ∷ map (plus (v_is i)) (ends_of following)) ∙ sym (shifted_left later d from le r)

  pub back_right : (later : EndOffset) (d from k : ℕ) (new_right : List EndOffset) → length before ≡ length run / 2 → from ≡ length before + 1 + k → CanShift d from (ends_of run)
      → ends_of new_right ≡ shifted_from k later d (ends_of following) → length new_right ≡ length following → ends_of (before ++ x ∷ new_right) ≡ shifted_from from later d (ends_of run)
  back_right later d from k new_right m from_is r is len =
      let n = length-append before (x ∷ new_right) in
      let l = h.lens in
      let same : length (before ++ x ∷ new_right) ≡ length run = omega (arith, n, l, len) in
      let half : length before ≡ length (before ++ x ∷ new_right) / 2 = m ∙ ap (λ (j : ℕ). j / 2) (sym same) in
      (put_halves before x new_right half).parts ∙ (λ i. ends_of before ++ x ∷ map (plus x) (is i)) ∙ sym (shifted_right later d from k from_is r)

-- ---- what the code has

pub not_empty : (run : List EndOffset) (b : Bool) → b ≡ (length run == 0) → b ≡ false → 0 < length run
not_empty [] b e f = absurd (true≢false (sym e ∙ f))
not_empty (x ∷ run) b e f = omega arith

pub put_back : (run new : List EndOffset) (d : EndOffset) (m : ℕ) → m < length run → length new ≡ length run - (m + 1) → put_mid (m + 1) (length run - (m + 1)) run new ≡ take m run ++ get_or run m d ∷ new
put_back run new d m lt len =
    let p = put_mid (m + 1) (length run - (m + 1)) run new in
    let n = m + 1 + length new in
    let t : take n p ≡ take (m + 1) run ++ new = take-put_mid (m + 1) (length run - (m + 1)) run new n refl (omega (arith, lt)) in
    let b : drop n p ≡ drop n run = drop-put_mid (m + 1) (length run - (m + 1)) run new n (omega (arith, len)) (omega (arith, lt)) len in
    let e : drop n run ≡ [] = drop_all n run (omega (arith, len, lt)) in
    let f : take (m + 1) run ≡ take m run ++ get_or run m d ∷ [] = take_more run m d lt in
    sym (take-append-drop n p) ∙ (λ i. t i ++ (b ∙ e) i) ∙ append-nil (take (m + 1) run ++ new) ∙ ap (λ (z : List EndOffset). z ++ new) f ∙ append_assoc (take m run) (get_or run m d ∷ []) new
