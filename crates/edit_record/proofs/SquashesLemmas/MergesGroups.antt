-- The merge makes the edits of the groups, step by step.
use Rattle.std.proofs.Common.{◌≡◌, ◌⊎◌, inl, inr, ℕ, zero, suc, ◌+◌, ◌-◌, ◌≤◌, ◌<◌, List, [], ◌∷◌, ◌++◌, length, take, drop, map, min, max, Bool, true, false, cond, eqb, leb, refl, arith, sym, ap, ◌∙◌, append_assoc, append-nil, length-append, ◌&&◌}
use Rattle.std.specs.Prelude.{◌==◌}
use Rattle.std.proofs.lemmas.Bool.{and_parts, le-leb, lt-leb, leb-true, leb-false, eqb-true, eqb-false}
use Rattle.std.proofs.lemmas.List.{length-drop, length-take-le, map-append}
use Rattle.edit_record.specs.Lists.Pieces.{EditEntry}
use Rattle.edit_record.specs.Lists.Validity.{AreDisjoint}
use Rattle.edit_record.specs.Squashes.Inner.Merge.{State, finish_edit, skip_kept, with_first, with_second, common_len, cancel_common, gap, joins_first, joins_second, first_is_next, prepare_next, initial, MergeInvariant, OneIsDone}
use Rattle.edit_record.specs.Squashes.Groups.{Side, added_spans, removed_spans, Span, Group, empty_group, with_next, next_touches, next_start, first_span_is_next, groups_of, Extent, extent_of, cons_nonempty, group_extents, squashed_extents}
use Rattle.edit_record.proofs.SquashesLemmas.Soundness.{apart_first, apart_second}

-- as many bytes that stay before the first edit
spans_moved : (n m old mid : ℕ) (es : List EditEntry) → AreDisjoint n (old + m) es → added_spans (old + m) (mid + m) es ≡ added_spans old mid es
spans_moved n m old mid [] p = refl
spans_moved n m old mid (e ∷ es) p =
    let later = p.0.later in
    let from : (mid + m) + (e.at - (old + m)) ≡ mid + (e.at - old) = omega arith in
    ap (λ k. record { from = k; len = length e.added; other = length e.removed } ∷ added_spans (e.at + length e.removed) (k + length e.added) es) from

-- the groups, where the next edit of the first list, or of the second, is added to g
abbrev taking : Bool → ℕ → Group → List Span → List Span → List Group
taking true n g xs ys = groups_of n (record g { first = with_next xs g.first }) (drop 1 xs) ys
taking false n g xs ys = groups_of n (record g { second = with_next ys g.second }) xs (drop 1 ys)

abbrev side : Bool → ℕ → ℕ → Side
side some end other = record { some = some; end = end; other = other }

-- The group that is being made. Old and base are the ends of the group before; the first list goes on from mid in the text between.
pub record Making (s : State) : Type 0 where
  pub old : ℕ
  pub base : ℕ
  pub begin : ℕ
  pub mid : ℕ
  pub mid_is : mid + length s.second_pending ≡ s.second_end + length s.first_pending
  pub at_is : s.at + base ≡ old + begin
  pub base_before : base ≤ begin

abbrev group : (s : State) → Making s → Group
group s g = record { from = g.begin; first = side s.has_first g.mid (length s.removed); second = side s.has_second s.second_end (length s.added) }

-- what both lists become, where T gives the groups from this one on
abbrev BecomesGroups : List EditEntry → List EditEntry → (Group → List Span → List Span → List Group) → (s : State) → Making s → List EditEntry → List EditEntry → Type 0
BecomesGroups a b T s g xs ys = squashed_extents a b ≡ map extent_of s.out ++ group_extents g.old g.base (T (group s g) (added_spans s.first_end g.mid xs) (removed_spans ys))

-- between two steps
pub record Grouped (a b : List EditEntry) (s : State) (xs ys : List EditEntry) : Type 0 where
  pub making : Making s
  pub left : ℕ
  pub left_is : left ≡ length xs + length ys
  pub shape : BecomesGroups a b (groups_of left) s making xs ys

-- and where the next edit is made ready
pub record GroupedReady (a b : List EditEntry) (r : Bool × State) (xs ys : List EditEntry) : Type 0 where
  pub making : Making r.1
  pub later : ℕ
  pub later_is : suc later ≡ length xs + length ys
  pub shape : BecomesGroups a b (taking r.0 later) r.1 making xs ys

-- the edits with one more at their end
put_extents : (out : List EditEntry) (e : EditEntry) (es : List Extent) (t : Bool) → map extent_of (cond t out (out ++ e ∷ [])) ++ es ≡ map extent_of out ++ cond t es (extent_of e ∷ es)
put_extents out e es true = refl
put_extents out e es false = rw (map-append, append_assoc) refl

joins_none : (x y : Bool) → (x && (y && false)) ≡ false
joins_none true true = refl
joins_none true false = refl
joins_none false y = refl

same_order : (n m : ℕ) (t : Bool) → (t ≡ true → n ≤ m) → (t ≡ false → m < n) → leb n m ≡ t
same_order n m true p q = le-leb n m (p refl)
same_order n m false p q = lt-leb n m (q refl)

outside : (n m k : ℕ) → (eqb n 0 && leb m k) ≡ false → (0 < n) ⊎ (k < m)
outside n m k f = elim (eqb n 0) as (λ b. eqb n 0 ≡ b → (b && leb m k) ≡ false → (0 < n) ⊎ (k < m)) [
  | true ↦ λ e f. inr (leb-false m k f)
  | false ↦ λ e f. let z = eqb-false n 0 e in inl (omega arith)
] refl f

-- an edit of the other list d bytes after a place joins those that end there, with `left` bytes
-- left
joins_is : (some : Bool) (from place d end left other : ℕ) → from ≡ place + d → place + left ≡ end + other → min other left ≡ 0 → (some && leb from end) ≡ (some && (eqb other 0 && leb d left))
joins_is false from place d end left other at is one = refl
joins_is true from place d end left other at is one =
    same_order from end (eqb other 0 && leb d left)
    (λ t. let p = and_parts (eqb other 0) (leb d left) t in let z = eqb-true other 0 p.0 in let k = leb-true d left p.1 in omega arith)
    (λ f. elim (outside other d left f) [ inl k ↦ omega arith | inr k ↦ omega arith ])

module _ (la lb : ℕ) (a b : List EditEntry) where
  -- ---- an edit is taken

  pub grouped_first : (s : State) (e : EditEntry) (xs ys : List EditEntry) → GroupedReady a b (true, s) (e ∷ xs) ys → length s.first_pending ≡ 0 → e.at - s.first_end ≤ length s.second_pending → Grouped a b (with_first e s) xs ys
  grouped_first s e xs ys r z w =
      let g = r.making in
      let d = e.at - s.first_end in
      let to = g.mid + d + length e.added in
      let later_is = r.later_is in let mid_is = g.mid_is in
      let dl = length-drop d s.second_pending in
      let tl = length-take-le d s.second_pending w in
      let done : length s.removed + (g.mid + d - g.mid) + length e.removed ≡ length (s.removed ++ take d s.second_pending ++ e.removed) = rw (length-append, length-append) (omega arith) in
      record {
        making = record { old = g.old; base = g.base; begin = g.begin; mid = to; mid_is = omega arith; at_is = g.at_is; base_before = g.base_before };
        left = r.later;
        left_is = omega arith;
        shape = r.shape ∙ ap (λ (k : ℕ). map extent_of s.out ++ group_extents g.old g.base (groups_of r.later (record { from = g.begin; first = side true to k; second = side s.has_second s.second_end (length s.added) }) (added_spans (e.at + length e.removed) to xs) (removed_spans ys))) done;
      }

  pub grouped_second : (s : State) (e : EditEntry) (xs ys : List EditEntry) → GroupedReady a b (false, s) xs (e ∷ ys) → length s.second_pending ≡ 0 → e.at - s.second_end ≤ length s.first_pending → s.second_end ≤ e.at → Grouped a b (with_second e s) xs ys
  grouped_second s e xs ys r z w later =
      let g = r.making in
      let d = e.at - s.second_end in
      let to = e.at + length e.removed in
      let later_is = r.later_is in let mid_is = g.mid_is in
      let dl = length-drop d s.first_pending in
      let tl = length-take-le d s.first_pending w in
      let done : length s.added + (e.at - s.second_end) + length e.added ≡ length (s.added ++ take d s.first_pending ++ e.added) = rw (length-append, length-append) (omega arith) in
      record {
        making = record { old = g.old; base = g.base; begin = g.begin; mid = g.mid; mid_is = omega arith; at_is = g.at_is; base_before = g.base_before };
        left = r.later;
        left_is = omega arith;
        shape = r.shape ∙ ap (λ (k : ℕ). map extent_of s.out ++ group_extents g.old g.base (groups_of r.later (record { from = g.begin; first = side s.has_first g.mid (length s.removed); second = side true to k }) (added_spans s.first_end g.mid xs) (removed_spans ys))) done;
      }

  pub grouped_met : (s : State) (xs ys : List EditEntry) → Grouped a b s xs ys → Grouped a b (cancel_common s) xs ys
  grouped_met s xs ys r =
      let g = r.making in
      let fl = length-drop (common_len s) s.first_pending in
      let sl = length-drop (common_len s) s.second_pending in
      let mid_is = g.mid_is in
      record { making = record { old = g.old; base = g.base; begin = g.begin; mid = g.mid; mid_is = omega arith; at_is = g.at_is; base_before = g.base_before }; left = r.left; left_is = r.left_is; shape = r.shape }

  -- ---- a group ends

  module _ (s : State) (xs ys : List EditEntry) (g : Making s) (h : MergeInvariant la lb s xs ys) (one : OneIsDone s) where
    -- its edit is the one that the merge puts
    closes : (rest : List Group) → squashed_extents a b ≡ map extent_of s.out ++ group_extents g.old g.base (group s g ∷ rest) → squashed_extents a b ≡ map extent_of (finish_edit s).out ++ group_extents (s.first_end + length s.second_pending) (g.mid + length s.second_pending) rest
    closes rest shape =
        let edit : EditEntry = record { at = s.at; removed = s.removed ++ s.second_pending; added = s.added ++ s.first_pending } in
        let rl = length-append s.removed s.second_pending in
        let al = length-append s.added s.first_pending in
        let mid_is = g.mid_is in let at_is = g.at_is in let sound_at = h.at_is in let base_before = g.base_before in
        let to_is : max g.mid s.second_end ≡ g.mid + length s.second_pending = omega arith in
        let at : g.old + (g.begin - g.base) ≡ s.at = omega arith in
        let removed : length s.removed + (max g.mid s.second_end - g.mid) ≡ length edit.removed = omega arith in
        let added : length s.added + (max g.mid s.second_end - s.second_end) ≡ length edit.added = omega arith in
        let old : g.old + (g.begin - g.base) + (length s.removed + (max g.mid s.second_end - g.mid)) ≡ s.first_end + length s.second_pending = omega arith in
        let later = group_extents (s.first_end + length s.second_pending) (g.mid + length s.second_pending) rest in
        let first : group_extents g.old g.base (group s g ∷ rest) ≡ cons_nonempty (extent_of edit) later = λ i. cons_nonempty (record { at = at i; removed = removed i; added = added i }) (group_extents (old i) (to_is i) rest) in
        shape ∙ ap (λ (es : List Extent). map extent_of s.out ++ es) first ∙ sym (put_extents s.out edit later ((length edit.removed == 0) && (length edit.added == 0)))

    -- and another begins after n bytes that both keep
    opens : (first : Bool) (n later from : ℕ) → from ≡ g.mid + length s.second_pending + n → suc later ≡ length xs + length ys → BecomesGroups a b (λ g xs ys. g ∷ taking first later (empty_group from) xs ys) s g xs ys → AreDisjoint la (s.first_end + length s.second_pending) xs → AreDisjoint la (s.first_end + length s.second_pending + n) xs → GroupedReady a b (first, skip_kept n (finish_edit s)) xs ys
    opens first n later from from_is later_is shape near far =
        let sl = length s.second_pending in
        let mid_is = g.mid_is in
        let second_is : from ≡ s.second_end + length s.first_pending + n = omega arith in
        let moved = spans_moved la n (s.first_end + sl) (g.mid + sl) xs far ∙ spans_moved la sl s.first_end g.mid xs near in
        let begun_is : empty_group from ≡ record { from = g.mid + sl + n; first = side false (g.mid + sl + n) 0; second = side false (s.second_end + length s.first_pending + n) 0 } = λ i. record { from = from_is i; first = side false (from_is i) 0; second = side false (second_is i) 0 } in
        record {
          making = record { old = s.first_end + sl; base = g.mid + sl; begin = g.mid + sl + n; mid = g.mid + sl + n; mid_is = omega arith; at_is = omega arith; base_before = omega arith };
          later = later;
          later_is = later_is;
          shape = closes (taking first later (empty_group from) (added_spans s.first_end g.mid xs) (removed_spans ys)) shape
              ∙ (λ i. map extent_of (finish_edit s).out ++ group_extents (s.first_end + sl) (g.mid + sl) (taking first later (begun_is i) (sym moved i) (removed_spans ys)));
        }

  -- ---- the next edit is made ready

  same_first : (s : State) (g : Making s) (xs : List EditEntry) → OneIsDone s → next_touches (added_spans s.first_end g.mid xs) (group s g).second ≡ joins_first s xs
  same_first s g [] one = sym (joins_none s.has_second (length s.first_pending == 0))
  same_first s g (e ∷ es) one = joins_is s.has_second (g.mid + (e.at - s.first_end)) g.mid (e.at - s.first_end) s.second_end (length s.second_pending) (length s.first_pending) refl g.mid_is one

  same_second : (s : State) (g : Making s) (ys : List EditEntry) → OneIsDone s → AreDisjoint lb s.second_end ys → next_touches (removed_spans ys) (group s g).first ≡ joins_second s ys
  same_second s g [] one p = sym (joins_none s.has_first (length s.second_pending == 0))
  same_second s g (e ∷ es) one p =
      let later = p.0.later in let mid_is = g.mid_is in
      joins_is s.has_first e.at s.second_end (e.at - s.second_end) g.mid (length s.first_pending) (length s.second_pending) (omega arith) (omega arith) (omega arith)

  same_leads : (s : State) (g : Making s) (xs ys : List EditEntry) → AreDisjoint la (s.first_end + length s.second_pending) xs → AreDisjoint lb (s.second_end + length s.first_pending) ys → first_span_is_next (added_spans s.first_end g.mid xs) (removed_spans ys) ≡ first_is_next (finish_edit s) xs ys
  same_leads s g [] ys p q = refl
  same_leads s g (x ∷ xs) [] p q = refl
  same_leads s g (x ∷ xs) (y ∷ ys) p q =
      let pl = p.0.later in let ql = q.0.later in let m = g.mid_is in
      let a = x.at - (s.first_end + length s.second_pending) in
      let b = y.at - (s.second_end + length s.first_pending) in
      same_order (g.mid + (x.at - s.first_end)) y.at (leb a b) (λ t. let k = leb-true a b t in omega arith) (λ t. let k = leb-false a b t in omega arith)

  start_edit : (v : Bool) (xs ys : List EditEntry) (r : Bool × State) (n : ℕ) (s : State) (g : Making s) → MergeInvariant la lb s xs ys → OneIsDone s → AreDisjoint la (s.first_end + length s.second_pending) xs → AreDisjoint lb (s.second_end + length s.first_pending) ys → first_is_next (finish_edit s) xs ys ≡ v → suc n ≡ length xs + length ys
      → BecomesGroups a b (λ h X Y. h ∷ cond v (taking true n (empty_group (next_start X)) X Y) (taking false n (empty_group (next_start Y)) X Y)) s g xs ys
      → AreDisjoint la (cond {A = Bool × State} v (true, skip_kept (gap (finish_edit s).first_end xs) (finish_edit s)) (false, skip_kept (gap (finish_edit s).second_end ys) (finish_edit s))).1.first_end xs
      → GroupedReady a b (cond v (true, skip_kept (gap (finish_edit s).first_end xs) (finish_edit s)) (false, skip_kept (gap (finish_edit s).second_end ys) (finish_edit s))) xs ys
  start_edit true [] ys r n s g h one near far o left shape placed = absurd cc
  start_edit true (x ∷ xs) ys r n s g h one near far o left shape placed =
      let later = near.0.later in
      opens s (x ∷ xs) ys g h one true (x.at - (s.first_end + length s.second_pending)) n (g.mid + (x.at - s.first_end)) (omega arith) left shape near placed
  start_edit false [] [] r n s g h one near far o left shape placed = absurd (omega arith)
  start_edit false (x ∷ xs) [] r n s g h one near far o left shape placed = absurd cc
  start_edit false xs (y ∷ ys) r n s g h one near far o left shape placed =
      let later = far.0.later in let mid_is = g.mid_is in
      opens s xs (y ∷ ys) g h one false (y.at - (s.second_end + length s.first_pending)) n y.at (omega arith) left shape near placed

  -- by the tests of a step
  readied_by : (t u v : Bool) (r : Bool × State) (n : ℕ) (s : State) (xs ys : List EditEntry) (g : Grouped a b s xs ys) → g.left ≡ suc n → MergeInvariant la lb s xs ys → OneIsDone s → joins_first s xs ≡ t → joins_second s ys ≡ u → first_is_next (finish_edit s) xs ys ≡ v
      → r ≡ cond t (true, s) (cond u (false, s) (cond v (true, skip_kept (gap (finish_edit s).first_end xs) (finish_edit s)) (false, skip_kept (gap (finish_edit s).second_end ys) (finish_edit s)))) → AreDisjoint la r.1.first_end xs → GroupedReady a b r xs ys
  readied_by true u v r n s xs ys g is h one p q o e placed =
      let left = g.left_is in
      rw e (record { making = g.making; later = n; later_is = omega arith; shape = rw (is, same_first s g.making xs one ∙ p) at g.shape })
  readied_by false true v r n s xs ys g is h one p q o e placed =
      let left = g.left_is in
      rw e (record { making = g.making; later = n; later_is = omega arith; shape = rw (is, same_first s g.making xs one ∙ p, same_second s g.making ys one h.second_placed ∙ q) at g.shape })
  readied_by false false v r n s xs ys g is h one p q o e placed =
      let left = g.left_is in
      let near = apart_first la lb s xs ys h one p in
      let far = apart_second la lb s xs ys h one q in
      let order = same_leads s g.making xs ys near far ∙ o in
      let shape = rw (is, same_first s g.making xs one ∙ p, same_second s g.making ys one h.second_placed ∙ q, order) at g.shape in
      rw e (start_edit v xs ys r n s g.making h one near far o (omega arith) shape (rw e at placed))

  pub grouped_readied : (s : State) (xs ys : List EditEntry) → 0 < length xs + length ys → Grouped a b s xs ys → MergeInvariant la lb s xs ys → OneIsDone s → AreDisjoint la (prepare_next s xs ys).1.first_end xs → GroupedReady a b (prepare_next s xs ys) xs ys
  grouped_readied s xs ys more g h one placed = by g.left refl
    where
      by : (n : ℕ) → g.left ≡ n → GroupedReady a b (prepare_next s xs ys) xs ys
      by zero e = let is = g.left_is in absurd (omega arith)
      by (suc n) e = readied_by (joins_first s xs) (joins_second s ys) (first_is_next (finish_edit s) xs ys) (prepare_next s xs ys) n s xs ys g e h one refl refl refl refl placed

  -- ---- the begin and the end

  pub grouped_start : Grouped a b initial a b
  grouped_start = record {
    making = record { old = 0; base = 0; begin = 0; mid = 0; mid_is = refl; at_is = refl; base_before = omega arith };
    left = length a + length b;
    left_is = refl;
    shape = refl;
  }

  pub grouped_end : (c : List EditEntry) (s : State) → Grouped a b s [] [] → MergeInvariant la lb s [] [] → OneIsDone s → c ≡ (finish_edit s).out → map extent_of c ≡ squashed_extents a b
  grouped_end c s g h one e =
      let whole = closes s [] [] g.making h one [] (rw g.left_is at g.shape) in
      ap (λ (es : List EditEntry). map extent_of es) e ∙ sym (append-nil (map extent_of (finish_edit s).out)) ∙ sym whole
