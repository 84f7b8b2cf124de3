-- The ends of a list, one after another.
use Rattle.std.proofs.Common.{◌≡◌, ℕ, zero, suc, ◌+◌, ◌-◌, ◌/◌, ◌^◌, ◌≤◌, ◌<◌, List, [], ◌∷◌, ◌++◌, length, map, drop, take, replicate, get_or, refl, arith, sym, ap, ◌∙◌, subst, length-append, append_assoc}
use Rattle.std.specs.List.{AllByRecursion}
use Rattle.std.proofs.lemmas.List.{take_at, drop_at, append-nil, take-append-drop, nil_from_length, length-replicate}
use Rattle.edit_record.specs.declared.lists.edits.TheConstants.{MAX_TEXT}
use Rattle.edit_record.specs.Lists.Pieces.{EditEntry, EditList, added_len, removed_len}
use Rattle.edit_record.specs.Lists.Validity.{AreDisjoint, AreValidEdits, new_len}
use Rattle.edit_record.proofs.ListsLemmas.Placed.{placed_within}
use Rattle.edit_record.specs.declared.swaps.relative_ends.EndOffset.{EndOffset}
use Rattle.edit_record.specs.Swaps.Inner.RelativeEnds.{no_offset, ends, ends_of, plus, IsSmall, EndsAfterBy, CanShift, shifted, shifted_from}
use Rattle.edit_record.specs.Swaps.Inner.EditEnds.{ends_at}
use Rattle.edit_record.proofs.SwapsLemmas.Spans.{all_map}
use Rattle.edit_record.proofs.SwapsLemmas.RelativeEnds.RelativeEndsLemmas.{Halved, halved_or, ends_step, ends_len, one_reach, all_left, all_right, all_both}
use Rattle.edit_record.proofs.SwapsLemmas.RelativeEnds.PendingEnds.{ends_append, ends_len_at}
use Rattle.edit_record.proofs.SwapsLemmas.RelativeEnds.MoveInvariant.{sum_added, sum_removed}
use Rattle.edit_record.proofs.SwapsLemmas.RelativeEnds.MovePastEach.{made_second, few_added, next_item}

-- ---- all of them nowhere

nowhere_beyond : (x : EndOffset) (rs : List EndOffset) → x ≡ no_offset → AllByRecursion (λ r. r ≡ no_offset) rs → AllByRecursion (λ r. r ≡ no_offset) (map (plus x) rs)
nowhere_beyond x [] e h = tt
nowhere_beyond x (r ∷ rs) e h = ((λ i. plus (e i) (h.0 i)), nowhere_beyond x rs e h.1)

all_nowhere : (n : ℕ) (run : List EndOffset) → length run ≤ n → AllByRecursion (λ r. r ≡ no_offset) run → AllByRecursion (λ r. r ≡ no_offset) (ends n run)
all_nowhere zero [] l h = tt
all_nowhere zero (y ∷ ys) l h = tt
all_nowhere (suc n) [] l h = tt
all_nowhere (suc n) (y ∷ ys) l h =
    let run : List EndOffset = y ∷ ys in
    let m = length run / 2 in
    let x : EndOffset = get_or run m y in
    let w : Halved run x = halved_or run y (omega arith) in
    let a = w.left_len in let b = w.right_len in let c = w.middle_lt in
    let P : EndOffset → Type 0 = λ r. r ≡ no_offset in
    let split_is = subst (λ (l : List EndOffset). AllByRecursion P l) (sym (take-append-drop m run)) h in
    let is_before = all_left P (take m run) (drop m run) split_is in
    let following = subst (λ (l : List EndOffset). AllByRecursion P l) w.middle_is (all_right P (take m run) (drop m run) split_is) in
    let p = all_nowhere n (take m run) (omega (arith, a, c, l)) is_before in
    let q = all_nowhere n (drop (m + 1) run) (omega (arith, b, l)) following.1 in
    subst (λ (l : List EndOffset). AllByRecursion P l) (sym (ends_step n run x w)) (all_both P (ends n (take m run)) _ p (following.0, nowhere_beyond x (ends n (drop (m + 1) run)) following.0 q))

constant : (last : EndOffset) (xs : List EndOffset) (es : List EditEntry) → AllByRecursion (λ r. r ≡ last) xs → length xs ≡ length es → xs ≡ map (λ _. last) es
constant last [] [] h l = refl
constant last [] (e ∷ es) h l = absurd (omega (arith, l))
constant last (x ∷ xs) [] h l = absurd (omega (arith, l))
constant last (x ∷ xs) (e ∷ es) h l = let i = constant last xs es h.1 (omega (arith, l)) in λ j. h.0 j ∷ i j

pub starts_nowhere : (run : List EndOffset) (es : List EditEntry) → AllByRecursion (λ r. r ≡ no_offset) run → length run ≡ length es → ends_of run ≡ map (λ _. no_offset) es
starts_nowhere run es h l = constant no_offset (ends_of run) es (all_nowhere (length run) run (omega arith) h) (ends_len run ∙ l)

-- ---- one after another

-- the edits that are done end where they do, and all others where the last of these does
pub record Built (n : ℕ) (es : List EditEntry) (i old : ℕ) (found : List EndOffset) : Type 0 where
  pub done : List EditEntry
  pub left : List EditEntry
  pub all : es ≡ done ++ left
  pub count : length done ≡ i
  pub last : EndOffset
  pub last_old : last.old ≡ old
  pub last_new : last.new + removed_len done ≡ last.old + added_len done
  pub found_is : found ≡ ends_at 0 0 done ++ map (λ _. last) left
  pub before : AllByRecursion (λ f. (f.old ≤ last.old) × (f.new ≤ last.new)) (ends_at 0 0 done)
  pub disjoint : AreDisjoint n old left
  pub sums : added_len done + added_len left ≡ added_len es

pub built_start : (n k : ℕ) (es : List EditEntry) (found : List EndOffset) → AreValidEdits n k es → found ≡ map (λ _. no_offset) es → Built n es 0 0 found
built_start n k es found h is = record {
  done = [];
  left = es;
  all = refl;
  count = refl;
  last = no_offset;
  last_old = refl;
  last_new = refl;
  found_is = is;
  before = tt;
  disjoint = h.disjoint;
  sums = omega arith;
}

pub built_end : (n : ℕ) (es : List EditEntry) (i old : ℕ) (found : List EndOffset) → Built n es i old found → length es ≤ i → found ≡ ends_at 0 0 es
built_end n es i old found b le =
    let l = ap length b.all in
    let a = length-append b.done b.left in
    let c = b.count in
    let none : b.left ≡ [] = nil_from_length b.left (omega (arith, l, a, c, le)) in
    let whole : es ≡ b.done = b.all ∙ ap (λ (z : List EditEntry). b.done ++ z) none ∙ append-nil b.done in
    b.found_is ∙ ap (λ (z : List EditEntry). ends_at 0 0 b.done ++ map (λ _. b.last) z) none ∙ append-nil (ends_at 0 0 b.done) ∙ ap (ends_at 0 0) (sym whole)

pub left_next : (n : ℕ) (es : List EditEntry) (i old : ℕ) (found : List EndOffset) (b : Built n es i old found) (y : EditEntry) → drop i es ≡ y ∷ drop (i + 1) es → b.left ≡ y ∷ drop (i + 1) es
left_next n es i old found b y d = sym (drop_at b.done b.left i b.count) ∙ ap (drop i) (sym b.all) ∙ d

far_zero : (es : List EndOffset) → AllByRecursion (EndsAfterBy 0 no_offset) es
far_zero [] = tt
far_zero (e ∷ es) = ((omega arith, omega arith), far_zero es)

far_last : (f last : EndOffset) (es : List EditEntry) → f.old ≤ last.old → f.new ≤ last.new → AllByRecursion (EndsAfterBy 0 f) (map (λ _. last) es)
far_last f last [] p q = tt
far_last f last (e ∷ es) p q = ((omega (arith, p), omega (arith, q)), far_last f last es p q)

small_last : (last : EndOffset) (es : List EditEntry) → IsSmall last → AllByRecursion IsSmall (map (λ _. last) es)
small_last last [] s = tt
small_last last (e ∷ es) s = (s, small_last last es s)

module _ (n : ℕ) (es : List EditEntry) (i old : ℕ) (found : List EndOffset) (b : Built n es i old found) (n_small : n ≤ 2 ^ 35) (few : added_len es ≤ 2 ^ 35) where
  last_small : IsSmall b.last
  last_small =
      let o = b.last_old in let w = b.last_new in let s = b.sums in
      let r = placed_within n old b.left b.disjoint in
      (omega (arith, o, r, n_small), omega (arith, o, w, s, r, n_small, few))

  pub built_small : AllByRecursion IsSmall found
  built_small =
      let p = last_small.0 in let q = last_small.1 in
      let done = all_map (λ f. (f.old ≤ b.last.old) × (f.new ≤ b.last.new)) IsSmall (λ f h. let x = h.0 in let y = h.1 in (omega (arith, x, p), omega (arith, y, q))) (ends_at 0 0 b.done) b.before in
      subst (λ (l : List EndOffset). AllByRecursion IsSmall l) (sym b.found_is) (all_both IsSmall (ends_at 0 0 b.done) _ done (small_last b.last b.left last_small))

  take_done : take i found ≡ ends_at 0 0 b.done
  take_done = ap (take i) b.found_is ∙ take_at (ends_at 0 0 b.done) (map (λ _. b.last) b.left) i (ends_len_at 0 0 b.done ∙ b.count)

  drop_done : drop i found ≡ map (λ _. b.last) b.left
  drop_done = ap (drop i) b.found_is ∙ drop_at (ends_at 0 0 b.done) (map (λ _. b.last) b.left) i (ends_len_at 0 0 b.done ∙ b.count)

  pub built_can_shift : CanShift 0 i found
  built_can_shift = record {
    start = far_zero (drop i found);
    after_others = subst (λ (l : List EndOffset). AllByRecursion (λ f. AllByRecursion (EndsAfterBy 0 f) l) (take i found)) (sym drop_done)
        (subst (λ (l : List EndOffset). AllByRecursion (λ f. AllByRecursion (EndsAfterBy 0 f) (map (λ _. b.last) b.left)) l) (sym take_done)
        (all_map (λ f. (f.old ≤ b.last.old) × (f.new ≤ b.last.new)) (λ f. AllByRecursion (EndsAfterBy 0 f) (map (λ _. b.last) b.left)) (λ f h. far_last f b.last b.left h.0 h.1) (ends_at 0 0 b.done) b.before));
  }

  module _ (y : EditEntry) (rest : List EditEntry) (left_is : b.left ≡ y ∷ rest) where
    here_placed : AreDisjoint n old (y ∷ rest)
    here_placed = subst (λ (l : List EditEntry). AreDisjoint n old l) left_is b.disjoint

    pub at_later : old ≤ y.at
    at_later = here_placed.0.later

    pub at_within : y.at + length y.removed ≤ n
    at_within = here_placed.0.within

    pub added_small : length y.added ≤ 2 ^ 35
    added_small = let s = b.sums in let l = ap added_len left_is in omega (arith, s, l, few)

    to_last : (later : EndOffset) (end : EndOffset) (xs : List EditEntry) → shifted later 0 b.last ≡ end → map (shifted later 0) (map (λ _. b.last) xs) ≡ map (λ _. end) xs
    to_last later end [] e = refl
    to_last later end (x ∷ xs) e = let k = to_last later end xs e in λ j. e j ∷ k j

    pub built_more : (later : EndOffset) (next : List EndOffset) → later ≡ record { old = (y.at - old) + length y.removed; new = (y.at - old) + length y.added } → next ≡ shifted_from i later 0 found → Built n es (i + 1) (y.at + length y.removed) next
    built_more later next later_is is =
        let o = b.last_old in let w = b.last_new in
        let p = here_placed.0.later in
        let lo = ap (λ (r : EndOffset). r.old) later_is in
        let ln = ap (λ (r : EndOffset). r.new) later_is in
        let end : EndOffset = record { old = y.at + length y.removed; new = (y.at + added_len b.done + length y.added) - removed_len b.done } in
        let moves : shifted later 0 b.last ≡ end = one_reach _ _ (omega (arith, o, lo, p)) (omega (arith, o, w, ln, p)) in
        let sa = sum_added b.done y in
        let sr = sum_removed b.done y in
        let c = b.count in
        let d = length-append b.done (y ∷ []) in
        let s = b.sums in
        let sl = ap added_len left_is in
        let leading : ends_at 0 0 (b.done ++ y ∷ []) ≡ ends_at 0 0 b.done ++ end ∷ [] =
        ends_append 0 0 b.done (y ∷ []) ∙ (let e1 : 0 + added_len b.done ≡ added_len b.done = omega arith in let e2 : 0 + removed_len b.done ≡ removed_len b.done = omega arith in λ j. ends_at 0 0 b.done ++ ends_at (e1 j) (e2 j) (y ∷ [])) in
        let tail : map (shifted later 0) (drop i found) ≡ end ∷ map (λ _. end) rest = ap (map (shifted later 0)) (drop_done ∙ ap (map (λ _. b.last)) left_is) ∙ to_last later end (y ∷ rest) moves in
        record {
          done = b.done ++ y ∷ [];
          left = rest;
          all = b.all ∙ ap (λ (z : List EditEntry). b.done ++ z) left_is ∙ sym (append_assoc b.done (y ∷ []) rest);
          count = omega (arith, c, d);
          last = end;
          last_old = refl;
          last_new = omega (arith, o, w, p, sa, sr);
          found_is = is ∙ (λ j. take_done j ++ tail j) ∙ sym (append_assoc (ends_at 0 0 b.done) (end ∷ []) (map (λ _. end) rest)) ∙ ap (λ (z : List EndOffset). z ++ map (λ _. end) rest) (sym leading);
          before = subst (λ (l : List EndOffset). AllByRecursion (λ f. (f.old ≤ end.old) × (f.new ≤ end.new)) l) (sym leading)
              (all_both (λ f. (f.old ≤ end.old) × (f.new ≤ end.new)) (ends_at 0 0 b.done) (end ∷ [])
              (all_map (λ f. (f.old ≤ b.last.old) × (f.new ≤ b.last.new)) (λ f. (f.old ≤ end.old) × (f.new ≤ end.new)) (λ f h. let x = h.0 in let z = h.1 in (omega (arith, x, o, p), omega (arith, z, o, w, p))) (ends_at 0 0 b.done) b.before)
              ((omega arith, omega arith), tt));
          disjoint = here_placed.1;
          sums = omega (arith, s, sa, sl);
        }

pub replicate_all : (n : ℕ) → AllByRecursion (λ r. r ≡ no_offset) (replicate n no_offset)
replicate_all zero = tt
replicate_all (suc n) = (refl, replicate_all n)

pub begins : (n k m : ℕ) (es : List EditEntry) (run : List EndOffset) → AreValidEdits n k es → run ≡ replicate m no_offset → m ≡ length es → Built n es 0 0 (ends_of run) × (length run ≡ length es)
begins n k m es run h is len =
    let l = ap length is ∙ length-replicate m no_offset ∙ len in
    (built_start n k es (ends_of run) h (starts_nowhere run es (subst (λ (z : List EndOffset). AllByRecursion (λ r. r ≡ no_offset) z) (sym is) (replicate_all m)) l), l)

-- ---- the next edit of a list, by its number in the code

pub record NextOf (e : EditList) (y : EditEntry) (i old : ℕ) (found : List EndOffset) : Type 0 where
  pub built : Built e.old_len e.entries i old found
  pub left : built.left ≡ y ∷ drop (i + 1) e.entries
  pub fits : e.old_len ≤ MAX_TEXT
  pub small : e.old_len ≤ 2 ^ 35
  pub few : added_len e.entries ≤ 2 ^ 35

pub next_of : (e : EditList) (items : List EditEntry) (i old : ℕ) (y : EditEntry) (found : List EndOffset) → items ≡ e.entries → AreValidEdits e.old_len (new_len e) items → i < length items → y ≡ get_or items i y → Built e.old_len e.entries i old found → NextOf e y i old found
next_of e items i old y found same disjoint lt is b =
    let made = made_second e items same disjoint in
    let fits = made.old_fits in
    record { built = b; left = left_next e.old_len e.entries i old found b y (next_item items e.entries i y same lt is); fits = fits; small = omega (arith, fits); few = few_added e.old_len (new_len e) e.entries made }
