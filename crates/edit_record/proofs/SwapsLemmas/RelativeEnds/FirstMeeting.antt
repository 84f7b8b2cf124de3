-- Where an edit of the second list meets one of the first, found by where those of the first end.
use Rattle.std.proofs.Common.{◌≡◌, ℕ, zero, suc, ◌+◌, ◌-◌, ◌≤◌, ◌<◌, ◌⊎◌, List, [], ◌∷◌, ◌++◌, length, drop, get_or, Option, Some, None, refl, arith, sym, ap, ◌∙◌, subst, ⊎_elim, inl, inr, length-append}
use Rattle.std.specs.List.{AllByRecursion}
use Rattle.std.proofs.Math.Seq.{get_or-append_seam}
use Rattle.std.proofs.lemmas.Bool.{cases_lt}
use Rattle.edit_record.specs.Lists.Pieces.{EditEntry, EditList}
use Rattle.edit_record.specs.Lists.Validity.{AreDisjoint}
use Rattle.edit_record.specs.Squashes.Groups.{Span, span_end, added_spans, removed_spans}
use Rattle.edit_record.specs.Swaps.Swap.{NoneMeet, IsItem, FirstMeeting, Touch, Meet}
use Rattle.edit_record.specs.declared.swaps.relative_ends.EndOffset.{EndOffset}
use Rattle.edit_record.specs.declared.swaps.moving_edits.MovingEdits.{MovingEdits}
use Rattle.edit_record.specs.Swaps.Inner.RelativeEnds.{ends_of, LastEndsBefore, NextEndsAt, IsPartition, IsSmall}
use Rattle.edit_record.specs.Swaps.Inner.EditEnds.{ends_at}
use Rattle.edit_record.specs.Swaps.Inner.MovingEditsView.{edits_now, IsWellFormed}
use Rattle.edit_record.proofs.SwapsLemmas.RelativeEnds.PendingEnds.{all_before, head_new, later_same, small_ends}
use Rattle.edit_record.proofs.SwapsLemmas.RelativeEnds.MovePastEach.{texts_split}
use Rattle.edit_record.proofs.SwapsLemmas.RelativeEnds.SetPlaces.{SameTexts, placed_texts}
use Rattle.edit_record.proofs.SwapsLemmas.RelativeEnds.RelativeEndsLemmas.{ends_len}
use Rattle.edit_record.proofs.SwapsLemmas.Spans.{added_later}

-- ---- members by their numbers

-- it is in the first part, or in the second
at_split : (k : ℕ) (o : Span) (leading back : List Span) → IsItem k o (leading ++ back) → ((k < length leading) × IsItem k o leading) ⊎ ((d : ℕ) × (k ≡ length leading + d) × IsItem d o back)
at_split k o [] back h = inr (k, omega arith, h)
at_split zero o (f ∷ leading) back h = inl (omega arith, h)
at_split (suc k) o (f ∷ leading) back h =
    ⊎_elim
    (λ one. let lt = one.0 in inl (omega (arith, lt), one.1))
    (λ other. let is = other.1 in inr (other.0, omega (arith, is), other.2))
    (at_split k o leading back h)

at_all : (P : Span → Type 0) (k : ℕ) (o : Span) (xs : List Span) → AllByRecursion P xs → IsItem k o xs → P o
at_all P k o [] a h = elim h [ ]
at_all P zero o (x ∷ xs) a h = subst P (sym h) a.0
at_all P (suc k) o (x ∷ xs) a h = at_all P k o xs a.1 h

at_seam : (o : Span) (leading rest : List Span) (k : ℕ) → k ≡ length leading → IsItem k o (leading ++ o ∷ rest)
at_seam o [] rest zero e = refl
at_seam o [] rest (suc k) e = absurd (omega (arith, e))
at_seam o (f ∷ leading) rest zero e = absurd (omega (arith, e))
at_seam o (f ∷ leading) rest (suc k) e = at_seam o leading rest k (omega (arith, e))

-- ---- edits of the first list

-- edits and their spans, cut where a part of their ends is
record Halves (at : ℕ) (all : List EditEntry) (spans : List Span) (back : List EndOffset) (count : ℕ) : Type 0 where
  n : ℕ
  old : ℕ
  mid : ℕ
  added : ℕ
  removed : ℕ
  done : List EditEntry
  leading : List Span
  xs : List EditEntry
  all_is : all ≡ done ++ xs
  is : spans ≡ leading ++ added_spans old mid xs
  done_is : count ≡ length done
  count_is : count ≡ length leading
  before : AllByRecursion (λ x. span_end x < at) leading
  disjoint : AreDisjoint n old xs
  level : mid + removed ≡ old + added
  ends : ends_at added removed xs ≡ back

halves : (at n old mid a r : ℕ) (xs : List EditEntry) (leading back : List EndOffset) → AreDisjoint n old xs → mid + r ≡ old + a → ends_at a r xs ≡ leading ++ back → AllByRecursion (λ e. e.new < at) leading
    → Halves at xs (added_spans old mid xs) back (length leading)
halves at n old mid a r xs [] back p l e h = record {
  n = n;
  old = old;
  mid = mid;
  added = a;
  removed = r;
  done = [];
  leading = [];
  xs = xs;
  all_is = refl;
  is = refl;
  done_is = refl;
  count_is = refl;
  before = tt;
  disjoint = p;
  level = l;
  ends = e;
}
halves at n old mid a r [] (f ∷ leading) back p l e h = let q = ap length e in absurd (omega (arith, q))
halves at n old mid a r (x ∷ xs) (f ∷ leading) back p l e h =
    let w = p.0.later in
    let first : (x.at + a + length x.added) - r ≡ f.new = ap (head_new 0) e in
    let lt = h.0 in
    let from = mid + (x.at - old) in
    let rest = halves at n (x.at + length x.removed) (from + length x.added) (a + length x.added) (r + length x.removed) xs leading back p.1 (omega (arith, w, l)) (ap (drop 1) e) h.1 in
    let c = rest.count_is in
    let d = rest.done_is in
    let span : Span = record { from = from; len = length x.added; other = length x.removed } in
    record {
      n = rest.n;
      old = rest.old;
      mid = rest.mid;
      added = rest.added;
      removed = rest.removed;
      done = x ∷ rest.done;
      leading = span ∷ rest.leading;
      xs = rest.xs;
      all_is = ap (λ (z : List EditEntry). x ∷ z) rest.all_is;
      is = ap (λ (z : List Span). span ∷ z) rest.is;
      done_is = omega (arith, d);
      count_is = omega (arith, c);
      before = (omega (arith, w, l, first, lt), rest.before);
      disjoint = rest.disjoint;
      level = rest.level;
      ends = rest.ends;
    }

-- the first edit that ends at the place or after it
pub record Next (at : ℕ) (all : List EditEntry) (spans : List Span) (count end : ℕ) : Type 0 where
  pub done : List EditEntry
  pub x : EditEntry
  pub rest : List EditEntry
  pub all_is : all ≡ done ++ x ∷ rest
  pub done_is : count ≡ length done
  pub one : Span
  pub one_is : IsItem count one spans
  pub len_is : one.len ≡ length x.added
  pub span_end_is : span_end one ≡ end
  pub after : at ≤ end
  pub lowest : (i : ℕ) (o : Span) → IsItem i o spans → at ≤ span_end o → (count ≤ i) × (one.from ≤ o.from)

-- no edit ends there or after it, or one does first
abbrev pub Found : ℕ → List EditEntry → List Span → ℕ → Option ℕ → Type 0
Found at all spans count None = (i : ℕ) (o : Span) → IsItem i o spans → span_end o < at
Found at all spans count (Some end) = Next at all spans count end

no_spans : (a r old mid d : ℕ) (o : Span) (xs : List EditEntry) → ends_at a r xs ≡ [] → IsItem d o (added_spans old mid xs) → ⊥
no_spans a r old mid d o [] e h = h
no_spans a r old mid d o (x ∷ xs) e h = let l = ap length e in absurd (omega (arith, l))

nothing_found : (at : ℕ) (all : List EditEntry) (spans : List Span) (count : ℕ) → Halves at all spans [] count → (i : ℕ) (o : Span) → IsItem i o spans → span_end o < at
nothing_found at all spans count h i o a =
    ⊎_elim
    (λ one. at_all (λ x. span_end x < at) i o h.leading h.before one.1)
    (λ other. absurd (no_spans h.added h.removed h.old h.mid other.0 o h.xs h.ends other.2))
    (at_split i o h.leading (added_spans h.old h.mid h.xs) (subst (λ (l : List Span). IsItem i o l) h.is a))

-- of these the first is the one
next_lowest : (n old mid : ℕ) (x : EditEntry) (xs : List EditEntry) (d : ℕ) (o : Span) → AreDisjoint n old (x ∷ xs) → IsItem d o (added_spans old mid (x ∷ xs)) → mid + (x.at - old) ≤ o.from
next_lowest n old mid x xs zero o p h = let q = ap (λ (z : Span). z.from) h in omega (arith, q)
next_lowest n old mid x xs (suc d) o p h =
    let l = added_later n (x.at + length x.removed) (mid + (x.at - old) + length x.added) xs d o p.1 h in omega (arith, l)

found_next : (at : ℕ) (all : List EditEntry) (spans : List Span) (e : EndOffset) (es : List EndOffset) (count : ℕ) (xs : List EditEntry) (h : Halves at all spans (e ∷ es) count) → h.xs ≡ xs → at ≤ e.new → Next at all spans count e.new
found_next at all spans e es count [] h is le = let l = ap length (sym h.ends ∙ ap (ends_at h.added h.removed) is) in absurd (omega (arith, l))
found_next at all spans e es count (x ∷ xs) h is le =
    let p : AreDisjoint h.n h.old (x ∷ xs) = subst (λ (l : List EditEntry). AreDisjoint h.n h.old l) is h.disjoint in
    let w = p.0.later in
    let v = h.level in
    let one : Span = record { from = h.mid + (x.at - h.old); len = length x.added; other = length x.removed } in
    let split_is : spans ≡ h.leading ++ added_spans h.old h.mid (x ∷ xs) = h.is ∙ ap (λ (l : List EditEntry). h.leading ++ added_spans h.old h.mid l) is in
    let first : (x.at + h.added + length x.added) - h.removed ≡ e.new = ap (head_new 0) (sym (ap (ends_at h.added h.removed) is) ∙ h.ends) in
    let c = h.count_is in
    record {
      done = h.done;
      x = x;
      rest = xs;
      all_is = h.all_is ∙ ap (λ (l : List EditEntry). h.done ++ l) is;
      done_is = h.done_is;
      one = one;
      one_is = subst (λ (l : List Span). IsItem count one l) (sym split_is) (at_seam one h.leading _ count c);
      len_is = refl;
      span_end_is = omega (arith, w, v, first);
      after = le;
      lowest = λ i o a late.
          ⊎_elim
          (λ leading. let b = at_all (λ x. span_end x < at) i o h.leading h.before leading.1 in absurd (omega (arith, b, late)))
          (λ back. let k = back.1 in (omega (arith, k, c), next_lowest h.n h.old h.mid x xs back.0 o p back.2))
          (at_split i o h.leading (added_spans h.old h.mid (x ∷ xs)) (subst (λ (l : List Span). IsItem i o l) split_is a));
    }

found_in : (at : ℕ) (all : List EditEntry) (spans : List Span) (back : List EndOffset) (count : ℕ) (next : Option ℕ) → Halves at all spans back count → NextEndsAt at back next → Found at all spans count next
found_in at all spans [] count None h g = nothing_found at all spans count h
found_in at all spans [] count (Some end) h g = absurd (cc)
found_in at all spans (e ∷ es) count None h g = absurd (let q = g.0 in cc)
found_in at all spans (e ∷ es) count (Some end) h g =
    let q : Some end ≡ Some e.new = g.0 in
    let same : end ≡ e.new = cc in
    subst (λ n. Next at all spans count n) (sym same) (found_next at all spans e es count h.xs h refl g.1)

prefix_before : (at n : ℕ) (xs : List EditEntry) (leading back : List EndOffset) (last : EndOffset) → AreDisjoint n 0 xs → ends_at 0 0 xs ≡ leading ++ back → LastEndsBefore at leading last → AllByRecursion (λ e. e.new < at) leading
prefix_before at n xs leading back last p e (inl none) = subst (λ (l : List EndOffset). AllByRecursion (λ e. e.new < at) l) (sym none.0) tt
prefix_before at n xs leading back last p e (inr some) =
    all_before n 0 0 0 0 0 at xs leading back last p (omega arith) (omega arith) (ap (ends_at 0 0) (later_same xs) ∙ e) some.0 some.1 some.2

-- what a search finds among the edits
pub found_by : (m : MovingEdits) (at count : ℕ) (last : EndOffset) (next : Option ℕ) → IsWellFormed m → IsPartition at (ends_of m.ends.items) count last next → Found at (edits_now m).entries (added_spans 0 0 (edits_now m).entries) count next
found_by m at count last next moving p =
    let xs = (edits_now m).entries in
    let split_is = sym moving.ends ∙ p.split in
    let h = halves at m.old_len 0 0 0 0 xs p.prefix p.suffix moving.made.disjoint refl split_is (prefix_before at m.old_len xs p.prefix p.suffix last moving.made.disjoint split_is p.last_is) in
    found_in at xs (added_spans 0 0 xs) p.suffix count next (subst (λ (k : ℕ). Halves at xs (added_spans 0 0 xs) p.suffix k) (sym p.count_is) h) p.next_is

-- the edit that is found, by its number in the code
pub record Itself (m : MovingEdits) (count : ℕ) (x : EditEntry) : Type 0 where
  pub in_range : count < length m.edits.items
  pub added : (d : EditEntry) → length (get_or m.edits.items count d).added ≡ length x.added

pub itself : (m : MovingEdits) (at count end : ℕ) → IsWellFormed m → (f : Next at (edits_now m).entries (added_spans 0 0 (edits_now m).entries) count end) → Itself m count f.x
itself m at count end moving f =
    let l = ends_len m.ends.items in
    let ml = moving.len in
    let t = placed_texts m.edits.items (ends_of m.ends.items) (omega (arith, l, ml)) in
    let s = texts_split f.done f.x f.rest m.edits.items (subst (λ (z : List EditEntry). SameTexts z m.edits.items) f.all_is t) in
    let sl = s.len in
    let d = f.done_is in
    let all = ap length s.is in
    let c = length-append s.leading (s.y ∷ s.rest) in
    let at_text_start : count ≡ length s.leading = omega (arith, d, sl) in
    record {
      in_range = omega (arith, all, c, at_text_start);
      added = λ d. ap (λ (z : EditEntry). length z.added) ((λ i. get_or (s.is i) (at_text_start i) d) ∙ get_or-append_seam s.leading s.y s.rest d) ∙ ap length (sym s.added);
    }

-- how many bytes it adds, as the code reads them
pub itself_adds : (m : MovingEdits) (at count end : ℕ) (moving : IsWellFormed m) (f : Next at (edits_now m).entries (added_spans 0 0 (edits_now m).entries) count end) (item : EditEntry) (bytes : List ℕ)
    → bytes ≡ item.added → item ≡ get_or m.edits.items count item → length bytes ≡ length f.x.added
itself_adds m at count end moving f item bytes adds is = ap length adds ∙ ap (λ (z : EditEntry). length z.added) is ∙ (itself m at count end moving f).added item

-- an edit of the second list, by its number in the code
pub numbered : (b : EditList) (items : List EditEntry) (j : ℕ) (y : EditEntry) → items ≡ b.entries → j < length items → y ≡ get_or items j y → (j < length b.entries) × (y ≡ get_or b.entries j y)
numbered b items j y same lt is = subst (λ (l : List EditEntry). (j < length l) × (y ≡ get_or l j y)) same (lt, is)

-- ---- what the code has found

pub small_now : (m : MovingEdits) → IsWellFormed m → AllByRecursion IsSmall (ends_of m.ends.items)
small_now m moving = subst (λ (l : List EndOffset). AllByRecursion IsSmall l) (sym moving.ends) (small_ends m.old_len m.new_len (edits_now m).entries moving.made)

module _ (m : MovingEdits) (y : EditEntry) (moving : IsWellFormed m) (at count : ℕ) (last : EndOffset) (next : Option ℕ) (run : List EndOffset) (at_is : at ≡ y.at) (run_is : run ≡ m.ends.items) (place : IsPartition at (ends_of run) count last next) where
  pub found_here : Found y.at (edits_now m).entries (added_spans 0 0 (edits_now m).entries) count next
  found_here = found_by m y.at count last next moving (subst (λ (n : ℕ). IsPartition n (ends_of m.ends.items) count last next) at_is (subst (λ (l : List EndOffset). IsPartition at (ends_of l) count last next) run_is place))

  pub nothing_here : next ≡ None → Found y.at (edits_now m).entries (added_spans 0 0 (edits_now m).entries) count None
  nothing_here is = subst (λ (o : Option ℕ). Found y.at (edits_now m).entries (added_spans 0 0 (edits_now m).entries) count o) is found_here

  pub next_here : (end : ℕ) → next ≡ Some end → Next y.at (edits_now m).entries (added_spans 0 0 (edits_now m).entries) count end
  next_here end is = subst (λ (o : Option ℕ). Found y.at (edits_now m).entries (added_spans 0 0 (edits_now m).entries) count o) is found_here

pub placed_at : (n from : ℕ) (ys : List EditEntry) (j : ℕ) (y : EditEntry) → AreDisjoint n from ys → j < length ys → y ≡ get_or ys j y → y.at + length y.removed ≤ n
placed_at n from [] j y p lt is = absurd (omega (arith, lt))
placed_at n from (z ∷ ys) zero y p lt is =
    let w = p.0.within in
    let a = ap (λ (e : EditEntry). e.at) is in
    let r = ap (λ (e : EditEntry). length e.removed) is in
    omega (arith, w, a, r)
placed_at n from (z ∷ ys) (suc j) y p lt is = placed_at n (z.at + length z.removed) ys j y p.1 (omega (arith, lt)) is

-- ---- edits of the second list

abbrev span_of : EditEntry → Span
span_of y = record { from = y.at; len = length y.removed; other = length y.added }

removed_has : (ys : List EditEntry) (j : ℕ) (y : EditEntry) → j < length ys → y ≡ get_or ys j y → IsItem j (span_of y) (removed_spans ys)
removed_has [] j y lt is = absurd (omega (arith, lt))
removed_has (z ∷ ys) zero y lt is = ap span_of is
removed_has (z ∷ ys) (suc j) y lt is = removed_has ys j y (omega (arith, lt)) is

removed_one : (ys : List EditEntry) (j : ℕ) (o p : Span) → IsItem j o (removed_spans ys) → IsItem j p (removed_spans ys) → o ≡ p
removed_one [] j o p a b = elim a [ ]
removed_one (y ∷ ys) zero o p a b = a ∙ sym b
removed_one (y ∷ ys) (suc j) o p a b = removed_one ys j o p a b

removed_within : (ys : List EditEntry) (j : ℕ) (o : Span) → IsItem j o (removed_spans ys) → j < length ys
removed_within [] j o a = elim a [ ]
removed_within (y ∷ ys) zero o a = omega arith
removed_within (y ∷ ys) (suc j) o a = let l = removed_within ys j o a in omega (arith, l)

-- the first n edits of the second list meet none of the first
abbrev pub NoneMeets : EditList → EditList → ℕ → Type 0
NoneMeets a b n = (j : ℕ) → j < n → (i : ℕ) → Meet a b i j → ⊥

pub none_yet : (a b : EditList) → NoneMeets a b 0
none_yet a b j lt i m = absurd (omega (arith, lt))

pub all_apart : (a b : EditList) (n : ℕ) → length b.entries ≤ n → NoneMeets a b n → NoneMeet a b
all_apart a b n le none i j m = let l = removed_within b.entries j m.other m.other_is in none j (omega (arith, l, le)) i m

module _ (a b : EditList) (j : ℕ) (y : EditEntry) (lt : j < length b.entries) (is : y ≡ get_or b.entries j y) (none : NoneMeets a b j) where
  other_is : (m : ℕ) (i : ℕ) (k : Meet a b i m) → m ≡ j → k.other ≡ span_of y
  other_is m i k e = removed_one b.entries j k.other (span_of y) (subst (λ (n : ℕ). IsItem n k.other (removed_spans b.entries)) e k.other_is) (removed_has b.entries j y lt is)

  one_more : ((i : ℕ) (o : Span) → IsItem i o (added_spans 0 0 a.entries) → Touch o (span_of y) → ⊥) → NoneMeets a b (j + 1)
  one_more apart m le i k =
      ⊎_elim
      (λ (less : m < j). none m less i k)
      (λ (same : j ≤ m).
      let e = other_is m i k (omega (arith, le, same)) in
      apart i k.one k.one_is (subst (λ (o : Span). Touch k.one o) e k.linked))
      (cases_lt m j)

  -- where no edit of the first list ends there or after it
  pub meets_none_of_all : (count : ℕ) → Found y.at a.entries (added_spans 0 0 a.entries) count None → NoneMeets a b (j + 1)
  meets_none_of_all count f = one_more (λ i o at linked. let l = f i o at in let w = linked.other_way in absurd (omega (arith, l, w)))

  -- where the first that does begins after the edit
  pub meets_none_of_one : (count end : ℕ) (f : Next y.at a.entries (added_spans 0 0 a.entries) count end) → y.at + length y.removed < end - length f.x.added → NoneMeets a b (j + 1)
  meets_none_of_one count end f after =
      one_more (λ i o at linked.
      let v = linked.one_way in
      let low = f.lowest i o at linked.other_way in
      let l = low.1 in
      let p = f.span_end_is in
      let n = f.len_is in
      absurd (omega (arith, v, l, p, n, after)))

  -- where it does not
  pub first_met : (count end : ℕ) (f : Next y.at a.entries (added_spans 0 0 a.entries) count end) → end - length f.x.added ≤ y.at + length y.removed → FirstMeeting a b count j
  first_met count end f touches =
      let p = f.span_end_is in
      let n = f.len_is in
      let late = f.after in
      record {
        meet = record {
          one = f.one;
          other = span_of y;
          one_is = f.one_is;
          other_is = removed_has b.entries j y lt is;
          linked = record { one_way = omega (arith, p, n, touches); other_way = omega (arith, p, late) };
        };
        lowest = λ i m k.
            ⊎_elim
            (λ (more : j < m). inl more)
            (λ (le : m ≤ j). ⊎_elim
            (λ (less : m < j). absurd (none m less i k))
            (λ (same : j ≤ m).
            let e = other_is m i k (omega (arith, le, same)) in
            let linked : Touch k.one (span_of y) = subst (λ (o : Span). Touch k.one o) e k.linked in
            let low = f.lowest i k.one k.one_is linked.other_way in
            inr (omega (arith, le, same), low.0))
            (cases_lt m j))
            (cases_lt j m);
      }
