-- The loop over a record's edits.
use Rattle.std.proofs.Common.{◌≡◌, ℕ, ◌+◌, ◌-◌, ◌^◌, ◌≤◌, ◌<◌, List, [], ◌∷◌, ◌++◌, length, drop, get_or, Option, Some, None, true, refl, arith, sym, ap, ◌∙◌, subst, length-append, ⊎_elim}
use Rattle.std.specs.List.{AllByRecursion}
use Rattle.std.proofs.Math.Seq.{get_or-append_seam}
use Rattle.std.proofs.lemmas.Bool.{cases_lt}
use Rattle.edit_record.specs.Lists.Pieces.{EditEntry, EditList, added_len, removed_len}
use Rattle.edit_record.specs.Lists.Validity.{AreValidEdits, new_len}
use Rattle.edit_record.proofs.ListsLemmas.Placed.{drop_item, placed_within}
use Rattle.edit_record.specs.Squashes.Groups.{Span}
use Rattle.edit_record.specs.Swaps.Swap.{NoneMeet, AreRelocated, FirstMeeting}
use Rattle.edit_record.specs.Swaps.Inner.SwapState.{State, relocate, second_is_next, with_second, initial}
use Rattle.edit_record.specs.Swaps.Inner.RelativeEnds.{ends_of, IsSmall, shifted_from, CanShift, IsPartition, NextEndsAt}
use Rattle.edit_record.specs.Swaps.Inner.EditEnds.{ends_at}
use Rattle.edit_record.specs.Swaps.Inner.MovingEditsView.{edits_now, IsWellFormed, HasMovedPast}
use Rattle.edit_record.specs.declared.swaps.relative_ends.EndOffset.{EndOffset}
use Rattle.edit_record.specs.declared.swaps.moving_edits.MovingEdits.{MovingEdits}
use Rattle.edit_record.proofs.SwapsLemmas.SwapSteps.{under_end}
use Rattle.edit_record.proofs.SwapsLemmas.RelativeEnds.RelativeEndsLemmas.{ends_len}
use Rattle.edit_record.proofs.SwapsLemmas.RelativeEnds.PendingEnds.{later}
use Rattle.edit_record.proofs.SwapsLemmas.RelativeEnds.SetPlaces.{SameTexts, placed_texts}
use Rattle.edit_record.proofs.SwapsLemmas.RelativeEnds.MoveInvariant.{Going, Decided, decided, going_start, going_small, moving_can_shift, second_one, may_move, they_meet, holds_added, finish}

pub record PassingEach (a b : EditList) (m n : MovingEdits) (us ys : List EditEntry) (inserted_len deleted_len : ℕ) : Type 0 where
  pub place : State
  pub left : List EditEntry
  pub bound : ℕ
  pub going : Going a.old_len b.old_len (added_len b.entries) (removed_len b.entries) a.entries b.entries place left ys (ends_of n.ends.items) inserted_len deleted_len bound
  pub bounded : bound ≤ place.mid + inserted_len
  pub us_are : place.us ≡ us
  pub edits : n.edits.items ≡ m.edits.items
  pub len : length n.ends.items ≡ length m.ends.items
  pub old_len : n.old_len ≡ m.old_len
  pub new_len : n.new_len ≡ m.new_len

abbrev some_or : ℕ → Option ℕ → ℕ
some_or d None = d
some_or d (Some x) = x

some_inj : {x y : ℕ} → Some x ≡ Some y → x ≡ y
some_inj {x} {y} e = ap (some_or x) e

some≢none : {x : ℕ} → Some x ≡ None → ⊥
some≢none e = cc

pub moved_len : (others xs : List Span) (olds news : List EditEntry) → AreRelocated others xs olds news → length news ≡ length olds
moved_len others [] [] [] h = refl
moved_len others (y ∷ xs) (o ∷ olds) (n ∷ news) h = let i = moved_len others xs olds news h.1 in omega (arith, i)
moved_len others [] [] (n ∷ news) h = elim h [ ]
moved_len others [] (o ∷ olds) news h = elim h [ ]
moved_len others (y ∷ xs) [] news h = elim h [ ]
moved_len others (y ∷ xs) (o ∷ olds) [] h = elim h [ ]

-- Edits with the texts of others, split at the same index: the others have x at n.
pub record SplitAt (n : ℕ) (x : EditEntry) (ys : List EditEntry) : Type 0 where
  pub leading : List EditEntry
  pub y : EditEntry
  pub rest : List EditEntry
  pub is : ys ≡ leading ++ y ∷ rest
  pub len : length leading ≡ n
  pub added : x.added ≡ y.added

pub texts_split : (leading : List EditEntry) (x : EditEntry) (rest ys : List EditEntry) → SameTexts (leading ++ x ∷ rest) ys → SplitAt (length leading) x ys
texts_split [] x rest [] h = absurd h
texts_split [] x rest (y ∷ ys) h = record { leading = []; y = y; rest = ys; is = refl; len = refl; added = h.1 }
texts_split (f ∷ leading) x rest [] h = absurd h
texts_split (f ∷ leading) x rest (y ∷ ys) h =
    let k = texts_split leading x rest ys h.2 in
    let l = k.len in
    record { leading = y ∷ k.leading; y = k.y; rest = k.rest; is = ap (λ (z : List EditEntry). y ∷ z) k.is; len = omega (arith, l); added = k.added }

-- ---- the two lists

pub made_first : (m : MovingEdits) (b : EditList) → IsWellFormed m → new_len (edits_now m) ≡ b.old_len → AreValidEdits m.old_len b.old_len (edits_now m).entries
made_first m b h f =
    let n = h.made.new in
    subst (λ (k : ℕ). AreValidEdits m.old_len k (edits_now m).entries) (let e : m.new_len ≡ b.old_len = omega (arith, n, f) in e) h.made

pub made_second : (b : EditList) (es : List EditEntry) → es ≡ b.entries → AreValidEdits b.old_len (new_len b) es → AreValidEdits b.old_len (new_len b) b.entries
made_second b es is h = subst (λ (l : List EditEntry). AreValidEdits b.old_len (new_len b) l) is h

pub few_added : (n k : ℕ) (es : List EditEntry) → AreValidEdits n k es → added_len es ≤ 2 ^ 35
few_added n k es h = let r = placed_within n 0 es h.disjoint in let s = h.new in let f = h.new_fits in let o = h.old_fits in omega (arith, r, s, f, o)

pub next_item : (items entries : List EditEntry) (i : ℕ) (y : EditEntry) → items ≡ entries → i < length items → y ≡ get_or items i y → drop i entries ≡ y ∷ drop (i + 1) entries
next_item items entries i y same lt is = subst (λ (l : List EditEntry). drop i l ≡ y ∷ drop (i + 1) l) same (drop_item items i y lt is)

pub passing_next : (a b : EditList) (m n : MovingEdits) (us ys : List EditEntry) (inserted_len deleted_len : ℕ) (y : EditEntry) (rest : List EditEntry) → PassingEach a b m n us ys inserted_len deleted_len → ys ≡ y ∷ rest → PassingEach a b m n us (y ∷ rest) inserted_len deleted_len
passing_next a b m n us ys inserted_len deleted_len y rest p is = subst (λ (l : List EditEntry). PassingEach a b m n us l inserted_len deleted_len) is p

module _ (m : MovingEdits) (b : EditList) (moving : IsWellFormed m) (follows : new_len (edits_now m) ≡ b.old_len) (made : AreValidEdits b.old_len (new_len b) b.entries) where
  pub passing_start : (us : List EditEntry) → us ≡ [] → PassingEach (edits_now m) b m m us b.entries 0 0
  passing_start us none =
      let g = going_start m.old_len b.old_len (added_len b.entries) (removed_len b.entries) (edits_now m).entries b.entries initial (new_len b) (made_first m b moving follows) made refl refl refl in
      record {
        place = initial;
        left = (edits_now m).entries;
        bound = 0;
        going = subst (λ (l : List EndOffset). Going m.old_len b.old_len (added_len b.entries) (removed_len b.entries) (edits_now m).entries b.entries initial (edits_now m).entries b.entries l 0 0 0) (sym moving.ends) g;
        bounded = omega arith;
        us_are = sym none;
        edits = refl;
        len = refl;
        old_len = refl;
        new_len = refl;
      }

  module _ (n : MovingEdits) (us : List EditEntry) (y : EditEntry) (ys : List EditEntry) (inserted_len deleted_len : ℕ) (p : PassingEach (edits_now m) b m n us (y ∷ ys) inserted_len deleted_len) where
    pub record Bounds : Type 0 where
      pub inserted_small : inserted_len ≤ 2 ^ 36
      pub at_small : y.at ≤ 2 ^ 33
      pub added_small : length y.added ≤ 2 ^ 36
      pub removed_small : length y.removed ≤ 2 ^ 33
      pub deleted_le : deleted_len ≤ y.at + inserted_len
      pub bound_small : p.bound ≤ 2 ^ 38

    pub bounds : Bounds
    bounds =
        let g = p.going in
        let f = g.under.fair in
        let aside = f.other_balance in
        let with_sums = g.other_balance in let enough = g.enough in let bounded = p.bounded in
        let la_fits = f.a_fits in let lb_fits = f.b_fits in let w_fits = f.w_fits in
        let r1 = placed_within m.old_len p.place.old p.left f.first_placed in
        let r2 = placed_within b.old_len p.place.mid (y ∷ ys) f.second_placed in
        let w = f.second_placed.0.later in
        let v = f.second_placed.0.within in
        record {
          inserted_small = omega (arith, aside, with_sums, enough, la_fits, lb_fits, w_fits, r1, r2);
          at_small = omega (arith, v, lb_fits);
          added_small = omega (arith, aside, la_fits, lb_fits, w_fits, r1, r2);
          removed_small = omega (arith, v, lb_fits);
          deleted_le = omega (arith, enough, w);
          bound_small = omega (arith, bounded, aside, with_sums, enough, la_fits, lb_fits, w_fits, r1, r2);
        }

    pub small_here : AllByRecursion IsSmall (ends_of n.ends.items)
    small_here = going_small m.old_len b.old_len (added_len b.entries) (removed_len b.entries) (edits_now m).entries b.entries p.place p.left (y ∷ ys) (ends_of n.ends.items) inserted_len deleted_len p.bound p.going bounds.bound_small (few_added m.old_len b.old_len (edits_now m).entries (made_first m b moving follows))

    module _ (at count : ℕ) (last : EndOffset) (next : Option ℕ) (at_is : at + deleted_len ≡ y.at + inserted_len) (found : IsPartition at (ends_of n.ends.items) count last next) where
      pub here : Decided m.old_len b.old_len (added_len b.entries) (removed_len b.entries) (edits_now m).entries b.entries p.place y ys (ends_of n.ends.items) inserted_len deleted_len at count last next
      here = decided m.old_len b.old_len (added_len b.entries) (removed_len b.entries) (edits_now m).entries b.entries p.place p.left y ys (ends_of n.ends.items) inserted_len deleted_len p.bound at count last next p.going p.bounded at_is found

      -- the next edit of the first list, where there is one
      pub record HasNext (end : ℕ) : Type 0 where
        pub x : EditEntry
        pub xs : List EditEntry
        pub left_is : here.left ≡ x ∷ xs
        pub end_is : end ≡ ((relocate here.place.old x here.place.other).at + added_len here.place.vs + length x.added) - removed_len here.place.vs
        pub after : at ≤ end

      next_in : (xs : List EditEntry) (end : ℕ) → here.left ≡ xs → NextEndsAt at (ends_at (added_len here.place.vs) (removed_len here.place.vs) (later here.place.old here.place.other xs)) next → next ≡ Some end → HasNext end
      next_in [] end is g e = absurd (some≢none (sym e ∙ g))
      next_in (x ∷ xs) end is g e =
          let k : end ≡ ((relocate here.place.old x here.place.other).at + added_len here.place.vs + length x.added) - removed_len here.place.vs = some_inj (sym e ∙ g.0) in
          let b = g.1 in
          record { x = x; xs = xs; left_is = is; end_is = k; after = omega (arith, k, b) }

      pub has_next : (end : ℕ) → next ≡ Some end → HasNext end
      has_next end e = next_in here.left end refl here.next_is e

      none_in : (xs : List EditEntry) → NextEndsAt at (ends_at (added_len here.place.vs) (removed_len here.place.vs) (later here.place.old here.place.other xs)) next → next ≡ None → xs ≡ []
      none_in [] g e = refl
      none_in (x ∷ xs) g e = absurd (some≢none (sym g.0 ∙ e))

      pub nothing_next : next ≡ None → second_is_next here.place here.left (y ∷ ys) ≡ true
      nothing_next e = ap (λ (l : List EditEntry). second_is_next here.place l (y ∷ ys)) (none_in here.left here.next_is e)

      -- the edit itself, by its number
      pub record Itself (end : ℕ) (h : HasNext end) : Type 0 where
        pub in_range : count < length n.edits.items
        pub added : (d : EditEntry) → length (get_or n.edits.items count d).added ≡ length h.x.added

      pub itself : (end : ℕ) (h : HasNext end) → Itself end h
      itself end h =
          let u = here.going.under in
          let es = (edits_now m).entries in
          let whole : es ≡ u.first_entries ++ h.x ∷ h.xs = u.first_entries_are ∙ ap (λ (l : List EditEntry). u.first_entries ++ l) h.left_is in
          let lens = moved_len _ _ _ _ u.firsts_moved in
          let k = here.count_is in
          let l = ends_len m.ends.items in
          let ml = moving.len in
          let t = placed_texts m.edits.items (ends_of m.ends.items) (omega (arith, l, ml)) in
          let s = texts_split u.first_entries h.x h.xs m.edits.items (subst (λ (z : List EditEntry). SameTexts z m.edits.items) whole t) in
          let c = length-append s.leading (s.y ∷ s.rest) in
          let sl = s.len in
          let all = ap length s.is in
          let same = ap length p.edits in
          let at_text_start : count ≡ length s.leading = omega (arith, k, lens, sl) in
          record {
            in_range = omega (arith, same, all, c, at_text_start);
            added = λ d. ap (λ (z : EditEntry). length z.added) ((λ i. get_or ((p.edits ∙ s.is) i) (at_text_start i) d) ∙ get_or-append_seam s.leading s.y s.rest d) ∙ ap length (sym s.added);
          }

      pub within_end : (end : ℕ) (h : HasNext end) → length h.x.added ≤ end
      within_end end h =
          let g = subst (λ (l : List EditEntry). Going m.old_len b.old_len (added_len b.entries) (removed_len b.entries) (edits_now m).entries b.entries here.place l (y ∷ ys) (ends_of n.ends.items) inserted_len deleted_len (y.at + inserted_len)) h.left_is here.going in
          holds_added m.old_len b.old_len (added_len b.entries) (removed_len b.entries) (edits_now m).entries b.entries here.place h.x h.xs (y ∷ ys) (ends_of n.ends.items) inserted_len deleted_len (y.at + inserted_len) end g h.end_is

      pub walks_to : (end : ℕ) (h : HasNext end) → at + length y.removed < end - length h.x.added → second_is_next here.place here.left (y ∷ ys) ≡ true
      walks_to end h lt =
          let g = subst (λ (l : List EditEntry). Going m.old_len b.old_len (added_len b.entries) (removed_len b.entries) (edits_now m).entries b.entries here.place l (y ∷ ys) (ends_of n.ends.items) inserted_len deleted_len (y.at + inserted_len)) h.left_is here.going in
          ap (λ (l : List EditEntry). second_is_next here.place l (y ∷ ys)) h.left_is ∙ may_move m.old_len b.old_len (added_len b.entries) (removed_len b.entries) (edits_now m).entries b.entries here.place h.x h.xs y ys (ends_of n.ends.items) inserted_len deleted_len at end g at_is h.end_is lt

      pub meet : (end : ℕ) (h : HasNext end) → end - length h.x.added ≤ at + length y.removed → (i : ℕ) × (j : ℕ) × FirstMeeting (edits_now m) b i j
      meet end h le =
          let g = subst (λ (l : List EditEntry). Going m.old_len b.old_len (added_len b.entries) (removed_len b.entries) (edits_now m).entries b.entries here.place l (y ∷ ys) (ends_of n.ends.items) inserted_len deleted_len (y.at + inserted_len)) h.left_is here.going in
          they_meet m.old_len b.old_len (added_len b.entries) (removed_len b.entries) (edits_now m).entries b.entries here.place h.x h.xs y ys (ends_of n.ends.items) inserted_len deleted_len at end g at_is h.end_is h.after le

      pub can_shift_at : second_is_next here.place here.left (y ∷ ys) ≡ true → CanShift (length y.removed) count (ends_of n.ends.items)
      can_shift_at t = subst (λ (k : ℕ). CanShift (length y.removed) k (ends_of n.ends.items)) (sym here.count_is)
          (moving_can_shift m.old_len b.old_len (added_len b.entries) (removed_len b.entries) (edits_now m).entries b.entries here.place here.left y ys (ends_of n.ends.items) inserted_len deleted_len here.going t)

      pub place_small : here.place.old + (y.at - here.place.mid) ≤ 2 ^ 36
      place_small =
          let f = here.going.under.fair in
          let la_fits = f.a_fits in
          let r1 = placed_within m.old_len here.place.old here.left f.first_placed in
          let b2 = bounds.at_small in
          omega (arith, la_fits, r1, b2)

      -- where it goes to
      pub moved_to_place : (last.old + (at - last.new) + deleted_len) - inserted_len ≡ here.place.old + (y.at - here.place.mid)
      moved_to_place = let k = here.moved_place_is in omega (arith, k)

      pub passing_more : (k : MovingEdits) (more : List EditEntry) (u : EditEntry) → second_is_next here.place here.left (y ∷ ys) ≡ true → more ≡ us ++ u ∷ [] → u ≡ relocate here.place.mid y here.place.old
          → ends_of k.ends.items ≡ shifted_from count (record { old = length y.added; new = length y.added }) (length y.removed) (ends_of n.ends.items)
          → k.edits.items ≡ n.edits.items → length k.ends.items ≡ length n.ends.items → k.old_len ≡ n.old_len → k.new_len ≡ n.new_len
          → PassingEach (edits_now m) b m k more ys (inserted_len + length y.added) (deleted_len + length y.removed)
      passing_more k more u t more_is u_is ends_are edits_are len_is old_is new_is =
          let g = second_one m.old_len b.old_len (added_len b.entries) (removed_len b.entries) (edits_now m).entries b.entries here.place here.left y ys (ends_of n.ends.items) (ends_of k.ends.items) inserted_len deleted_len here.going t
          (ends_are ∙ ap (λ (j : ℕ). shifted_from j (record { old = length y.added; new = length y.added }) (length y.removed) (ends_of n.ends.items)) here.count_is) in
          record {
            place = with_second y here.place;
            left = here.left;
            bound = (y.at + inserted_len) + length y.removed;
            going = g;
            bounded = omega arith;
            us_are = ap (λ (l : List EditEntry). l ++ relocate here.place.mid y here.place.old ∷ []) (here.us_are ∙ p.us_are) ∙ ap (λ (z : EditEntry). us ++ z ∷ []) (sym u_is) ∙ sym more_is;
            edits = edits_are ∙ p.edits;
            len = len_is ∙ p.len;
            old_len = old_is ∙ p.old_len;
            new_len = new_is ∙ p.new_len;
          }

  pub passing_end : (n : MovingEdits) (us : List EditEntry) (inserted_len deleted_len : ℕ) → PassingEach (edits_now m) b m n us [] inserted_len deleted_len → HasMovedPast (edits_now m) b us m n
  passing_end n us inserted_len deleted_len p =
      let g = p.going in
      let f = finish m.old_len b.old_len (added_len b.entries) (removed_len b.entries) (edits_now m).entries b.entries p.place p.left (ends_of n.ends.items) g.under g.ends in
      record {
        place = f.place;
        exchange = under_end m.old_len b.old_len (added_len b.entries) (removed_len b.entries) (edits_now m).entries b.entries f.place (new_len b) (made_first m b moving follows) made refl refl f.under (sym follows) refl;
        us_are = f.us_are ∙ p.us_are;
        ends = f.ends;
        edits = p.edits;
        len = p.len;
        old_len = p.old_len;
        new_len = p.new_len;
      }

-- ---- one turn

-- what is known of the next edit of the second list
pub record NextEditStep (m n : MovingEdits) (b : EditList) (us : List EditEntry) (y : EditEntry) (rest : List EditEntry) (inserted_len deleted_len : ℕ) : Type 0 where
  pub moving : IsWellFormed m
  pub lengths_match : new_len (edits_now m) ≡ b.old_len
  pub made : AreValidEdits b.old_len (new_len b) b.entries
  pub left : PassingEach (edits_now m) b m n us (y ∷ rest) inserted_len deleted_len
  pub inserted_small : inserted_len ≤ 2 ^ 36
  pub at_small : y.at ≤ 2 ^ 33
  pub added_small : length y.added ≤ 2 ^ 36
  pub removed_small : length y.removed ≤ 2 ^ 33
  pub deleted_le : deleted_len ≤ y.at + inserted_len
  pub small : AllByRecursion IsSmall (ends_of n.ends.items)

pub next_edit_step : (m n : MovingEdits) (b : EditList) (us : List EditEntry) (j : ℕ) (y : EditEntry) (items : List EditEntry) (inserted_len deleted_len : ℕ) → IsWellFormed m → new_len (edits_now m) ≡ b.old_len → items ≡ b.entries → AreValidEdits b.old_len (new_len b) items
    → j < length items → y ≡ get_or items j y → PassingEach (edits_now m) b m n us (drop j b.entries) inserted_len deleted_len → NextEditStep m n b us y (drop (j + 1) b.entries) inserted_len deleted_len
next_edit_step m n b us j y items inserted_len deleted_len moving follows same placed lt is p =
    let made = made_second b items same placed in
    let rest = drop (j + 1) b.entries in
    let left = passing_next (edits_now m) b m n us _ inserted_len deleted_len y rest p (next_item items b.entries j y same lt is) in
    let s = bounds m b moving follows made n us y rest inserted_len deleted_len left in
    record {
      moving = moving;
      lengths_match = follows;
      made = made;
      left = left;
      inserted_small = s.inserted_small;
      at_small = s.at_small;
      added_small = s.added_small;
      removed_small = s.removed_small;
      deleted_le = s.deleted_le;
      small = small_here m b moving follows made n us y rest inserted_len deleted_len left;
    }

-- where it goes to
pub record Spot (last : EndOffset) (at inserted_len deleted_len : ℕ) : Type 0 where
  pub to : ℕ
  pub last_before : last.new ≤ at
  pub is : last.old + (at - last.new) + deleted_len ≡ to + inserted_len
  pub small : to ≤ 2 ^ 36

module _ (m n : MovingEdits) (b : EditList) (us : List EditEntry) (y : EditEntry) (rest : List EditEntry) (inserted_len deleted_len : ℕ) (t : NextEditStep m n b us y rest inserted_len deleted_len) (at count : ℕ) (last : EndOffset) (next : Option ℕ) (run : List EndOffset) (at_is : at + deleted_len ≡ y.at + inserted_len) (run_is : run ≡ n.ends.items) (place : IsPartition at (ends_of run) count last next) where
  found : IsPartition at (ends_of n.ends.items) count last next
  found = subst (λ (l : List EndOffset). IsPartition at (ends_of l) count last next) run_is place

  pub spot : Spot last at inserted_len deleted_len
  spot =
      let d = here m b t.moving t.lengths_match t.made n us y rest inserted_len deleted_len t.left at count last next at_is found in
      record {
        to = d.place.old + (y.at - d.place.mid);
        last_before = d.last_before;
        is = d.moved_place_is;
        small = place_small m b t.moving t.lengths_match t.made n us y rest inserted_len deleted_len t.left at count last next at_is found;
      }

  module _ (apart : NoneMeet (edits_now m) b) where
    -- none of the edits meets it
    continues_with : let d = here m b t.moving t.lengths_match t.made n us y rest inserted_len deleted_len t.left at count last next at_is found in second_is_next d.place d.left (y ∷ rest) ≡ true
    continues_with =
        let d = here m b t.moving t.lengths_match t.made n us y rest inserted_len deleted_len t.left at count last next at_is found in
        elim next as (λ o. next ≡ o → second_is_next d.place d.left (y ∷ rest) ≡ true) [
          | None ↦ λ e. nothing_next m b t.moving t.lengths_match t.made n us y rest inserted_len deleted_len t.left at count last next at_is found e
          | Some end ↦ λ e.
              let h = has_next m b t.moving t.lengths_match t.made n us y rest inserted_len deleted_len t.left at count last next at_is found end e in
              ⊎_elim
              (λ (lt : at + length y.removed < end - length h.x.added). walks_to m b t.moving t.lengths_match t.made n us y rest inserted_len deleted_len t.left at count last next at_is found end h lt)
              (λ (le : end - length h.x.added ≤ at + length y.removed).
              let met = meet m b t.moving t.lengths_match t.made n us y rest inserted_len deleted_len t.left at count last next at_is found end h le in
              absurd (apart met.0 met.1 met.2.meet))
              (cases_lt (at + length y.removed) (end - length h.x.added))
        ] refl

    pub can_shift_here : CanShift (length y.removed) count (ends_of n.ends.items)
    can_shift_here = can_shift_at m b t.moving t.lengths_match t.made n us y rest inserted_len deleted_len t.left at count last next at_is found continues_with

    pub turned : (k : MovingEdits) (more : List EditEntry) (u : EditEntry) → more ≡ us ++ u ∷ [] → u ≡ record { at = (last.old + (at - last.new) + deleted_len) - inserted_len; removed = y.removed; added = y.added }
        → ends_of k.ends.items ≡ shifted_from count (record { old = length y.added; new = length y.added }) (length y.removed) (ends_of n.ends.items)
        → k.edits.items ≡ n.edits.items → length k.ends.items ≡ length n.ends.items → k.old_len ≡ n.old_len → k.new_len ≡ n.new_len
        → PassingEach (edits_now m) b m k more rest (inserted_len + length y.added) (deleted_len + length y.removed)
    turned k more u more_is u_is ends_are edits_are len_is old_is new_is =
        let to = moved_to_place m b t.moving t.lengths_match t.made n us y rest inserted_len deleted_len t.left at count last next at_is found in
        passing_more m b t.moving t.lengths_match t.made n us y rest inserted_len deleted_len t.left at count last next at_is found k more u continues_with more_is (u_is ∙ (λ i. record { at = to i; removed = y.removed; added = y.added })) ends_are edits_are len_is old_is new_is
