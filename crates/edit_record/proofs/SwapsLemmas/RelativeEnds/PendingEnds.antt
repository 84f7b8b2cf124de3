-- Where edits end, of those that are done and of those that are still to come.
use Rattle.std.proofs.Common.{◌≡◌, ℕ, ◌+◌, ◌-◌, ◌^◌, ◌≤◌, ◌<◌, List, [], ◌∷◌, ◌++◌, length, map, drop, refl, arith, sym, ap, ◌∙◌, subst, length-append}
use Rattle.std.specs.List.{AllByRecursion}
use Rattle.edit_record.specs.Lists.Pieces.{EditEntry, removed_len, added_len}
use Rattle.edit_record.specs.Lists.Validity.{AreDisjoint, AreValidEdits}
use Rattle.edit_record.proofs.ListsLemmas.Placed.{placed_within}
use Rattle.edit_record.specs.declared.swaps.relative_ends.EndOffset.{EndOffset}
use Rattle.edit_record.specs.Swaps.Inner.SwapState.{relocate}
use Rattle.edit_record.specs.Swaps.Inner.RelativeEnds.{IsSmall, shifted}
use Rattle.edit_record.specs.Swaps.Inner.EditEnds.{ends_at}
use Rattle.edit_record.proofs.SwapsLemmas.RelativeEnds.RelativeEndsLemmas.{one_reach}

abbrev pub head_new : ℕ → List EndOffset → ℕ
head_new d [] = d
head_new d (e ∷ es) = e.new

abbrev head_old : ℕ → List EndOffset → ℕ
head_old d [] = d
head_old d (e ∷ es) = e.old

abbrev head_or : EndOffset → List EndOffset → EndOffset
head_or d [] = d
head_or d (e ∷ es) = e

-- edits that are still to come, at their places in the other order if no further edit precedes them
abbrev pub later : ℕ → ℕ → List EditEntry → List EditEntry
later old other [] = []
later old other (x ∷ xs) = relocate old x other ∷ later old other xs

one_edit : (e f : EditEntry) → e.at ≡ f.at → e.removed ≡ f.removed → e.added ≡ f.added → e ≡ f
one_edit e f a r w = λ i. record { at = a i; removed = r i; added = w i }

later_from : (n from old other old' other' : ℕ) (xs : List EditEntry) → AreDisjoint n from xs → old ≤ old' → old' ≤ from → other' ≡ other + (old' - old) → later old other xs ≡ later old' other' xs
later_from n from old other old' other' [] p le l e = refl
later_from n from old other old' other' (x ∷ xs) p le l e =
    let q = p.0.later in
    let one : relocate old x other ≡ relocate old' x other' = one_edit (relocate old x other) (relocate old' x other') (omega (arith, q, le, l, e)) refl refl in
    let rest = later_from n (x.at + length x.removed) old other old' other' xs p.1 le (omega (arith, q, l)) e in
    λ i. one i ∷ rest i

pub later_on : (n old other old' other' : ℕ) (xs : List EditEntry) → AreDisjoint n old' xs → old ≤ old' → other' ≡ other + (old' - old) → later old other xs ≡ later old' other' xs
later_on n old other old' other' xs p le e = later_from n old' old other old' other' xs p le (omega arith) e

pub ends_append : (a r : ℕ) (xs ys : List EditEntry) → ends_at a r (xs ++ ys) ≡ ends_at a r xs ++ ends_at (a + added_len xs) (r + removed_len xs) ys
ends_append a r [] ys =
    let p : a ≡ a + 0 = omega arith in
    let q : r ≡ r + 0 = omega arith in
    λ i. ends_at (p i) (q i) ys
ends_append a r (x ∷ xs) ys =
    let k = ends_append (a + length x.added) (r + length x.removed) xs ys in
    let p : a + length x.added + added_len xs ≡ a + (length x.added + added_len xs) = omega arith in
    let q : r + length x.removed + removed_len xs ≡ r + (length x.removed + removed_len xs) = omega arith in
    let h : EndOffset = record { old = x.at + length x.removed; new = (x.at + a + length x.added) - r } in
    ap (λ (z : List EndOffset). h ∷ z) (k ∙ (λ i. ends_at (a + length x.added) (r + length x.removed) xs ++ ends_at (p i) (q i) ys))

pub ends_len_at : (a r : ℕ) (xs : List EditEntry) → length (ends_at a r xs) ≡ length xs
ends_len_at a r [] = refl
ends_len_at a r (x ∷ xs) = let i = ends_len_at (a + length x.added) (r + length x.removed) xs in omega (arith, i)

pub later_len : (old other : ℕ) (xs : List EditEntry) → length (later old other xs) ≡ length xs
later_len old other [] = refl
later_len old other (x ∷ xs) = let i = later_len old other xs in omega (arith, i)

-- p bytes are added and q are removed before those that are still to come
shift_from : (n from old other old' other' a r p q : ℕ) (xs : List EditEntry) → AreDisjoint n from xs → old ≤ old' → old' ≤ from → other' + q ≡ other + (old' - old) + p → q ≤ old' - old → r + q ≤ other + (from - old) + a
    → map (shifted (record { old = p; new = p }) q) (ends_at a r (later old other xs)) ≡ ends_at a r (later old' other' xs)
shift_from n from old other old' other' a r p q [] h le l e m k = refl
shift_from n from old other old' other' a r p q (x ∷ xs) h le l e m k =
    let u = h.0.later in
    let v = relocate old x other in
    let w = relocate old' x other' in
    let at_is : w.at + q ≡ v.at + p = omega (arith, u, le, l, e) in
    let far : q + r ≤ v.at + a = omega (arith, u, le, l, k) in
    let far_old : q ≤ v.at = omega (arith, u, le, l, m) in
    let one : shifted (record { old = p; new = p }) q (record { old = v.at + length x.removed; new = (v.at + a + length x.added) - r }) ≡ record { old = w.at + length x.removed; new = (w.at + a + length x.added) - r } =
    one_reach _ _ (omega (arith, at_is, far_old)) (omega (arith, at_is, far)) in
    let rest = shift_from n (x.at + length x.removed) old other old' other' (a + length x.added) (r + length x.removed) p q xs h.1 le (omega (arith, u, l)) e m (omega (arith, u, le, l, k)) in
    λ i. one i ∷ rest i

pub shift_later : (n old other old' other' a r p q : ℕ) (xs : List EditEntry) → AreDisjoint n old' xs → old ≤ old' → other' + q ≡ other + (old' - old) + p → q ≤ old' - old → r ≤ other + a
    → map (shifted (record { old = p; new = p }) q) (ends_at a r (later old other xs)) ≡ ends_at a r (later old' other' xs)
shift_later n old other old' other' a r p q xs h le e m k = shift_from n old' old other old' other' a r p q xs h le (omega arith) e m (omega (arith, k, m))

-- how far the edits end that are still to come
pub late : (n from old other a r lo ln : ℕ) (xs : List EditEntry) → AreDisjoint n from xs → old ≤ from → lo ≤ other + (from - old) → ln + r ≤ other + (from - old) + a
    → AllByRecursion (λ e. (lo ≤ e.old) × (ln ≤ e.new)) (ends_at a r (later old other xs))
late n from old other a r lo ln [] h le l k = tt
late n from old other a r lo ln (x ∷ xs) h le l k =
    let u = h.0.later in (
      (omega (arith, u, le, l), omega (arith, u, le, k)),
      late n (x.at + length x.removed) old other (a + length x.added) (r + length x.removed) lo ln xs h.1 (omega (arith, u, le)) (omega (arith, u, le, l)) (omega (arith, u, le, k)),
    )

pub small_later : (n from old other a r : ℕ) (xs : List EditEntry) → AreDisjoint n from xs → old ≤ from → other + n ≤ 2 ^ 36 → a + added_len xs ≤ 2 ^ 36 → AllByRecursion IsSmall (ends_at a r (later old other xs))
small_later n from old other a r [] h le b k = tt
small_later n from old other a r (x ∷ xs) h le b k =
    let u = h.0.later in let w = h.0.within in (
      (omega (arith, u, w, le, b), omega (arith, u, w, le, b, k)),
      small_later n (x.at + length x.removed) old other (a + length x.added) (r + length x.removed) xs h.1 (omega (arith, u, le)) b (omega (arith, k)),
    )

-- what ends last of those that end before a place ends after the others
pub all_before : (n from old other a r at : ℕ) (xs : List EditEntry) (mids back : List EndOffset) (last : EndOffset) → AreDisjoint n from xs → old ≤ from → r ≤ other + (from - old) + a → ends_at a r (later old other xs) ≡ mids ++ back
    → (init : List EndOffset) → mids ≡ init ++ last ∷ [] → last.new < at → AllByRecursion (λ e. e.new < at) mids
all_before n from old other a r at [] mids back last h le k e init m lt =
    let l = ap length e in let b = length-append mids back in let d = ap length m in let f = length-append init (last ∷ []) in absurd (omega (arith, l, b, d, f))
all_before n from old other a r at (x ∷ xs) [] back last h le k e init m lt = tt
all_before n from old other a r at (x ∷ xs) (y ∷ []) back last h le k e [] m lt = let t = ap (head_new at) m in (omega (arith, t, lt), tt)
all_before n from old other a r at (x ∷ xs) (y ∷ []) back last h le k e (i ∷ init) m lt = let l = ap length m in let b = length-append init (last ∷ []) in absurd (omega (arith, l, b))
all_before n from old other a r at (x ∷ xs) (y ∷ z ∷ mids) back last h le k e [] m lt = let l = ap length m in absurd (omega (arith, l))
all_before n from old other a r at (x ∷ xs) (y ∷ z ∷ mids) back last h le k e (i ∷ init) m lt =
    let u = h.0.later in
    let rest = all_before n (x.at + length x.removed) old other (a + length x.added) (r + length x.removed) at xs (z ∷ mids) back last h.1 (omega (arith, u, le)) (omega (arith, u, le, k)) (ap (drop 1) e) init (ap (drop 1) m) lt in
    let v = relocate old x other in
    let first : (v.at + a + length x.added) - r ≡ y.new = ap (head_new at) e in
    let next = late n (x.at + length x.removed) old other (a + length x.added) (r + length x.removed) 0 ((v.at + a + length x.added) - r) xs h.1 (omega (arith, u, le)) (omega arith) (omega (arith, u, le, k)) in
    let both = subst (λ (l : List EndOffset). AllByRecursion (λ e. (0 ≤ e.old) × ((v.at + a + length x.added) - r ≤ e.new)) l) (ap (drop 1) e) next in
    let b = both.0.1 in let c = rest.0 in
    (omega (arith, first, b, c), rest)

-- ---- those that are done

-- each ends by this place in the other order, and before that one in the new text
abbrev pub Done : ℕ → ℕ → ℕ → ℕ → ℕ → List EditEntry → Type 0
Done other bound deleted_len a r [] = Unit {0}
Done other bound deleted_len a r (v ∷ vs) =
    ((r ≤ v.at + a) × (v.at + length v.removed ≤ other) × ((v.at + a + length v.added) + deleted_len < bound + r))
    × Done other bound deleted_len (a + length v.added) (r + length v.removed) vs

pub done_push : (other bound deleted_len a r : ℕ) (vs : List EditEntry) (v : EditEntry) → Done other bound deleted_len a r vs
    → (r + removed_len vs ≤ v.at + (a + added_len vs)) × (v.at + length v.removed ≤ other) × ((v.at + (a + added_len vs) + length v.added) + deleted_len < bound + (r + removed_len vs))
    → Done other bound deleted_len a r (vs ++ v ∷ [])
done_push other bound deleted_len a r [] v d p = let x = p.0 in let y = p.2 in ((omega (arith, x), p.1, omega (arith, y)), tt)
done_push other bound deleted_len a r (w ∷ vs) v d p =
    let x = p.0 in let y = p.2 in (d.0, done_push other bound deleted_len (a + length w.added) (r + length w.removed) vs v d.1 (omega (arith, x), p.1, omega (arith, y)))

pub done_more : (other bound deleted_len other' bound' deleted_len' a r : ℕ) (vs : List EditEntry) → Done other bound deleted_len a r vs → other ≤ other' → bound + deleted_len' ≤ bound' + deleted_len → Done other' bound' deleted_len' a r vs
done_more other bound deleted_len other' bound' deleted_len' a r [] d o b = tt
done_more other bound deleted_len other' bound' deleted_len' a r (v ∷ vs) d o b =
    let x = d.0.1 in let y = d.0.2 in ((d.0.0, omega (arith, x, o), omega (arith, y, b)), done_more other bound deleted_len other' bound' deleted_len' (a + length v.added) (r + length v.removed) vs d.1 o b)

pub done_ends : (other bound deleted_len a r : ℕ) (vs : List EditEntry) → Done other bound deleted_len a r vs → AllByRecursion (λ f. (f.old ≤ other) × (f.new + deleted_len < bound)) (ends_at a r vs)
done_ends other bound deleted_len a r [] d = tt
done_ends other bound deleted_len a r (v ∷ vs) d =
    let x = d.0.0 in let y = d.0.2 in ((d.0.1, omega (arith, x, y)), done_ends other bound deleted_len (a + length v.added) (r + length v.removed) vs d.1)

-- where the last of them ends
pub done_last : (other bound deleted_len a r : ℕ) (vs : List EditEntry) (init : List EndOffset) (last : EndOffset) → Done other bound deleted_len a r vs → ends_at a r vs ≡ init ++ last ∷ [] → last.new + (r + removed_len vs) ≡ last.old + (a + added_len vs)
done_last other bound deleted_len a r [] init last d e = let l = ap length e in let b = length-append init (last ∷ []) in absurd (omega (arith, l, b))
done_last other bound deleted_len a r (v ∷ []) [] last d e =
    let x = d.0.0 in let o = ap (head_old 0) e in let n = ap (head_new 0) e in omega (arith, x, o, n)
done_last other bound deleted_len a r (v ∷ []) (i ∷ init) last d e = let l = ap length e in let b = length-append init (last ∷ []) in absurd (omega (arith, l, b))
done_last other bound deleted_len a r (v ∷ w ∷ vs) [] last d e = let l = ap length e in absurd (omega (arith, l))
done_last other bound deleted_len a r (v ∷ w ∷ vs) (i ∷ init) last d e =
    let k = done_last other bound deleted_len (a + length v.added) (r + length v.removed) (w ∷ vs) init last d.1 (ap (drop 1) e) in omega (arith, k)

-- two splits of one list: the second is after the first or at it, or it is before
pub data SplitOrder (xs ys leading back : List EndOffset) : Type 0 where
  following : (mids : List EndOffset) → leading ≡ xs ++ mids → ys ≡ mids ++ back → SplitOrder xs ys leading back
  is_before : (z : EndOffset) (zs : List EndOffset) → xs ≡ leading ++ z ∷ zs → back ≡ z ∷ zs ++ ys → SplitOrder xs ys leading back

pub split_order : (xs ys leading back : List EndOffset) → xs ++ ys ≡ leading ++ back → SplitOrder xs ys leading back
split_order [] ys leading back e = following leading refl e
split_order (x ∷ xs) ys [] back e = is_before x xs refl (sym e)
split_order (x ∷ xs) ys (f ∷ leading) back e =
    let same : x ≡ f = ap (head_or f) e in
    elim (split_order xs ys leading back (ap (drop 1) e)) [
      | following mids p q ↦ following mids (λ i. sym same i ∷ p i) q
      | is_before z zs p q ↦ is_before z zs (λ i. same i ∷ p i) q
    ]

-- an init and a last one, where some of them are known to come first
pub last_of : (xs mids init : List EndOffset) (last : EndOffset) → 0 < length mids → xs ++ mids ≡ init ++ last ∷ [] → (more : List EndOffset) × (mids ≡ more ++ last ∷ [])
last_of [] mids init last lt e = (init, e)
last_of (x ∷ xs) mids [] last lt e = let l = ap length e in let b = length-append xs mids in absurd (omega (arith, l, b, lt))
last_of (x ∷ xs) mids (i ∷ init) last lt e = last_of xs mids init last lt (ap (drop 1) e)

pub later_same : (xs : List EditEntry) → later 0 0 xs ≡ xs
later_same [] = refl
later_same (x ∷ xs) =
    let one : relocate 0 x 0 ≡ x = one_edit (relocate 0 x 0) x (omega arith) refl refl in
    let rest = later_same xs in
    λ i. one i ∷ rest i

pub small_ends : (n m : ℕ) (es : List EditEntry) → AreValidEdits n m es → AllByRecursion IsSmall (ends_at 0 0 es)
small_ends n m es h =
    let r = placed_within n 0 es h.disjoint in
    let s = h.new in let o = h.old_fits in let f = h.new_fits in
    subst (λ (l : List EditEntry). AllByRecursion IsSmall (ends_at 0 0 l)) (later_same es) (small_later n 0 0 0 0 0 es h.disjoint (omega arith) (omega (arith, o)) (omega (arith, r, s, f)))
