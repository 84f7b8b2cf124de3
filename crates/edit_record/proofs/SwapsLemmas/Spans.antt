-- Which edits of what is left meet.
use Rattle.std.proofs.Common.{◌≡◌, ℕ, zero, suc, ◌+◌, ◌-◌, ◌≤◌, ◌<◌, List, [], ◌∷◌, ◌++◌, length, true, false, refl, arith, sym, ap, subst, ◌∙◌, ◌⊎◌, inl, inr}
use Rattle.std.specs.Prelude.{nat_lt, sum_by, if◌then◌else◌}
use Rattle.std.specs.List.{AllByRecursion}
use Rattle.std.proofs.lemmas.List.Sums.{sum_by-append, sum_by-cons}
use Rattle.std.proofs.lemmas.Bool.{ltb-true, ltb-false, lt-ltb, le-ltb}
use Rattle.edit_record.specs.Lists.Pieces.{EditEntry, removed_len, added_len}
use Rattle.edit_record.specs.Lists.Validity.{AreDisjoint}
use Rattle.edit_record.specs.Squashes.Groups.{Span, span_end, added_spans, removed_spans}
use Rattle.edit_record.specs.Swaps.Swap.{IsItem, is_before, IsRelocated, AreRelocated}
use Rattle.edit_record.specs.Swaps.Inner.SwapState.{StartsAfter}

pub at_within : {X : Type 0} (i : ℕ) (x : X) (xs : List X) → IsItem i x xs → i < length xs
at_within i x [] h = absurd h
at_within zero x (y ∷ ys) h = omega arith
at_within (suc i) x (y ∷ ys) h = omega (arith, at_within i x ys h)

-- a member of what follows a first part
pub item_after_prefix : {X : Type 0} (i : ℕ) (x : X) (leading xs : List X) → length leading ≤ i → IsItem i x (leading ++ xs) → IsItem (i - length leading) x xs
item_after_prefix i x [] xs le h = subst (λ (k : ℕ). IsItem k x xs) (let e : i ≡ i - 0 = omega arith in e) h
item_after_prefix zero x (y ∷ leading) xs le h = absurd (omega arith)
item_after_prefix (suc i) x (y ∷ leading) xs le h =
    let e : i - length leading ≡ suc i - length (y ∷ leading) = omega arith in
    subst (λ (k : ℕ). IsItem k x xs) e (item_after_prefix i x leading xs (omega arith) h)

pub at_first : {X : Type 0} (x : X) (leading xs : List X) → IsItem (length leading) x (leading ++ x ∷ xs)
at_first x [] xs = refl
at_first x (y ∷ leading) xs = subst (λ (k : ℕ). IsItem k x (y ∷ leading ++ x ∷ xs)) (let e : suc (length leading) ≡ length (y ∷ leading) = omega arith in e) (at_first x leading xs)

-- the spans of edits that are placed after `from` begin there or later
pub removed_later : (n from : ℕ) (ys : List EditEntry) (k : ℕ) (x : Span) → AreDisjoint n from ys → IsItem k x (removed_spans ys) → from ≤ x.from
removed_later n from [] k x p h = absurd h
removed_later n from (y ∷ ys) zero x p h = let later = p.0.later in let e = ap (λ (z : Span). z.from) h in omega arith
removed_later n from (y ∷ ys) (suc k) x p h = let later = p.0.later in let i = removed_later n (y.at + length y.removed) ys k x p.1 h in omega arith

pub removed_after : (n from to : ℕ) (ys : List EditEntry) (k : ℕ) (x : Span) → AreDisjoint n from ys → StartsAfter to ys → IsItem k x (removed_spans ys) → to < x.from
removed_after n from to [] k x p b h = absurd h
removed_after n from to (y ∷ ys) zero x p b h = let e = ap (λ (z : Span). z.from) h in omega (arith, b)
removed_after n from to (y ∷ ys) (suc k) x p b h = let i = removed_later n (y.at + length y.removed) ys k x p.1 h in omega (arith, b)

pub added_later : (n old mid : ℕ) (xs : List EditEntry) (k : ℕ) (x : Span) → AreDisjoint n old xs → IsItem k x (added_spans old mid xs) → mid ≤ x.from
added_later n old mid [] k x p h = absurd h
added_later n old mid (e ∷ xs) zero x p h = let q = ap (λ (z : Span). z.from) h in omega arith
added_later n old mid (e ∷ xs) (suc k) x p h = let i = added_later n (e.at + length e.removed) (mid + (e.at - old) + length e.added) xs k x p.1 h in omega arith

pub added_after : (n old mid to : ℕ) (xs : List EditEntry) (k : ℕ) (x : Span) → AreDisjoint n old xs → old ≤ to → StartsAfter to xs → IsItem k x (added_spans old mid xs) → mid + (to - old) < x.from
added_after n old mid to [] k x p le b h = absurd h
added_after n old mid to (e ∷ xs) zero x p le b h = let q = ap (λ (z : Span). z.from) h in omega (arith, b)
added_after n old mid to (e ∷ xs) (suc k) x p le b h = let i = added_later n (e.at + length e.removed) (mid + (e.at - old) + length e.added) xs k x p.1 h in omega (arith, b)

-- they stay where they are while both texts are the same
pub added_moved : (n old mid d : ℕ) (xs : List EditEntry) → AreDisjoint n (old + d) xs → added_spans (old + d) (mid + d) xs ≡ added_spans old mid xs
added_moved n old mid d [] p = refl
added_moved n old mid d (e ∷ xs) p =
    let later = p.0.later in
    let same : mid + d + (e.at - (old + d)) ≡ mid + (e.at - old) = omega arith in
    ap (λ (from : ℕ). record { from = from; len = length e.added; other = length e.removed } ∷ added_spans (e.at + length e.removed) (from + length e.added) xs) same

pub before_or_same : (j k : ℕ) → j ≤ k → (j < k) ⊎ (j ≡ k)
before_or_same j k le = elim (nat_lt j k) as (λ b. nat_lt j k ≡ b → (j < k) ⊎ (j ≡ k)) [ true ↦ λ e. inl (ltb-true j k e) | false ↦ λ e. inr (omega (arith, ltb-false j k e)) ] refl

-- ---- all of them, and sums

pub all_map : {X : Type 0} (P Q : X → Type 0) → ((x : X) → P x → Q x) → (xs : List X) → AllByRecursion P xs → AllByRecursion Q xs
all_map P Q f [] h = tt
all_map P Q f (x ∷ xs) h = (f x h.0, all_map P Q f xs h.1)

pub all_push : {X : Type 0} (P : X → Type 0) (xs : List X) (x : X) → AllByRecursion P xs → P x → AllByRecursion P (xs ++ x ∷ [])
all_push P [] x h p = (p, tt)
all_push P (y ∷ xs) x h p = (h.0, all_push P xs x h.1 p)

removed_all_later : (n from to : ℕ) (ys : List EditEntry) → to < from → AreDisjoint n from ys → AllByRecursion (λ y. to < y.from) (removed_spans ys)
removed_all_later n from to [] lt p = tt
removed_all_later n from to (y ∷ ys) lt p = let later = p.0.later in (omega (arith, lt), removed_all_later n (y.at + length y.removed) to ys (omega (arith, lt)) p.1)

pub removed_all_after : (n from to : ℕ) (ys : List EditEntry) → AreDisjoint n from ys → StartsAfter to ys → AllByRecursion (λ y. to < y.from) (removed_spans ys)
removed_all_after n from to [] p b = tt
removed_all_after n from to (y ∷ ys) p b = (b, removed_all_later n (y.at + length y.removed) to ys (omega (arith, b)) p.1)

added_all_later : (n old mid to : ℕ) (xs : List EditEntry) → to < mid → AreDisjoint n old xs → AllByRecursion (λ x. to < x.from) (added_spans old mid xs)
added_all_later n old mid to [] lt p = tt
added_all_later n old mid to (e ∷ xs) lt p = (omega (arith, lt), added_all_later n (e.at + length e.removed) (mid + (e.at - old) + length e.added) to xs (omega (arith, lt)) p.1)

pub added_all_after : (n old mid to bound : ℕ) (xs : List EditEntry) → old ≤ to → bound ≤ mid + (to - old) → AreDisjoint n old xs → StartsAfter to xs → AllByRecursion (λ x. bound < x.from) (added_spans old mid xs)
added_all_after n old mid to bound [] le b p h = tt
added_all_after n old mid to bound (e ∷ xs) le b p h = (omega (arith, b, h, le), added_all_later n (e.at + length e.removed) (mid + (e.at - old) + length e.added) bound xs (omega (arith, b, h, le)) p.1)

-- sums over those that are before y, where all are
pub before_all : (f : Span → ℕ) (y : Span) (xs : List Span) → AllByRecursion (λ x. span_end x < y.from) xs → sum_by (λ x. if is_before x y then f x else 0) xs ≡ sum_by f xs
before_all f y [] h = refl
before_all f y (x ∷ xs) h =
    let i = before_all f y xs h.1 in
    let t : is_before x y ≡ true = lt-ltb (span_end x) y.from h.0 in
    let one : (if is_before x y then f x else 0) ≡ f x = rw t refl in
    sum_by-cons (λ x. if is_before x y then f x else 0) x xs ∙ (λ k. one k + i k) ∙ sym (sum_by-cons f x xs)

-- and where none is
pub before_none : (f : Span → ℕ) (y : Span) (to : ℕ) (xs : List Span) → y.from ≤ to → AllByRecursion (λ x. to < x.from) xs → sum_by (λ x. if is_before x y then f x else 0) xs ≡ 0
before_none f y to [] le h = refl
before_none f y to (x ∷ xs) le h =
    let i = before_none f y to xs le h.1 in
    let l = h.0 in
    let t : is_before x y ≡ false = le-ltb (span_end x) y.from (omega (arith, l, le)) in
    let one : (if is_before x y then f x else 0) ≡ 0 = rw t refl in
    sum_by-cons (λ x. if is_before x y then f x else 0) x xs ∙ (λ k. one k + i k)

-- y is after all that are done, and before all others
pub before_some : (f : Span → ℕ) (y : Span) (to : ℕ) (all done rest : List Span) → all ≡ done ++ rest → y.from ≤ to → AllByRecursion (λ x. span_end x < y.from) done → AllByRecursion (λ x. to < x.from) rest
    → sum_by (λ x. if is_before x y then f x else 0) all ≡ sum_by f done
before_some f y to all done rest is le d r =
    ap (λ (l : List Span). sum_by (λ x. if is_before x y then f x else 0) l) is ∙ sum_by-append (λ x. if is_before x y then f x else 0) done rest
    ∙ (let p = before_all f y done d in let q = before_none f y to rest le r in omega (arith, p, q))

pub moved_push : (others xs : List Span) (olds news : List EditEntry) (x : Span) (old new : EditEntry) → AreRelocated others xs olds news → IsRelocated others x old new → AreRelocated others (xs ++ x ∷ []) (olds ++ old ∷ []) (news ++ new ∷ [])
moved_push others [] [] [] x old new h m = (m, tt)
moved_push others (y ∷ xs) (o ∷ olds) (n ∷ news) x old new h m = (h.0, moved_push others xs olds news x old new h.1 m)
moved_push others [] [] (n ∷ news) x old new h m = elim h [ ]
moved_push others [] (o ∷ olds) news x old new h m = elim h [ ]
moved_push others (y ∷ xs) [] news x old new h m = elim h [ ]
moved_push others (y ∷ xs) (o ∷ olds) [] x old new h m = elim h [ ]

pub same_sums : (others xs : List Span) (olds news : List EditEntry) → AreRelocated others xs olds news → (removed_len news ≡ removed_len olds) × (added_len news ≡ added_len olds)
same_sums others [] [] [] h = (refl, refl)
same_sums others (y ∷ xs) (o ∷ olds) (n ∷ news) h =
    let i = same_sums others xs olds news h.1 in
    let r = ap length h.0.removed in
    let a = ap length h.0.added in
    (omega (arith, i.0, r), omega (arith, i.1, a))
same_sums others [] [] (n ∷ news) h = elim h [ ]
same_sums others [] (o ∷ olds) news h = elim h [ ]
same_sums others (y ∷ xs) [] news h = elim h [ ]
same_sums others (y ∷ xs) (o ∷ olds) [] h = elim h [ ]

one_entry : (e f : EditEntry) → e.at ≡ f.at → e.removed ≡ f.removed → e.added ≡ f.added → e ≡ f
one_entry e f a r w = λ i. record { at = a i; removed = r i; added = w i }

pub moved_one : (others xs : List Span) (olds news more : List EditEntry) → AreRelocated others xs olds news → AreRelocated others xs olds more → news ≡ more
moved_one others [] [] [] [] h k = refl
moved_one others (y ∷ xs) (o ∷ olds) (n ∷ news) (m ∷ more) h k =
    let i = moved_one others xs olds news more h.1 k.1 in
    let p = h.0.at in
    let q = k.0.at in
    let one = one_entry n m (omega (arith, p, q)) (h.0.removed ∙ sym k.0.removed) (h.0.added ∙ sym k.0.added) in
    (λ j. one j ∷ i j)
moved_one others [] [] [] (m ∷ more) h k = elim k [ ]
moved_one others [] [] (n ∷ news) more h k = elim h [ ]
moved_one others [] (o ∷ olds) news more h k = elim h [ ]
moved_one others (y ∷ xs) [] news more h k = elim h [ ]
moved_one others (y ∷ xs) (o ∷ olds) [] more h k = elim h [ ]
moved_one others (y ∷ xs) (o ∷ olds) (n ∷ news) [] h k = elim k [ ]
