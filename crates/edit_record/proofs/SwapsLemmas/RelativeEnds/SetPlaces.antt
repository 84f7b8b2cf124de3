-- Edits and where they end: the end of each sets its place.
use Rattle.std.proofs.Common.{◌≡◌, ℕ, ◌+◌, ◌-◌, ◌≤◌, ◌<◌, List, [], ◌∷◌, ◌++◌, length, take, drop, set, get_or, refl, arith, sym, ap, ◌∙◌, subst, append_assoc}
use Rattle.std.proofs.lemmas.List.{length-take-le, take-append-drop, take_more, drop_more}
use Rattle.std.proofs.Math.Seq.{get_or-append_seam, set-append_seam}
use Rattle.edit_record.specs.Lists.Pieces.{EditEntry}
use Rattle.edit_record.specs.declared.swaps.relative_ends.EndOffset.{EndOffset}
use Rattle.edit_record.specs.Swaps.Inner.RelativeEnds.{IsEndOf}
use Rattle.edit_record.specs.Swaps.Inner.EditEnds.{with_ends, ends_at, FitRemoved}
use Rattle.edit_record.specs.Squashes.Groups.{Span}
use Rattle.edit_record.specs.Swaps.Swap.{AreRelocated}

abbrev pub put_at : EditEntry → EndOffset → EditEntry
put_at x e = record { at = e.old - length x.removed; removed = x.removed; added = x.added }

placed_len : (xs : List EditEntry) (es : List EndOffset) → length xs ≤ length es → length (with_ends xs es) ≡ length xs
placed_len [] es l = refl
placed_len (x ∷ xs) [] l = absurd (omega (arith, l))
placed_len (x ∷ xs) (e ∷ es) l = let i = placed_len xs es (omega (arith, l)) in omega (arith, i)

placed_push : (xs : List EditEntry) (x : EditEntry) (leading : List EndOffset) (end : EndOffset) (back : List EndOffset) → length leading ≡ length xs → with_ends (xs ++ x ∷ []) (leading ++ end ∷ back) ≡ with_ends xs (leading ++ end ∷ back) ++ put_at x end ∷ []
placed_push [] x [] end back l = refl
placed_push [] x (f ∷ leading) end back l = absurd (omega (arith, l))
placed_push (w ∷ xs) x [] end back l = absurd (omega (arith, l))
placed_push (w ∷ xs) x (f ∷ leading) end back l = ap (λ (z : List EditEntry). put_at w f ∷ z) (placed_push xs x leading end back (omega (arith, l)))

hold_at : (xs : List EditEntry) (x : EditEntry) (rest : List EditEntry) (leading : List EndOffset) (end : EndOffset) (back : List EndOffset) → length leading ≡ length xs → FitRemoved (xs ++ x ∷ rest) (leading ++ end ∷ back) → length x.removed ≤ end.old
hold_at [] x rest [] end back l h = h.0
hold_at [] x rest (f ∷ leading) end back l h = absurd (omega (arith, l))
hold_at (w ∷ xs) x rest [] end back l h = absurd (omega (arith, l))
hold_at (w ∷ xs) x rest (f ∷ leading) end back l h = hold_at xs x rest leading end back (omega (arith, l)) h.1

-- one more is where it belongs
pub record PutOne (all now : List EditEntry) (es : List EndOffset) (i : ℕ) (x : EditEntry) (end : EndOffset) : Type 0 where
  pub holds : length x.removed ≤ end.old
  pub next : (v : EditEntry) → v ≡ put_at x end → set now i v ≡ with_ends (take (i + 1) all) es ++ drop (i + 1) all

put_one_at : (all now : List EditEntry) (es : List EndOffset) (i : ℕ) (y x : EditEntry) (end : EndOffset) → drop i all ≡ y ∷ drop (i + 1) all → take (i + 1) all ≡ take i all ++ y ∷ [] → length (take i all) ≡ i → i ≤ length es → now ≡ with_ends (take i all) es ++ drop i all
    → x ≡ get_or now i x → IsEndOf es i end → FitRemoved all es → PutOne all now es i x end
put_one_at all now es i y x end d t l m is x_is e h =
    let p = with_ends (take i all) es in
    let len : length p ≡ i = placed_len (take i all) es (omega (arith, l, m)) ∙ l in
    let now_is : now ≡ p ++ y ∷ drop (i + 1) all = is ∙ ap (λ (z : List EditEntry). p ++ z) d in
    let same : x ≡ y = x_is ∙ (λ j. get_or (now_is j) (sym len j) x) ∙ get_or-append_seam p y (drop (i + 1) all) x in
    let n = e.number_is in
    let whole : all ≡ take i all ++ y ∷ drop (i + 1) all = sym (take-append-drop i all) ∙ ap (λ (z : List EditEntry). take i all ++ z) d in
    let leading_len : length e.prefix ≡ length (take i all) = omega (arith, n, l) in
    let within_end : length y.removed ≤ end.old = hold_at (take i all) y (drop (i + 1) all) e.prefix end e.suffix leading_len (subst (λ (z : List EditEntry). FitRemoved z (e.prefix ++ end ∷ e.suffix)) whole (subst (λ (z : List EndOffset). FitRemoved all z) e.split h)) in
    record {
      holds = subst (λ (z : EditEntry). length z.removed ≤ end.old) (sym same) within_end;
      next = λ v v_is.
          let pushed : with_ends (take (i + 1) all) es ≡ p ++ put_at y end ∷ [] =
          (λ j. with_ends (t j) (e.split j)) ∙ placed_push (take i all) y e.prefix end e.suffix leading_len ∙ (λ j. with_ends (take i all) (sym e.split j) ++ put_at y end ∷ []) in
          let v_at : v ≡ put_at y end = v_is ∙ ap (λ (z : EditEntry). put_at z end) same in
          (λ j. set (now_is j) (sym len j) v) ∙ set-append_seam p y (drop (i + 1) all) v ∙ ap (λ (z : EditEntry). p ++ z ∷ drop (i + 1) all) v_at
          ∙ sym (append_assoc p (put_at y end ∷ []) (drop (i + 1) all)) ∙ ap (λ (z : List EditEntry). z ++ drop (i + 1) all) (sym pushed);
    }

pub put_one : (all now : List EditEntry) (es : List EndOffset) (i : ℕ) (x : EditEntry) (end : EndOffset) → i < length all → length es ≡ length all → now ≡ with_ends (take i all) es ++ drop i all → x ≡ get_or now i x → IsEndOf es i end → FitRemoved all es → PutOne all now es i x end
put_one all now es i x end lt l is x_is e h =
    put_one_at all now es i (get_or all i x) x end (drop_more all i x lt) (take_more all i x lt) (length-take-le i all (omega (arith, lt))) (omega (arith, lt, l)) is x_is e h

-- ---- edits with the texts of others

abbrev pub SameTexts : List EditEntry → List EditEntry → Type 0
SameTexts [] [] = Unit {0}
SameTexts [] (y ∷ ys) = ⊥
SameTexts (x ∷ xs) [] = ⊥
SameTexts (x ∷ xs) (y ∷ ys) = (x.removed ≡ y.removed) × (x.added ≡ y.added) × SameTexts xs ys

pub moved_texts : (others xs : List Span) (olds news : List EditEntry) → AreRelocated others xs olds news → SameTexts news olds
moved_texts others [] [] [] h = tt
moved_texts others (y ∷ xs) (o ∷ olds) (n ∷ news) h = (h.0.removed, h.0.added, moved_texts others xs olds news h.1)
moved_texts others [] [] (n ∷ news) h = elim h [ ]
moved_texts others [] (o ∷ olds) news h = elim h [ ]
moved_texts others (y ∷ xs) [] news h = elim h [ ]
moved_texts others (y ∷ xs) (o ∷ olds) [] h = elim h [ ]

pub placed_texts : (xs : List EditEntry) (es : List EndOffset) → length xs ≤ length es → SameTexts (with_ends xs es) xs
placed_texts [] es l = tt
placed_texts (x ∷ xs) [] l = absurd (omega (arith, l))
placed_texts (x ∷ xs) (e ∷ es) l = (refl, refl, placed_texts xs es (omega (arith, l)))

pub same_texts_on : (xs ys zs : List EditEntry) → SameTexts xs ys → SameTexts ys zs → SameTexts xs zs
same_texts_on [] [] [] h k = tt
same_texts_on (x ∷ xs) (y ∷ ys) (z ∷ zs) h k = (h.0 ∙ k.0, h.1 ∙ k.1, same_texts_on xs ys zs h.2 k.2)
same_texts_on [] [] (z ∷ zs) h k = absurd k
same_texts_on [] (y ∷ ys) zs h k = absurd h
same_texts_on (x ∷ xs) [] zs h k = absurd h
same_texts_on (x ∷ xs) (y ∷ ys) [] h k = absurd k

one_edit : (e f : EditEntry) → e.at ≡ f.at → e.removed ≡ f.removed → e.added ≡ f.added → e ≡ f
one_edit e f a r w = λ i. record { at = a i; removed = r i; added = w i }

-- edits with these texts, put where the others end, are the others
pub placed_back : (a r : ℕ) (xs vs : List EditEntry) → SameTexts vs xs → with_ends xs (ends_at a r vs) ≡ vs
placed_back a r [] [] h = refl
placed_back a r (x ∷ xs) (v ∷ vs) h =
    let n = ap length h.0 in
    let one = one_edit (put_at x (record { old = v.at + length v.removed; new = (v.at + a + length v.added) - r })) v (omega (arith, n)) (sym h.0) (sym h.1) in
    let rest = placed_back (a + length v.added) (r + length v.removed) xs vs h.2 in
    λ i. one i ∷ rest i
placed_back a r [] (v ∷ vs) h = absurd h
placed_back a r (x ∷ xs) [] h = absurd h

pub fitting_ends : (a r : ℕ) (xs vs : List EditEntry) → SameTexts vs xs → FitRemoved xs (ends_at a r vs)
fitting_ends a r [] [] h = tt
fitting_ends a r (x ∷ xs) (v ∷ vs) h = let n = ap length h.0 in (omega (arith, n), fitting_ends (a + length v.added) (r + length v.removed) xs vs h.2)
fitting_ends a r [] (v ∷ vs) h = absurd h
fitting_ends a r (x ∷ xs) [] h = absurd h

pub put_as : (x g v : EditEntry) (end : EndOffset) (n : ℕ) → x ≡ g → n ≡ length g.removed → v ≡ record { at = end.old - n; removed = g.removed; added = g.added } → v ≡ put_at x end
put_as x g v end n same n_is v_is = v_is ∙ ap (λ (k : ℕ). record { at = end.old - k; removed = g.removed; added = g.added }) n_is ∙ ap (λ (z : EditEntry). put_at z end) (sym same)
