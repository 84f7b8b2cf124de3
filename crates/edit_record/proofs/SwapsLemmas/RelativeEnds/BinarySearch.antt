-- A search by halves.
use Rattle.std.proofs.Common.{◌≡◌, ℕ, ◌+◌, ◌-◌, ◌/◌, ◌≤◌, ◌<◌, List, [], ◌∷◌, ◌++◌, length, map, drop, Option, Some, None, refl, arith, sym, ap, ◌∙◌, subst, append_assoc, length-append, inl, inr}
use Rattle.std.specs.List.{AllByRecursion}
use Rattle.std.proofs.lemmas.List.{length-map, length-drop, append-nil, nil_from_length}
use Rattle.edit_record.specs.declared.swaps.relative_ends.EndOffset.{EndOffset}
use Rattle.edit_record.specs.Swaps.Inner.RelativeEnds.{plus, no_offset, ends_of, IsSmall, LastEndsBefore, NextEndsAt, IsPartition, IsEndOf}
use Rattle.edit_record.proofs.SwapsLemmas.RelativeEnds.RelativeEndsLemmas.{Halves, halves_beyond, ends_len, from_nowhere, all_right}

pub record Searching (at : ℕ) (es left : List EndOffset) (count : ℕ) (last : EndOffset) (next : Option ℕ) : Type 0 where
  pub prefix : List EndOffset
  pub suffix : List EndOffset
  pub split : es ≡ (prefix ++ map (plus last) (ends_of left)) ++ suffix
  pub count_is : count ≡ length prefix
  pub last_is : LastEndsBefore at prefix last
  pub next_is : NextEndsAt at suffix next

pub searching : (at : ℕ) (run : List EndOffset) → Searching at (ends_of run) run 0 no_offset None
searching at run = record {
  prefix = [];
  suffix = [];
  split = sym (append-nil _ ∙ from_nowhere (ends_of run));
  count_is = refl;
  last_is = inl (refl, refl);
  next_is = refl;
}

-- what is left, after the last that is known to come first, in its parts
parts_of : (left before : List EndOffset) (last x end : EndOffset) (following : List EndOffset) → Halves left before x following → end ≡ plus last x
    → map (plus last) (ends_of left) ≡ map (plus last) (ends_of before) ++ end ∷ map (plus end) (ends_of following)
parts_of left before last x end following h is = halves_beyond last left before x following h ∙ (λ i. map (plus last) (ends_of before) ++ sym is i ∷ map (plus (sym is i)) (ends_of following))

lens_of : (before : List EndOffset) (last : EndOffset) → length (map (plus last) (ends_of before)) ≡ length before
lens_of before last = length-map (ends_of before) (plus last) ∙ ends_len before

to_right : (es prefix suffix l r : List EndOffset) (m : List EndOffset) (end : EndOffset) → es ≡ (prefix ++ m) ++ suffix → m ≡ l ++ end ∷ r → es ≡ (((prefix ++ l) ++ end ∷ []) ++ r) ++ suffix
to_right es prefix suffix l r m end split parts =
    split ∙ ap (λ (z : List EndOffset). (prefix ++ z) ++ suffix) parts ∙ ap (λ (z : List EndOffset). z ++ suffix) (sym (append_assoc prefix l (end ∷ r)) ∙ sym (append_assoc (prefix ++ l) (end ∷ []) r))

to_left : (es prefix suffix l r : List EndOffset) (m : List EndOffset) (end : EndOffset) → es ≡ (prefix ++ m) ++ suffix → m ≡ l ++ end ∷ r → es ≡ (prefix ++ l) ++ end ∷ (r ++ suffix)
to_left es prefix suffix l r m end split parts =
    split ∙ ap (λ (z : List EndOffset). (prefix ++ z) ++ suffix) parts ∙ ap (λ (z : List EndOffset). z ++ suffix) (sym (append_assoc prefix l (end ∷ r))) ∙ append_assoc (prefix ++ l) (end ∷ r) suffix

-- the middle of what is left is one of the ends
middle_among : (es prefix suffix l r : List EndOffset) (m : List EndOffset) (end : EndOffset) → es ≡ (prefix ++ m) ++ suffix → m ≡ l ++ end ∷ r → AllByRecursion IsSmall es → IsSmall end
middle_among es prefix suffix l r m end split parts small =
    let a = subst (λ (z : List EndOffset). AllByRecursion IsSmall z) (to_left es prefix suffix l r m end split parts) small in
    (all_right IsSmall (prefix ++ l) (end ∷ (r ++ suffix)) a).0

pub middle_small : (at : ℕ) (es left before : List EndOffset) (count : ℕ) (last : EndOffset) (next : Option ℕ) (x : EndOffset) (following : List EndOffset) → Searching at es left count last next → Halves left before x following → AllByRecursion IsSmall es → IsSmall (plus last x)
middle_small at es left before count last next x following s h small =
    middle_among es s.prefix s.suffix _ _ (map (plus last) (ends_of left)) (plus last x) s.split (parts_of left before last x (plus last x) following h refl) small

pub count_fits : (at : ℕ) (run left before : List EndOffset) (count : ℕ) (last : EndOffset) (next : Option ℕ) (x : EndOffset) (following : List EndOffset) → Searching at (ends_of run) left count last next → Halves left before x following → count + (length before + 1) ≤ length run
count_fits at run left before count last next x following s h =
    let c = s.count_is in
    let l = ap length s.split in
    let e = ends_len run in
    let m = lens_of left last in
    let a = length-append (s.prefix ++ map (plus last) (ends_of left)) s.suffix in
    let b = length-append s.prefix (map (plus last) (ends_of left)) in
    let k = h.lens in
    omega (arith, c, l, e, m, a, b, k)

pub search_right : (at : ℕ) (es left before : List EndOffset) (count : ℕ) (last : EndOffset) (next : Option ℕ) (x end : EndOffset) (following : List EndOffset) → Searching at es left count last next → Halves left before x following → end ≡ plus last x → end.new < at
    → Searching at es following (count + (length before + 1)) end next
search_right at es left before count last next x end following s h is lt =
    let l = map (plus last) (ends_of before) in
    let n = lens_of before last in
    let c = s.count_is in
    let len1 = length-append (s.prefix ++ l) (end ∷ []) in
    let len2 = length-append s.prefix l in
    record {
      prefix = (s.prefix ++ l) ++ end ∷ [];
      suffix = s.suffix;
      split = to_right es s.prefix s.suffix l _ _ end s.split (parts_of left before last x end following h is);
      count_is = omega (arith, n, c, len1, len2);
      last_is = inr (s.prefix ++ l, refl, lt);
      next_is = s.next_is;
    }

pub search_left : (at : ℕ) (es left before : List EndOffset) (count : ℕ) (last : EndOffset) (next : Option ℕ) (x end : EndOffset) (following : List EndOffset) → Searching at es left count last next → Halves left before x following → end ≡ plus last x → at ≤ end.new
    → Searching at es before count last (Some end.new)
search_left at es left before count last next x end following s h is le = record {
  prefix = s.prefix;
  suffix = end ∷ (map (plus end) (ends_of following) ++ s.suffix);
  split = to_left es s.prefix s.suffix _ _ _ end s.split (parts_of left before last x end following h is);
  count_is = s.count_is;
  last_is = s.last_is;
  next_is = (refl, le);
}

pub nothing_left : (left rest : List EndOffset) → rest ≡ drop (length left / 2) left → length rest ≡ 0 → left ≡ []
nothing_left left rest r z = let l = length-drop (length left / 2) left in let n = ap length r in nil_from_length left (omega (arith, l, n, z))

pub found : (at : ℕ) (es left : List EndOffset) (count : ℕ) (last : EndOffset) (next : Option ℕ) → Searching at es left count last next → left ≡ [] → IsPartition at es count last next
found at es left count last next s e =
    let t = subst (λ (l : List EndOffset). Searching at es l count last next) e s in
    record { prefix = t.prefix; suffix = t.suffix; split = t.split ∙ ap (λ (z : List EndOffset). z ++ t.suffix) (append-nil t.prefix); count_is = t.count_is; last_is = t.last_is; next_is = t.next_is }

-- ---- the edit of a number

-- what is at the number i of what is left is the edit of that number
pub record Seeking (number : ℕ) (es left : List EndOffset) (i : ℕ) (last : EndOffset) : Type 0 where
  pub prefix : List EndOffset
  pub suffix : List EndOffset
  pub split : es ≡ (prefix ++ map (plus last) (ends_of left)) ++ suffix
  pub number_is : number ≡ length prefix + i
  pub i_lt : i < length left

pub seeking : (number : ℕ) (run : List EndOffset) → number < length run → Seeking number (ends_of run) run number no_offset
seeking number run lt = record { prefix = []; suffix = []; split = sym (append-nil _ ∙ from_nowhere (ends_of run)); number_is = omega arith; i_lt = lt }

pub sought_small : (number : ℕ) (es left before : List EndOffset) (i : ℕ) (last : EndOffset) (x : EndOffset) (following : List EndOffset) → Seeking number es left i last → Halves left before x following → AllByRecursion IsSmall es → IsSmall (plus last x)
sought_small number es left before i last x following s h small =
    middle_among es s.prefix s.suffix _ _ (map (plus last) (ends_of left)) (plus last x) s.split (parts_of left before last x (plus last x) following h refl) small

pub sought : (number : ℕ) (es left before : List EndOffset) (i : ℕ) (last x end : EndOffset) (following : List EndOffset) → Seeking number es left i last → Halves left before x following → end ≡ plus last x → i ≡ length before → IsEndOf es number end
sought number es left before i last x end following s h is same =
    let l = map (plus last) (ends_of before) in
    let n = lens_of before last in
    let c = s.number_is in
    let len = length-append s.prefix l in
    record {
      prefix = s.prefix ++ l;
      suffix = map (plus end) (ends_of following) ++ s.suffix;
      split = to_left es s.prefix s.suffix l _ _ end s.split (parts_of left before last x end following h is);
      number_is = omega (arith, n, c, len, same);
    }

pub seeks_right : (number : ℕ) (es left before : List EndOffset) (i : ℕ) (last x end : EndOffset) (following : List EndOffset) → Seeking number es left i last → Halves left before x following → end ≡ plus last x → length before < i → Seeking number es following (i - (length before + 1)) end
seeks_right number es left before i last x end following s h is lt =
    let l = map (plus last) (ends_of before) in
    let n = lens_of before last in
    let c = s.number_is in
    let k = s.i_lt in
    let t = h.lens in
    let len1 = length-append (s.prefix ++ l) (end ∷ []) in
    let len2 = length-append s.prefix l in
    record {
      prefix = (s.prefix ++ l) ++ end ∷ [];
      suffix = s.suffix;
      split = to_right es s.prefix s.suffix l _ _ end s.split (parts_of left before last x end following h is);
      number_is = omega (arith, n, c, len1, len2, lt);
      i_lt = omega (arith, k, t, lt);
    }

pub seeks_left : (number : ℕ) (es left before : List EndOffset) (i : ℕ) (last x : EndOffset) (following : List EndOffset) → Seeking number es left i last → Halves left before x following → i < length before → Seeking number es before i last
seeks_left number es left before i last x following s h lt = record {
  prefix = s.prefix;
  suffix = plus last x ∷ (map (plus (plus last x)) (ends_of following) ++ s.suffix);
  split = to_left es s.prefix s.suffix _ _ _ (plus last x) s.split (parts_of left before last x (plus last x) following h refl);
  number_is = s.number_is;
  i_lt = lt;
}
