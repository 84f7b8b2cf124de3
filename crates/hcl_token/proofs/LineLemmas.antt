-- The last line of a text, and how many LFs a text has.
use Rattle.std.proofs.Common.{◌≡◌, ℕ, zero, suc, ◌+◌, ◌-◌, ◌<◌, ◌≤◌, slice_range, Bool, true, false, ◌||◌, cond, List, [], ◌∷◌, ◌++◌, length, drop, get_or, count_by, IsUtf8, refl, sym, ap, subst, ◌∙◌, arith, eqb-true, IsCharBoundary}
use Rattle.std.proofs.lemmas.Bool.{or_right}
use Rattle.std.specs.List.{list_any}
use Rattle.std.proofs.lemmas.List.{get_or_past, get_or-drop, get_or_default, take_all, length-drop}
use Rattle.std.proofs.lemmas.List.Folds.{list_any-append, list_any_at, list_any_none}
use Rattle.std.proofs.lemmas.List.Sums.{sum_by-append, sum_by-cons}
use Rattle.std.proofs.lemmas.Str.{IsUtf8-drop, IsCharBoundary-after_ascii}
use Rattle.memchr.specs.Find.{NoneAfter, Nowhere, Passes, is_byte}
use Rattle.hcl_token.specs.Place.{is_lf, last_line}

abbrev weight : Bool → ℕ
weight v = cond v 1 0

count-cons : (b : ℕ) (t : List ℕ) → count_by is_lf (b ∷ t) ≡ cond (is_lf b) 1 0 + count_by is_lf t
count-cons b t = sum_by-cons (λ x. cond (is_lf x) 1 0) b t

pub count-append : (s t : List ℕ) → count_by is_lf (s ++ t) ≡ count_by is_lf s + count_by is_lf t
count-append s t = sum_by-append (λ x. cond (is_lf x) 1 0) s t

-- a text has an LF, or has none
pub count_none : (t : List ℕ) → list_any is_lf t ≡ false → count_by is_lf t ≡ 0
count_none [] h = refl
count_none (b ∷ t) h =
    elim (is_lf b) as (λ v. is_lf b ≡ v → (v || list_any is_lf t) ≡ false → count_by is_lf (b ∷ t) ≡ 0) [
      | true ↦ λ e k. absurd (cc)
      | false ↦ λ e k. omega (arith, count-cons b t, count_none t k, ap weight e)
    ] refl h

pub count_some : (t : List ℕ) → list_any is_lf t ≡ true → 0 < count_by is_lf t
count_some [] h = absurd (cc)
count_some (b ∷ t) h =
    elim (is_lf b) as (λ v. is_lf b ≡ v → (v || list_any is_lf t) ≡ true → 0 < count_by is_lf (b ∷ t)) [
      | true ↦ λ e k. omega (arith, count-cons b t, ap weight e)
      | false ↦ λ e k. omega (arith, count-cons b t, count_some t k, ap weight e)
    ] refl h

pub in_text : (t : List ℕ) (k : ℕ) → is_lf (get_or t k 0) ≡ true → k < length t
in_text [] k h = let byte : get_or {A = ℕ} [] k 0 ≡ 10 = eqb-true _ 10 h in omega (arith, get_or_past {X = ℕ} [] k 0 (omega arith))
in_text (b ∷ t) zero h = omega arith
in_text (b ∷ t) (suc k) h = omega (arith, in_text t k h)

not_true : (v : Bool) → ¬ (v ≡ true) → v ≡ false
not_true true h = absurd (h refl)
not_true false h = refl

pub last_line-none : (t : List ℕ) → list_any is_lf t ≡ false → last_line t ≡ t
last_line-none [] h = refl
last_line-none (b ∷ t) h = rw h refl

-- an LF with none after it ends the line before the last
pub last_line-after : (t : List ℕ) (k : ℕ) → is_lf (get_or t k 0) ≡ true → list_any is_lf (drop (suc k) t) ≡ false → last_line t ≡ drop (suc k) t
last_line-after [] k h none = refl
last_line-after (b ∷ t) zero h none = rw h (last_line-none t none)
last_line-after (b ∷ t) (suc k) h none =
    let inside : k < length t = in_text t k h in
    let any : (is_lf b || list_any is_lf t) ≡ true = or_right (is_lf b) (list_any is_lf t) (list_any_at is_lf t k 0 inside h) in
    rw any (last_line-after t k h none)

or_false : (v : Bool) → (v || false) ≡ v
or_false true = refl
or_false false = refl

pub last_line-append_some : (s t : List ℕ) → list_any is_lf t ≡ true → last_line (s ++ t) ≡ last_line t
last_line-append_some [] t e = refl
last_line-append_some (b ∷ s) t e =
    let later : list_any is_lf (s ++ t) ≡ true = list_any-append is_lf s t ∙ or_right (list_any is_lf s) (list_any is_lf t) e in
    let any : (is_lf b || list_any is_lf (s ++ t)) ≡ true = or_right (is_lf b) (list_any is_lf (s ++ t)) later in
    rw any (last_line-append_some s t e)

pub any-append_none : (s t : List ℕ) → list_any is_lf t ≡ false → list_any is_lf (s ++ t) ≡ list_any is_lf s
any-append_none s t e = list_any-append is_lf s t ∙ ap (λ v. list_any is_lf s || v) e ∙ or_false (list_any is_lf s)

pub last_line-append_none : (s t : List ℕ) → list_any is_lf t ≡ false → last_line (s ++ t) ≡ last_line s ++ t
last_line-append_none [] t e = last_line-none t e
last_line-append_none (b ∷ s) t e =
    let same : list_any is_lf (s ++ t) ≡ list_any is_lf s = any-append_none s t e in
    elim (is_lf b || list_any is_lf s) as (λ v. (is_lf b || list_any is_lf s) ≡ v → last_line (b ∷ (s ++ t)) ≡ last_line (b ∷ s) ++ t) [
      | true ↦ λ any. rw (same, any) (last_line-append_none s t e)
      | false ↦ λ any. rw (same, any) refl
    ] refl

-- what follows an LF of a text in UTF-8 is in UTF-8
utf8_after : (t : List ℕ) (k : ℕ) → k < length t → is_lf (get_or t k 0) ≡ true → IsUtf8 t → IsUtf8 (drop (suc k) t)
utf8_after t k inside h u =
    let byte : get_or t k 0 ≡ 10 = eqb-true (get_or t k 0) 10 h in
    let boundary : IsCharBoundary t (k + 1) = IsCharBoundary-after_ascii t k u inside (omega arith) in
    let more : k + 1 ≡ suc k = omega arith in
    subst (λ n. IsUtf8 (drop n t)) more (IsUtf8-drop t (k + 1) u boundary)

pub length-last_line : (t : List ℕ) → length (last_line t) ≤ length t
length-last_line [] = omega arith
length-last_line (b ∷ t) =
    elim (list_any is_lf (b ∷ t)) as (λ v. list_any is_lf (b ∷ t) ≡ v → length (last_line (b ∷ t)) ≤ length (b ∷ t)) [
      | true ↦ λ e. rw e (omega (arith, length-last_line t))
      | false ↦ λ e. rw e (omega arith)
    ] refl

pub shorter_last_line : (t : List ℕ) → list_any is_lf t ≡ true → length (last_line t) < length t
shorter_last_line [] h = absurd (cc)
shorter_last_line (b ∷ t) h = rw h (omega (arith, length-last_line t))

-- a text has an LF if and only if its last line is shorter
pub none_by_length : (t : List ℕ) → length (last_line t) ≡ length t → list_any is_lf t ≡ false
none_by_length t h =
    elim (list_any is_lf t) as (λ v. list_any is_lf t ≡ v → v ≡ false) [
      | true ↦ λ e. absurd (omega (arith, shorter_last_line t e))
      | false ↦ λ e. refl
    ] refl

pub some_by_length : (t : List ℕ) → length (last_line t) < length t → list_any is_lf t ≡ true
some_by_length t h =
    elim (list_any is_lf t) as (λ v. list_any is_lf t ≡ v → v ≡ true) [
      | true ↦ λ e. refl
      | false ↦ λ e. absurd (omega (arith, ap length (last_line-none t e)))
    ] refl

-- what a search for the last LF returns
pub last_part : (t : List ℕ) (k : ℕ) → slice_range t (k + 1) (length t) ≡ drop (suc k) t
last_part t k =
    let more : k + 1 ≡ suc k = omega arith in
    take_all (length t - (k + 1)) (drop (k + 1) t) (omega (arith, length-drop (k + 1) t)) ∙ ap (λ n. drop n t) more

none_after : (t : List ℕ) (k : ℕ) → NoneAfter (Passes (is_byte 10) t) 0 (length t) k → list_any is_lf (drop (suc k) t) ≡ false
none_after t k h =
    list_any_none is_lf (drop (suc k) t) (λ i d inside.
    let within : suc k + i < length t = omega (arith, length-drop (suc k) t) in
    let fails : ¬ Passes (is_byte 10) t (suc k + i) = h.after (suc k + i) (omega arith) within in
    let same : get_or (drop (suc k) t) i d ≡ get_or t (suc k + i) 0 = get_or-drop (suc k) t i d ∙ get_or_default t (suc k + i) d 0 within in
    ap is_lf same ∙ not_true _ fails)

pub last_line_found : (t : List ℕ) (k : ℕ) → NoneAfter (Passes (is_byte 10) t) 0 (length t) k × Passes (is_byte 10) t k → drop (suc k) t ≡ last_line t
last_line_found t k h = sym (last_line-after t k h.1 (none_after t k h.0))

-- what a search returns that finds none
pub none_found : (t : List ℕ) → Nowhere (Passes (is_byte 10) t) 0 (length t) → list_any is_lf t ≡ false
none_found t h =
    list_any_none is_lf t (λ i d inside.
    let fails : ¬ Passes (is_byte 10) t i = h i (omega arith) inside in
    ap is_lf (get_or_default t i d 0 inside) ∙ not_true _ fails)

pub last_line_missing : (t : List ℕ) → Nowhere (Passes (is_byte 10) t) 0 (length t) → t ≡ last_line t
last_line_missing t h = sym (last_line-none t (none_found t h))

-- an LF that is found is one
pub some_found : (t : List ℕ) (k : ℕ) → Passes (is_byte 10) t k → list_any is_lf t ≡ true
some_found t k h = list_any_at is_lf t k 0 (in_text t k h) h

pub any_from_count : (t : List ℕ) → 0 < count_by is_lf t → list_any is_lf t ≡ true
any_from_count t h =
    elim (list_any is_lf t) as (λ v. list_any is_lf t ≡ v → v ≡ true) [
      | true ↦ λ e. refl
      | false ↦ λ e. absurd (omega (arith, count_none t e))
    ] refl

-- the last line of a text in UTF-8 is in UTF-8
last_line_begin : (t : List ℕ) → list_any is_lf t ≡ true → (k : ℕ) × (k < length t) × (is_lf (get_or t k 0) ≡ true) × (last_line t ≡ drop (suc k) t)
last_line_begin [] h = absurd (cc)
last_line_begin (b ∷ t) h =
    elim (list_any is_lf t) as (λ v. list_any is_lf t ≡ v → (k : ℕ) × (k < length (b ∷ t)) × (is_lf (get_or (b ∷ t) k 0) ≡ true) × (last_line (b ∷ t) ≡ drop (suc k) (b ∷ t))) [
      | true ↦ λ e. let (k, inside, found, is) = last_line_begin t e in (suc k, omega arith, found, rw h is)
      | false ↦ λ e. let here : is_lf b ≡ true = sym (or_false (is_lf b)) ∙ ap (λ v. is_lf b || v) (sym e) ∙ h in (0, omega arith, here, rw h (last_line-none t e))
    ] refl

pub utf8_last_line : (t : List ℕ) → IsUtf8 t → IsUtf8 (last_line t)
utf8_last_line t u =
    elim (list_any is_lf t) as (λ v. list_any is_lf t ≡ v → IsUtf8 (last_line t)) [
      | true ↦ λ e. let (k, inside, found, is) = last_line_begin t e in subst IsUtf8 (sym is) (utf8_after t k inside found u)
      | false ↦ λ e. subst IsUtf8 (sym (last_line-none t e)) u
    ] refl
