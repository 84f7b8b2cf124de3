-- Gaps compared by their lengths. For speed alone.
use Rattle.std.proofs.Common.{◌≡◌, ◌==◌, ℕ, zero, suc, ◌+◌, ◌-◌, ◌<◌, ◌≤◌, nat_lt, Bool, true, false, ◌&&◌, ◌||◌, List, [], ◌∷◌, length, take, drop, slice_range, get_or, Some, if◌then◌else◌, refl, sym, ap, ap₂, ◌∙◌, arith, inl, inr}
use Rattle.std.specs.Str.{bytes_eq}
use Rattle.std.specs.Prelude.{slice_get}
use Rattle.std.specs.Option.{option_map}
use Rattle.std.proofs.lemmas.List.{drop_more}
use Rattle.std.proofs.lemmas.Bool.{and_parts, cases_eq, cases_lt}
use Rattle.std.proofs.lemmas.Bool.Decides.{nat_tests}
use Rattle.hcl_token.specs.Tokens.{Pair, whole_text}
use Rattle.hcl_token.specs.TokenizedText.{item_of, item_after, gap_of}
use Rattle.hcl_token.specs.declared.item.Item.{Item}
use Rattle.hcl_layout.specs.Gaps.Space.{spaces}
use Rattle.hcl_layout.specs.Gaps.Inner.CodeViews.{AreSpaces}
use Rattle.hcl_layout.specs.Gaps.Inner.Stages.{KEEP_GAP, resolved_gap, have_lengths, AreUnchanged}
use Rattle.hcl_layout.proofs.GapsLemmas.LineLemmas.{token_here, gap_is}
use Rattle.hcl_layout.proofs.GapsLemmas.LayoutPieces.{same_self_bytes}
use Rattle.hcl_layout.proofs.GapsLemmas.LineWidths.{bytes_joining}
use Rattle.hcl_layout.proofs.GapsLemmas.EditLemmas.{all_spaces}

-- ---- one gap

or_false : (b : Bool) → (b || false) ≡ true → b ≡ true
or_false true h = refl
or_false false h = h

by_length : (g : List ℕ) (n : ℕ) (kept : Bool) → g ≡ spaces (length g) → (length g == n || kept) ≡ true → bytes_eq g (if kept then g else spaces n) ≡ true
by_length g n true h k = same_self_bytes g
by_length g n false h k =
    let test = or_false (length g == n) k in
    let same : length g ≡ n = grind (arith, nat_tests) in
    sym (all_spaces g n h same)

same_gap : (g : List ℕ) (n : ℕ) → g ≡ spaces (length g) → (length g == n || n == KEEP_GAP) ≡ true → bytes_eq g (resolved_gap n g) ≡ true
same_gap g n h k = by_length g n (n == KEEP_GAP) h k

-- ---- gap by gap

pub gap_len_is : (ps : List Pair) (i : ℕ) (item : Item) → i < length ps → Some item ≡ item_of ps i
    → (item.gap_at ≤ item.start) × (Some (item.start - item.gap_at) ≡ option_map (λ (p : Pair). length p.gap) (slice_get ps i))
gap_len_is ps i item inside is =
    let t = token_here ps i (length ps) inside (omega arith) in
    let same : item ≡ item_after (take i ps) t.pair = let e = is ∙ ap (option_map (λ (p : Pair). item_after (take i ps) p)) t.at in cc in
    let at : item.gap_at ≡ length (whole_text (take i ps) []) = ap (λ (x : Item). x.gap_at) same in
    let start : item.start ≡ length (whole_text (take i ps) t.pair.gap) = ap (λ (x : Item). x.start) same in
    let len : item.start - item.gap_at ≡ length t.pair.gap = omega (arith, at, start, bytes_joining (take i ps) [], bytes_joining (take i ps) t.pair.gap) in (
      omega (arith, at, start, bytes_joining (take i ps) [], bytes_joining (take i ps) t.pair.gap),
      ap Some len ∙ sym (ap (option_map (λ (p : Pair). length p.gap)) t.at),
    )

and_both : (x y z : Bool) → (x && y) && z ≡ x && (y && z)
and_both true y z = refl
and_both false y z = refl

more_numbers : (ns : List ℕ) (i to : ℕ) → i < to → to ≤ length ns → slice_range ns i to ≡ get_or ns i 0 ∷ slice_range ns (i + 1) to
more_numbers ns i to less within =
    let count : to - i ≡ suc (to - (i + 1)) = omega arith in
    ap₂ (λ n (xs : List ℕ). take n xs) count (drop_more ns i 0 (omega arith))

pub lengths_step : (ns : List ℕ) (ps : List Pair) (i to k : ℕ) (same : Bool) → length ns ≡ length ps → i < to → to ≤ length ps → Some k ≡ option_map (λ (p : Pair). length p.gap) (slice_get ps i)
    → ((same && (k == get_or ns i 0 || get_or ns i 0 == KEEP_GAP)) && have_lengths (slice_range ns (i + 1) to) (slice_range ps (i + 1) to)) ≡ (same && have_lengths (slice_range ns i to) (slice_range ps i to))
lengths_step ns ps i to k same size less within is =
    let t = token_here ps i to less within in
    let k_is : k ≡ length t.pair.gap = let e = is ∙ ap (option_map (λ (p : Pair). length p.gap)) t.at in cc in
    let rest : Bool = have_lengths (slice_range ns (i + 1) to) (slice_range ps (i + 1) to) in
    let here : have_lengths (slice_range ns i to) (slice_range ps i to) ≡ ((k == get_or ns i 0 || get_or ns i 0 == KEEP_GAP) && rest) =
    ap₂ have_lengths (more_numbers ns i to less (omega (arith, size, within))) t.range
    ∙ ap (λ m. (m == get_or ns i 0 || get_or ns i 0 == KEEP_GAP) && rest) (sym k_is) in
    and_both same (k == get_or ns i 0 || get_or ns i 0 == KEEP_GAP) rest
    ∙ ap (λ b. same && b) (sym here)

and_true : (b : Bool) → (b && true) ≡ b
and_true true = refl
and_true false = refl

none_there : (ns : List ℕ) (i to : ℕ) → to ≤ i → slice_range ns i to ≡ []
none_there ns i to h = let none : to - i ≡ 0 = omega arith in ap (λ n. take n (drop i ns)) none

pub lengths_end : (ns : List ℕ) (ps : List Pair) (i to : ℕ) (same : Bool) → to ≤ i → (same && have_lengths (slice_range ns i to) (slice_range ps i to)) ≡ same
lengths_end ns ps i to same h = ap (λ (xs : List ℕ). same && have_lengths xs (slice_range ps i to)) (none_there ns i to h) ∙ and_true same

pub after_first_token : (from : ℕ) (b : Bool) → 0 < from → (nat_lt 0 from && b) ≡ b
after_first_token from b h = let test : nat_lt 0 from ≡ true = grind (arith, nat_tests) in ap (λ x. x && b) test

-- ---- gaps up to another one

pub lengths_stay : (ns : List ℕ) (ps : List Pair) → length ns ≡ length ps → AreSpaces true ps → (n from to : ℕ) → to ≡ from + n → to ≤ length ps
    → have_lengths (slice_range ns from to) (slice_range ps from to) ≡ true → AreUnchanged ps ns from to
lengths_stay ns ps size known zero from to e within h = λ k g later before g_is. absurd (omega arith)
lengths_stay ns ps size known (suc n) from to e within h =
    let less : from < to = omega arith in
    let t = token_here ps from to less within in
    let here : ((length t.pair.gap == get_or ns from 0 || get_or ns from 0 == KEEP_GAP) && have_lengths (slice_range ns (from + 1) to) (slice_range ps (from + 1) to)) ≡ true =
    sym (ap₂ have_lengths (more_numbers ns from to less (omega (arith, size, within))) t.range) ∙ h in
    let parts = and_parts (length t.pair.gap == get_or ns from 0 || get_or ns from 0 == KEEP_GAP) (have_lengths (slice_range ns (from + 1) to) (slice_range ps (from + 1) to)) here in
    let more = lengths_stay ns ps size known n (from + 1) to (omega arith) within parts.1 in
    λ k g later before g_is. elim (cases_eq k from) [
      | inl same ↦
          let there : Some g ≡ gap_of ps from = g_is ∙ ap (gap_of ps) same in
          let gap : g ≡ t.pair.gap = gap_is ps from to g t there in
          let fits : (length g == get_or ns from 0 || get_or ns from 0 == KEEP_GAP) ≡ true = ap (λ (x : List ℕ). length x == get_or ns from 0 || get_or ns from 0 == KEEP_GAP) gap ∙ parts.0 in
          ap (λ j. bytes_eq g (resolved_gap (get_or ns j 0) g)) same ∙ same_gap g (get_or ns from 0) (known from g there refl) fits
      | inr other ↦ more k g (omega arith) before g_is
    ]

pub stay_both : (ps : List Pair) (ns : List ℕ) (from mid to : ℕ) → AreUnchanged ps ns from mid → AreUnchanged ps ns mid to → AreUnchanged ps ns from to
stay_both ps ns from mid to first second = λ k g later before g_is. elim (cases_lt k mid) [
  | inl less ↦ first k g later less g_is
  | inr more ↦ second k g more before g_is
]
