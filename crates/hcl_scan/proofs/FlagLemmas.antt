-- Tables of 16 numbers, one or two, looked up for 16 bytes at once.
use Rattle.std.proofs.Common.{◌≡◌, ℕ, zero, suc, ◌+◌, ◌-◌, ◌/◌, ◌^◌, ◌<◌, ◌≤◌, ◌==◌, Bool, true, false, not, List, length, get_or, slice_index, replicate, bit_and, drop, refl, sym, ap, ap₂, ◌∙◌, inl, inr, arith, w8, Fits}
use Rattle.std.proofs.lemmas.Bool.{cases_lt, eqb-true, not-true, not-false}
use Rattle.std.proofs.lemmas.Bool.Decides.{nat_tests}
use Rattle.std.proofs.lemmas.List.{get_or_past, drop_more}
use Rattle.std.proofs.lemmas.List.Sums.{prefix_len-le-length, prefix_len_passes, prefix_len-drop_yes}
use Rattle.std.specs.Char.{is_ascii_digit}
use Rattle.std.specs.List.{prefix_len}
use Rattle.std.proofs.lemmas.Nat.{and_le_r}
use Rattle.std.specs.Int.Bits.{and_zero_r}
use Rattle.std.proofs.lemmas.Simd.{SwzOk, swz_l, SwzOk-from_below, Each1-all, Each1-weaker, Each1-get_or, Each1-zip2, Each2-splat, below_from_Fits, length-zip2, length-chunk, get_or-chunk, get_or-swz_l_below, get_or-zip2, get_or-replicate}
use lib.Lanes.{zip2, chunk, Each1}
use Rattle.hcl_scan.specs.Characters.{is_whitespace}
use Rattle.hcl_scan.specs.Runs.{UnitLength}
use Rattle.hcl_scan.specs.Inner.Flags.{flags_of, difference_at}
use Rattle.hcl_scan.specs.Inner.Openings.{is_not_line_break}
use Rattle.hcl_scan.specs.Inner.RunLength.{run_length, is_ordinary_inline, is_ordinary_quoted, is_ordinary_heredoc, IsOrdinary}
use Rattle.hcl_scan.proofs.RunLemmas.{run_length-on}
use Rattle.hcl_scan.specs.Inner.LexemeStarts.{is_ascii_id_continue}
use Rattle.hcl_scan.specs.declared.sixteen.TheConstants.{ID_LOW, ID_HIGH, COMMENT_STOPS, INLINE_LOW, INLINE_HIGH, DIGIT_LOW, DIGIT_HIGH, QUOTED_STOPS, HEREDOC_STOPS}
use Rattle.hcl_scan.proofs.TableLemmas.{agree_below, agree_at}

abbrev pub down : ℕ → ℕ → ℕ
down a b = a / 2 ^ b

module _ (v : List ℕ) (long : length v ≡ 16) where
  abbrev pub lows : List ℕ
  lows = zip2 bit_and v (replicate 16 15)

  abbrev pub highs : List ℕ
  highs = zip2 down v (replicate 16 4)

  pub length-lows : length lows ≡ 16
  length-lows = length-zip2 bit_and v (replicate 16 15) long ∙ long

  pub length-highs : length highs ≡ 16
  length-highs = length-zip2 down v (replicate 16 4) long ∙ long

  pub lows_ok : SwzOk w8 16 16 0 lows
  lows_ok =
      let small = Each1-all (λ a. bit_and a 15 < 16) (λ a. omega (arith, and_le_r a 15)) v in
      SwzOk-from_below w8 16 1 16 0 lows refl (omega (arith, length-lows)) (Each1-zip2 bit_and (λ j. j < 16) v (replicate 16 15) (Each2-splat (λ a b. bit_and a b < 16) v 16 15 small))

  pub low_at : (table : List ℕ) (i : ℕ) → i < 16 → get_or (swz_l w8 16 table 0 lows) i 0 ≡ get_or table (bit_and (get_or v i 0) 15) 0
  low_at table i lt =
      let is : get_or lows i 0 ≡ bit_and (get_or v i 0) 15 = get_or-zip2 bit_and v (replicate 16 15) i 0 0 0 (omega arith) lt ∙ ap (bit_and (get_or v i 0)) (get_or-replicate 16 i 15 0 lt) in
      let small = and_le_r (get_or v i 0) 15 in
      get_or-swz_l_below w8 16 table 0 lows i (omega (arith, length-lows)) (omega (arith, is, small)) ∙ ap (λ k. get_or table k 0) (omega (arith, is))

  module _ (fits : Each1 (Fits w8) v) where
    pub highs_ok : SwzOk w8 16 16 0 highs
    highs_ok =
        let small = Each1-weaker (λ a. a < 256) (λ a. a / 16 < 16) (λ a h. omega arith) v (below_from_Fits w8 v fits) in
        SwzOk-from_below w8 16 1 16 0 highs refl (omega (arith, length-highs)) (Each1-zip2 down (λ j. j < 16) v (replicate 16 4) (Each2-splat (λ a b. down a b < 16) v 16 4 small))

    pub high_at : (table : List ℕ) (i : ℕ) → i < 16 → get_or (swz_l w8 16 table 0 highs) i 0 ≡ get_or table (get_or v i 0 / 16) 0
    high_at table i lt =
        let is : get_or highs i 0 ≡ down (get_or v i 0) 4 = get_or-zip2 down v (replicate 16 4) i 0 0 0 (omega arith) lt ∙ ap (down (get_or v i 0)) (get_or-replicate 16 i 4 0 lt) in
        let small : get_or v i 0 < 256 = Each1-get_or (λ a. a < 256) v i 0 (omega arith) (below_from_Fits w8 v fits) in
        get_or-swz_l_below w8 16 table 0 highs i (omega (arith, length-highs)) (omega (arith, is, small)) ∙ ap (λ k. get_or table k 0) (omega (arith, is))

-- a byte of 256 and more, which there is none of, has no flag
none_from_256 : (low high : List ℕ) (b : ℕ) → length high ≡ 16 → 256 ≤ b → flags_of low high b ≡ 0
none_from_256 low high b size past =
    ap (bit_and (slice_index low (bit_and b 15))) (get_or_past high (b / 16) 0 (omega arith)) ∙ and_zero_r (slice_index low (bit_and b 15))

abbrev pub has_flags : List ℕ → List ℕ → ℕ → Bool
has_flags low high b = not (flags_of low high b == 0)

pub id_flags : (b : ℕ) → has_flags ID_LOW ID_HIGH b ≡ is_ascii_id_continue b
unfolding agree_below
id_flags b =
    elim (cases_lt b 256) [
      | inl lt ↦ agree_at (has_flags ID_LOW ID_HIGH) is_ascii_id_continue 256 refl b lt
      | inr past ↦ ap (λ x. not (x == 0)) (none_from_256 ID_LOW ID_HIGH b refl past) ∙ no_letter b past
    ]
  where
    no_letter : (b : ℕ) → 256 ≤ b → false ≡ is_ascii_id_continue b
    no_letter b past = grind (arith, nat_tests)

-- a table of bytes that pass, of which nothing is stated from 256 on
passing : (low high : List ℕ) (passes : ℕ → Bool) → length high ≡ 16 → agree_below (has_flags low high) passes 256 ≡ true → (b : ℕ) → has_flags low high b ≡ true → passes b ≡ true
passing low high passes size agree b has =
    elim (cases_lt b 256) [
      | inl lt ↦ sym (agree_at (has_flags low high) passes 256 agree b lt) ∙ has
      | inr past ↦ not_both (has_flags low high b) (passes b) (ap (λ x. not (x == 0)) (none_from_256 low high b size past)) has
    ]
  where
    not_both : (x y : Bool) → x ≡ false → x ≡ true → y ≡ true
    not_both x y is has = cc

pub inline_flags : (b : ℕ) → has_flags INLINE_LOW INLINE_HIGH b ≡ true → is_ordinary_inline b ≡ true
unfolding agree_below
inline_flags = passing INLINE_LOW INLINE_HIGH is_ordinary_inline refl refl

pub digit_flags : (b : ℕ) → has_flags DIGIT_LOW DIGIT_HIGH b ≡ true → is_ascii_digit b ≡ true
unfolding agree_below
digit_flags = passing DIGIT_LOW DIGIT_HIGH is_ascii_digit refl refl

-- ---- a table of the bytes that do not pass

unlisted : (table : List ℕ) (passes : ℕ → Bool) → agree_below (λ b. not (difference_at table b == 0)) passes 256 ≡ true → ((b : ℕ) → 256 ≤ b → passes b ≡ true) → (b : ℕ) → (difference_at table b == 0) ≡ false → passes b ≡ true
unlisted table passes agree past b differs =
    elim (cases_lt b 256) [
      | inl lt ↦ sym (agree_at (λ x. not (difference_at table x == 0)) passes 256 agree b lt) ∙ ap not differs
      | inr more ↦ past b more
    ]

pub comment_unlisted : (b : ℕ) → (difference_at COMMENT_STOPS b == 0) ≡ false → is_not_line_break b ≡ true
unfolding agree_below
comment_unlisted = unlisted COMMENT_STOPS is_not_line_break refl ordinary
  where
    ordinary : (b : ℕ) → 256 ≤ b → is_not_line_break b ≡ true
    ordinary b past = grind (arith, nat_tests)

pub heredoc_unlisted : (b : ℕ) → (difference_at HEREDOC_STOPS b == 0) ≡ false → is_ordinary_heredoc b ≡ true
unfolding agree_below
heredoc_unlisted = unlisted HEREDOC_STOPS is_ordinary_heredoc refl ordinary
  where
    ordinary : (b : ℕ) → 256 ≤ b → is_ordinary_heredoc b ≡ true
    ordinary b past = grind (arith, nat_tests)

pub quoted_unlisted : (b : ℕ) → (difference_at QUOTED_STOPS b == 0) ≡ false → is_ordinary_quoted b ≡ true
unfolding agree_below
quoted_unlisted = unlisted QUOTED_STOPS is_ordinary_quoted refl ordinary
  where
    ordinary : (b : ℕ) → 256 ≤ b → is_ordinary_quoted b ≡ true
    ordinary b past = grind (arith, nat_tests)

-- ---- spaces

pub spaces_before : (text : List ℕ) (at n : ℕ) → at + 16 ≤ length text → n ≡ prefix_len (λ x. not (not (x == 32))) (chunk at 16 text) → (k : ℕ) → at ≤ k → k < at + n → slice_index text k ≡ 32
spaces_before text at n limit_in_capacity count k from to =
    let test : ℕ → Bool = λ x. not (not (x == 32)) in
    let i : ℕ = k - at in
    let long = length-chunk at 16 text limit_in_capacity in
    let most = prefix_len-le-length test (chunk at 16 text) in
    let within : i < 16 = omega (arith, count, long, most) in
    let passes = prefix_len_passes test (chunk at 16 text) i 0 (omega (arith, count)) in
    let byte = get_or-chunk at 16 text i 0 within ∙ ap (slice_index text) (omega arith) in
    sym byte ∙ eqb-true _ 32 (not-false _ (not-true _ passes))

-- the bytes that pass, after n of them
pub passing_after : (passes : ℕ → Bool) (text : List ℕ) (at n : ℕ) → at + n ≤ length text → ((k : ℕ) → at ≤ k → k < at + n → passes (slice_index text k) ≡ true)
    → prefix_len passes (drop at text) ≡ n + prefix_len passes (drop (at + n) text)
passing_after passes text at zero h all =
    let place : at ≡ at + 0 = omega arith in
    let same = ap (λ k. prefix_len passes (drop k text)) place in
    omega (arith, same)
passing_after passes text at (suc n) h all =
    let before = passing_after passes text at n (omega arith) (λ k from to. all k from (omega arith)) in
    let step = prefix_len-drop_yes passes text (at + n) 0 (omega arith) (all (at + n) (omega arith) (omega arith)) in
    let place : at + n + 1 ≡ at + suc n = omega arith in
    let same = ap (λ k. prefix_len passes (drop k text)) place in
    omega (arith, before, step, same)

-- the run of whitespace after n spaces
pub whitespace_after : (text : List ℕ) (at n : ℕ) → at + n ≤ length text → ((k : ℕ) → at ≤ k → k < at + n → slice_index text k ≡ 32)
    → prefix_len is_whitespace (drop at text) ≡ n + prefix_len is_whitespace (drop (at + n) text)
whitespace_after text at n h spaces = passing_after is_whitespace text at n h (λ k from to. ap is_whitespace (spaces k from to))

-- ---- ordinary bytes of a run

pub ordinary_run : (unit : UnitLength) (text : List ℕ) (at n : ℕ) → at + n ≤ length text → ((k : ℕ) → at ≤ k → k < at + n → IsOrdinary unit (slice_index text k))
    → n + run_length unit false (drop (at + n) text) ≡ run_length unit false (drop at text)
ordinary_run unit text at zero h on =
    let place : at ≡ at + 0 = omega arith in
    let same = ap (λ k. run_length unit false (drop k text)) place in
    omega (arith, same)
ordinary_run unit text at (suc n) h on =
    let before = ordinary_run unit text at n (omega arith) (λ k from to. on k from (omega arith)) in
    let b : ℕ = slice_index text (at + n) in
    let ordinary = on (at + n) (omega arith) (omega arith) in
    let one = ap (unit false) (drop_more text (at + n) 0 (omega arith)) ∙ ordinary.0 (drop (at + n + 1) text) in
    let step = run_length-on unit false text (at + n) 1 one (omega arith) (omega arith) in
    let last : at + n + 1 - 1 ≡ at + n = omega arith in
    let flag = ap (λ k. slice_index text k == 10) last ∙ ordinary.1 in
    let place : at + n + 1 ≡ at + suc n = omega arith in
    let rest = ap₂ (λ f k. run_length unit f (drop k text)) flag place in
    omega (arith, before, step, rest)
