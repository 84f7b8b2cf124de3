-- Runs: what one unit more adds, that run_length is the length of the longest run at the start,
-- and that this is a run.
use Rattle.std.proofs.Common.{◌≡◌, ℕ, zero, suc, ◌+◌, ◌-◌, ◌<◌, ◌≤◌, Bool, false, ◌==◌, List, [], ◌∷◌, ◌++◌, length, take, drop, slice_index, refl, sym, ap, ap₂, subst, ◌∙◌, arith, append_assoc, length-append, length-drop, take_at, drop_at, length-take-le, take-append-drop, drop-drop, get_or-drop}
use Rattle.std.proofs.lemmas.Bool.Decides.{nat_tests}
use Rattle.std.specs.List.{concat}
use Rattle.hcl_scan.specs.Runs.{UnitLength, is_line_start_after, AreUnitsOf, IsRun}
use Rattle.hcl_scan.specs.Inner.RunLength.{run_from, run_length}

-- ---- whether a line begins

pub line_start_after-append : (at_line_start : Bool) (xs ys : List ℕ) → is_line_start_after at_line_start (xs ++ ys) ≡ is_line_start_after (is_line_start_after at_line_start xs) ys
line_start_after-append at_line_start [] ys = refl
line_start_after-append at_line_start (x ∷ xs) ys = line_start_after-append (x == 10) xs ys

-- it depends only on the last byte
pub line_start_after-last : (at_line_start : Bool) (t : List ℕ) (n : ℕ) → n < length t → is_line_start_after at_line_start (take (suc n) t) ≡ (slice_index t n == 10)
line_start_after-last at_line_start [] n h = absurd (omega arith)
line_start_after-last at_line_start (b ∷ t) zero h = refl
line_start_after-last at_line_start (b ∷ t) (suc n) h = line_start_after-last (b == 10) t n (omega arith)

module _ (unit : UnitLength) where
  run_from-skip : (at_line_start : Bool) (skip : ℕ) (t : List ℕ) → skip ≤ length t
      → run_from unit at_line_start skip t ≡ skip + run_length unit (is_line_start_after at_line_start (take skip t)) (drop skip t)
  run_from-skip at_line_start zero [] h = refl
  run_from-skip at_line_start (suc skip) [] h = absurd (omega arith)
  run_from-skip at_line_start zero (b ∷ t) h = omega arith
  run_from-skip at_line_start (suc skip) (b ∷ t) h = omega (arith, run_from-skip (b == 10) skip t (omega arith))

  pub run_length-none : (at_line_start : Bool) (t : List ℕ) → unit at_line_start t ≡ 0 → run_length unit at_line_start t ≡ 0
  run_length-none at_line_start [] none = refl
  run_length-none at_line_start (b ∷ t) none = rw none refl

  pub run_length-step : (at_line_start : Bool) (t : List ℕ) (n : ℕ) → unit at_line_start t ≡ n → 0 < n → n ≤ length t
      → run_length unit at_line_start t ≡ n + run_length unit (is_line_start_after at_line_start (take n t)) (drop n t)
  run_length-step at_line_start [] n is some within = absurd (omega arith)
  run_length-step at_line_start (b ∷ t) zero is some within = absurd (omega arith)
  run_length-step at_line_start (b ∷ t) (suc n) is some within =
      let test : (unit at_line_start (b ∷ t) == 0) ≡ false = grind (arith, nat_tests) in
      let less : unit at_line_start (b ∷ t) - 1 ≡ n = omega arith in
      let rest : run_from unit (b == 10) n t ≡ n + run_length unit (is_line_start_after (b == 10) (take n t)) (drop n t) = run_from-skip (b == 10) n t (omega arith) in
      rw (test, less) (omega (arith, rest))

  -- the same at a place of a text
  pub run_length-on : (at_line_start : Bool) (text : List ℕ) (at n : ℕ) → unit at_line_start (drop at text) ≡ n → 0 < n → at + n ≤ length text
      → run_length unit at_line_start (drop at text) ≡ n + run_length unit (slice_index text (at + n - 1) == 10) (drop (at + n) text)
  run_length-on at_line_start text at zero is some within = absurd (omega arith)
  run_length-on at_line_start text at (suc n) is some within =
      let size : length (drop at text) ≡ length text - at = length-drop {A = ℕ} at text in
      let fits : suc n ≤ length (drop at text) = omega (arith, size) in
      let step : run_length unit at_line_start (drop at text) ≡ suc n + run_length unit (is_line_start_after at_line_start (take (suc n) (drop at text))) (drop (suc n) (drop at text)) =
      run_length-step at_line_start (drop at text) (suc n) is some fits in
      let last : at + n ≡ at + suc n - 1 = omega arith in
      let flag : is_line_start_after at_line_start (take (suc n) (drop at text)) ≡ (slice_index text (at + suc n - 1) == 10) =
      line_start_after-last at_line_start (drop at text) n (omega arith) ∙ ap (λ b. b == 10) (get_or-drop at text n 0 ∙ ap (slice_index text) last) in
      step ∙ ap (λ r. suc n + r) (ap₂ (λ f (t : List ℕ). run_length unit f t) flag (drop-drop (suc n) at text))

  -- the longest run at the start of a run and what follows it
  pub run-adds : (at_line_start : Bool) (us : List (List ℕ)) (rest : List ℕ) → AreUnitsOf unit at_line_start us rest
      → run_length unit at_line_start (concat us ++ rest) ≡ length (concat us) + run_length unit (is_line_start_after at_line_start (concat us)) rest
  run-adds at_line_start [] rest are = omega arith
  run-adds at_line_start (u ∷ us) rest are =
      let more : List ℕ = concat us ++ rest in
      let assoc : (u ++ concat us) ++ rest ≡ u ++ more = append_assoc u (concat us) rest in
      let within : length u ≤ length (u ++ more) = simp length-append (omega arith) in
      let step : run_length unit at_line_start (u ++ more) ≡ length u + run_length unit (is_line_start_after at_line_start (take (length u) (u ++ more))) (drop (length u) (u ++ more)) =
      run_length-step at_line_start (u ++ more) (length u) are.1 are.0 within in
      let after : run_length unit at_line_start (u ++ more) ≡ length u + run_length unit (is_line_start_after at_line_start u) more = rw (take_at u more (length u) refl, drop_at u more (length u) refl) at step in
      let rec = run-adds (is_line_start_after at_line_start u) us rest are.2 in
      rw (assoc, length-append u (concat us), line_start_after-append at_line_start u (concat us)) (omega arith)

  pub IsRun-adds : (at_line_start : Bool) (s rest : List ℕ) → IsRun unit at_line_start s rest
      → run_length unit at_line_start (s ++ rest) ≡ length s + run_length unit (is_line_start_after at_line_start s) rest
  IsRun-adds at_line_start s rest (us, e, are) =
      subst (λ (x : List ℕ). run_length unit at_line_start (x ++ rest) ≡ length x + run_length unit (is_line_start_after at_line_start x) rest) (sym e) (run-adds at_line_start us rest are)

  -- the text is its longest run, and the rest
  pub record RunSplit (at_line_start : Bool) (t : List ℕ) : Type 0 where
    pub prefix : List ℕ
    pub rest : List ℕ
    pub text_is : t ≡ prefix ++ rest
    pub len : length prefix ≡ run_length unit at_line_start t
    pub run : IsRun unit at_line_start prefix rest
    -- no unit begins after it
    pub stops : unit (is_line_start_after at_line_start prefix) rest ≡ 0

  module _ (fits : (at_line_start : Bool) (t : List ℕ) → unit at_line_start t ≤ length t) where
    split_at : (fuel : ℕ) (rec : (at_line_start : Bool) (t : List ℕ) → length t ≤ fuel → RunSplit at_line_start t) (at_line_start : Bool) (t : List ℕ) (n : ℕ)
        → length t ≤ suc fuel → unit at_line_start t ≡ n → RunSplit at_line_start t
    split_at fuel rec at_line_start t zero h is = record {
      prefix = [];
      rest = t;
      text_is = refl;
      len = sym (run_length-none at_line_start t is);
      run = ([], refl, tt);
      stops = is;
    }
    split_at fuel rec at_line_start t (suc n) h is =
        let within : suc n ≤ length t = omega (arith, fits at_line_start t) in
        let u : List ℕ = take (suc n) t in
        let more : List ℕ = drop (suc n) t in
        let following : Bool = is_line_start_after at_line_start u in
        let shorter : length more ≤ fuel = simp length-drop (omega arith) in
        let s : RunSplit following more = rec following more shorter in
        let size : length u ≡ suc n = length-take-le (suc n) t within in
        let whole : u ++ (concat s.run.0 ++ s.rest) ≡ t =
        ap (λ (x : List ℕ). u ++ (x ++ s.rest)) (sym s.run.1) ∙ ap (λ (x : List ℕ). u ++ x) (sym s.text_is) ∙ take-append-drop (suc n) t in
        record {
          prefix = u ++ s.prefix;
          rest = s.rest;
          text_is = sym (append_assoc u s.prefix s.rest ∙ ap (λ (x : List ℕ). u ++ x) (sym s.text_is) ∙ take-append-drop (suc n) t);
          len = length-append u s.prefix ∙ omega (arith, size, s.len, run_length-step at_line_start t (suc n) is (omega arith) within);
          run = (u ∷ s.run.0, ap (λ (x : List ℕ). u ++ x) s.run.1, (omega arith, ap (unit at_line_start) whole ∙ is ∙ sym size, s.run.2));
          stops = ap (λ f. unit f s.rest) (line_start_after-append at_line_start u s.prefix) ∙ s.stops;
        }

    split_by : (fuel : ℕ) (at_line_start : Bool) (t : List ℕ) → length t ≤ fuel → RunSplit at_line_start t
    split_by zero at_line_start t h = record {
      prefix = [];
      rest = t;
      text_is = refl;
      len = sym (run_length-none at_line_start t (omega (arith, fits at_line_start t)));
      run = ([], refl, tt);
      stops = omega (arith, fits at_line_start t);
    }
    split_by (suc fuel) at_line_start t h = split_at fuel (split_by fuel) at_line_start t (unit at_line_start t) h refl

    pub run-split : (at_line_start : Bool) (t : List ℕ) → RunSplit at_line_start t
    run-split at_line_start t = split_by (length t) at_line_start t (omega arith)
