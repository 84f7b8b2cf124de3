-- What one more opening does to the modes and the places, and whether a line begins after a text.
use Rattle.std.proofs.Common.{◌≡◌, ℕ, suc, ◌-◌, ◌<◌, ◌==◌, Bool, List, [], ◌∷◌, ◌++◌, length, map, reverse, slice_index, refl, sym, ap, ◌∙◌, arith, take_all}
use Rattle.std.proofs.lemmas.List.{reverse-append, length-reverse, length-map}
use Rattle.hcl_scan.specs.Runs.{is_line_start_after}
use Rattle.hcl_scan.specs.declared.mode.Opening.{Opening}
use Rattle.hcl_scan.specs.Inner.Openings.{mode_view, modes_of, places_of}
use Rattle.hcl_scan.proofs.RunLemmas.{line_start_after-last}

pub modes_of-push : (openings : List Opening) (o : Opening) → modes_of (openings ++ o ∷ []) ≡ mode_view o.mode ∷ modes_of openings
modes_of-push openings o = ap (λ (x : List Opening). map (λ (p : Opening). mode_view p.mode) x) (reverse-append openings (o ∷ []))

pub places_of-push : (openings : List Opening) (o : Opening) → places_of (openings ++ o ∷ []) ≡ o.at ∷ places_of openings
places_of-push openings o = ap (λ (x : List Opening). map (λ (p : Opening). p.at) x) (reverse-append openings (o ∷ []))

pub ruleset opening_lemmas = (modes_of-push, places_of-push)

-- it depends only on the last byte whether a line begins
pub line_start_after-end : (at_line_start : Bool) (t : List ℕ) → 0 < length t → is_line_start_after at_line_start t ≡ (slice_index t (length t - 1) == 10)
line_start_after-end at_line_start t some =
    let n : ℕ = length t - 1 in
    ap (is_line_start_after at_line_start) (sym (take_all (suc n) t (omega arith))) ∙ line_start_after-last at_line_start t n (omega arith)

pub none_open : (openings : List Opening) → modes_of openings ≡ [] → openings ≡ []
none_open openings e =
    let size : length openings ≡ 0 = sym (length-reverse openings) ∙ sym (length-map (reverse openings) (λ (o : Opening). mode_view o.mode)) ∙ ap length e in
    empty openings size
  where
    empty : (xs : List Opening) → length xs ≡ 0 → xs ≡ []
    empty [] h = refl
    empty (x ∷ xs) h = absurd (omega arith)
