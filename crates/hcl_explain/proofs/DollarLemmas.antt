-- A line without the `$` of each `${`, a byte at a time.
use Rattle.std.proofs.Common.{◌≡◌, ◌+◌, ◌<◌, ◌++◌, ◌∷◌, [], ◌∙◌, ℕ, List, Bool, true, false, ap, sym}
use Rattle.std.proofs.Common.{drop, get_or, length, if◌then◌else◌}
use Rattle.std.proofs.lemmas.List.{drop_more, append_assoc}
use Rattle.hcl_explain.specs.Sequences.{is_interpolation, line_without_dollars}

first_byte : (b : ℕ) (rest : List ℕ) (v : Bool) → is_interpolation (b ∷ rest) ≡ v
    → line_without_dollars (b ∷ rest)
    ≡ (if v then line_without_dollars rest else b ∷ line_without_dollars rest)
first_byte b rest v is =
    ap (λ (x : Bool). if x then line_without_dollars rest else b ∷ line_without_dollars rest) is

at_byte : (line : List ℕ) (at : ℕ) (v : Bool) → at < length line
    → is_interpolation (drop at line) ≡ v → line_without_dollars (drop at line)
    ≡ (if v then line_without_dollars (drop (at + 1) line)
    else get_or line at 0 ∷ line_without_dollars (drop (at + 1) line))
at_byte line at v within is =
    let more = drop_more line at 0 within in
    ap (λ (x : List ℕ). line_without_dollars x) more
    ∙ first_byte (get_or line at 0) (drop (at + 1) line) v
    (ap (λ (x : List ℕ). is_interpolation x) (sym more) ∙ is)

-- the `$` of a `${` is left out
pub skipped : (out line : List ℕ) (at : ℕ) → at < length line
    → is_interpolation (drop at line) ≡ true
    → out ++ line_without_dollars (drop (at + 1) line) ≡ out ++ line_without_dollars (drop at line)
skipped out line at within is =
    ap (λ (x : List ℕ). out ++ x) (sym (at_byte line at true within is))

-- another byte is added
pub added : (out line : List ℕ) (at : ℕ) → at < length line
    → is_interpolation (drop at line) ≡ false
    → (out ++ get_or line at 0 ∷ []) ++ line_without_dollars (drop (at + 1) line)
    ≡ out ++ line_without_dollars (drop at line)
added out line at within is =
    append_assoc out (get_or line at 0 ∷ []) (line_without_dollars (drop (at + 1) line))
    ∙ ap (λ (x : List ℕ). out ++ x) (sym (at_byte line at false within is))
