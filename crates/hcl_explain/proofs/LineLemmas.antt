-- A marker at the start of a text, as std states it and as the scanner does.
use Rattle.std.proofs.Common.{◌≡◌, ◌==◌, ◌&&◌, ℕ, List, [], ◌∷◌, refl, ap}
use Rattle.std.specs.List.{starts_with}
use Rattle.hcl_scan.specs.Characters.{is_prefix_of}

pub starts_with_bytes : (name t : List ℕ)
    → starts_with (λ a b. a == b) t name ≡ is_prefix_of name t
starts_with_bytes [] [] = refl
starts_with_bytes [] (b ∷ t) = refl
starts_with_bytes (m ∷ ms) [] = refl
starts_with_bytes (m ∷ ms) (b ∷ t) = ap (λ x. m == b && x) (starts_with_bytes ms t)
