-- For proofs: the rest of a name as a loop over its bytes reads it.
use Rattle.std.specs.Prelude.{◌≡◌, ◌≤◌, ◌<◌, ℕ, ◌-◌, not, ◌&&◌, ◌||◌, ◌==◌, Bool, true, List, [], ◌∷◌}
use Rattle.std.specs.Prelude.{slice_index}
use Rattle.tf_rules.specs.SnakeCase.{is_lower_or_digit}

-- what may come next, after an underscore or not: a letter or a digit, or a single underscore
abbrev pub is_valid_next : Bool → ℕ → Bool
is_valid_next after_underscore c = is_lower_or_digit c || (c == 95 && not after_underscore)

-- the rest of a name, after an underscore or not; it does not end in one
abbrev pub is_valid_rest : Bool → List ℕ → Bool
is_valid_rest after_underscore [] = not after_underscore
is_valid_rest after_underscore (c ∷ cs) = is_valid_next after_underscore c && is_valid_rest (c == 95) cs

-- the bytes of a name from place `from` on up to place `to` may each come after the one before it
pub record AreValid (name : List ℕ) (from to : ℕ) : Type 0 where
  pub each : (n : ℕ) → from ≤ n → n < to
      → is_valid_next (slice_index name (n - 1) == 95) (slice_index name n) ≡ true
