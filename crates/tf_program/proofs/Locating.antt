-- The columns of a part of a line.
use Rattle.std.proofs.Common.{◌≡◌, ℕ, true, false, if◌then◌else◌, List, length, IsUtf8, refl}
use Rattle.std.proofs.lemmas.Str.{IsUtf8-from_is_utf8, is_utf8-from_IsUtf8}
use Rattle.std.specs.Str.{is_utf8}
use Rattle.hcl_token.specs.Place.{clusters}
use Rattle.tf_program.specs.Location.{columns}

pub columns_of_utf8 : (part : List ℕ) (count : ℕ) → IsUtf8 part → count ≡ clusters part → count ≡ columns part
columns_of_utf8 part count utf8 is = rw (is_utf8-from_IsUtf8 part utf8) is

pub columns_of_bytes : (part : List ℕ) → ¬ (IsUtf8 part) → length part ≡ columns part
columns_of_bytes part not_utf8 =
    elim (is_utf8 part) as (λ v. is_utf8 part ≡ v → length part ≡ if v then clusters part else length part) [
      | true ↦ λ e. absurd (not_utf8 (IsUtf8-from_is_utf8 part e))
      | false ↦ λ e. refl
    ] refl
