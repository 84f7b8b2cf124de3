-- The last byte of a spelling.
use Rattle.std.proofs.Common.{◌≡◌, ℕ, suc, ◌-◌, List, [], ◌∷◌, length, slice_get, Some, ◌==◌, sym, ap, ◌∙◌, arith}
use Rattle.hcl_token.specs.Joins.{ends_with}

pub ends_with-last : (byte : ℕ) (spelling : List ℕ) (last : ℕ) → slice_get spelling (length spelling - 1) ≡ Some last → ends_with byte spelling ≡ (last == byte)
ends_with-last byte [] last h = absurd (cc)
ends_with-last byte (b ∷ []) last h = let same : b ≡ last = cc in ap (λ x. x == byte) same
ends_with-last byte (b ∷ c ∷ spelling) last h =
    let shorter : length (b ∷ c ∷ spelling) - 1 ≡ suc (length (c ∷ spelling) - 1) = omega arith in
    ends_with-last byte (c ∷ spelling) last (sym (ap (slice_get (b ∷ c ∷ spelling)) shorter) ∙ h)
