-- What a finding stores of its fix and of its message, and what that represents.
use Rattle.std.specs.Prelude.{◌≡◌, ℕ, Bool, true, false, [], ◌∷◌, Option, Some, None, if◌then◌else◌, ⊤}
use Rattle.std.specs.Option.{option_map}
use Rattle.tf_rules.specs.declared.fix.Fix.{Fix}
use Rattle.tf_rules.specs.declared.fix.Fix.TheVariants.{CommentMarker, Tokens}
use Rattle.tf_rules.specs.declared.fix.Insertion.{Insertion}
use Rattle.tf_rules.specs.declared.fix.KeptTokens.{KeptTokens}
use Rattle.tf_rules.specs.declared.packed.PackedFix.{PackedFix}
use Rattle.tf_rules.specs.declared.packed.PackedFixKind.{PackedFixKind}
use Rattle.tf_rules.specs.declared.packed.PackedFixKind.TheVariants as kind
use Rattle.tf_rules.specs.declared.packed.PackedRange.{PackedRange}

-- the tokens that are kept, and what is written after them
abbrev pub unpack_kept : PackedRange → Insertion → KeptTokens
unpack_kept s after = record { from = s.from; to = s.to; after = after }

-- a fix by what it does and the tokens that it keeps
abbrev pub unpack_kind : PackedFixKind → PackedRange → PackedRange → Option Fix
unpack_kind kind.Nothing one two = None
unpack_kind kind.CommentMarker one two = Some CommentMarker
unpack_kind (kind.Tokens before b c) one two =
    Some (Tokens before (option_map (unpack_kept one) b ∷ option_map (unpack_kept two) c ∷ []))

-- the same by all that is held of it
abbrev pub unpack_fix : PackedFix → Option Fix
unpack_fix m = unpack_kind m.kind m.one m.two

-- the token that a message names
abbrev pub unpack_name : Bool → ℕ → Option ℕ
unpack_name has_name n = if has_name then Some n else None

-- the numbers of tokens that are kept are 0 where none are
abbrev pub IsCanonicalRange : Option Insertion → PackedRange → Type 0
IsCanonicalRange None s = (s.from ≡ 0) × (s.to ≡ 0)
IsCanonicalRange (Some after) s = ⊤

-- so it is with both stretches of a fix
abbrev pub AreCanonicalRanges : PackedFixKind → PackedRange → PackedRange → Type 0
AreCanonicalRanges (kind.Tokens before b c) one two = IsCanonicalRange b one × IsCanonicalRange c two
AreCanonicalRanges _ one two = IsCanonicalRange None one × IsCanonicalRange None two

-- each fix is stored in one form alone: what is not there is 0
abbrev pub IsCanonical : PackedFix → Type 0
IsCanonical m = AreCanonicalRanges m.kind m.one m.two

-- the number of a token that is named is 0 where none is
abbrev pub IsCanonicalName : Bool → ℕ → Type 0
IsCanonicalName true n = ⊤
IsCanonicalName false n = n ≡ 0
