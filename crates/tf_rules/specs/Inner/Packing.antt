-- What a finding holds, from what it says.
use Rattle.std.specs.Prelude.{◌≡◌, ℕ, Bool, true, false, [], ◌∷◌, Option, Some, None, refl}
use Rattle.std.specs.Option.{option_map}
use Rattle.std.proofs.Common.{ap, sym}
use Rattle.tf_rules.specs.declared.fix.Fix.{Fix}
use Rattle.tf_rules.specs.declared.fix.Fix.TheVariants.{CommentMarker, Tokens}
use Rattle.tf_rules.specs.declared.fix.Insertion.{Insertion}
use Rattle.tf_rules.specs.declared.fix.KeptTokens.{KeptTokens}
use Rattle.tf_rules.specs.declared.packed.PackedFix.{PackedFix}
use Rattle.tf_rules.specs.declared.packed.PackedFixKind.{PackedFixKind}
use Rattle.tf_rules.specs.declared.packed.PackedFixKind.TheVariants as kind
use Rattle.tf_rules.specs.declared.packed.PackedRange.{PackedRange}
use Rattle.tf_rules.specs.Inner.Unpacking.{unpack_kept, unpack_kind, unpack_fix, unpack_name}
use Rattle.tf_rules.specs.Inner.Unpacking.{IsCanonicalRange, AreCanonicalRanges, IsCanonical, IsCanonicalName}

abbrev pub pack_after : Option KeptTokens → Option Insertion
pack_after None = None
pack_after (Some k) = Some k.after

abbrev pub pack_range : Option KeptTokens → PackedRange
pack_range None = record { from = 0; to = 0 }
pack_range (Some k) = record { from = k.from; to = k.to }

abbrev pub make_packed_fix : PackedFixKind → PackedRange → PackedRange → PackedFix
make_packed_fix kind one two = record { kind = kind; one = one; two = two }

abbrev pub pack_fix : Option Fix → PackedFix
pack_fix (Some CommentMarker) = make_packed_fix kind.CommentMarker (pack_range None) (pack_range None)
pack_fix (Some (Tokens before (one ∷ two ∷ []))) =
    make_packed_fix (kind.Tokens before (pack_after one) (pack_after two)) (pack_range one)
    (pack_range two)
pack_fix _ = make_packed_fix kind.Nothing (pack_range None) (pack_range None)

abbrev pub is_named : Option ℕ → Bool
is_named None = false
is_named (Some n) = true

abbrev pub pack_name : Option ℕ → ℕ
pack_name None = 0
pack_name (Some n) = n

after_round_trip : (s : PackedRange) (b : Option Insertion) → pack_after (option_map (unpack_kept s) b) ≡ b
after_round_trip s None = refl
after_round_trip s (Some w) = refl

range_round_trip : (s : PackedRange) (b : Option Insertion) → IsCanonicalRange b s
    → pack_range (option_map (unpack_kept s) b) ≡ s
range_round_trip s None is = rw (is.0, is.1) refl
range_round_trip s (Some w) is = refl

same_packed_fix : (o : PackedFixKind) (a b c d : PackedRange) → a ≡ c → b ≡ d
    → make_packed_fix o a b ≡ make_packed_fix o c d
same_packed_fix o a b c d e f = rw (e, f) refl

kind_round_trip : (o : PackedFixKind) (one two : PackedRange) → AreCanonicalRanges o one two
    → pack_fix (unpack_kind o one two) ≡ make_packed_fix o one two
kind_round_trip kind.Nothing one two is =
    same_packed_fix _ _ _ _ _ (range_round_trip one None is.0) (range_round_trip two None is.1)
kind_round_trip kind.CommentMarker one two is =
    same_packed_fix _ _ _ _ _ (range_round_trip one None is.0) (range_round_trip two None is.1)
kind_round_trip (kind.Tokens before b c) one two is =
    rw (after_round_trip one b, after_round_trip two c)
    (same_packed_fix _ _ _ _ _ (range_round_trip one b is.0) (range_round_trip two c is.1))

-- a fix gives back what is held of it
pub fix_round_trip : (m : PackedFix) → IsCanonical m → pack_fix (unpack_fix m) ≡ m
fix_round_trip m is = kind_round_trip m.kind m.one m.two is

-- and so does a name
pub name_round_trip : (has_name : Bool) (n : ℕ) → IsCanonicalName has_name n
    → pack_name (unpack_name has_name n) ≡ n
name_round_trip true n is = refl
name_round_trip false n is = sym is

pub has_name_round_trip : (has_name : Bool) (n : ℕ) → is_named (unpack_name has_name n) ≡ has_name
has_name_round_trip true n = refl
has_name_round_trip false n = refl
