-- The token with which a text begins, as a kind and a number of bytes; identifiers, and the
-- openings of template sequences.
use Rattle.std.specs.Prelude.{ℕ, ◌+◌, Bool, ◌&&◌, ◌||◌, if◌then◌else◌, ◌==◌, nat_le, List, [], ◌∷◌}
use Rattle.std.specs.Prelude.{slice_index, Option, Some, None}
use Rattle.std.specs.Char.{is_ascii_alphabetic, is_ascii_alphanumeric, len_utf8}
use Rattle.std.specs.Str.{chars}
use Rattle.hcl_token.specs.declared.kind.Kind.{Kind}
use Rattle.hcl_token.specs.declared.kind.Kind.TheVariants.{Identifier, InterpOpen, DirectiveOpen}
use Rattle.hcl_scan.specs.Characters.{is_sigil, is_id_start, is_id_continue}

-- a kind and a number of bytes
abbrev pub LexedToken : Type 0
LexedToken = Option (Kind × ℕ)

-- the bytes of the leading characters that continue an identifier
abbrev pub id_continue_length : List ℕ → ℕ
id_continue_length [] = 0
id_continue_length (c ∷ cs) = if is_id_continue c then len_utf8 c + id_continue_length cs else 0

abbrev pub identifier_of : List ℕ → LexedToken
identifier_of [] = None
identifier_of (c ∷ cs) =
    if is_id_start c then Some (Identifier, len_utf8 c + id_continue_length cs) else None

abbrev pub identifier : List ℕ → LexedToken
identifier t = identifier_of (chars t)

-- an ASCII letter or `_`
abbrev pub is_letter : ℕ → Bool
is_letter b = is_ascii_alphabetic b || b == 95

-- an ASCII character that continues an identifier
abbrev pub is_ascii_id_continue : ℕ → Bool
is_ascii_id_continue b = is_ascii_alphanumeric b || b == 95 || b == 45

-- a letter, `_`, or the first byte of a character that is not ASCII
abbrev pub is_word_start : ℕ → Bool
is_word_start b = is_ascii_alphabetic b || b == 95 || nat_le 128 b

-- the text begins with `${` or `%{`
abbrev pub is_at_opening : List ℕ → Bool
is_at_opening t = is_sigil (slice_index t 0) && slice_index t 1 == 123

-- its kind, and its length with a `~`
abbrev pub opening : List ℕ → Kind × ℕ
opening t = (
  if slice_index t 0 == 36 then InterpOpen else DirectiveOpen,
  if slice_index t 2 == 126
      then 3 else 2,
)
