-- Which tokens join: with an empty gap between them, the two and what follows could be
-- read as other tokens (as `1`, `e`, `+`, `5`).
-- The table is this project's own; the tokens are those of the HCL native syntax specification,
-- Lexical Elements.
use Rattle.std.specs.Prelude.{ℕ, ◌==◌, Bool, true, false, not, ◌&&◌, ◌||◌, List, [], ◌∷◌}
use Rattle.std.specs.Char.{is_ascii_digit}
use Rattle.std.specs.List.{list_all}
use Rattle.hcl_token.specs.Bytes.{slash, colon, equals, greater, capital_e, letter_e, tilde}
use Rattle.hcl_token.specs.declared.kind.Kind.{Kind}
use Rattle.hcl_token.specs.declared.kind.Kind.TheVariants.{Identifier, Number, DotIndex, Minus, Star, Slash}
use Rattle.hcl_token.specs.declared.kind.Kind.TheVariants.{Bang, Less, Greater, Colon, Equal, Dot, Ellipsis}
use Rattle.hcl_token.specs.declared.kind.Kind.TheVariants.{SeqClose, InterpOpen, DirectiveOpen}

abbrev pub starts_with : ℕ → List ℕ → Bool
starts_with byte [] = false
starts_with byte (b ∷ spelling) = b == byte

abbrev pub ends_with : ℕ → List ℕ → Bool
ends_with byte [] = false
ends_with byte (b ∷ []) = b == byte
ends_with byte (b ∷ spelling) = ends_with byte spelling

-- the digits `0` to `9` alone
abbrev pub is_digits : List ℕ → Bool
is_digits spelling = list_all is_ascii_digit spelling

-- after an Identifier: Identifier, Number, `-`
abbrev pub joins_after_identifier : Kind → Bool
joins_after_identifier Identifier = true
joins_after_identifier Number = true
joins_after_identifier Minus = true
joins_after_identifier _ = false

-- after a Number: Number; an Identifier that begins with `e` or `E`; after digits alone a
-- DotIndex
abbrev pub joins_after_number : List ℕ → Kind → List ℕ → Bool
joins_after_number number Number next = true
joins_after_number number Identifier next = starts_with letter_e next || starts_with capital_e next
joins_after_number number DotIndex next = is_digits number
joins_after_number number _ next = false

-- after a DotIndex: Number
abbrev pub joins_after_dot_index : Kind → Bool
joins_after_dot_index Number = true
joins_after_dot_index _ = false

-- after `<`: `<`, or a token that begins with `=`
abbrev pub joins_after_less : Kind → List ℕ → Bool
joins_after_less Less next = true
joins_after_less _ next = starts_with equals next

-- after `.`: Number, `.`, `...`, DotIndex
abbrev pub joins_after_dot : Kind → Bool
joins_after_dot Number = true
joins_after_dot Dot = true
joins_after_dot Ellipsis = true
joins_after_dot DotIndex = true
joins_after_dot _ = false

-- after `/`: `*`, or a token that begins with `/`
abbrev pub joins_after_slash : Kind → List ℕ → Bool
joins_after_slash Star next = true
joins_after_slash _ next = starts_with slash next

-- after `${` or `%{` without `~`: `~}`
abbrev pub joins_after_opening : List ℕ → Kind → List ℕ → Bool
joins_after_opening opening SeqClose next = not (ends_with tilde opening) && starts_with tilde next
joins_after_opening opening _ next = false

-- a token of this kind and this spelling joins with one of that kind and that spelling
abbrev pub joins_with : Kind → List ℕ → Kind → List ℕ → Bool
joins_with Identifier first kind next = joins_after_identifier kind
joins_with Number first kind next = joins_after_number first kind next
joins_with DotIndex first kind next = joins_after_dot_index kind
joins_with Less first kind next = joins_after_less kind next
joins_with Greater first kind next = starts_with equals next
joins_with Equal first kind next = starts_with equals next || starts_with greater next
joins_with Bang first kind next = starts_with equals next
joins_with Colon first kind next = starts_with colon next
joins_with Dot first kind next = joins_after_dot kind
joins_with Slash first kind next = joins_after_slash kind next
joins_with InterpOpen first kind next = joins_after_opening first kind next
joins_with DirectiveOpen first kind next = joins_after_opening first kind next
joins_with _ first kind next = false
