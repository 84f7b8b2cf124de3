-- Which token is where in a list of tokens. Numbers of tokens count from 0; a place is the number
-- of the token there.
-- HCL native syntax specification, Comments and Whitespace, and Structural Elements.
use Rattle.std.specs.Prelude.{ℕ, suc, ◌+◌, ◌==◌, ◌&&◌, Bool, true, false, if◌then◌else◌, List, drop}
use Rattle.std.specs.Prelude.{slice_get, Option, Some, None, nat_eq, codes}
use Rattle.std.specs.List.{prefix_len}
use Rattle.std.specs.Option.{option_map}
use Rattle.std.specs.Cmp.Lexicographic.{pointwise}
use denote.Enum.Bare.{sameb}
use Rattle.hcl_token.specs.contracts.kind.Kind.{the_type}
use Rattle.hcl_token.specs.declared.kind.Kind.{Kind}
use Rattle.hcl_token.specs.declared.kind.Kind.TheVariants as k

-- a token: its kind and its spelling
abbrev pub Token : Type 0
Token = Kind × List ℕ

-- Inline comments are dropped everywhere. Inside parentheses, brackets, template sequences and the
-- braces of a `for` line ends and line comments are dropped too.
abbrev pub is_skipped : Bool → Kind → Bool
is_skipped skip_newlines k.InlineComment = true
is_skipped skip_newlines k.LineEnd = skip_newlines
is_skipped skip_newlines k.LineComment = skip_newlines
is_skipped skip_newlines _ = false

-- the number of the next token from i on that is not dropped
unfoldable pub next_index : List Token → Bool → ℕ → ℕ
next_index ts skip_newlines i = i + prefix_len (λ (t : Token). is_skipped skip_newlines t.0) (drop i ts)

-- that token, or None at the end
unfoldable pub next_token : List Token → Bool → ℕ → Option Token
next_token ts skip_newlines i = slice_get ts (next_index ts skip_newlines i)

-- its kind
unfoldable pub next_kind : List Token → Bool → ℕ → Option Kind
next_kind ts skip_newlines i = option_map (λ (t : Token). t.0) (next_token ts skip_newlines i)

-- what follows it
unfoldable pub after_next : List Token → Bool → ℕ → ℕ
after_next ts skip_newlines i = suc (next_index ts skip_newlines i)

-- the number of the first token from i up to j; i, if i is j
unfoldable pub first_token_in : List Token → Bool → ℕ → ℕ → ℕ
first_token_in ts skip_newlines i j = if i == j then i else next_index ts skip_newlines i

-- the words that have a meaning
abbrev pub for_word : List ℕ
for_word = codes "for"

abbrev pub in_word : List ℕ
in_word = codes "in"

abbrev pub if_word : List ℕ
if_word = codes "if"

abbrev pub else_word : List ℕ
else_word = codes "else"

abbrev pub endif_word : List ℕ
endif_word = codes "endif"

abbrev pub endfor_word : List ℕ
endfor_word = codes "endfor"

-- `==` on kinds
unfoldable pub same_kind : Kind → Kind → Bool
same_kind = sameb the_type

-- whether a token is there, of this kind
abbrev pub is_kind : Option Kind → Kind → Bool
is_kind None k = false
is_kind (Some t) k = same_kind t k

-- an Identifier with this spelling
abbrev pub is_word : List ℕ → Option Token → Bool
is_word w None = false
is_word w (Some t) = same_kind t.0 k.Identifier && pointwise nat_eq t.1 w
