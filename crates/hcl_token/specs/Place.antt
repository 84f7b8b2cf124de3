-- Lines and columns of tokens, counted from 1.
-- Unicode Standard Annex #29, extended grapheme clusters.
use Rattle.std.specs.Prelude.{◌≡◌, ℕ, zero, suc, ◌+◌, Bool, true, false, List, [], ◌∷◌, length, sum_by}
use Rattle.std.specs.Prelude.{count_by, ◌==◌, if◌then◌else◌}
use Rattle.std.specs.List.{All, list_any, concat}
use Rattle.unicode_segmentation.specs.Grapheme.{graphemes}
use Rattle.hcl_token.specs.Bytes.{line_feed}
use Rattle.hcl_token.specs.declared.kind.Kind.{Kind}
use Rattle.hcl_token.specs.declared.kind.Kind.TheVariants.{Mark}
use Rattle.hcl_token.specs.declared.place.Place.{Place}
use Rattle.hcl_token.specs.Tokens.{Pair}

-- how many extended grapheme clusters a text has
abbrev pub clusters : List ℕ → ℕ
clusters text = length (graphemes true text)

abbrev pub is_lf : ℕ → Bool
is_lf b = b == line_feed

abbrev pub is_mark : Kind → Bool
is_mark Mark = true
is_mark _ = false

-- what of a token counts: nothing of the byte order mark, all of any other token
abbrev pub counted_bytes : Pair → List ℕ
counted_bytes p = if is_mark p.kind then [] else p.spelling

-- no byte order mark has an LF: all LFs before a token count
abbrev pub MarksHaveNoLf : List Pair → Type 0
MarksHaveNoLf pairs =
    All (λ (p : Pair). is_mark p.kind ≡ true → count_by is_lf p.spelling ≡ 0) pairs

-- what counts before token i: the gaps and the tokens before it, piece by piece, and its own gap
abbrev pub pieces_before : List Pair → ℕ → List (List ℕ)
pieces_before [] i = []
pieces_before (p ∷ ps) zero = p.gap ∷ []
pieces_before (p ∷ ps) (suc i) = p.gap ∷ counted_bytes p ∷ pieces_before ps i

-- what follows the last LF of a text, or all of it if there is none
abbrev pub last_line : List ℕ → List ℕ
last_line [] = []
last_line (b ∷ text) = if list_any is_lf (b ∷ text) then last_line text else b ∷ text

-- the pieces, or parts of them, that follow the last LF in all of them
abbrev pub last_line_pieces : List (List ℕ) → List (List ℕ)
last_line_pieces [] = []
last_line_pieces (piece ∷ pieces) =
    if list_any is_lf (concat pieces) then last_line_pieces pieces else last_line piece ∷ pieces

-- one more than the LFs before token i
abbrev pub line_of : List Pair → ℕ → ℕ
line_of pairs i = 1 + count_by is_lf (concat (pieces_before pairs i))

-- one more than the clusters of the pieces between the last LF before token i and the token, each
-- piece counted by itself
abbrev pub column_of : List Pair → ℕ → ℕ
column_of pairs i = 1 + sum_by clusters (last_line_pieces (pieces_before pairs i))

abbrev pub place_of : List Pair → ℕ → Place
place_of pairs i = record { line = line_of pairs i; column = column_of pairs i }
