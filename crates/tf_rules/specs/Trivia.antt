-- Some of a text's tokens.
use Rattle.std.specs.Prelude.{ℕ, ◌+◌, ◌-◌, ◌&&◌, ◌||◌, ◌==◌, Bool, true, false, List, [], ◌∷◌, take, drop}
use Rattle.std.specs.Prelude.{Option, Some, if◌then◌else◌}
use Rattle.hcl_token.specs.Kinds.{is_opening, is_closing}
use Rattle.hcl_token.specs.TokenizedText.{kind_of}
use Rattle.hcl_token.specs.declared.kind.Kind.{Kind}
use Rattle.hcl_token.specs.declared.kind.Kind.TheVariants as k
use Rattle.hcl_token.specs.Tokens.{Pair}

-- the tokens from number `first` to number `past` (exclusive)
abbrev pub token_range : List Pair → ℕ → ℕ → List Pair
token_range pairs first past = take (past - first) (drop first pairs)

-- a line end, or, if count_comments, a line comment
abbrev pub is_line_break : Bool → Kind → Bool
is_line_break count_comments k.LineEnd = true
is_line_break count_comments k.LineComment = count_comments
is_line_break count_comments _ = false

-- a comment or a line end
abbrev pub is_trivia : Kind → Bool
is_trivia k.LineEnd = true
is_trivia k.LineComment = true
is_trivia k.InlineComment = true
is_trivia _ = false

-- whether a comment or a line end is among the tokens
abbrev pub has_trivia : List Pair → Bool
has_trivia [] = false
has_trivia (p ∷ ps) = is_trivia p.kind || has_trivia ps

-- how many brackets and sequences are open after a token, by how many are open before it
abbrev pub depth_after : Kind → ℕ → ℕ
depth_after kind depth =
    if is_opening kind then depth + 1 else (if is_closing kind then depth - 1 else depth)

-- Whether a line end (or, if count_comments, a line comment) is among these tokens outside of the
-- brackets and sequences that open among them; depth is how many of those are open before the first
-- of these.
abbrev pub has_line_break : Bool → ℕ → List Pair → Bool
has_line_break count_comments depth [] = false
has_line_break count_comments depth (p ∷ ps) =
    (depth == 0 && is_line_break count_comments p.kind)
    || has_line_break count_comments (depth_after p.kind depth) ps

-- whether a line end is among these tokens outside of the brackets and sequences that open among
-- them
abbrev pub has_line_end : List Pair → Bool
has_line_end tokens = has_line_break false 0 tokens

-- the same of a line end or a line comment
abbrev pub has_line_end_or_comment : List Pair → Bool
has_line_end_or_comment tokens = has_line_break true 0 tokens

-- whether token i is the closing line of a heredoc
abbrev pub is_here_close_kind : Option Kind → Bool
is_here_close_kind (Some k.HereClose) = true
is_here_close_kind _ = false

abbrev pub is_here_close : List Pair → ℕ → Bool
is_here_close pairs i = is_here_close_kind (kind_of pairs i)
