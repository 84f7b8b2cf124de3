-- The lines of a text, for its layout: its tokens, split after line ends and heredoc openings.
-- HCL native syntax specification, Structural Elements and Template Expressions (heredocs); what a
-- frozen line is, is this project's own.
use Rattle.std.specs.Prelude.{ℕ, zero, ◌+◌, ◌-◌, Bool, true, false, nat_lt, List, [], ◌∷◌, ◌++◌}
use Rattle.std.specs.Prelude.{if◌then◌else◌}
use Rattle.hcl_token.specs.declared.kind.Kind.{Kind}
use Rattle.hcl_token.specs.declared.kind.Kind.TheVariants.{LineEnd, HereOpen, HereClose}
use Rattle.hcl_token.specs.Tokens.{Pair}

-- a line: tokens with their gaps. A frozen line has the text of a heredoc, and keeps its gaps
pub record Line : Type 0 where
  pub frozen : Bool
  pub pairs : List Pair

-- how many heredocs are open after a token, where this many are open before it
abbrev pub heredocs_after : ℕ → Kind → ℕ
heredocs_after open_heredocs HereOpen = open_heredocs + 1
heredocs_after open_heredocs HereClose = open_heredocs - 1
heredocs_after open_heredocs kind = open_heredocs

-- how many are open after several tokens
abbrev pub heredocs_after_all : ℕ → List Pair → ℕ
heredocs_after_all open_heredocs [] = open_heredocs
heredocs_after_all open_heredocs (p ∷ ps) = heredocs_after_all (heredocs_after open_heredocs p.kind) ps

-- outside of heredocs a line ends with a line end, and with the opening of a heredoc, which
-- contains its line end
abbrev pub ends_line : ℕ → Kind → Bool
ends_line zero LineEnd = true
ends_line zero HereOpen = true
ends_line open_heredocs kind = false

-- lists, with this element as the first of the first list, or alone
abbrev pub prepend : {A : Type 0} → A → List (List A) → List (List A)
prepend x [] = (x ∷ []) ∷ []
prepend x (xs ∷ others) = (x ∷ xs) ∷ others

-- tokens, split after each that ends a line, where this many heredocs are open before them
abbrev pub split_lines : ℕ → List Pair → List (List Pair)
split_lines open_heredocs [] = []
split_lines open_heredocs (p ∷ ps) =
    if ends_line open_heredocs p.kind then (p ∷ []) ∷ split_lines (heredocs_after open_heredocs p.kind) ps
    else prepend p (split_lines (heredocs_after open_heredocs p.kind) ps)

-- A line is frozen if a heredoc is open before its first token. So what follows a heredoc's
-- opening, up to the closing marker that belongs to it and the line end after that, is one frozen
-- line.
abbrev pub with_frozen : ℕ → List (List Pair) → List Line
with_frozen open_heredocs [] = []
with_frozen open_heredocs (line ∷ lines) =
    record { frozen = nat_lt 0 open_heredocs; pairs = line }
    ∷ with_frozen (heredocs_after_all open_heredocs line) lines

-- the lines of a text, from these tokens on
abbrev pub lines_of : List Pair → List Line
lines_of pairs = with_frozen 0 (split_lines 0 pairs)

-- the tokens of lines, in order
abbrev pub pairs_in : List Line → List Pair
pairs_in [] = []
pairs_in (line ∷ lines) = line.pairs ++ pairs_in lines
