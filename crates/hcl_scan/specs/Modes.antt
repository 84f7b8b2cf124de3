-- The modes that tokens are read in, and what a token does to them.
-- HCL native syntax specification, Lexical Elements and Templates.
use Rattle.std.specs.Prelude.{ℕ, ◌==◌, ◌||◌, Bool, true, false, not, List, [], ◌∷◌, take, drop, slice_index}
use Rattle.std.specs.Prelude.{if◌then◌else◌}
use Rattle.std.specs.List.{prefix_len}
use Rattle.hcl_token.specs.Bytes.{line_feed, carriage_return, minus}
use Rattle.hcl_token.specs.declared.kind.Kind.{Kind}
use Rattle.hcl_token.specs.declared.kind.Kind.TheVariants.{OpenBrace, CloseBrace, QuoteOpen, QuoteClose}
use Rattle.hcl_token.specs.declared.kind.Kind.TheVariants.{HereOpen, HereClose, HereLit, InterpOpen}
use Rattle.hcl_token.specs.declared.kind.Kind.TheVariants.{DirectiveOpen, SeqClose}
use Rattle.hcl_scan.specs.Runs.{is_line_start_after}

pub data Mode : Type 0 where
  -- outside of every template
  Expression : Mode
  -- in a template sequence, an interpolation or a directive
  Sequence : Mode
  -- after a `{` that is not closed, in a template sequence
  Braces : Mode
  -- in quoted text
  Quoted : Mode
  -- in the text of the heredoc with this marker; whether a line begins here
  Heredoc : (marker : List ℕ) (at_line_start : Bool) → Mode

-- the mode is that of the innermost opening that is not closed
abbrev pub mode_of : List Mode → Mode
mode_of [] = Expression
mode_of (mode ∷ modes) = mode

-- literal text, in which whitespace belongs to the tokens
abbrev pub is_literal : Mode → Bool
is_literal Quoted = true
is_literal (Heredoc marker at_line_start) = true
is_literal _ = false

-- a `}` here closes the template sequence
abbrev pub can_close_sequence : Mode → Bool
can_close_sequence Sequence = true
can_close_sequence _ = false

abbrev pub is_braces : Mode → Bool
is_braces Braces = true
is_braces _ = false

-- directly in a template sequence or in braces of it
abbrev pub is_in_sequence : Mode → Bool
is_in_sequence Sequence = true
is_in_sequence Braces = true
is_in_sequence _ = false

-- the marker of the heredoc, and whether a line of it begins here
abbrev pub marker : Mode → List ℕ
marker (Heredoc name at_line_start) = name
marker _ = []

abbrev pub is_at_line_start : Mode → Bool
is_at_line_start (Heredoc name at_line_start) = at_line_start
is_at_line_start _ = false

-- the marker that a heredoc's opening names: what is between `<<` or `<<-` and the line end
abbrev pub marker_of : List ℕ → List ℕ
marker_of spelling =
    let name = drop (if slice_index spelling 2 == minus then 3 else 2) spelling in
    take (prefix_len (λ b. not (b == line_feed || b == carriage_return)) name) name

-- the mode of the heredoc after this piece of its text
abbrev pub after_literal : List ℕ → Mode → Mode
after_literal piece (Heredoc name at_line_start) = Heredoc name (is_line_start_after at_line_start piece)
after_literal piece mode = mode

-- after a template sequence no line of the heredoc begins
abbrev pub clear_line_start : List Mode → List Mode
clear_line_start [] = []
clear_line_start (Heredoc name at_line_start ∷ modes) = Heredoc name false ∷ modes
clear_line_start (mode ∷ modes) = mode ∷ modes

-- the modes that a token leaves, innermost first, from those before it
abbrev pub modes_after : Kind → List ℕ → List Mode → List Mode
modes_after QuoteOpen spelling modes = Quoted ∷ modes
modes_after HereOpen spelling modes = Heredoc (marker_of spelling) true ∷ modes
modes_after InterpOpen spelling modes = Sequence ∷ clear_line_start modes
modes_after DirectiveOpen spelling modes = Sequence ∷ clear_line_start modes
modes_after QuoteClose spelling modes = drop 1 modes
modes_after HereClose spelling modes = drop 1 modes
modes_after SeqClose spelling modes = drop 1 modes
modes_after OpenBrace spelling modes = if is_in_sequence (mode_of modes) then Braces ∷ modes else modes
modes_after CloseBrace spelling modes = if is_braces (mode_of modes) then drop 1 modes else modes
modes_after HereLit spelling [] = []
modes_after HereLit spelling (mode ∷ modes) = after_literal spelling mode ∷ modes
modes_after _ spelling modes = modes
