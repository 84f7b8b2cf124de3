-- The layout of a text: its tokens, line ends and comments among them, with other gaps.
-- Terraform style conventions, in this project's own profile.
use Rattle.std.specs.Prelude.{◌≡◌, ℕ, ◌*◌, List, [], ◌∷◌, ◌++◌, length, if◌then◌else◌}
use Rattle.std.specs.Str.{bytes_eq}
use Rattle.hcl_token.specs.declared.kind.Kind.{Kind}
use Rattle.hcl_token.specs.Tokens.{Pair, whole_text}
use Rattle.hcl_token.specs.TokenizedText.{TokenizedText}
use Rattle.hcl_token.specs.Place.{is_mark}
use Rattle.edit_record.specs.Lists.Pieces.{EditList, Piece, changed_entries}
use Rattle.edit_record.specs.Lists.Pieces.Piece.{Kept, Changed}
use Rattle.hcl_token.specs.Kinds.{is_line_end}
use Rattle.hcl_layout.specs.Gaps.Lines.{Line, lines_of, pairs_in}
use Rattle.hcl_layout.specs.Gaps.Indent.{level}
use Rattle.hcl_layout.specs.Gaps.Space.{prev_after, prev_after_all, spaces, gap_between}
use Rattle.hcl_layout.specs.Gaps.Cells.{aligned, assignment, closing_comment}

-- the tokens after a on its line, each with the gap between it and the one before it, with these
-- kinds before a
abbrev pub with_spacing : List Kind → Pair → List Pair → List Pair
with_spacing before a [] = []
with_spacing before a (b ∷ ps) =
    record b { gap = gap_between before a b } ∷ with_spacing (prev_after a before) b ps

-- the tokens of a line: two spaces for each level before the first, unless that is the line end,
-- then the gaps between them
abbrev pub with_indent : ℕ → List Kind → List Pair → List Pair
with_indent level before [] = []
with_indent level before (p ∷ ps) =
    record p { gap = if is_line_end p.kind then [] else spaces (2 * level) } ∷ with_spacing before p ps

-- a line at this level; one that is frozen stays
abbrev pub format_line : ℕ → List Kind → Line → Line
format_line level before line =
    if line.frozen then line else record line { pairs = with_indent level before line.pairs }

-- lines after earlier ones, with these kinds before them, each indented by its level and spaced
abbrev pub format_lines : List Line → List Kind → List Line → List Line
format_lines earlier before [] = []
format_lines earlier before (line ∷ lines) =
    format_line (level earlier line) before line
    ∷ format_lines (earlier ++ line ∷ []) (prev_after_all line.pairs before) lines

-- formatted lines: indented and spaced, then their assignments in columns, then their closing
-- comments, by the widths that the assignments then give
abbrev pub layout_lines : List Line → List Line
layout_lines lines = aligned closing_comment (aligned assignment (format_lines [] [] lines))

-- the tokens of a body, with the gaps of its layout
abbrev pub layout_body : List Pair → List Pair
layout_body pairs = pairs_in (layout_lines (lines_of pairs))

-- the tokens of a text with the gaps of its layout. The byte order mark belongs to no line
abbrev pub layout_pairs : List Pair → List Pair
layout_pairs [] = []
layout_pairs (p ∷ ps) = if is_mark p.kind then p ∷ layout_body ps else layout_body (p ∷ ps)

-- the layout of a text: these gaps and tokens, in order. There is no gap after the last token
abbrev pub layout_text : TokenizedText → List ℕ
layout_text tokenized = whole_text (layout_pairs tokenized.pairs) []

-- ---- as edits

-- a gap, which stays where it is this one already, and else becomes it as a whole
abbrev pub gap_piece : List ℕ → List ℕ → Piece
gap_piece old new = if bytes_eq old new then Kept old else Changed old new

-- A text in pieces: each gap that differs changes, the whole old one to the whole new one, and all
-- else is kept. So does the gap at the text's end, where there is one.
abbrev pub pieces : List Pair → List Pair → List ℕ → List Piece
pieces (p ∷ ps) (q ∷ qs) last = gap_piece p.gap q.gap ∷ Kept p.spelling ∷ pieces ps qs last
pieces ps qs last = gap_piece last [] ∷ []

-- the edits that format a text: the gaps that differ, whole old gap to whole new gap
abbrev pub layout_edits : TokenizedText → EditList
layout_edits tokenized = record {
  old_len = length tokenized.text;
  entries = changed_entries 0 (pieces tokenized.pairs (layout_pairs tokenized.pairs) tokenized.last);
}

-- a text is formatted: each gap is that of the layout, and there is none at the end
abbrev pub IsLaidOut : TokenizedText → Type 0
IsLaidOut tokenized = (layout_pairs tokenized.pairs ≡ tokenized.pairs) × (tokenized.last ≡ [])
