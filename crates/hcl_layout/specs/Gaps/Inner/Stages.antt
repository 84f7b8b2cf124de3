-- The layout as the code works it out, stage by stage. For proofs: nothing here has to be believed.
use Rattle.std.specs.Prelude.{◌≡◌, ◌<◌, ◌≤◌, drop, slice_range, ℕ, suc, ◌+◌, ◌-◌, ◌*◌, ◌==◌, Bool, true}
use Rattle.std.specs.Prelude.{false, ◌&&◌, nat_lt, max, List, [], ◌∷◌, length, get_or, replicate, slice_get}
use Rattle.std.specs.Prelude.{slice_set, ◌||◌, ◌++◌, Option, Some, None, option_map, option_and_then}
use Rattle.std.specs.Prelude.{if◌then◌else◌, ⊤}
use Rattle.std.specs.Str.{bytes_eq}
use Rattle.hcl_token.specs.declared.kind.Kind.{Kind}
use Rattle.hcl_token.specs.declared.item.Item.{Item}
use Rattle.hcl_token.specs.Tokens.{Pair}
use Rattle.hcl_token.specs.TokenizedText.{gap_of}
use Rattle.hcl_token.specs.Place.{is_mark}
use Rattle.hcl_layout.specs.Gaps.Lines.{Line, heredocs_after, ends_line}
use Rattle.hcl_layout.specs.Gaps.Indent.{openings, closings}
use Rattle.hcl_layout.specs.Gaps.Space.{prev_after, prev_after_all, is_spaced, spaces}
use Rattle.hcl_scan.specs.Follows.{has_no_gap_before}
use Rattle.hcl_token.specs.Joins.{joins_with}
use Rattle.hcl_token.specs.Kinds.{is_line_end}
use Rattle.hcl_layout.specs.Gaps.Cells.{width_before, with_cell_gap}
use Rattle.hcl_layout.specs.Gaps.Layout.{format_line}

-- ---- brackets that are open

-- Of each line that is open, the last first, how many openings it has beyond those of the open line
-- before it. Each that closes removes one.
abbrev pub close_brackets : ℕ → List ℕ → List ℕ
close_brackets left [] = []
close_brackets left (top ∷ surplus) =
    if nat_lt left top then (top - left) ∷ surplus else close_brackets (left - top) surplus

-- the lines that are still open at a line that opens and closes these numbers of brackets
abbrev pub close_earlier : ℕ → ℕ → List ℕ → List ℕ
close_earlier opened closed surplus =
    if nat_lt opened closed then close_brackets (closed - opened) surplus else surplus

-- those that are open after it
abbrev pub open_after_line : ℕ → ℕ → List ℕ → List ℕ
open_after_line opened closed surplus =
    if nat_lt closed opened then (opened - closed) ∷ close_earlier opened closed surplus
    else close_earlier opened closed surplus

-- the lines, indented and spaced
abbrev pub format_lines_by_stack : List ℕ → List Kind → List Line → List Line
format_lines_by_stack surplus before [] = []
format_lines_by_stack surplus before (line ∷ lines) =
    format_line (length (close_earlier (openings line.pairs) (closings line.pairs) surplus)) before line
    ∷ format_lines_by_stack (open_after_line (openings line.pairs) (closings line.pairs) surplus)
    (prev_after_all line.pairs before) lines

-- ---- lines

-- lines with one token more before those of the first; if it is alone, its line is frozen or not
abbrev pub prepend_to_first : Bool → Pair → List Line → List Line
prepend_to_first frozen p [] = record { frozen = frozen; pairs = p ∷ [] } ∷ []
prepend_to_first frozen p (line ∷ lines) = record { frozen = frozen; pairs = p ∷ line.pairs } ∷ lines

-- the lines from here on, token by token: each adds to the line after it
abbrev pub lines_from : ℕ → List Pair → List Line
lines_from open_heredocs [] = []
lines_from open_heredocs (p ∷ ps) =
    if ends_line open_heredocs p.kind
    then record { frozen = nat_lt 0 open_heredocs; pairs = p ∷ [] }
    ∷ lines_from (heredocs_after open_heredocs p.kind) ps
    else prepend_to_first (nat_lt 0 open_heredocs) p (lines_from (heredocs_after open_heredocs p.kind) ps)

-- how many tokens the first line has
abbrev pub line_len : ℕ → List Pair → ℕ
line_len open_heredocs [] = 0
line_len open_heredocs (p ∷ ps) =
    if ends_line open_heredocs p.kind then 1 else suc (line_len (heredocs_after open_heredocs p.kind) ps)

-- how many heredocs are open after it
abbrev pub open_heredocs_after : ℕ → List Pair → ℕ
open_heredocs_after open_heredocs [] = open_heredocs
open_heredocs_after open_heredocs (p ∷ ps) =
    if ends_line open_heredocs p.kind then heredocs_after open_heredocs p.kind
    else open_heredocs_after (heredocs_after open_heredocs p.kind) ps

abbrev pub open_heredocs_of : Bool → ℕ
open_heredocs_of frozen = if frozen then 1 else 0

-- a line from one token up to another, and whether the next one begins in a heredoc
pub record SplitsLine (pairs : List Pair) (at : ℕ) (frozen : Bool) (past : ℕ)
    (next : Bool) : Type 0 where
  pub more : at < past
  pub within : past ≤ length pairs
  pub line : lines_from (open_heredocs_of frozen) (drop at pairs)
      ≡ record { frozen = frozen; pairs = slice_range pairs at past }
      ∷ lines_from (open_heredocs_of next) (drop past pairs)

-- ---- cells

-- the widths of what is before the cells, line by line; none where a line has no such cell
abbrev pub widths : (Line → Option ℕ) → List Line → List (Option ℕ)
widths cell [] = []
widths cell (line ∷ lines) = width_before cell line ∷ widths cell lines

-- the greatest of the widths up to the first line that has no cell
abbrev pub greatest : List (Option ℕ) → ℕ
greatest [] = 0
greatest (None ∷ ws) = 0
greatest (Some w ∷ ws) = max w (greatest ws)

-- each line with its number of spaces before its cell
abbrev pub with_cell_gaps : (Line → Option ℕ) → List (Option ℕ) → List Line → List Line
with_cell_gaps cell (count ∷ counts) (line ∷ lines) =
    with_cell_gap (cell line) count line ∷ with_cell_gaps cell counts lines
with_cell_gaps cell counts lines = lines

-- how many spaces are before each cell, where top is the greatest width of the run that the first
-- is in
abbrev pub cell_gaps_from_width : ℕ → List (Option ℕ) → List (Option ℕ)
cell_gaps_from_width top [] = []
cell_gaps_from_width top (Some w ∷ ws) = Some (1 + (top - w)) ∷ cell_gaps_from_width top ws
cell_gaps_from_width top (None ∷ ws) = None ∷ cell_gaps_from_width (greatest ws) ws

-- the greatest width that is before a cell of any text: 2 to the 30th
abbrev pub MAX_WIDTH : ℕ
MAX_WIDTH = 1073741824

-- the widths are at most this
abbrev pub AreAtMost : ℕ → List (Option ℕ) → Type 0
AreAtMost most [] = ⊤
AreAtMost most (None ∷ ws) = AreAtMost most ws
AreAtMost most (Some w ∷ ws) = (w ≤ most) × AreAtMost most ws

-- where the cells begin, by the numbers of their tokens, where the first line begins with this one
abbrev pub cell_tokens : ℕ → (Line → Option ℕ) → List Line → List (Option ℕ)
cell_tokens at cell [] = []
cell_tokens at cell (line ∷ lines) =
    option_map (λ n. at + n) (cell line) ∷ cell_tokens (at + length line.pairs) cell lines

-- numbers of gaps, with those numbers before those tokens
abbrev pub set_cell_gap : List ℕ → Option ℕ → Option ℕ → List ℕ
set_cell_gap gaps (Some t) (Some r) = slice_set gaps t r
set_cell_gap gaps t r = gaps

abbrev pub set_cell_gaps : List ℕ → List (Option ℕ) → List (Option ℕ) → List ℕ
set_cell_gaps gaps [] rs = gaps
set_cell_gaps gaps (t ∷ ts) [] = gaps
set_cell_gaps gaps (t ∷ ts) (r ∷ rs) = set_cell_gaps (set_cell_gap gaps t r) ts rs

-- ---- spaces, and gaps as numbers

-- the gap stays
abbrev pub KEEP_GAP : ℕ
KEEP_GAP = 4294967295

-- the nearest tokens before a place, as far as they are kept
abbrev pub prev_kinds_of : Option Kind → Option Kind → List Kind
prev_kinds_of None second = []
prev_kinds_of (Some p) None = p ∷ []
prev_kinds_of (Some p) (Some q) = p ∷ q ∷ []

-- a token without its gap
abbrev pub token : Kind → List ℕ → Pair
token kind spelling = record { gap = []; kind = kind; spelling = spelling }

-- how long the gap between neighbours is
abbrev pub space_len : List Kind → Pair → Pair → ℕ
space_len before a b =
    if has_no_gap_before b.kind then 0
    else (if is_spaced before a b || joins_with a.kind a.spelling b.kind b.spelling then 1 else 0)

-- how long the gap between token i and the one before it is
abbrev pub space_len_at : List Kind → List Pair → ℕ → Option ℕ
space_len_at before pairs i =
    option_and_then (λ (a : Pair). option_map (λ (b : Pair). space_len before a b)
    (slice_get pairs i)) (slice_get pairs (i - 1))

abbrev pub space_lens : List Kind → Pair → List Pair → List ℕ
space_lens before a [] = []
space_lens before a (b ∷ ps) = space_len before a b ∷ space_lens (prev_after a before) b ps

-- after the first of these tokens
abbrev pub spaces_from : List Kind → List Pair → List ℕ
spaces_from before [] = []
spaces_from before (a ∷ ps) = space_lens before a ps

-- the gaps of a line that is not frozen
abbrev pub line_gap_lens : ℕ → List Kind → List Pair → List ℕ
line_gap_lens deep before [] = []
line_gap_lens deep before (p ∷ ps) =
    (if is_line_end p.kind then 0 else 2 * deep) ∷ space_lens before p ps

abbrev pub base_gap_lens : ℕ → List Kind → Line → List ℕ
base_gap_lens deep before line =
    if line.frozen then replicate (length line.pairs) KEEP_GAP else line_gap_lens deep before line.pairs

-- the gaps of lines
abbrev pub all_gap_lens : List ℕ → List Kind → List Line → List ℕ
all_gap_lens surplus before [] = []
all_gap_lens surplus before (line ∷ lines) =
    base_gap_lens (length (close_earlier (openings line.pairs) (closings line.pairs) surplus)) before line
    ++ all_gap_lens (open_after_line (openings line.pairs) (closings line.pairs) surplus)
    (prev_after_all line.pairs before) lines

-- the gap that a number means: that many spaces, or the old one
abbrev pub resolved_gap : ℕ → List ℕ → List ℕ
resolved_gap n old = if n == KEEP_GAP then old else spaces n

-- how many spaces it represents; none where the gap stays
abbrev pub space_count : ℕ → ℕ
space_count n = if n == KEEP_GAP then 0 else n

-- how long a token is with that gap
abbrev pub resolved_len : ℕ → Item → ℕ
resolved_len n item = if n == KEEP_GAP then item.stop - item.gap_at else n + (item.stop - item.start)

-- tokens with the gaps that these numbers represent
abbrev pub with_gaps : List ℕ → List Pair → List Pair
with_gaps (n ∷ ns) (p ∷ ps) = record p { gap = resolved_gap n p.gap } ∷ with_gaps ns ps
with_gaps ns ps = []

-- the gaps before tokens from one number up to another are those that their numbers represent
abbrev pub AreUnchanged : List Pair → List ℕ → ℕ → ℕ → Type 0
AreUnchanged pairs gaps from to =
    (k : ℕ) (g : List ℕ) → from ≤ k → k < to → Some g ≡ gap_of pairs k
    → bytes_eq g (resolved_gap (get_or gaps k 0) g) ≡ true

-- the gap before this token is not
abbrev pub IsChanged : List Pair → List ℕ → ℕ → Type 0
IsChanged pairs gaps i =
    (g : List ℕ) → Some g ≡ gap_of pairs i → bytes_eq g (resolved_gap (get_or gaps i 0) g) ≡ false

-- how many tokens belong to no line: the byte order mark
abbrev pub mark_count : List Pair → ℕ
mark_count [] = 0
mark_count (p ∷ ps) = if is_mark p.kind then 1 else 0

-- ---- edits

-- no gap differs
abbrev pub unchanged : List Pair → List Pair → List ℕ → Bool
unchanged (p ∷ ps) (q ∷ qs) last = bytes_eq p.gap q.gap && unchanged ps qs last
unchanged ps qs last = bytes_eq last []

-- each gap stays, or has as many bytes as its number says
abbrev pub have_lengths : List ℕ → List Pair → Bool
have_lengths (n ∷ ns) (p ∷ ps) = (length p.gap == n || n == KEEP_GAP) && have_lengths ns ps
have_lengths ns ps = true
