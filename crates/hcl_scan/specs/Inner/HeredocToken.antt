-- The token with which a text begins where a heredoc opens, and in the text of a heredoc.
use Rattle.std.specs.Prelude.{ℕ, ◌+◌, Bool, ◌&&◌, if◌then◌else◌, ◌==◌, List, length, drop, slice_index, Some}
use Rattle.std.specs.Prelude.{None}
use Rattle.std.specs.List.{prefix_len}
use Rattle.hcl_token.specs.declared.kind.Kind.TheVariants.{HereOpen, HereClose, HereLit}
use Rattle.hcl_scan.specs.Characters.{is_whitespace}
use Rattle.hcl_scan.specs.Closing.{after_marker, is_closing_line, heredoc_unit}
use Rattle.hcl_scan.specs.Inner.RunLength.{run_length}
use Rattle.hcl_scan.specs.Inner.LexemeStarts.{LexedToken, identifier, is_at_opening, opening}

-- ---- the opening

-- of LF or CR LF, 0 where neither is
abbrev pub line_end_length : List ℕ → ℕ
line_end_length t =
    if slice_index t 0 == 10 then 1
    else (if slice_index t 0 == 13 && slice_index t 1 == 10 then 2 else 0)

-- of `<<` or `<<-`
abbrev pub heredoc_start_length : List ℕ → ℕ
heredoc_start_length t = if slice_index t 2 == 45 then 3 else 2

-- after `before` bytes, with a line end of `end` bytes after the marker
abbrev pub here_open_of_length : ℕ → ℕ → LexedToken
here_open_of_length before end = if end == 0 then None else Some (HereOpen, before + end)

-- after `before` bytes, with this marker
abbrev pub open_with_marker : ℕ → List ℕ → LexedToken → LexedToken
open_with_marker before t None = None
open_with_marker before t (Some name) =
    here_open_of_length (before + name.1) (line_end_length (drop name.1 t))

-- the text begins with `<<`
abbrev pub is_at_heredoc_start : List ℕ → Bool
is_at_heredoc_start t = slice_index t 0 == 60 && slice_index t 1 == 60

abbrev pub here_open : List ℕ → LexedToken
here_open t =
    if is_at_heredoc_start t
    then open_with_marker (heredoc_start_length t) (drop (heredoc_start_length t) t)
    (identifier (drop (heredoc_start_length t) t))
    else None

-- ---- the text

-- of a closing line
abbrev pub closing_line_length : List ℕ → List ℕ → ℕ
closing_line_length name t =
    prefix_len is_whitespace t + length name + prefix_len is_whitespace (after_marker name t)

-- where the heredoc is not closed
abbrev pub heredoc_text_token : List ℕ → Bool → List ℕ → LexedToken
heredoc_text_token name at_line_start t =
    if is_at_opening t then Some (opening t)
    else (if run_length (heredoc_unit name) at_line_start t == 0 then None
    else Some (HereLit, run_length (heredoc_unit name) at_line_start t))

-- in the heredoc with this marker, where a line begins or not
abbrev pub heredoc_token : List ℕ → Bool → List ℕ → LexedToken
heredoc_token name at_line_start t =
    if at_line_start && is_closing_line name t then Some (HereClose, closing_line_length name t)
    else heredoc_text_token name at_line_start t
