-- The closing line of a heredoc, and its text. HCL native syntax specification, Template
-- Expressions, heredocs.
use Rattle.std.specs.Prelude.{◌≡◌, ℕ, Bool, true, ◌&&◌, List, [], ◌∷◌, ◌++◌, length, drop, if◌then◌else◌}
use Rattle.std.specs.List.{list_all, prefix_len}
use Rattle.hcl_scan.specs.Runs.{UnitLength}
use Rattle.hcl_scan.specs.Characters.{is_whitespace, is_at_line_end, is_sigil, sigil_length, is_prefix_of}

-- a line end, or the end of the text
abbrev pub is_at_line_end_or_eof : List ℕ → Bool
is_at_line_end_or_eof [] = true
is_at_line_end_or_eof (b ∷ t) = is_at_line_end (b ∷ t)

-- whitespace, the marker, whitespace, and then a line end or the end of the text
abbrev pub IsClosingLine : List ℕ → List ℕ → List ℕ → Type 0
IsClosingLine name s rest =
    (before : List ℕ) × (after : List ℕ) × (s ≡ before ++ (name ++ after))
    × (list_all is_whitespace before ≡ true) × (list_all is_whitespace after ≡ true)
    × (is_at_line_end_or_eof rest ≡ true)

-- the text without its leading whitespace and as many bytes as the marker has
abbrev pub after_marker : List ℕ → List ℕ → List ℕ
after_marker name t = drop (length name) (drop (prefix_len is_whitespace t) t)

-- a closing line begins here
abbrev pub is_closing_line : List ℕ → List ℕ → Bool
is_closing_line name t =
    is_prefix_of name (drop (prefix_len is_whitespace t) t)
    && is_at_line_end_or_eof (drop (prefix_len is_whitespace (after_marker name t)) (after_marker name t))

-- a unit of a heredoc's text: `$${`, `%%{`, or any byte at which no `${` or `%{` begins; none where
-- a line begins that closes the heredoc
abbrev pub heredoc_unit : List ℕ → UnitLength
heredoc_unit name at_line_start [] = 0
heredoc_unit name at_line_start (b ∷ rest) =
    if at_line_start && is_closing_line name (b ∷ rest) then 0
    else (if is_sigil b then sigil_length b rest else 1)
