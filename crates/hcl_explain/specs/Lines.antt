-- Lines of a text: where one ends, and the one that should close a heredoc.
use Rattle.std.specs.Prelude.{ℕ, zero, suc, ◌-◌, ◌==◌, ◌&&◌, ◌||◌, Bool, not, if◌then◌else◌}
use Rattle.std.specs.Prelude.{List, [], ◌∷◌, length, take, drop, slice_index}
use Rattle.std.specs.List.{prefix_len}
use Rattle.std.specs.Str.{byte}
use Rattle.hcl_token.specs.Bytes.{line_feed, minus}
use Rattle.hcl_scan.specs.Modes.{marker_of}
use Rattle.hcl_scan.specs.Closing.{is_closing_line}

abbrev pub is_not_line_feed : ℕ → Bool
is_not_line_feed b = not (b == line_feed)

-- the first line of a text, without its line feed
abbrev pub first_line : List ℕ → List ℕ
first_line text = take (prefix_len is_not_line_feed text) text

-- the text from its first line feed on
abbrev pub after_line : List ℕ → List ℕ
after_line text = drop (prefix_len is_not_line_feed text) text

-- where the line of a byte ends
abbrev pub line_end : List ℕ → ℕ → ℕ
line_end text at = length text - length (after_line (drop at text))

-- where the line of a byte begins
abbrev pub line_start : List ℕ → ℕ → ℕ
line_start text zero = zero
line_start text (suc i) = if slice_index text i == line_feed then suc i else line_start text i

-- the signs of the lines that git writes where a merge has a conflict
abbrev pub is_marker_sign : ℕ → Bool
is_marker_sign b = b == byte "<" || b == byte "|" || b == byte "=" || b == byte ">"

-- the text begins with seven of one of these, and not with eight
abbrev pub is_conflict_marker : List ℕ → Bool
is_conflict_marker line =
    is_marker_sign (slice_index line 0) && prefix_len (λ b. b == slice_index line 0) line == 7

-- what follows the `<<` or `<<-` of a heredoc
abbrev pub after_opening : List ℕ → List ℕ
after_opening text = drop (if slice_index text 2 == minus then 3 else 2) text

-- the text from its first line on, but for that in which it begins, which is this marker alone
abbrev pub from_closing : List ℕ → List ℕ → List ℕ
from_closing marker [] = []
from_closing marker (b ∷ rest) =
    if b == line_feed && is_closing_line marker rest then rest else from_closing marker rest

-- where the first line begins that is the marker alone of the heredoc of a byte; the end of the
-- text, if there is none
abbrev pub closing_place : List ℕ → ℕ → ℕ
closing_place text at =
    length text - length (from_closing (marker_of (drop at text)) (drop at text))
