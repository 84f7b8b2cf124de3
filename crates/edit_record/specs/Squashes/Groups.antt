-- Which edits of two lists become one, and where.
use Rattle.std.specs.Prelude.{ℕ, zero, suc, ◌+◌, ◌-◌, List, [], ◌∷◌, length, drop, max, Bool, false, true}
use Rattle.std.specs.Prelude.{nat_le, ◌==◌, ◌&&◌, if◌then◌else◌}
use Rattle.edit_record.specs.Lists.Pieces.{EditEntry}

-- An edit as a range of the text between the two lists: the bytes that it adds, if it is in the
-- first list, or that it removes, if it is in the second. `other` is the length of its other side.
pub record Span : Type 0 where
  pub from : ℕ
  pub len : ℕ
  pub other : ℕ

abbrev pub span_end : Span → ℕ
span_end x = x.from + x.len

-- the edits of the first list; the old text and the text between are the same from these places to
-- the first edit
abbrev pub added_spans : ℕ → ℕ → List EditEntry → List Span
added_spans old mid [] = []
added_spans old mid (e ∷ es) =
    let from = mid + (e.at - old) in
    record { from = from; len = length e.added; other = length e.removed }
    ∷ added_spans (e.at + length e.removed) (from + length e.added) es

-- the edits of the second list
abbrev pub removed_spans : List EditEntry → List Span
removed_spans [] = []
removed_spans (e ∷ es) =
    record { from = e.at; len = length e.removed; other = length e.added } ∷ removed_spans es

-- What a group of edits has of one of the lists: whether there is an edit of it; where the last one
-- ends in the text between, or else where the group begins; and how many bytes the text on the
-- list's other side has from the start to there.
pub record Side : Type 0 where
  pub some : Bool
  pub end : ℕ
  pub other : ℕ

-- edits that become one
pub record Group : Type 0 where
  pub from : ℕ
  pub first : Side
  pub second : Side

-- there is none yet
abbrev pub empty_group : ℕ → Group
empty_group from =
    let side : Side = record { some = false; end = from; other = 0 } in
    record { from = from; first = side; second = side }

-- with the next of these edits; up to it the list keeps all bytes
abbrev pub with_next : List Span → Side → Side
with_next [] side = side
with_next (x ∷ xs) side =
    record { some = true; end = span_end x; other = side.other + (x.from - side.end) + x.other }

-- the next of these edits overlaps or touches the last of the other list: it begins before that
-- ends, or where it ends
abbrev pub next_touches : List Span → Side → Bool
next_touches [] others = false
next_touches (x ∷ xs) others = others.some && nat_le x.from others.end

-- where the next edit begins, and whether xs has it
abbrev pub next_start : List Span → ℕ
next_start [] = 0
next_start (x ∷ xs) = x.from

abbrev pub first_span_is_next : List Span → List Span → Bool
first_span_is_next [] ys = false
first_span_is_next (x ∷ xs) [] = true
first_span_is_next (x ∷ xs) (y ∷ ys) = nat_le x.from y.from

-- The groups of n edits that are left, xs of the first list and ys of the second; g is made first.
-- The next edit of either list joins it if it overlaps or touches one of the other list in it.
-- If neither does, g is done, and the next edit begins another group.
abbrev pub groups_of : ℕ → Group → List Span → List Span → List Group
groups_of zero g xs ys = g ∷ []
groups_of (suc n) g xs ys =
    let first : Group → List Group = λ h.
    groups_of n (record h { first = with_next xs h.first }) (drop 1 xs) ys in
    let second : Group → List Group = λ h.
    groups_of n (record h { second = with_next ys h.second }) xs (drop 1 ys) in
    if next_touches xs g.second then first g
    else (if next_touches ys g.first then second g
    else g ∷ (if first_span_is_next xs ys then first (empty_group (next_start xs))
    else second (empty_group (next_start ys))))

-- where an edit is, and how much it removes and adds
pub record Extent : Type 0 where
  pub at : ℕ
  pub removed : ℕ
  pub added : ℕ

abbrev pub extent_of : EditEntry → Extent
extent_of e = record { at = e.at; removed = length e.removed; added = length e.added }

-- how many bytes the other text has from the group's start to a place after the last edit
abbrev pub other_len_to : ℕ → Side → ℕ
other_len_to to side = side.other + (to - side.end)

-- an edit with nothing on either side is dropped
abbrev pub cons_nonempty : Extent → List Extent → List Extent
cons_nonempty e es = if (e.removed == 0) && (e.added == 0) then es else e ∷ es

-- The edits of groups, one of each. The old text and the text between are the same from these
-- places to the first.
abbrev pub group_extents : ℕ → ℕ → List Group → List Extent
group_extents old mid [] = []
group_extents old mid (g ∷ gs) =
    let to = max g.first.end g.second.end in
    let removed = other_len_to to g.first in
    let added = other_len_to to g.second in
    let at = old + (g.from - mid) in
    cons_nonempty (record { at = at; removed = removed; added = added })
    (group_extents (at + removed) to gs)

-- what the edits of both lists become
abbrev pub squashed_extents : List EditEntry → List EditEntry → List Extent
squashed_extents a b =
    group_extents 0 0
    (groups_of (length a + length b) (empty_group 0) (added_spans 0 0 a) (removed_spans b))
