-- Edits that overlap, touch or cancel each other, by computing what both lists become.
use Rattle.std.proofs.Common.{◌≡◌, ℕ, List, [], ◌∷◌, refl}
use Rattle.edit_record.specs.Lists.Pieces.{EditEntry}
use Rattle.edit_record.specs.Squashes.Groups.{Extent, squashed_extents}

abbrev edit : ℕ → List ℕ → List ℕ → EditEntry
edit at removed added = record { at = at; removed = removed; added = added }

abbrev is : ℕ → ℕ → ℕ → Extent
is at removed added = record { at = at; removed = removed; added = added }

-- at 1 `b` to `xy`; then at 2 `y` to nothing: at 1 one byte to one
partly_removed : squashed_extents (edit 1 (1 ∷ []) (2 ∷ 3 ∷ []) ∷ []) (edit 2 (3 ∷ []) [] ∷ []) ≡ is 1 1 1 ∷ []
partly_removed = refl

-- nothing to `x`; then `x` to nothing: no edit
cancelled : squashed_extents (edit 1 [] (1 ∷ []) ∷ []) (edit 1 (1 ∷ []) [] ∷ []) ≡ []
cancelled = refl

-- `a` to `b` and back: kept, since both sides are equal and not empty
back_again : squashed_extents (edit 0 (1 ∷ []) (2 ∷ []) ∷ []) (edit 0 (2 ∷ []) (1 ∷ []) ∷ []) ≡ is 0 1 1 ∷ []
back_again = refl

-- at 1 nothing to `x`; then at 2 `b` to `c`: they touch
touching : squashed_extents (edit 1 [] (1 ∷ []) ∷ []) (edit 2 (2 ∷ []) (3 ∷ []) ∷ []) ≡ is 1 1 2 ∷ []
touching = refl

-- at 0 `a` to `A` and at 2 `c` to `C`; then `AbC` to `z`
overlapping : squashed_extents (edit 0 (1 ∷ []) (2 ∷ []) ∷ edit 2 (3 ∷ []) (4 ∷ []) ∷ []) (edit 0 (2 ∷ 5 ∷ 4 ∷ []) (6 ∷ []) ∷ []) ≡ is 0 3 1 ∷ []
overlapping = refl

-- edits of one list that touch stay apart
apart_first : squashed_extents (edit 0 (1 ∷ []) (2 ∷ []) ∷ edit 1 (3 ∷ []) (4 ∷ []) ∷ []) [] ≡ is 0 1 1 ∷ is 1 1 1 ∷ []
apart_first = refl

apart_second : squashed_extents [] (edit 0 (1 ∷ []) (2 ∷ []) ∷ edit 1 (3 ∷ []) (4 ∷ []) ∷ []) ≡ is 0 1 1 ∷ is 1 1 1 ∷ []
apart_second = refl

-- unless an edit of the other list links them: here one with nothing to remove, between the two
linked_through : squashed_extents (edit 0 (1 ∷ []) (2 ∷ []) ∷ edit 1 (3 ∷ []) (4 ∷ []) ∷ []) (edit 1 [] (9 ∷ []) ∷ []) ≡ is 0 2 3 ∷ []
linked_through = refl

-- the first edit of the second list links the first alone
linked_one : squashed_extents (edit 0 (1 ∷ []) (2 ∷ []) ∷ edit 1 (3 ∷ []) (4 ∷ []) ∷ []) (edit 0 [] (9 ∷ []) ∷ []) ≡ is 0 1 2 ∷ is 1 1 1 ∷ []
linked_one = refl

-- three edits at one place, two of the first list (one with nothing added) and one of the second
-- after them
at_one_place : squashed_extents (edit 5 (1 ∷ []) (2 ∷ 2 ∷ 2 ∷ []) ∷ edit 6 (3 ∷ []) [] ∷ []) (edit 8 (4 ∷ []) [] ∷ []) ≡ is 5 3 3 ∷ []
at_one_place = refl

-- places after edits that change lengths, in both texts; what is dropped moves none
places : squashed_extents (edit 2 [] (1 ∷ 1 ∷ []) ∷ edit 10 (5 ∷ []) [] ∷ []) (edit 2 (1 ∷ 1 ∷ []) [] ∷ edit 6 [] (7 ∷ []) ∷ edit 20 (8 ∷ []) (8 ∷ 8 ∷ []) ∷ []) ≡ is 4 0 1 ∷ is 10 1 0 ∷ is 19 1 2 ∷ []
places = refl

-- Two groupings of three lists can give two lists of edits, so that grouping is associative on lists is not true. The first adds a
-- byte at 5, the second removes it, the third has two edits that touch at 5. From the left, the first two leave no edit:
from_left : squashed_extents [] (edit 4 (1 ∷ []) (2 ∷ []) ∷ edit 5 (3 ∷ []) (4 ∷ []) ∷ []) ≡ is 4 1 1 ∷ is 5 1 1 ∷ []
from_left = refl

left_leaves_none : squashed_extents (edit 5 [] (9 ∷ []) ∷ []) (edit 5 (9 ∷ []) [] ∷ []) ≡ []
left_leaves_none = refl

-- from the right, the edit of the second links both of the third
right_links : squashed_extents (edit 5 (9 ∷ []) [] ∷ []) (edit 4 (1 ∷ []) (2 ∷ []) ∷ edit 5 (3 ∷ []) (4 ∷ []) ∷ []) ≡ is 4 3 2 ∷ []
right_links = refl

from_right : squashed_extents (edit 5 [] (9 ∷ []) ∷ []) (edit 4 (1 ∷ 9 ∷ 3 ∷ []) (2 ∷ 4 ∷ []) ∷ []) ≡ is 4 2 2 ∷ []
from_right = refl
