-- Swapping two lists of edits, the second of which follows the first. What this means for exact
-- edits is this project's own, and is defined here.
use Rattle.std.specs.Prelude.{◌≡◌, ◌≢◌, ◌↔◌, ◌⊎◌, ℕ, zero, suc, ◌+◌, ◌≤◌, ◌<◌, List, [], ◌∷◌, length, sum_by}
use Rattle.std.specs.Prelude.{Bool, nat_lt, if◌then◌else◌, Result, Ok, Err}
use Rattle.edit_record.specs.Lists.Pieces.{EditEntry, EditList, Transforms, removed_len, added_len}
use Rattle.edit_record.specs.Lists.Validity.{new_len}
use Rattle.edit_record.specs.declared.lists.edits.TheConstants.{MAX_TEXT}
use Rattle.edit_record.specs.Squashes.Groups.{Span, span_end, added_spans, removed_spans}
use Rattle.edit_record.specs.declared.swaps.swap_lists.SwapFault.{SwapFault}
use Rattle.edit_record.specs.declared.swaps.swap_lists.SwapFault.TheVariants.{LengthsDiffer, Meets, TooLong}
use Rattle.edit_record.specs.declared.swaps.swap_lists.SwapFault.TheVariants.{Memory}

-- ---- which edits meet

-- x is the member of this number, counted from 0
abbrev pub IsItem : {X : Type 0} → ℕ → X → List X → Type 0
IsItem i x [] = ⊥
IsItem zero x (y ∷ ys) = x ≡ y
IsItem (suc i) x (y ∷ ys) = IsItem i x ys

-- they overlap or touch
pub record Touch (x y : Span) : Type 0 where
  pub one_way : x.from ≤ span_end y
  pub other_way : y.from ≤ span_end x

-- In the text between, the bytes that this edit of the first list added and those that that edit of
-- the second removes overlap or touch: squashing would make one edit of the two.
pub record Meet (a b : EditList) (first second : ℕ) : Type 0 where
  pub one : Span
  pub other : Span
  pub one_is : IsItem first one (added_spans 0 0 a.entries)
  pub other_is : IsItem second other (removed_spans b.entries)
  pub linked : Touch one other

-- of the edits that meet, these have the lowest number in the second list, and then in the first
pub record FirstMeeting (a b : EditList) (first second : ℕ) : Type 0 where
  pub meet : Meet a b first second
  pub lowest : (i j : ℕ) → Meet a b i j → (second < j) ⊎ ((second ≡ j) × (first ≤ i))

-- no edits meet
abbrev pub NoneMeet : EditList → EditList → Type 0
NoneMeet a b = (i j : ℕ) → Meet a b i j → ⊥

-- ---- the other order

-- x ends before y begins
abbrev pub is_before : Span → Span → Bool
is_before x y = nat_lt (span_end x) y.from

-- how many bytes of the text between are those of edits before this one, and how many bytes these
-- have on their other side
abbrev pub len_before : Span → List Span → ℕ
len_before y xs = sum_by (λ x. if is_before x y then x.len else 0) xs

abbrev pub other_len_before : Span → List Span → ℕ
other_len_before y xs = sum_by (λ x. if is_before x y then x.other else 0) xs

-- The edit in its new place: it removes and adds the same bytes, and is moved by the bytes that the
-- edits of the other list before it remove and add.
pub record IsRelocated (others : List Span) (span : Span) (old new : EditEntry) : Type 0 where
  pub at : new.at + len_before span others ≡ old.at + other_len_before span others
  pub removed : new.removed ≡ old.removed
  pub added : new.added ≡ old.added

-- each edit of a list in its new place, in the same order
abbrev pub AreRelocated : List Span → List Span → List EditEntry → List EditEntry → Type 0
AreRelocated others [] [] [] = Unit {0}
AreRelocated others (x ∷ xs) (old ∷ olds) (new ∷ news) =
    IsRelocated others x old new × AreRelocated others xs olds news
AreRelocated others _ _ _ = ⊥

-- The edits of b2 are those of b without a before them, and the edits of a2 are those of a with b
-- before them. By a and then b the same texts turn into each other as by b2 and then a2. The last
-- alone would let another edit with the same bytes take the place of the one that is meant, so the
-- places are said too.
pub record IsSwap (a b b2 a2 : EditList) : Type 0 where
  pub old_len_is : b2.old_len ≡ a.old_len
  pub mid_len_is : a2.old_len ≡ new_len b2
  pub seconds : AreRelocated (added_spans 0 0 a.entries) (removed_spans b.entries) b.entries b2.entries
  pub firsts : AreRelocated (removed_spans b.entries) (added_spans 0 0 a.entries) a.entries a2.entries
  pub equivalent : (t v : List ℕ)
      → ((u : List ℕ) × Transforms a t u × Transforms b u v)
      ↔ ((u : List ℕ) × Transforms b2 t u × Transforms a2 u v)

-- two lists can be swapped in one way at most
abbrev pub SwapIsUnique : Type 0
SwapIsUnique =
    (a b b2 a2 d2 c2 : EditList) → IsSwap a b b2 a2 → IsSwap a b d2 c2 → (b2 ≡ d2) × (a2 ≡ c2)

-- the old texts of a, with what b adds and without what it removes, are over the limit
abbrev pub ExceedsLimit : EditList → EditList → Type 0
ExceedsLimit a b = MAX_TEXT + removed_len b.entries < a.old_len + added_len b.entries

-- they are within it
abbrev pub IsWithinLimit : EditList → EditList → Type 0
IsWithinLimit a b = a.old_len + added_len b.entries ≤ MAX_TEXT + removed_len b.entries

-- a and b are swapped to b2 and a2: the lengths match, no edits meet, and the text between is not
-- too long in the other order
pub record SwapTo (a b b2 a2 : EditList) : Type 0 where
  pub lengths_match : new_len a ≡ b.old_len
  pub apart : NoneMeet a b
  pub within : IsWithinLimit a b
  pub swap : IsSwap a b b2 a2

-- ---- what `swap` returns

-- the two lists can be swapped, and have an edit: `swap` allocates for no other two lists
pub record SwapMayAllocate (a b : EditList) : Type 0 where
  pub lengths_match : new_len a ≡ b.old_len
  pub apart : NoneMeet a b
  pub within : IsWithinLimit a b
  pub some : 0 < length a.entries + length b.entries

-- the lists in the other order, or why they cannot be swapped
abbrev pub IsSwapResult : EditList → EditList → Result (EditList × EditList) SwapFault → Type 0
IsSwapResult a b (Ok x) = SwapTo a b x.0 x.1
IsSwapResult a b (Err LengthsDiffer) = new_len a ≢ b.old_len
IsSwapResult a b (Err (Meets first second)) =
    (new_len a ≡ b.old_len) × FirstMeeting a b first second
IsSwapResult a b (Err TooLong) = (new_len a ≡ b.old_len) × NoneMeet a b × ExceedsLimit a b
IsSwapResult a b (Err Memory) = SwapMayAllocate a b
