-- Where edits end, as a run of edits is written: its middle edit is counted from the run's start,
-- and the edits before and after it are runs in the same form.
use Rattle.std.specs.Prelude.{◌≡◌, ◌⊎◌, ℕ, zero, suc, ◌+◌, ◌-◌, ◌/◌, ◌^◌, ◌≤◌, ◌<◌, List, [], ◌∷◌, ◌++◌}
use Rattle.std.specs.Prelude.{length, map, take, drop, Option, Some, None}
use Rattle.std.specs.List.{AllByRecursion}
use Rattle.edit_record.specs.declared.swaps.relative_ends.EndOffset.{EndOffset}

abbrev pub plus : EndOffset → EndOffset → EndOffset
plus a b = record { old = a.old + b.old; new = a.new + b.new }

abbrev pub no_offset : EndOffset
no_offset = record { old = 0; new = 0 }

-- where the edits of a run end, counted from its start, in order; a run is halved that often at
-- most
abbrev pub ends : ℕ → List EndOffset → List EndOffset
ends zero run = []
ends (suc n) run =
    elim (drop (length run / 2) run) [
      | [] ↦ []
      | x ∷ right ↦ ends n (take (length run / 2) run) ++ x ∷ map (plus x) (ends n right)
    ]

abbrev pub ends_of : List EndOffset → List EndOffset
ends_of run = ends (length run) run

-- sums of two are no overflow
abbrev pub IsSmall : EndOffset → Type 0
IsSmall e = (e.old ≤ 2 ^ 40) × (e.new ≤ 2 ^ 40)

-- the last edit of these, which ends before the place, or none
abbrev pub LastEndsBefore : ℕ → List EndOffset → EndOffset → Type 0
LastEndsBefore at es last =
    ((es ≡ []) × (last ≡ no_offset))
    ⊎ ((init : List EndOffset) × (es ≡ init ++ last ∷ []) × (last.new < at))

-- the first edit of these, which ends at the place or after it, or none
abbrev pub NextEndsAt : ℕ → List EndOffset → Option ℕ → Type 0
NextEndsAt at [] next = next ≡ None
NextEndsAt at (e ∷ es) next = (next ≡ Some e.new) × (at ≤ e.new)

-- the edits that end before the place: how many they are, where the last one ends, and the next
-- edit
pub record IsPartition (at : ℕ) (es : List EndOffset) (count : ℕ) (last : EndOffset)
    (next : Option ℕ) : Type 0 where
  pub prefix : List EndOffset
  pub suffix : List EndOffset
  pub split : es ≡ prefix ++ suffix
  pub count_is : count ≡ length prefix
  pub last_is : LastEndsBefore at prefix last
  pub next_is : NextEndsAt at suffix next

-- the end of the edit of this number
pub record IsEndOf (es : List EndOffset) (number : ℕ) (end : EndOffset) : Type 0 where
  pub prefix : List EndOffset
  pub suffix : List EndOffset
  pub split : es ≡ prefix ++ end ∷ suffix
  pub number_is : number ≡ length prefix

-- `later` bytes later, and `earlier` bytes earlier
abbrev pub shifted : EndOffset → ℕ → EndOffset → EndOffset
shifted later earlier e =
    record { old = (e.old + later.old) - earlier; new = (e.new + later.new) - earlier }

abbrev pub shifted_from : ℕ → EndOffset → ℕ → List EndOffset → List EndOffset
shifted_from from later earlier es = take from es ++ map (shifted later earlier) (drop from es)

-- e is at least d bytes after f
abbrev pub EndsAfterBy : ℕ → EndOffset → EndOffset → Type 0
EndsAfterBy d f e = (f.old + d ≤ e.old) × (f.new + d ≤ e.new)

-- the edits from this one on end at least d bytes after the start, and after all edits before this
-- one
pub record CanShift (d from : ℕ) (es : List EndOffset) : Type 0 where
  pub start : AllByRecursion (EndsAfterBy d no_offset) (drop from es)
  pub after_others : AllByRecursion (λ f. AllByRecursion (EndsAfterBy d f) (drop from es)) (take from es)
