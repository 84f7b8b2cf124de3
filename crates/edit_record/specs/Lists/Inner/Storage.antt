-- How an edit stores the bytes that it removes and adds: in one list, the removed bytes first.
use Rattle.std.specs.Prelude.{ℕ, ◌≤◌, List, length, take, drop}
use Rattle.edit_record.specs.declared.lists.edit.TheConstants.{INLINE_CAPACITY}
use Rattle.edit_record.specs.declared.lists.edit.Storage.{Storage}
use Rattle.edit_record.specs.declared.lists.edit.Storage.TheVariants.{Inline, Heap}

-- the removed bytes
abbrev pub removed_of : Storage → List ℕ
removed_of (Inline removed_end len bytes) = take removed_end bytes
removed_of (Heap long) = take long.value.removed_end long.value.bytes.items

-- the added bytes
abbrev pub added_of : Storage → List ℕ
added_of (Inline removed_end len bytes) = drop removed_end (take len bytes)
added_of (Heap long) = drop long.value.removed_end long.value.bytes.items

-- the removed bytes are a part of the stored ones, and inline bytes are within the capacity
abbrev pub IsValidStorage : Storage → Type 0
IsValidStorage (Inline removed_end len bytes) = (removed_end ≤ len) × (len ≤ INLINE_CAPACITY)
IsValidStorage (Heap long) = long.value.removed_end ≤ length long.value.bytes.items
