-- How much memory a list has while its edits are read.
use Rattle.std.specs.Prelude.{ℕ, ◌+◌, ◌≤◌}
use Rattle.edit_record.specs.declared.list_capacity.TheConstants.{MOST_RESERVED}

-- A list with this many edits has memory for at most 1,024 edits and twice as many as it has. So
-- how much is reserved depends on what was read, and not on a number in the text.
abbrev pub HasFewSpare : ℕ → ℕ → Type 0
HasFewSpare len capacity = capacity ≤ MOST_RESERVED + (len + len)
