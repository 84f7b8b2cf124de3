-- The mode of a first journal beside a text.
use Rattle.std.specs.Prelude.{ℕ, Bool, true, false, bit_and, bit_or}

-- With the text's owner: its bits for reading and writing (0o666). Else the journal's own owner may
-- read and write it (0o600), as may those for whom the text has these bits: of its group (0o060), if
-- the journal has it, and of all others (0o006).
abbrev pub first_journal_mode : ℕ → Bool → Bool → ℕ
first_journal_mode text true has_group = bit_and text 438
first_journal_mode text false true = bit_or 384 (bit_and text 54)
first_journal_mode text false false = bit_or 384 (bit_and text 6)
