-- Bytes looked up in tables of 16 numbers. First the bits that two tables have in common at a byte:
-- one by its low four bits, one by its high four bits.
use Rattle.std.specs.Prelude.{ℕ, ◌/◌, List, slice_index, bit_and}
use Rattle.std.specs.Int.Bits.{bit_xor}

abbrev pub flags_of : List ℕ → List ℕ → ℕ → ℕ
flags_of low high b = bit_and (slice_index low (bit_and b 15)) (slice_index high (b / 16))

-- The bits in which a byte differs from the number that a table of 16 has at its low four bits.
abbrev pub difference_at : List ℕ → ℕ → ℕ
difference_at table b = bit_xor b (slice_index table (bit_and b 15))
