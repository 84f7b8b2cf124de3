-- The table of two digits is held against the digits of each number below 100, by computing.
use Rattle.std.proofs.Common.{◌≡◌, ℕ, zero, suc, ◌+◌, ◌*◌, ◌/◌, ◌%◌, ◌<◌, Bool, true, ◌&&◌, nat_eq, get_or, List, arith, inl, inr}
use Rattle.std.proofs.lemmas.Bool.{cases_eq, eqb-true}
use Rattle.edit_record.proofs.Choices.{both_true}

-- the table has both digits of this number
abbrev has_pair : List ℕ → ℕ → Bool
has_pair table n = nat_eq (get_or table (n * 2) 0) (48 + n / 10) && nat_eq (get_or table (n * 2 + 1) 0) (48 + n % 10)

-- it has those of each number below n
unfoldable pub has_pairs : List ℕ → ℕ → Bool
has_pairs table zero = true
has_pairs table (suc n) = has_pair table n && has_pairs table n

pub pair_at : (table : List ℕ) (limit n : ℕ) → has_pairs table limit ≡ true → n < limit → (get_or table (n * 2) 0 ≡ 48 + n / 10) × (get_or table (n * 2 + 1) 0 ≡ 48 + n % 10)
unfolding has_pairs
pair_at table zero n h lt = absurd (omega arith)
pair_at table (suc m) n h lt =
    let both = both_true (has_pair table m) (has_pairs table m) h in
    elim (cases_eq n m) [
      | inl same ↦
          let pair = both_true (nat_eq (get_or table (m * 2) 0) (48 + m / 10)) (nat_eq (get_or table (m * 2 + 1) 0) (48 + m % 10)) both.0 in
          rw same (eqb-true (get_or table (m * 2) 0) (48 + m / 10) pair.0, eqb-true (get_or table (m * 2 + 1) 0) (48 + m % 10) pair.1)
      | inr other ↦ pair_at table m n both.1 (omega arith)
    ]
