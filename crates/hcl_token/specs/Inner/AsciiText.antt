-- Texts in which each byte is a grapheme cluster.
use Rattle.std.specs.Prelude.{ℕ, Bool, not, ◌&&◌, nat_lt, List, ◌==◌}
use Rattle.std.specs.List.{list_all}

-- ASCII without CR
abbrev pub is_ascii_without_cr : List ℕ → Bool
is_ascii_without_cr text = list_all (λ b. nat_lt b 128 && not (b == 13)) text
