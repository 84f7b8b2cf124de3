-- Tokens that are in two lists.
use Rattle.std.specs.Prelude.{◌≡◌, ◌≤◌, ◌<◌, ℕ, ◌+◌, ◌^◌, List, length, take, drop}
use Rattle.hcl_grammar.specs.Tokens.{Token}

-- `count` tokens from number `from` on in the one list are those from number `to` on in the other:
-- of the same kinds, spelled alike
pub record SameTokens (old new : List Token) (from to count : ℕ) : Type 0 where
  pub in_old : from + count ≤ length old
  pub in_new : to + count ≤ length new
  pub fits : to + count < 2 ^ 32
  pub same : take count (drop from old) ≡ take count (drop to new)
