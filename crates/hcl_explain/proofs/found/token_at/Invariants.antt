use Rattle.std.proofs.Common.{◌≢◌, ℕ, ◌<◌}
use Rattle.hcl_text_laws.specs.Faults.{byte_offset}
use Rattle.hcl_explain.proofs.found.token_at.Given as goal

-- no token before this one begins at the byte
abbrev pub invariant-loop-number : goal.invariant-loop-number
invariant-loop-number l = (i : ℕ) → i < l.number → byte_offset l.scanned i ≢ l.at
