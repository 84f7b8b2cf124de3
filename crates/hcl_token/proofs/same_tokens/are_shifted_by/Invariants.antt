use Rattle.std.proofs.Common.{ℕ, ◌<◌, ◌↔◌, IsTrue, get_or}
use Rattle.hcl_token.specs.Inner.SameTokens.{none, IsWordShiftedBy}
use Rattle.hcl_token.proofs.same_tokens.are_shifted_by.Given as goal

abbrev pub invariant-loop-k : goal.invariant-loop-k
invariant-loop-k l = IsTrue l.are_shifted ↔ ((m : ℕ) → m < l.k → IsWordShiftedBy l.shift (get_or l.tokens m none) (get_or l.others m none))
