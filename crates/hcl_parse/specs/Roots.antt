-- What a parser that makes nothing answers, by the one that makes nodes.
use Rattle.std.specs.Prelude.{◌≡◌, ◌≢◌, ℕ, Result, Ok, Err}
use Rattle.hcl_grammar.specs.declared.fault.TokenFault.{TokenFault}
use Rattle.hcl_grammar.specs.declared.fault.TokenFault.TheVariants.{Memory}
use Rattle.hcl_grammar.specs.Pure.Reading.{Outcome}

-- a parser that makes nothing ends where this one ends, or has its error, which is not that memory
-- ran out
abbrev pub Ends : {A : Type 0} → Outcome A → Result (Unit {0}) TokenFault → ℕ → Type 0
Ends {A} outcome (Ok y) new = (x : A) × (outcome ≡ Ok (x, new))
Ends outcome (Err e) new = (outcome ≡ Err e) × (e ≢ Memory)
