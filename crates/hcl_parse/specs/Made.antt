-- What a method of a builder ensures.
use Rattle.std.specs.Prelude.{◌≡◌, Bool, true, Result, MatchResult}

-- its result is what a maker makes, unless memory ran out, if it may
abbrev pub IsMade : {A E : Type 0} → Bool → Result A E → A → Type 0
IsMade may_run_out result made = MatchResult result (λ x. x ≡ made) (λ _. may_run_out ≡ true)

-- what it has added to is that, unless memory ran out, if it may
abbrev pub IsAdded : {A E : Type 0} → Bool → Result (Unit {0}) E → A → A → Type 0
IsAdded may_run_out result all made = MatchResult result (λ _. all ≡ made) (λ _. may_run_out ≡ true)
