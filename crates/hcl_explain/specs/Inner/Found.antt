-- Explanations that say of no opening that it is not closed.
use Rattle.std.specs.Prelude.{◌≡◌, ◌≢◌, ℕ, List}
use Rattle.hcl_token.specs.Tokens.{Pair}
use Rattle.hcl_explain.specs.Explanations.{ClosesNothing, IsToken}
use Rattle.hcl_explain.specs.declared.explanation.Explanation.{Explanation}
use Rattle.hcl_explain.specs.declared.explanation.Reason.{Reason}
use Rattle.hcl_explain.specs.declared.explanation.Reason.TheVariants as reason

-- the reason is one that is printed at the token that was found
abbrev pub IsAtFound : List Pair → Reason → ℕ → Type 0
IsAtFound pairs reason.NotClosed found = ⊥
IsAtFound pairs reason.NoEnd found = ⊥
IsAtFound pairs reason.TooDeep found = ⊥
IsAtFound pairs (reason.Expected expected) found = Unit {0}
IsAtFound pairs reason.ClosesNothing found = ClosesNothing pairs found
IsAtFound pairs (reason.Advice advice) found = Unit {0}
IsAtFound pairs (reason.Before advice) found = ⊥

-- and none that says of an opening that it is not closed
abbrev pub IsOfFound : List Pair → Reason → ℕ → Type 0
IsOfFound pairs why found = (why ≢ reason.NotClosed) × IsAtFound pairs why found

-- an explanation at this token that says of no opening that it is not closed
abbrev pub IsOtherExplanation : List Pair → ℕ → Explanation → Type 0
IsOtherExplanation pairs found e =
    (e.found ≡ found) × (e.reason ≢ reason.NotClosed) × IsToken pairs e.reason e.token found
