-- Tokens whose bytes move from one place to another.
use Rattle.std.specs.Prelude.{ℕ, ◌+◌, ◌-◌, ◌^◌, ◌<◌, ◌≤◌, List, [], ◌∷◌, ⊤}
use Rattle.hcl_token.specs.declared.span.Span.{Span}
use Rattle.hcl_scan.specs.Tokenization.{MAX_TEXT}

-- the token, if the bytes from the one place on move to the other
abbrev pub moved_span : ℕ → ℕ → Span → Span
moved_span from to token =
    record { start = to + (token.start - from); stop = to + (token.stop - from); kind = token.kind }

abbrev pub moved_spans : ℕ → ℕ → List Span → List Span
moved_spans from to [] = []
moved_spans from to (token ∷ tokens) = moved_span from to token ∷ moved_spans from to tokens

-- the token is after the one place, and begins within a text after the other
pub record IsMovable (from to : ℕ) (token : Span) : Type 0 where
  pub start : from ≤ token.start
  pub stop : token.start ≤ token.stop
  pub fits : to + (token.start - from) < MAX_TEXT
  pub short : to + (token.stop - from) < 2 ^ 32

abbrev pub AreMovable : ℕ → ℕ → List Span → Type 0
AreMovable from to [] = ⊤
AreMovable from to (token ∷ tokens) = IsMovable from to token × AreMovable from to tokens
