-- What an explanation says of a text with tokens.
use Rattle.std.specs.Prelude.{◌≡◌, ◌≢◌, ◌<◌, ◌≤◌, ℕ, zero, suc, Bool, true, false}
use Rattle.std.specs.Prelude.{if◌then◌else◌, List, [], length, Option, Some}
use Rattle.hcl_token.specs.declared.kind.Kind.{Kind}
use Rattle.hcl_token.specs.TokenizedText.{TokenizedText, kind_of}
use Rattle.hcl_token.specs.Tokens.{Pair}
use Rattle.hcl_token.specs.declared.kind.Kind.TheVariants as k
use Rattle.hcl_text_laws.specs.Faults.{byte_offset}
use Rattle.hcl_text_laws.specs.declared.fault.ParseFault.{ParseFault}
use Rattle.hcl_text_laws.specs.declared.fault.ParseFault.TheVariants as fault
use Rattle.hcl_explain.specs.Openings.{closes, open_before, innermost_open, ClosesOuter, ClosesAny}
use Rattle.hcl_explain.specs.declared.explanation.Explanation.{Explanation}
use Rattle.hcl_explain.specs.declared.explanation.Reason.{Reason}
use Rattle.hcl_explain.specs.declared.explanation.Reason.TheVariants as reason

-- a line begins after a token of this kind
abbrev pub is_before_line : Option Kind → Bool
is_before_line (Some k.LineEnd) = true
is_before_line (Some k.LineComment) = true
is_before_line (Some k.Mark) = true
is_before_line _ = false

-- the first token of the line in which token n is, or which it ends
abbrev pub first_in_line : List Pair → ℕ → ℕ
first_in_line pairs zero = zero
first_in_line pairs (suc i) =
    if is_before_line (kind_of pairs i) then suc i else first_in_line pairs i

-- the token closes something, but no opening that is not closed before it
abbrev pub ClosesNothing : List Pair → ℕ → Type 0
ClosesNothing pairs found =
    (kind : Kind) × (kind_of pairs found ≡ Some kind) × (closes kind ≡ true)
    × (ClosesAny pairs found kind → ⊥)

-- the token to be printed: the innermost opening that is not closed before the token that was
-- found; the opening of a directive before it; a token before it in its line; or that token itself
abbrev pub IsToken : List Pair → Reason → ℕ → ℕ → Type 0
IsToken pairs reason.NotClosed token found = innermost_open pairs found ≡ Some token
IsToken pairs reason.NoEnd token found =
    (kind_of pairs token ≡ Some k.DirectiveOpen) × (token < found)
IsToken pairs reason.TooDeep token found = ⊥
IsToken pairs (reason.Expected expected) token found = token ≡ found
IsToken pairs reason.ClosesNothing token found = (token ≡ found) × ClosesNothing pairs found
IsToken pairs (reason.Advice advice) token found = token ≡ found
IsToken pairs (reason.Before advice) token found =
    (first_in_line pairs found ≤ token) × (token < found)

-- an explanation of a syntax error at this token, or at the end of the text
pub record IsSyntaxExplanation (t : TokenizedText) (number : ℕ) (e : Explanation) : Type 0 where
  pub found : e.found ≡ number
  pub token : IsToken t.pairs e.reason e.token number
  -- what closes something blames the innermost opening if and only if it closes one around that
  pub closing : (kind : Kind) (opening : ℕ) → kind_of t.pairs number ≡ Some kind
      → closes kind ≡ true → innermost_open t.pairs number ≡ Some opening
      → (e.reason ≡ reason.NotClosed → ClosesOuter t.pairs opening kind)
      × (ClosesOuter t.pairs opening kind → e.reason ≡ reason.NotClosed)
  -- at the end of the text what is open there is blamed
  pub open_at_end : number ≡ length t.pairs → open_before t.pairs number ≢ []
      → e.reason ≡ reason.NotClosed

-- an explanation of an error: the token that it says was found begins at the byte of the error, or
-- it is the end of the text and the error is there
abbrev pub IsExplanation : TokenizedText → ParseFault → Explanation → Type 0
IsExplanation t (fault.Syntax at) e = (byte_offset t e.found ≡ at) × IsSyntaxExplanation t e.found e
IsExplanation t (fault.TooDeep at) e =
    (byte_offset t e.found ≡ at) × (e.token ≡ e.found) × (e.reason ≡ reason.TooDeep)
IsExplanation t fault.Memory e = ⊥

-- the error is at no token, and not at the end of the text
abbrev pub IsAtNoToken : TokenizedText → ParseFault → Type 0
IsAtNoToken t (fault.Syntax at) = (number : ℕ) → byte_offset t number ≢ at
IsAtNoToken t (fault.TooDeep at) = (number : ℕ) → byte_offset t number ≢ at
IsAtNoToken t fault.Memory = Unit {0}
