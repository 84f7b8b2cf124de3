-- The quoted text that follows a `"`, where its length is known before the `"` is added.
use Rattle.std.specs.Prelude.{◌≡◌, ◌+◌, ◌≤◌, ℕ, false, List, length, drop, IfSome}
use Rattle.hcl_token.specs.declared.kind.Kind.TheVariants.{QuoteOpen}
use Rattle.hcl_scan.specs.Lexeme.{quote_unit}
use Rattle.hcl_scan.specs.Inner.LexemeStarts.{LexedToken}
use Rattle.hcl_scan.specs.Inner.RunLength.{run_length}

-- the token at this place, if there is one, is a `"`, and the text after it has this many bytes
abbrev pub IsTextAfter : List ℕ → ℕ → LexedToken → ℕ → Type 0
IsTextAfter text start found len = IfSome found (λ f.
    (f.0 ≡ QuoteOpen)
    × (len ≡ run_length quote_unit false (drop (start + f.1) text))
    × (start + f.1 + len ≤ length text))
