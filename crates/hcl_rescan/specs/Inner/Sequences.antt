-- How many template sequences tokens open and close.
use Rattle.std.specs.Prelude.{ℕ, ◌+◌, List, [], ◌∷◌}
use Rattle.hcl_token.specs.declared.span.Span.{Span}
use Rattle.hcl_token.specs.declared.kind.Kind.{Kind}
use Rattle.hcl_token.specs.declared.kind.Kind.TheVariants.{InterpOpen, DirectiveOpen, SeqClose}

-- how many a token of the kind opens
abbrev pub opens : Kind → ℕ
opens InterpOpen = 1
opens DirectiveOpen = 1
opens kind = 0

-- how many a token of the kind closes
abbrev pub closes : Kind → ℕ
closes SeqClose = 1
closes kind = 0

abbrev pub opened : List Span → ℕ
opened [] = 0
opened (token ∷ tokens) = opens token.kind + opened tokens

abbrev pub closed : List Span → ℕ
closed [] = 0
closed (token ∷ tokens) = closes token.kind + closed tokens
