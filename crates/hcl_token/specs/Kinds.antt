-- Kinds of tokens that several definitions distinguish.
-- HCL native syntax specification, Lexical Elements, and Templates.
use Rattle.std.specs.Prelude.{Bool, true, false}
use Rattle.hcl_token.specs.declared.kind.Kind.{Kind}
use Rattle.hcl_token.specs.declared.kind.Kind.TheVariants.{LineEnd, LineComment, InlineComment, OpenParen}
use Rattle.hcl_token.specs.declared.kind.Kind.TheVariants.{CloseParen, OpenBracket, CloseBracket, OpenBrace}
use Rattle.hcl_token.specs.declared.kind.Kind.TheVariants.{CloseBrace, InterpOpen, DirectiveOpen, SeqClose}

abbrev pub is_line_end : Kind → Bool
is_line_end LineEnd = true
is_line_end kind = false

-- a comment that ends with its line
abbrev pub is_line_comment : Kind → Bool
is_line_comment LineComment = true
is_line_comment kind = false

abbrev pub is_comment : Kind → Bool
is_comment LineComment = true
is_comment InlineComment = true
is_comment kind = false

-- `(`, `[`, `{`, `${`, `%{`
abbrev pub is_opening : Kind → Bool
is_opening OpenParen = true
is_opening OpenBracket = true
is_opening OpenBrace = true
is_opening InterpOpen = true
is_opening DirectiveOpen = true
is_opening kind = false

-- `)`, `]`, `}`, and the `}` that closes a template sequence
abbrev pub is_closing : Kind → Bool
is_closing CloseParen = true
is_closing CloseBracket = true
is_closing CloseBrace = true
is_closing SeqClose = true
is_closing kind = false
