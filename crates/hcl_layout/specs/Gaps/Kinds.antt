-- Kinds of tokens, as the layout tells them apart. HCL native syntax specification, Lexical
-- Elements.
use Rattle.std.specs.Prelude.{Bool, true, false, ◌||◌, List, [], ◌∷◌}
use denote.Enum.Bare.{sameb}
use Rattle.hcl_token.specs.contracts.kind.Kind.{the_type}
use Rattle.hcl_token.specs.declared.kind.Kind.{Kind}
use Rattle.hcl_token.specs.declared.kind.Kind.TheVariants.{Mark, LineEnd, LineComment, InlineComment}
use Rattle.hcl_token.specs.declared.kind.Kind.TheVariants.{Identifier, Number, DotIndex, Equal, CloseBrace}
use Rattle.hcl_token.specs.declared.kind.Kind.TheVariants.{CloseBracket, CloseParen, QuoteClose, HereClose}

-- one of these kinds
abbrev pub among : List Kind → Kind → Bool
among [] kind = false
among (one ∷ others) kind = sameb the_type one kind || among others kind

abbrev pub is_inline_comment : Kind → Bool
is_inline_comment InlineComment = true
is_inline_comment kind = false

abbrev pub is_identifier : Kind → Bool
is_identifier Identifier = true
is_identifier kind = false

-- what ends an operand, but a splat's star
abbrev pub ends_operand : Kind → Bool
ends_operand Identifier = true
ends_operand Number = true
ends_operand DotIndex = true
ends_operand QuoteClose = true
ends_operand HereClose = true
ends_operand CloseParen = true
ends_operand CloseBracket = true
ends_operand CloseBrace = true
ends_operand kind = false

abbrev pub is_equal : Kind → Bool
is_equal Equal = true
is_equal kind = false

-- comments, line ends and the byte order mark, which the spacing skips when it looks for the token
-- before another
abbrev pub is_skipped_by_spacing : Kind → Bool
is_skipped_by_spacing LineComment = true
is_skipped_by_spacing InlineComment = true
is_skipped_by_spacing LineEnd = true
is_skipped_by_spacing Mark = true
is_skipped_by_spacing kind = false
