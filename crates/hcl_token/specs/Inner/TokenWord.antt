-- A token in one word of 64 bits: the number of its kind in the lowest 8 bits, its start in the
-- next 24, its stop in the others.
use Rattle.std.specs.Prelude.{ℕ, ◌+◌, ◌*◌}
use Rattle.hcl_token.specs.declared.kind.Kind.{Kind}
use Rattle.hcl_token.specs.declared.kind.Kind.TheVariants.{Mark, LineEnd, LineComment, InlineComment}
use Rattle.hcl_token.specs.declared.kind.Kind.TheVariants.{Identifier, Number, DotIndex, Plus, Minus, Star}
use Rattle.hcl_token.specs.declared.kind.Kind.TheVariants.{Slash, Percent, And, Or, Bang, DoubleEqual}
use Rattle.hcl_token.specs.declared.kind.Kind.TheVariants.{NotEqual, Less, Greater, LessEqual, GreaterEqual}
use Rattle.hcl_token.specs.declared.kind.Kind.TheVariants.{Question, Colon, DoubleColon, Equal, FatArrow}
use Rattle.hcl_token.specs.declared.kind.Kind.TheVariants.{OpenBracket, CloseBracket, OpenParen, CloseParen}
use Rattle.hcl_token.specs.declared.kind.Kind.TheVariants.{Comma, Dot, Ellipsis, QuoteLit, OpenBrace}
use Rattle.hcl_token.specs.declared.kind.Kind.TheVariants.{CloseBrace, QuoteOpen, HereOpen, SeqClose}
use Rattle.hcl_token.specs.declared.kind.Kind.TheVariants.{QuoteClose, InterpOpen, DirectiveOpen, HereClose}
use Rattle.hcl_token.specs.declared.kind.Kind.TheVariants.{HereLit}
use Rattle.hcl_token.specs.TokenSpan.{TokenSpan}

abbrev pub number_of : Kind → ℕ
number_of Mark = 0
number_of LineEnd = 1
number_of LineComment = 2
number_of InlineComment = 3
number_of Identifier = 4
number_of Number = 5
number_of DotIndex = 6
number_of Plus = 7
number_of Minus = 8
number_of Star = 9
number_of Slash = 10
number_of Percent = 11
number_of And = 12
number_of Or = 13
number_of Bang = 14
number_of DoubleEqual = 15
number_of NotEqual = 16
number_of Less = 17
number_of Greater = 18
number_of LessEqual = 19
number_of GreaterEqual = 20
number_of Question = 21
number_of Colon = 22
number_of DoubleColon = 23
number_of Equal = 24
number_of FatArrow = 25
number_of OpenBracket = 26
number_of CloseBracket = 27
number_of OpenParen = 28
number_of CloseParen = 29
number_of Comma = 30
number_of Dot = 31
number_of Ellipsis = 32
number_of QuoteLit = 33
number_of OpenBrace = 34
number_of CloseBrace = 35
number_of QuoteOpen = 36
number_of HereOpen = 37
number_of SeqClose = 38
number_of QuoteClose = 39
number_of InterpOpen = 40
number_of DirectiveOpen = 41
number_of HereClose = 42
number_of HereLit = 43

abbrev pub word_of : TokenSpan → ℕ
word_of token = number_of token.kind + 256 * token.start + 4294967296 * token.stop
