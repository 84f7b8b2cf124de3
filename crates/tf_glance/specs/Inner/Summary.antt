-- Summaries of nodes, by those of the nodes inside of them.
use Rattle.std.specs.Prelude.{◌&&◌, ◌||◌, not, if◌then◌else◌, Bool, true, false, Option, Some, None}
use Rattle.tf_glance.specs.declared.summary.BodyContent.{BodyContent}
use Rattle.tf_glance.specs.declared.summary.Piece.{Piece}
use Rattle.tf_glance.specs.declared.summary.Piece.TheVariants as piece
use Rattle.tf_rules.specs.Rules.{may_find_at_operand, may_find_at_quoted}
use Rattle.tf_rules.specs.Summaries.{is_clean, is_clean_pieces, text_value}
use Rattle.tf_rules.specs.declared.summary.Count.{Count}
use Rattle.tf_rules.specs.declared.summary.Count.TheVariants as count
use Rattle.tf_rules.specs.declared.summary.Pieces.{Pieces}
use Rattle.tf_rules.specs.declared.summary.Pieces.TheVariants as pieces
use Rattle.tf_rules.specs.declared.summary.Value.{Value}
use Rattle.tf_rules.specs.declared.summary.Value.TheVariants as value

-- ---- expressions

abbrev pub is_clean_option : Option Value → Bool
is_clean_option None = true
is_clean_option (Some x) = is_clean x

abbrev pub plain_if : Bool → Value
plain_if true = value.Plain
plain_if false = value.Suspect

abbrev pub is_clean_operand : Value → Bool
is_clean_operand x = is_clean x && not (may_find_at_operand x)

-- a description: the rule on descriptions finds an empty text
abbrev pub is_clean_description : Value → Bool
is_clean_description value.Suspect = false
is_clean_description value.EmptyText = false
is_clean_description _ = true

-- ---- how many there are

abbrev pub next_count : Count → Count
next_count count.Suspect = count.Suspect
next_count count.Zero = count.One
next_count count.One = count.Two
next_count count.Two = count.Many
next_count count.Many = count.Many

abbrev pub add_one : Count → Bool → Count
add_one n true = next_count n
add_one n false = count.Suspect

-- the first operand of operators
abbrev pub first_operand : Value → Value
first_operand x = if is_clean_operand x then x else value.Suspect

-- an operand and the operators that follow it
abbrev pub chain : Value → Count → Value
chain head count.Suspect = value.Suspect
chain head count.Zero = head
chain head _ = first_operand head

abbrev pub tuple : Count → Value
tuple count.Suspect = value.Suspect
tuple count.Zero = value.EmptyList
tuple _ = value.Plain

-- ---- templates

abbrev pub is_clean_pieces_option : Option Pieces → Bool
is_clean_pieces_option None = true
is_clean_pieces_option (Some x) = is_clean_pieces x

abbrev pub add_piece : Pieces → Piece → Pieces
add_piece pieces.Suspect x = pieces.Suspect
add_piece pieces.Empty piece.Suspect = pieces.Suspect
add_piece pieces.Empty piece.Other = pieces.Mixed
add_piece pieces.Empty piece.Interpolation = pieces.Sole
add_piece _ piece.Suspect = pieces.Suspect
add_piece _ _ = pieces.Mixed

abbrev pub quoted : Pieces → Value
quoted x = if is_clean_pieces x && not (may_find_at_quoted x) then text_value x else value.Suspect

abbrev pub interpolation : Bool → Piece
interpolation true = piece.Interpolation
interpolation false = piece.Suspect

abbrev pub directive : Bool → Piece
directive true = piece.Other
directive false = piece.Suspect

-- ---- attributes and blocks

abbrev pub is_without_findings : BodyContent → Bool
is_without_findings x = x.clean && x.complete

abbrev pub no_content : BodyContent
no_content = record { clean = true; complete = true; typed = false; described = false }

abbrev pub joined : BodyContent → BodyContent → BodyContent
joined x y = record {
  clean = x.clean && y.clean;
  complete = true;
  typed = x.typed || y.typed;
  described = x.described || y.described;
}
