-- The makers of the summary of each node. Where a rule of tf_rules may find something, by the
-- summaries of the node's parts, the node is suspect.
use Rattle.std.specs.Prelude.{ℕ, not, ◌&&◌, ◌||◌, if◌then◌else◌, Bool, true, false, List}
use Rattle.std.specs.Prelude.{Option, Some, None, codes, refl}
use Rattle.std.specs.Str.{bytes_eq}
use Rattle.hcl_grammar.specs.Pure.Makers.{Types, Makers}
use Rattle.hcl_token.specs.Tokens.{Pair}
use Rattle.tf_glance.specs.Inner.Summary as summary
use Rattle.tf_glance.specs.Inner.Summary.{is_clean_option, plain_if, is_clean_operand, add_one}
use Rattle.tf_glance.specs.Inner.Summary.{is_clean_description, is_clean_pieces_option}
use Rattle.tf_glance.specs.declared.summary.BodyContent.{BodyContent}
use Rattle.tf_glance.specs.declared.summary.Piece.{Piece}
use Rattle.tf_glance.specs.declared.summary.Piece.TheVariants as piece
use Rattle.tf_glance.specs.declared.block_type.BlockType.{BlockType}
use Rattle.tf_glance.specs.declared.block_type.BlockType.TheVariants as block_type
use Rattle.tf_rules.specs.Rules.{may_find_at_call}
use Rattle.tf_rules.specs.Summaries.{is_clean, is_clean_count, is_clean_pieces}
use Rattle.tf_rules.specs.declared.summary.Count.{Count}
use Rattle.tf_rules.specs.declared.summary.Count.TheVariants as count
use Rattle.tf_rules.specs.declared.summary.Pieces.{Pieces}
use Rattle.tf_rules.specs.declared.summary.Pieces.TheVariants as pieces
use Rattle.tf_rules.specs.declared.summary.Value.{Value}
use Rattle.tf_rules.specs.declared.summary.Value.TheVariants as value
use Rattle.tf_rules.specs.SnakeCase.{is_snake_case}
use Rattle.tf_rules.specs.Spelling.{token_text, name_text}

abbrev pub block_type_of : List ℕ → BlockType
block_type_of text =
    if bytes_eq text (codes "resource") then block_type.Resource
    else (if bytes_eq text (codes "data") then block_type.Resource
    else (if bytes_eq text (codes "module") then block_type.Module
    else (if bytes_eq text (codes "variable") then block_type.Variable
    else (if bytes_eq text (codes "output") then block_type.Output
    else (if bytes_eq text (codes "locals") then block_type.Locals
    else block_type.Other)))))

-- ---- the rule on names

-- the label that follows these names what the block declares
abbrev pub names_after : BlockType → Count → Bool
names_after block_type.Resource count.One = true
names_after block_type.Module count.Zero = true
names_after block_type.Variable count.Zero = true
names_after block_type.Output count.Zero = true
names_after _ _ = false

abbrev pub is_clean_label : List Pair → BlockType → Count → Option ℕ → Bool
is_clean_label pairs assumed labels name =
    not (names_after assumed labels) || is_snake_case (name_text pairs name)

-- ---- and those on types and descriptions

abbrev pub one_attribute : Bool → Bool → Bool → BodyContent
one_attribute clean typed described =
    record { clean = clean; complete = true; typed = typed; described = described }

-- by whether its name is `type`, and whether it is `description`
abbrev pub declaration : Bool → Bool → Value → BodyContent
declaration typed described x =
    one_attribute (is_clean x && (not described || is_clean_description x)) typed described

-- an attribute, in a block that is assumed to be of this type
abbrev pub attribute : List Pair → BlockType → ℕ → Value → BodyContent
attribute pairs block_type.Locals name x =
    one_attribute (is_clean x && is_snake_case (token_text pairs name)) false false
attribute pairs block_type.Variable name x =
    declaration (bytes_eq (token_text pairs name) (codes "type"))
    (bytes_eq (token_text pairs name) (codes "description")) x
attribute pairs block_type.Output name x =
    declaration (bytes_eq (token_text pairs name) (codes "type"))
    (bytes_eq (token_text pairs name) (codes "description")) x
attribute pairs _ name x = one_attribute (is_clean x) false false

-- a block of the first type has what it must have, read as one of the second
abbrev pub is_complete : BlockType → BlockType → BodyContent → Bool
is_complete block_type.Other _ x = true
is_complete block_type.Resource block_type.Resource x = true
is_complete block_type.Module block_type.Module x = true
is_complete block_type.Variable block_type.Variable x = x.typed && x.described
is_complete block_type.Output block_type.Output x = x.described
is_complete block_type.Locals block_type.Locals x = true
is_complete _ _ x = false

abbrev pub one_line : Option BodyContent → BodyContent
one_line None = summary.no_content
one_line (Some x) = x

abbrev pub block : List Pair → BlockType → ℕ → Count → BodyContent → BodyContent
block pairs assumed first labels x = record {
  clean = x.clean && is_clean_count labels;
  complete = is_complete (block_type_of (token_text pairs first)) assumed x;
  typed = false;
  described = false;
}

-- ---- all makers

abbrev pub summary_types : Types
summary_types = record {
  Expr = Value;
  Exprs = Count;
  Operations = Count;
  Term = Value;
  Tail = Bool;
  Tails = Bool;
  Names = Option ℕ;
  Elems = Bool;
  Intro = Bool;
  Template = Pieces;
  Part = Piece;
  Parts = Pieces;
  Attribute = BodyContent;
  Label = Option ℕ;
  Labels = Count;
  Content = BodyContent;
  Member = BodyContent;
  Members = BodyContent;
  Body = BodyContent;
  Tree = BodyContent;
}

-- of a text, in a member that is assumed to be a block of this type
abbrev pub summaries : List Pair → BlockType → Makers summary_types
summaries pairs assumed = record {
  conditional = λ _ _ c x y. plain_if (is_clean c && (is_clean x && is_clean y));
  chain = summary.chain;
  no_operations = count.Zero;
  add_operation = λ xs _ x. add_one xs (is_clean_operand x);
  alone = λ head. refl;
  unary = λ _ _ _ x. plain_if (is_clean x);
  postfix = λ _ _ head tails. if tails then head else value.Suspect;
  no_tails = true;
  add_tail = λ xs x. xs && x;
  name_tail = λ _. true;
  -- the rule on legacy indices
  legacy_index = λ _. false;
  attribute_splat = true;
  full_splat = true;
  index = λ x. is_clean x;
  number = λ _ _. value.Plain;
  identifier = λ _ _. value.Plain;
  call = λ _ _ name xs more. plain_if (is_clean_count xs && not (may_find_at_call pairs name xs more));
  first_name = λ n. Some n;
  add_name = λ _ _. None;
  no_exprs = count.Zero;
  add_expr = λ xs x. add_one xs (is_clean x);
  tuple = λ _ _ xs. summary.tuple xs;
  object = λ _ _ xs. plain_if xs;
  no_elems = true;
  add_elem = λ xs key x. xs && (is_clean key && is_clean x);
  intro = λ _ _ _ _ x. is_clean x;
  for_tuple = λ _ _ i x filter. plain_if (i && (is_clean x && is_clean_option filter));
  for_object = λ _ _ i key x _ filter.
      plain_if (i && (is_clean key && (is_clean x && is_clean_option filter)));
  quoted = λ _ _ x. summary.quoted x;
  heredoc = λ _ _ x. plain_if (is_clean_pieces x);
  parens = λ _ _ x. plain_if (is_clean x);
  template = λ _ _ xs. xs;
  no_parts = pieces.Empty;
  add_part = summary.add_piece;
  literal = λ _. piece.Other;
  interpolation = λ x. summary.interpolation (is_clean x);
  if_directive = λ _ _ c x y.
      summary.directive (is_clean c && (is_clean_pieces x && is_clean_pieces_option y));
  for_directive = λ _ _ i x. summary.directive (i && is_clean_pieces x);
  attribute = λ first _ x. attribute pairs assumed first x;
  label = λ _ _ name. name;
  no_labels = count.Zero;
  add_label = λ xs name. add_one xs (is_clean_label pairs assumed xs name);
  one_line = one_line;
  block_body = λ x. x;
  attribute_member = λ x. x;
  block = λ first _ labels x. block pairs assumed first labels x;
  no_members = summary.no_content;
  add_member = summary.joined;
  body = λ _ _ x. x;
  tree = λ _ x. x;
}
