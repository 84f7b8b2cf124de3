-- The attributes of a block, on lines of their own or on the line of the braces. HCL native syntax
-- specification, Structural Elements.
use Rattle.std.specs.Prelude.{ℕ, not, ◌&&◌, ◌||◌, Bool, true, false, List, [], ◌∷◌, Option, Some, None}
use Rattle.std.specs.List.{flat_map, list_any}
use Rattle.std.specs.Str.{bytes_eq}
use Rattle.hcl_grammar.specs.declared.tree.Attribute.{Attribute}
use Rattle.hcl_grammar.specs.declared.tree.Block.{Block}
use Rattle.hcl_grammar.specs.declared.tree.Content.{out-Content}
use Rattle.hcl_grammar.specs.declared.tree.Content.TheOpen.{Content-F, Member-F}
use Rattle.hcl_grammar.specs.declared.tree.Expr.{Expr}
use Rattle.hcl_grammar.specs.declared.tree.ExprKind.{out-ExprKind}
use Rattle.hcl_grammar.specs.declared.tree.ExprKind.TheOpen.{ExprKind-F, Primary-F}
use Rattle.hcl_grammar.specs.declared.tree.Member.{Member, out-Member}
use Rattle.hcl_grammar.specs.declared.tree.Part.{Part}
use Rattle.hcl_grammar.specs.declared.tree.Primary.{out-Primary}
use Rattle.hcl_token.specs.Tokens.{Pair}
use Rattle.hcl_grammar.specs.TreeLayers.{ExprKindLayer, PrimaryLayer, ContentLayer, MemberLayer}
use Rattle.tf_rules.specs.Spelling.{token_text}

abbrev pub layer_attribute : MemberLayer → List Attribute
layer_attribute (Member-F.Attribute a) = a ∷ []
layer_attribute (Member-F.Block b) = []

abbrev pub member_attributes : Member → List Attribute
member_attributes m = layer_attribute (out-Member m)

abbrev pub optional_attribute : Option Attribute → List Attribute
optional_attribute None = []
optional_attribute (Some a) = a ∷ []

abbrev pub layer_attributes : ContentLayer → List Attribute
layer_attributes (Content-F.Body b) = flat_map member_attributes b.members
layer_attributes (Content-F.OneLine a) = optional_attribute a

-- the attributes of the block itself, not of a block inside it
abbrev pub attributes : Block → List Attribute
attributes b = layer_attributes (out-Content b.content)

abbrev pub has_no_parts : List Part → Bool
has_no_parts [] = true
has_no_parts (x ∷ xs) = false

abbrev pub is_empty_string_primary : PrimaryLayer → Bool
is_empty_string_primary (Primary-F.Quoted t) = has_no_parts t.parts
is_empty_string_primary _ = false

abbrev pub is_empty_string_kind : ExprKindLayer → Bool
is_empty_string_kind (ExprKind-F.Term t) = is_empty_string_primary (out-Primary t.kind)
is_empty_string_kind _ = false

-- `""`
abbrev pub is_empty_string : Expr → Bool
is_empty_string e = is_empty_string_kind (out-ExprKind e.kind)

-- an attribute of this name; if must_be_empty, one whose value is `""`
abbrev pub is_attribute : List Pair → List ℕ → Bool → Attribute → Bool
is_attribute pairs name must_be_empty a =
    bytes_eq (token_text pairs a.name) name && (not must_be_empty || is_empty_string a.value)

-- whether one of the attributes has this name
abbrev pub has_attribute : List Pair → List ℕ → List Attribute → Bool
has_attribute pairs name = list_any (is_attribute pairs name false)

-- whether one of the attributes has this name and the value `""`
abbrev pub has_empty_attribute : List Pair → List ℕ → List Attribute → Bool
has_empty_attribute pairs name = list_any (is_attribute pairs name true)
