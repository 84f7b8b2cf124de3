-- The nodes of a syntax tree, each with its role, in preorder.
use Rattle.std.specs.Prelude.{◌≡◌, Bool, true, false, List, [], ◌∷◌, ◌++◌, map, Option, Some, None}
use Rattle.std.specs.List.{flat_map}
use Rattle.hcl_grammar.specs.declared.tree.Attribute.{Attribute}
use Rattle.hcl_grammar.specs.declared.tree.Call.{out-Call}
use Rattle.hcl_grammar.specs.declared.tree.Content.{out-Content}
use Rattle.hcl_grammar.specs.declared.tree.Content.TheOpen.{Content-F, Member-F}
use Rattle.hcl_grammar.specs.declared.tree.Member.{Member, out-Member}
use Rattle.hcl_grammar.specs.declared.tree.Elem.{Elem}
use Rattle.hcl_grammar.specs.declared.tree.Expr.{Expr}
use Rattle.hcl_grammar.specs.declared.tree.ForObject.{ForObject, out-ForObject}
use Rattle.hcl_grammar.specs.declared.tree.ForTuple.{ForTuple, out-ForTuple}
use Rattle.hcl_grammar.specs.declared.tree.ExprKind.{out-ExprKind}
use Rattle.hcl_grammar.specs.declared.tree.ExprKind.TheOpen.{ExprKind-F, Primary-F, Tail-F, Part-F}
use Rattle.hcl_grammar.specs.declared.tree.IfDirective.{IfDirective, out-IfDirective}
use Rattle.hcl_grammar.specs.declared.tree.Operation.{Operation}
use Rattle.hcl_grammar.specs.declared.tree.Part.{Part, out-Part}
use Rattle.hcl_grammar.specs.declared.tree.Primary.{out-Primary}
use Rattle.hcl_grammar.specs.declared.tree.Tail.{Tail, out-Tail}
use Rattle.hcl_grammar.specs.declared.tree.Template.{Template}
use Rattle.hcl_grammar.specs.declared.tree.Term.{Term}
use Rattle.tf_rules.specs.declared.role.Role.{Role}
use Rattle.tf_rules.specs.declared.role.Role.TheVariants.{AttributeValue, Element, ObjectKey, ObjectValue}
use Rattle.tf_rules.specs.declared.role.Role.TheVariants.{Argument, Parentheses, Index, Interpolation}
use Rattle.tf_rules.specs.declared.role.Role.TheVariants.{Elsewhere}
use Rattle.hcl_grammar.specs.TreeLayers.{ExprKindLayer, PrimaryLayer, TailLayer, PartLayer, ContentLayer}
use Rattle.hcl_grammar.specs.TreeLayers.{MemberLayer}

-- a node of a tree
pub data Node : Type 0 where
  -- an expression, and its role
  expr : Role → Expr → Node
  -- a term, and the role of the expression if it is this term alone; with tails it is Elsewhere
  term : Role → Term → Node
  -- a tail of a term, and whether, going back from it over names and legacy indices, one comes to
  -- the tail `.*`
  tail : Bool → Tail → Node
  -- a part of a template
  part : Part → Node
  -- an attribute or a block
  member : Member → Node

-- The nodes that are directly inside of a node, in the order of the text.

-- Whether the names and legacy indices that precede the place after a tail follow `.*`; the flag
-- says so of the place before the tail.
abbrev pub splat_after : Bool → TailLayer → Bool
splat_after splat (Tail-F.Name n) = splat
splat_after splat (Tail-F.LegacyIndex n) = splat
splat_after splat Tail-F.AttributeSplat = true
splat_after splat Tail-F.FullSplat = false
splat_after splat (Tail-F.Index e) = false

abbrev pub nodes_of_tails : Bool → List Tail → List Node
nodes_of_tails splat [] = []
nodes_of_tails splat (t ∷ ts) = tail splat t ∷ nodes_of_tails (splat_after splat (out-Tail t)) ts

abbrev pub expr_kind_children : Role → ExprKindLayer → List Node
expr_kind_children p (ExprKind-F.Conditional c met unmet) =
    expr Elsewhere c ∷ expr Elsewhere met ∷ expr Elsewhere unmet ∷ []
expr_kind_children p (ExprKind-F.Binary head links) =
    expr Elsewhere head ∷ map (λ (l : Operation). expr Elsewhere l.operand) links
expr_kind_children p (ExprKind-F.Unary op operand) = expr Elsewhere operand ∷ []
expr_kind_children p (ExprKind-F.Postfix t tails) = term Elsewhere t ∷ nodes_of_tails false tails
expr_kind_children p (ExprKind-F.Term t) = term p t ∷ []

abbrev pub elem_children : Elem → List Node
elem_children x = expr ObjectKey x.key ∷ expr ObjectValue x.value ∷ []

abbrev pub filter_children : Option Expr → List Node
filter_children None = []
filter_children (Some e) = expr Elsewhere e ∷ []

abbrev pub for_tuple_children : ForTuple → List Node
for_tuple_children f =
    expr Elsewhere (out-ForTuple f).intro.collection ∷ expr Elsewhere (out-ForTuple f).value
    ∷ filter_children (out-ForTuple f).filter

abbrev pub for_object_children : ForObject → List Node
for_object_children f =
    expr Elsewhere (out-ForObject f).intro.collection ∷ expr Elsewhere (out-ForObject f).key
    ∷ expr Elsewhere (out-ForObject f).value ∷ filter_children (out-ForObject f).filter

abbrev pub primary_children : PrimaryLayer → List Node
primary_children Primary-F.Number = []
primary_children Primary-F.Identifier = []
primary_children (Primary-F.Call c) = map (expr Argument) (out-Call c).arguments
primary_children (Primary-F.Tuple es) = map (expr Element) es
primary_children (Primary-F.Object xs) = flat_map elem_children xs
primary_children (Primary-F.ForTuple f) = for_tuple_children f
primary_children (Primary-F.ForObject f) = for_object_children f
primary_children (Primary-F.Quoted t) = map part t.parts
primary_children (Primary-F.Heredoc t) = map part t.parts
primary_children (Primary-F.Parens e) = expr Parentheses e ∷ []

abbrev pub tail_children : TailLayer → List Node
tail_children (Tail-F.Index e) = expr Index e ∷ []
tail_children _ = []

abbrev pub else_children : Option Template → List Node
else_children None = []
else_children (Some t) = map part t.parts

abbrev pub if_children : IfDirective → List Node
if_children d = expr Elsewhere (out-IfDirective d).condition
    ∷ (map part (out-IfDirective d).then_branch.parts ++ else_children (out-IfDirective d).else_branch)

abbrev pub part_children : PartLayer → List Node
part_children (Part-F.Literal n) = []
part_children (Part-F.Interp e) = expr Interpolation e ∷ []
part_children (Part-F.If d) = if_children d
part_children (Part-F.For d) = expr Elsewhere d.intro.collection ∷ map part d.body.parts

abbrev pub option_children : Option Attribute → List Node
option_children None = []
option_children (Some a) = expr AttributeValue a.value ∷ []

abbrev pub content_children : ContentLayer → List Node
content_children (Content-F.Body b) = map member b.members
content_children (Content-F.OneLine a) = option_children a

abbrev pub member_children : MemberLayer → List Node
member_children (Member-F.Attribute a) = expr AttributeValue a.value ∷ []
member_children (Member-F.Block b) = content_children (out-Content b.content)

abbrev pub children : Node → List Node
children (expr p e) = expr_kind_children p (out-ExprKind e.kind)
children (term p t) = primary_children (out-Primary t.kind)
children (tail splat t) = tail_children (out-Tail t)
children (part x) = part_children (out-Part x)
children (member m) = member_children (out-Member m)

-- The second list has the nodes of the first in preorder: each node, followed by its descendants.
pub data IsPreorder : List Node → List Node → Type 0 where
  no_nodes : IsPreorder [] []
  visit : {n : Node} {ns inside others : List Node} → IsPreorder (children n) inside → IsPreorder ns others
      → IsPreorder (n ∷ ns) (n ∷ (inside ++ others))

-- there is at most one list of the nodes inside of some nodes
abbrev pub PreorderIsUnique : Type 0
PreorderIsUnique = (ns xs ys : List Node) → IsPreorder ns xs → IsPreorder ns ys → xs ≡ ys
