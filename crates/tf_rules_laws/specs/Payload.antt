-- What a node of a tree has of its own, without the nodes inside of it.
use Rattle.std.specs.Prelude.{◌≡◌, ℕ, Bool, List, [], ◌∷◌, map, length, Option, Some, None}
use Rattle.hcl_grammar.specs.declared.tree.Attribute.{Attribute}
use Rattle.hcl_grammar.specs.declared.tree.Call.{out-Call}
use Rattle.hcl_grammar.specs.declared.tree.Content.{out-Content}
use Rattle.hcl_grammar.specs.declared.tree.Content.TheOpen.{Content-F, Member-F}
use Rattle.hcl_grammar.specs.declared.tree.ForObject.{out-ForObject}
use Rattle.hcl_grammar.specs.declared.tree.ForTuple.{out-ForTuple}
use Rattle.hcl_grammar.specs.declared.tree.ExprKind.{out-ExprKind}
use Rattle.hcl_grammar.specs.declared.tree.ExprKind.TheOpen.{ExprKind-F, Primary-F, Tail-F, Part-F}
use Rattle.hcl_grammar.specs.declared.tree.IfDirective.{out-IfDirective}
use Rattle.hcl_grammar.specs.declared.tree.Intro.{Intro}
use Rattle.hcl_grammar.specs.declared.tree.Label.{Label}
use Rattle.hcl_grammar.specs.declared.tree.Operation.{Operation}
use Rattle.hcl_grammar.specs.declared.tree.Member.{out-Member}
use Rattle.hcl_grammar.specs.declared.tree.BinaryOperator.{BinaryOperator}
use Rattle.hcl_grammar.specs.declared.tree.Part.{out-Part}
use Rattle.hcl_grammar.specs.declared.tree.UnaryOperator.{UnaryOperator}
use Rattle.hcl_grammar.specs.declared.tree.Primary.{out-Primary}
use Rattle.hcl_grammar.specs.declared.tree.Tail.{out-Tail}
use Rattle.hcl_grammar.specs.declared.tree.Template.{Template}
use Rattle.tf_rules.specs.declared.role.Role.{Role}
use Rattle.hcl_grammar.specs.TreeLayers.{ExprKindLayer, PrimaryLayer, TailLayer, PartLayer, ContentLayer}
use Rattle.hcl_grammar.specs.TreeLayers.{MemberLayer}
use Rattle.tf_rules.specs.Preorder.{Node, expr, term, tail, part, member, children, IsPreorder}

-- Something that a node has of its own: there is no tree in it.
pub data Payload : Type 0 where
  -- the number of a token, of a kind of nodes among the others, or of parts
  number : ℕ → Payload
  numbers : List ℕ → Payload
  optional_number : Option ℕ → Payload
  flag : Bool → Payload
  role : Role → Payload
  prefix : UnaryOperator → Payload
  operators : List BinaryOperator → Payload
  labels : List Label → Payload

-- ---- for each kind: its number, and what it has besides its parts

abbrev pub expr_kind_payload : ExprKindLayer → List Payload
expr_kind_payload (ExprKind-F.Conditional c met unmet) = number 0 ∷ []
expr_kind_payload (ExprKind-F.Binary head links) =
    number 1 ∷ operators (map (λ (l : Operation). l.operator) links) ∷ []
expr_kind_payload (ExprKind-F.Unary op operand) = number 2 ∷ prefix op ∷ []
expr_kind_payload (ExprKind-F.Postfix t tails) = number 3 ∷ []
expr_kind_payload (ExprKind-F.Term t) = number 4 ∷ []

abbrev pub template_payload : Template → List Payload
template_payload t = number t.first ∷ number t.past ∷ []

abbrev pub intro_payload : Intro → List Payload
intro_payload i = number i.first ∷ number i.past ∷ number i.name ∷ optional_number i.second_name ∷ []

abbrev pub primary_payload : PrimaryLayer → List Payload
primary_payload Primary-F.Number = number 0 ∷ []
primary_payload Primary-F.Identifier = number 1 ∷ []
primary_payload (Primary-F.Call c) =
    number 2 ∷ numbers (out-Call c).names ∷ flag (out-Call c).expand_final ∷ []
primary_payload (Primary-F.Tuple es) = number 3 ∷ []
primary_payload (Primary-F.Object xs) = number 4 ∷ []
primary_payload (Primary-F.ForTuple f) = number 5 ∷ intro_payload (out-ForTuple f).intro
primary_payload (Primary-F.ForObject f) =
    number 6 ∷ flag (out-ForObject f).grouped ∷ intro_payload (out-ForObject f).intro
primary_payload (Primary-F.Quoted t) = number 7 ∷ template_payload t
primary_payload (Primary-F.Heredoc t) = number 8 ∷ template_payload t
primary_payload (Primary-F.Parens e) = number 9 ∷ []

abbrev pub tail_payload : TailLayer → List Payload
tail_payload (Tail-F.Name n) = number 0 ∷ number n ∷ []
tail_payload (Tail-F.LegacyIndex n) = number 1 ∷ number n ∷ []
tail_payload Tail-F.AttributeSplat = number 2 ∷ []
tail_payload Tail-F.FullSplat = number 3 ∷ []
tail_payload (Tail-F.Index e) = number 4 ∷ []

abbrev pub else_payload : Option Template → List Payload
else_payload None = []
else_payload (Some t) = template_payload t

-- of the parts of an `if` directive those before `else` are counted
abbrev pub part_payload : PartLayer → List Payload
part_payload (Part-F.Literal n) = number 0 ∷ number n ∷ []
part_payload (Part-F.Interp e) = number 1 ∷ []
part_payload (Part-F.If d) =
    number 2 ∷ number (out-IfDirective d).first ∷ number (out-IfDirective d).past
    ∷ number (length (out-IfDirective d).then_branch.parts) ∷ number (out-IfDirective d).then_branch.first
    ∷ number (out-IfDirective d).then_branch.past ∷ else_payload (out-IfDirective d).else_branch
part_payload (Part-F.For d) =
    number 3 ∷ number d.first ∷ number d.past ∷ number d.body.first ∷ number d.body.past
    ∷ intro_payload d.intro

abbrev pub attribute_payload : Attribute → List Payload
attribute_payload a = number a.first ∷ number a.past ∷ number a.name ∷ []

abbrev pub content_payload : ContentLayer → List Payload
content_payload (Content-F.Body b) = number 0 ∷ number b.first ∷ number b.past ∷ []
content_payload (Content-F.OneLine None) = number 1 ∷ []
content_payload (Content-F.OneLine (Some a)) = number 2 ∷ attribute_payload a

abbrev pub member_payload : MemberLayer → List Payload
member_payload (Member-F.Attribute a) = number 0 ∷ attribute_payload a
member_payload (Member-F.Block b) =
    number 1 ∷ number b.first ∷ number b.past ∷ number b.block_type ∷ labels b.labels
    ∷ content_payload (out-Content b.content)

abbrev pub payload : Node → List Payload
payload (expr p e) =
    number 0 ∷ role p ∷ number e.first ∷ number e.past ∷ expr_kind_payload (out-ExprKind e.kind)
payload (term p t) = number 1 ∷ role p ∷ number t.first ∷ number t.past ∷ primary_payload (out-Primary t.kind)
payload (tail splat t) = number 2 ∷ flag splat ∷ tail_payload (out-Tail t)
payload (part x) = number 3 ∷ part_payload (out-Part x)
payload (member m) = number 4 ∷ member_payload (out-Member m)

-- A node is determined by what it has of its own and by its children, so that the list of children
-- forgets nothing inside of it.
abbrev pub ChildrenAreComplete : Type 0
ChildrenAreComplete = (a b : Node) → payload a ≡ payload b → children a ≡ children b → a ≡ b

-- what a node has of its own, and how many parts it has
abbrev pub node_key : Node → List Payload × ℕ
node_key n = (payload n, length (children n))

-- The nodes of a tree determine it, each by what it has of its own and by how many children it has:
-- two trees of as many roots with the same nodes in the same order are one.
abbrev pub PreorderDeterminesTree : Type 0
PreorderDeterminesTree = (ns ms xs ys : List Node) → length ns ≡ length ms
    → IsPreorder ns xs → IsPreorder ms ys
    → map node_key xs ≡ map node_key ys → ns ≡ ms
