-- Which roles the expressions in a node have, role by role: that an expression is the whole value
-- of an attribute, a key, an element and so on is said here of the syntax tree, without the list of
-- children that the rules visit.
-- HCL native syntax specification, Structural Elements and Expressions.
use Rattle.std.specs.Prelude.{◌≡◌, Bool, true, false, List, [], ◌∷◌, map, Option, Some, None, if◌then◌else◌}
use Rattle.hcl_grammar.specs.declared.tree.Attribute.{Attribute}
use Rattle.hcl_grammar.specs.declared.tree.Call.{out-Call}
use Rattle.hcl_grammar.specs.declared.tree.Content.{out-Content}
use Rattle.hcl_grammar.specs.declared.tree.Content.TheOpen.{Content-F, Member-F}
use Rattle.hcl_grammar.specs.declared.tree.Elem.{Elem}
use Rattle.hcl_grammar.specs.declared.tree.Expr.{Expr}
use Rattle.hcl_grammar.specs.declared.tree.ForObject.{out-ForObject}
use Rattle.hcl_grammar.specs.declared.tree.ForTuple.{out-ForTuple}
use Rattle.hcl_grammar.specs.declared.tree.ExprKind.{out-ExprKind}
use Rattle.hcl_grammar.specs.declared.tree.ExprKind.TheOpen.{ExprKind-F, Primary-F, Tail-F, Part-F}
use Rattle.hcl_grammar.specs.declared.tree.IfDirective.{out-IfDirective}
use Rattle.hcl_grammar.specs.declared.tree.Operation.{Operation}
use Rattle.hcl_grammar.specs.declared.tree.Member.{out-Member}
use Rattle.hcl_grammar.specs.declared.tree.Part.{out-Part}
use Rattle.hcl_grammar.specs.declared.tree.Primary.{out-Primary}
use Rattle.hcl_grammar.specs.declared.tree.Tail.{Tail, out-Tail}
use Rattle.hcl_grammar.specs.declared.tree.Term.{Term}
use Rattle.hcl_grammar.specs.TreeLayers.{ExprKindLayer, PrimaryLayer, TailLayer, PartLayer, ContentLayer}
use Rattle.hcl_grammar.specs.TreeLayers.{MemberLayer}
use Rattle.tf_rules.specs.declared.role.Role.{Role}
use Rattle.tf_rules.specs.declared.role.Role.TheVariants.{AttributeValue, Element, ObjectKey, ObjectValue}
use Rattle.tf_rules.specs.declared.role.Role.TheVariants.{Argument, Parentheses, Index, Interpolation}
use Rattle.tf_rules.specs.declared.role.Role.TheVariants.{Elsewhere}
use Rattle.tf_rules.specs.Preorder.{Node, expr, term, tail, part, member, children}

abbrev pub is_same_role : Role → Role → Bool
is_same_role AttributeValue AttributeValue = true
is_same_role Element Element = true
is_same_role ObjectKey ObjectKey = true
is_same_role ObjectValue ObjectValue = true
is_same_role Argument Argument = true
is_same_role Parentheses Parentheses = true
is_same_role Index Index = true
is_same_role Interpolation Interpolation = true
is_same_role Elsewhere Elsewhere = true
is_same_role _ _ = false

-- the expressions among these nodes that have the role, in order
abbrev pub exprs_in_role : Role → List Node → List Expr
exprs_in_role role [] = []
exprs_in_role role (expr other e ∷ ns) =
    if is_same_role role other then e ∷ exprs_in_role role ns else exprs_in_role role ns
exprs_in_role role (term other t ∷ ns) = exprs_in_role role ns
exprs_in_role role (tail splat t ∷ ns) = exprs_in_role role ns
exprs_in_role role (part x ∷ ns) = exprs_in_role role ns
exprs_in_role role (member m ∷ ns) = exprs_in_role role ns

-- ---- what each role says

-- the value of an attribute, also of one on the line of its block's braces
abbrev pub optional_value : Option Attribute → List Expr
optional_value None = []
optional_value (Some a) = a.value ∷ []

abbrev pub content_values : ContentLayer → List Expr
content_values (Content-F.Body b) = []
content_values (Content-F.OneLine a) = optional_value a

abbrev pub attribute_values : MemberLayer → List Expr
attribute_values (Member-F.Attribute a) = a.value ∷ []
attribute_values (Member-F.Block b) = content_values (out-Content b.content)

-- an element of a tuple
abbrev pub tuple_elements : PrimaryLayer → List Expr
tuple_elements (Primary-F.Tuple es) = es
tuple_elements _ = []

-- the key of an element of an object
abbrev pub object_keys : PrimaryLayer → List Expr
object_keys (Primary-F.Object xs) = map (λ (x : Elem). x.key) xs
object_keys _ = []

-- its value
abbrev pub object_values : PrimaryLayer → List Expr
object_values (Primary-F.Object xs) = map (λ (x : Elem). x.value) xs
object_values _ = []

-- an argument of a call
abbrev pub call_arguments : PrimaryLayer → List Expr
call_arguments (Primary-F.Call c) = (out-Call c).arguments
call_arguments _ = []

-- what is in parentheses
abbrev pub in_parentheses : PrimaryLayer → List Expr
in_parentheses (Primary-F.Parens e) = e ∷ []
in_parentheses _ = []

-- what is in the brackets of an index
abbrev pub index_exprs : TailLayer → List Expr
index_exprs (Tail-F.Index e) = e ∷ []
index_exprs _ = []

-- what is between the braces of an interpolation
abbrev pub interpolated : PartLayer → List Expr
interpolated (Part-F.Interp e) = e ∷ []
interpolated _ = []

-- elsewhere: an operand, a part of a conditional ..
abbrev pub operands : ExprKindLayer → List Expr
operands (ExprKind-F.Conditional c met unmet) = c ∷ met ∷ unmet ∷ []
operands (ExprKind-F.Binary head links) = head ∷ map (λ (l : Operation). l.operand) links
operands (ExprKind-F.Unary op operand) = operand ∷ []
operands (ExprKind-F.Postfix t tails) = []
operands (ExprKind-F.Term t) = []

abbrev pub optional_filter : Option Expr → List Expr
optional_filter None = []
optional_filter (Some e) = e ∷ []

-- .. a part of a `for` ..
abbrev pub for_parts : PrimaryLayer → List Expr
for_parts (Primary-F.ForTuple f) =
    (out-ForTuple f).intro.collection ∷ (out-ForTuple f).value
    ∷ optional_filter (out-ForTuple f).filter
for_parts (Primary-F.ForObject f) =
    (out-ForObject f).intro.collection ∷ (out-ForObject f).key ∷ (out-ForObject f).value
    ∷ optional_filter (out-ForObject f).filter
for_parts _ = []

-- .. or the condition of an `if` directive, the collection of a `for` directive
abbrev pub directive_exprs : PartLayer → List Expr
directive_exprs (Part-F.If d) = (out-IfDirective d).condition ∷ []
directive_exprs (Part-F.For d) = d.intro.collection ∷ []
directive_exprs _ = []

-- ---- the expressions that are directly in a node in a role, in order

abbrev pub of_expr : Role → ExprKindLayer → List Expr
of_expr Elsewhere l = operands l
of_expr _ l = []

abbrev pub of_term : Role → PrimaryLayer → List Expr
of_term Element l = tuple_elements l
of_term ObjectKey l = object_keys l
of_term ObjectValue l = object_values l
of_term Argument l = call_arguments l
of_term Parentheses l = in_parentheses l
of_term Elsewhere l = for_parts l
of_term _ l = []

abbrev pub of_tail : Role → TailLayer → List Expr
of_tail Index l = index_exprs l
of_tail _ l = []

abbrev pub of_part : Role → PartLayer → List Expr
of_part Interpolation l = interpolated l
of_part Elsewhere l = directive_exprs l
of_part _ l = []

abbrev pub of_member : Role → MemberLayer → List Expr
of_member AttributeValue l = attribute_values l
of_member _ l = []

abbrev pub exprs_of : Role → Node → List Expr
exprs_of role (expr other e) = of_expr role (out-ExprKind e.kind)
exprs_of role (term other t) = of_term role (out-Primary t.kind)
exprs_of role (tail splat t) = of_tail role (out-Tail t)
exprs_of role (part x) = of_part role (out-Part x)
exprs_of role (member m) = of_member role (out-Member m)

-- ---- terms

-- the terms among these nodes, each with its role, in order
abbrev pub terms_among : List Node → List (Role × Term)
terms_among [] = []
terms_among (expr role e ∷ ns) = terms_among ns
terms_among (term role t ∷ ns) = (role, t) ∷ terms_among ns
terms_among (tail splat t ∷ ns) = terms_among ns
terms_among (part x ∷ ns) = terms_among ns
terms_among (member m ∷ ns) = terms_among ns

-- a term that is an expression in this role, and has the role; with tails after it, it is elsewhere
abbrev pub term_of_expr : Role → ExprKindLayer → List (Role × Term)
term_of_expr role (ExprKind-F.Postfix t tails) = (Elsewhere, t) ∷ []
term_of_expr role (ExprKind-F.Term t) = (role, t) ∷ []
term_of_expr role _ = []

abbrev pub terms_of : Node → List (Role × Term)
terms_of (expr role e) = term_of_expr role (out-ExprKind e.kind)
terms_of _ = []

-- ---- tails

-- whether one comes to `.*` going back over a tail, and, where one may go on, over those before it
abbrev pub leads_back_over : TailLayer → Bool → Bool
leads_back_over (Tail-F.Name n) leads = leads
leads_back_over (Tail-F.LegacyIndex n) leads = leads
leads_back_over Tail-F.AttributeSplat leads = true
leads_back_over Tail-F.FullSplat leads = false
leads_back_over (Tail-F.Index e) leads = false

-- the same over these tails, the nearest first
abbrev pub leads_back_to_splat : List Tail → Bool
leads_back_to_splat [] = false
leads_back_to_splat (t ∷ before) = leads_back_over (out-Tail t) (leads_back_to_splat before)

-- tails, each with whether one comes to `.*` going back from it; `before` are those before them
abbrev pub flagged_tails : List Tail → List Tail → List (Bool × Tail)
flagged_tails before [] = []
flagged_tails before (t ∷ ts) = (leads_back_to_splat before, t) ∷ flagged_tails (t ∷ before) ts

-- the tails among these nodes, each with its flag, in order
abbrev pub tails_among : List Node → List (Bool × Tail)
tails_among [] = []
tails_among (expr role e ∷ ns) = tails_among ns
tails_among (term role t ∷ ns) = tails_among ns
tails_among (tail splat t ∷ ns) = (splat, t) ∷ tails_among ns
tails_among (part x ∷ ns) = tails_among ns
tails_among (member m ∷ ns) = tails_among ns

abbrev pub tails_of_expr : ExprKindLayer → List (Bool × Tail)
tails_of_expr (ExprKind-F.Postfix t tails) = flagged_tails [] tails
tails_of_expr _ = []

-- ---- the law

-- The rules visit the expressions and terms in a node in just these roles, and in no other, and the
-- tails in an expression with just these flags.
pub record RolesAreRight : Type 0 where
  pub of_exprs : (role : Role) (n : Node) → exprs_in_role role (children n) ≡ exprs_of role n
  pub of_terms : (n : Node) → terms_among (children n) ≡ terms_of n
  pub of_tails : (role : Role) (e : Expr)
      → tails_among (children (expr role e)) ≡ tails_of_expr (out-ExprKind e.kind)
