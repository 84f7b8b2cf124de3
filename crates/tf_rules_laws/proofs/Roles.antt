-- The roles of what is in a node, layer by layer.
use Rattle.std.proofs.Common.{◌≡◌, Bool, true, false, List, [], ◌∷◌, ◌++◌, map, Option, Some, None, refl, ap, ap₂, ◌∙◌, if◌then◌else◌}
use Rattle.std.specs.List.{flat_map}
use Rattle.hcl_grammar.specs.declared.tree.Call.{out-Call}
use Rattle.hcl_grammar.specs.declared.tree.Content.{out-Content}
use Rattle.hcl_grammar.specs.declared.tree.Content.TheOpen.{Content-F, Member-F}
use Rattle.hcl_grammar.specs.declared.tree.Elem.{Elem}
use Rattle.hcl_grammar.specs.declared.tree.Expr.{Expr}
use Rattle.hcl_grammar.specs.declared.tree.ForObject.{out-ForObject}
use Rattle.hcl_grammar.specs.declared.tree.ForTuple.{out-ForTuple}
use Rattle.hcl_grammar.specs.declared.tree.ExprKind.{out-ExprKind}
use Rattle.hcl_grammar.specs.declared.tree.ExprKind.TheOpen.{ExprKind-F, Primary-F, Tail-F, Part-F}
use Rattle.hcl_grammar.specs.declared.tree.IfDirective.{out-IfDirective}
use Rattle.hcl_grammar.specs.declared.tree.Operation.{Operation}
use Rattle.hcl_grammar.specs.declared.tree.Member.{Member, out-Member}
use Rattle.hcl_grammar.specs.declared.tree.Part.{Part, out-Part}
use Rattle.hcl_grammar.specs.declared.tree.Primary.{out-Primary}
use Rattle.hcl_grammar.specs.declared.tree.Tail.{Tail, out-Tail}
use Rattle.hcl_grammar.specs.declared.tree.Template.{Template}
use Rattle.hcl_grammar.specs.declared.tree.Term.{Term}
use Rattle.hcl_grammar.specs.TreeLayers.{ExprKindLayer, PrimaryLayer, TailLayer, PartLayer, ContentLayer, MemberLayer}
use Rattle.tf_rules.specs.declared.role.Role.{Role}
use Rattle.tf_rules.specs.declared.role.Role.TheVariants.{AttributeValue, Element, ObjectKey, ObjectValue, Argument, Parentheses, Index, Interpolation, Elsewhere}
use Rattle.tf_rules.specs.Preorder.{Node, expr, term, tail, part, member, children, nodes_of_tails, splat_after, expr_kind_children, elem_children, filter_children, primary_children, tail_children, else_children, part_children, content_children, member_children}
use Rattle.tf_rules_laws.specs.Roles.{is_same_role, exprs_in_role, optional_filter, content_values, of_expr, of_term, of_tail, of_part, of_member, exprs_of, terms_among, term_of_expr, terms_of, leads_back_over, leads_back_to_splat, flagged_tails, tails_among, tails_of_expr, RolesAreRight}

if_true : {X : Type 0} (b : Bool) (x y : X) → b ≡ true → (if b then x else y) ≡ x
if_true true x y e = refl
if_true false x y e = absurd (cc)

if_false : {X : Type 0} (b : Bool) (x y : X) → b ≡ false → (if b then x else y) ≡ y
if_false true x y e = absurd (cc)
if_false false x y e = refl

-- ---- expressions in one role

all_exprs : (role other : Role) → is_same_role role other ≡ true → (es : List Expr) → exprs_in_role role (map (expr other) es) ≡ es
all_exprs role other h [] = refl
all_exprs role other h (e ∷ es) =
    let rest = exprs_in_role role (map (expr other) es) in
    if_true (is_same_role role other) (e ∷ rest) rest h ∙ ap (λ (xs : List Expr). e ∷ xs) (all_exprs role other h es)

no_exprs : (role other : Role) → is_same_role role other ≡ false → (es : List Expr) → exprs_in_role role (map (expr other) es) ≡ []
no_exprs role other h [] = refl
no_exprs role other h (e ∷ es) =
    let rest = exprs_in_role role (map (expr other) es) in
    if_false (is_same_role role other) (e ∷ rest) rest h ∙ no_exprs role other h es

all_links : (ls : List Operation) → exprs_in_role Elsewhere (map (λ (l : Operation). expr Elsewhere l.operand) ls) ≡ map (λ (l : Operation). l.operand) ls
all_links [] = refl
all_links (l ∷ ls) = ap (λ (xs : List Expr). l.operand ∷ xs) (all_links ls)

no_links : (role : Role) → is_same_role role Elsewhere ≡ false → (ls : List Operation) → exprs_in_role role (map (λ (l : Operation). expr Elsewhere l.operand) ls) ≡ []
no_links role h [] = refl
no_links role h (l ∷ ls) =
    let rest = exprs_in_role role (map (λ (l : Operation). expr Elsewhere l.operand) ls) in
    if_false (is_same_role role Elsewhere) (l.operand ∷ rest) rest h ∙ no_links role h ls

all_keys : (xs : List Elem) → exprs_in_role ObjectKey (flat_map elem_children xs) ≡ map (λ (x : Elem). x.key) xs
all_keys [] = refl
all_keys (x ∷ xs) = ap (λ (es : List Expr). x.key ∷ es) (all_keys xs)

all_values : (xs : List Elem) → exprs_in_role ObjectValue (flat_map elem_children xs) ≡ map (λ (x : Elem). x.value) xs
all_values [] = refl
all_values (x ∷ xs) = ap (λ (es : List Expr). x.value ∷ es) (all_values xs)

no_elems : (role : Role) → is_same_role role ObjectKey ≡ false → is_same_role role ObjectValue ≡ false → (xs : List Elem) → exprs_in_role role (flat_map elem_children xs) ≡ []
no_elems role h k [] = refl
no_elems role h k (x ∷ xs) =
    let rest = exprs_in_role role (flat_map elem_children xs) in
    let value = if is_same_role role ObjectValue then x.value ∷ rest else rest in
    if_false (is_same_role role ObjectKey) (x.key ∷ value) value h ∙ (if_false (is_same_role role ObjectValue) (x.value ∷ rest) rest k ∙ no_elems role h k xs)

all_filters : (o : Option Expr) → exprs_in_role Elsewhere (filter_children o) ≡ optional_filter o
all_filters None = refl
all_filters (Some e) = refl

no_conditions : (role : Role) → is_same_role role Elsewhere ≡ false → (o : Option Expr) → exprs_in_role role (filter_children o) ≡ []
no_conditions role h None = refl
no_conditions role h (Some e) = if_false (is_same_role role Elsewhere) (e ∷ []) [] h

no_tails : (role : Role) (splat : Bool) (xs : List Tail) → exprs_in_role role (nodes_of_tails splat xs) ≡ []
no_tails role splat [] = refl
no_tails role splat (x ∷ xs) = no_tails role (splat_after splat (out-Tail x)) xs

no_parts : (role : Role) (xs : List Part) → exprs_in_role role (map part xs) ≡ []
no_parts role [] = refl
no_parts role (x ∷ xs) = no_parts role xs

after_parts : (role : Role) (xs : List Part) (ns : List Node) → exprs_in_role role ns ≡ [] → exprs_in_role role (map part xs ++ ns) ≡ []
after_parts role [] ns h = h
after_parts role (x ∷ xs) ns h = after_parts role xs ns h

no_else : (role : Role) (o : Option Template) → exprs_in_role role (else_children o) ≡ []
no_else role None = refl
no_else role (Some t) = no_parts role t.parts

no_members : (role : Role) (ms : List Member) → exprs_in_role role (map member ms) ≡ []
no_members role [] = refl
no_members role (m ∷ ms) = no_members role ms

content : (l : ContentLayer) → exprs_in_role AttributeValue (content_children l) ≡ content_values l
content (Content-F.Body b) = no_members AttributeValue b.members
content (Content-F.OneLine None) = refl
content (Content-F.OneLine (Some a)) = refl

no_content : (role : Role) → is_same_role role AttributeValue ≡ false → (l : ContentLayer) → exprs_in_role role (content_children l) ≡ []
no_content role h (Content-F.Body b) = no_members role b.members
no_content role h (Content-F.OneLine None) = refl
no_content role h (Content-F.OneLine (Some a)) = if_false (is_same_role role AttributeValue) (a.value ∷ []) [] h

-- ---- layer by layer

at_expr : (role other : Role) (l : ExprKindLayer) → exprs_in_role role (expr_kind_children other l) ≡ of_expr role l
at_expr Elsewhere other (ExprKind-F.Binary head ls) = ap (λ (es : List Expr). head ∷ es) (all_links ls)
at_expr Elsewhere other (ExprKind-F.Postfix t xs) = no_tails Elsewhere false xs
at_expr role other (ExprKind-F.Binary head ls) = no_links role refl ls
at_expr role other (ExprKind-F.Postfix t xs) = no_tails role false xs
at_expr _ _ _ = refl

at_term : (role : Role) (l : PrimaryLayer) → exprs_in_role role (primary_children l) ≡ of_term role l
at_term Argument (Primary-F.Call c) = all_exprs Argument Argument refl (out-Call c).arguments
at_term Element (Primary-F.Tuple es) = all_exprs Element Element refl es
at_term ObjectKey (Primary-F.Object xs) = all_keys xs
at_term ObjectValue (Primary-F.Object xs) = all_values xs
at_term Elsewhere (Primary-F.ForTuple f) =
    ap (λ (es : List Expr). (out-ForTuple f).intro.collection ∷ (out-ForTuple f).value ∷ es) (all_filters (out-ForTuple f).filter)
at_term Elsewhere (Primary-F.ForObject f) =
    ap (λ (es : List Expr). (out-ForObject f).intro.collection ∷ (out-ForObject f).key ∷ (out-ForObject f).value ∷ es) (all_filters (out-ForObject f).filter)
at_term Element (Primary-F.Quoted t) = no_parts Element t.parts
at_term Element (Primary-F.Heredoc t) = no_parts Element t.parts
at_term role (Primary-F.Call c) = no_exprs role Argument refl (out-Call c).arguments
at_term role (Primary-F.Tuple es) = no_exprs role Element refl es
at_term role (Primary-F.Object xs) = no_elems role refl refl xs
at_term role (Primary-F.ForTuple f) = no_conditions role refl (out-ForTuple f).filter
at_term role (Primary-F.ForObject f) = no_conditions role refl (out-ForObject f).filter
at_term role (Primary-F.Quoted t) = no_parts role t.parts
at_term role (Primary-F.Heredoc t) = no_parts role t.parts
at_term _ _ = refl

at_tail : (role : Role) (l : TailLayer) → exprs_in_role role (tail_children l) ≡ of_tail role l
at_tail Index (Tail-F.Index e) = refl
at_tail role (Tail-F.Index e) = refl
at_tail _ _ = refl

at_part : (role : Role) (l : PartLayer) → exprs_in_role role (part_children l) ≡ of_part role l
at_part Elsewhere (Part-F.If d) =
    ap (λ (es : List Expr). (out-IfDirective d).condition ∷ es) (after_parts Elsewhere (out-IfDirective d).then_branch.parts (else_children (out-IfDirective d).else_branch) (no_else Elsewhere (out-IfDirective d).else_branch))
at_part Elsewhere (Part-F.For d) = ap (λ (es : List Expr). d.intro.collection ∷ es) (no_parts Elsewhere d.body.parts)
at_part role (Part-F.If d) = after_parts role (out-IfDirective d).then_branch.parts (else_children (out-IfDirective d).else_branch) (no_else role (out-IfDirective d).else_branch)
at_part role (Part-F.For d) = no_parts role d.body.parts
at_part _ _ = refl

at_member : (role : Role) (l : MemberLayer) → exprs_in_role role (member_children l) ≡ of_member role l
at_member AttributeValue (Member-F.Attribute a) = refl
at_member AttributeValue (Member-F.Block b) = content (out-Content b.content)
at_member role (Member-F.Attribute a) = refl
at_member role (Member-F.Block b) = no_content role refl (out-Content b.content)

exprs_right : (role : Role) (n : Node) → exprs_in_role role (children n) ≡ exprs_of role n
exprs_right role (expr other e) = at_expr role other (out-ExprKind e.kind)
exprs_right role (term other t) = at_term role (out-Primary t.kind)
exprs_right role (tail splat t) = at_tail role (out-Tail t)
exprs_right role (part x) = at_part role (out-Part x)
exprs_right role (member m) = at_member role (out-Member m)

-- ---- terms

no_term_exprs : (role : Role) (es : List Expr) → terms_among (map (expr role) es) ≡ []
no_term_exprs role [] = refl
no_term_exprs role (e ∷ es) = no_term_exprs role es

no_term_links : (ls : List Operation) → terms_among (map (λ (l : Operation). expr Elsewhere l.operand) ls) ≡ []
no_term_links [] = refl
no_term_links (l ∷ ls) = no_term_links ls

no_term_elems : (xs : List Elem) → terms_among (flat_map elem_children xs) ≡ []
no_term_elems [] = refl
no_term_elems (x ∷ xs) = no_term_elems xs

no_term_conditions : (o : Option Expr) → terms_among (filter_children o) ≡ []
no_term_conditions None = refl
no_term_conditions (Some e) = refl

no_term_tails : (splat : Bool) (xs : List Tail) → terms_among (nodes_of_tails splat xs) ≡ []
no_term_tails splat [] = refl
no_term_tails splat (x ∷ xs) = no_term_tails (splat_after splat (out-Tail x)) xs

no_term_parts : (xs : List Part) → terms_among (map part xs) ≡ []
no_term_parts [] = refl
no_term_parts (x ∷ xs) = no_term_parts xs

after_term_parts : (xs : List Part) (ns : List Node) → terms_among ns ≡ [] → terms_among (map part xs ++ ns) ≡ []
after_term_parts [] ns h = h
after_term_parts (x ∷ xs) ns h = after_term_parts xs ns h

no_term_else : (o : Option Template) → terms_among (else_children o) ≡ []
no_term_else None = refl
no_term_else (Some t) = no_term_parts t.parts

no_term_members : (ms : List Member) → terms_among (map member ms) ≡ []
no_term_members [] = refl
no_term_members (m ∷ ms) = no_term_members ms

terms_at_expr : (role : Role) (l : ExprKindLayer) → terms_among (expr_kind_children role l) ≡ term_of_expr role l
terms_at_expr role (ExprKind-F.Binary head ls) = no_term_links ls
terms_at_expr role (ExprKind-F.Postfix t xs) = ap (λ (ts : List (Role × Term)). (Elsewhere, t) ∷ ts) (no_term_tails false xs)
terms_at_expr _ _ = refl

no_terms_at_term : (l : PrimaryLayer) → terms_among (primary_children l) ≡ []
no_terms_at_term (Primary-F.Call c) = no_term_exprs Argument (out-Call c).arguments
no_terms_at_term (Primary-F.Tuple es) = no_term_exprs Element es
no_terms_at_term (Primary-F.Object xs) = no_term_elems xs
no_terms_at_term (Primary-F.ForTuple f) = no_term_conditions (out-ForTuple f).filter
no_terms_at_term (Primary-F.ForObject f) = no_term_conditions (out-ForObject f).filter
no_terms_at_term (Primary-F.Quoted t) = no_term_parts t.parts
no_terms_at_term (Primary-F.Heredoc t) = no_term_parts t.parts
no_terms_at_term _ = refl

no_terms_at_tail : (l : TailLayer) → terms_among (tail_children l) ≡ []
no_terms_at_tail (Tail-F.Index e) = refl
no_terms_at_tail _ = refl

no_terms_at_part : (l : PartLayer) → terms_among (part_children l) ≡ []
no_terms_at_part (Part-F.If d) = after_term_parts (out-IfDirective d).then_branch.parts (else_children (out-IfDirective d).else_branch) (no_term_else (out-IfDirective d).else_branch)
no_terms_at_part (Part-F.For d) = no_term_parts d.body.parts
no_terms_at_part _ = refl

no_terms_in_content : (l : ContentLayer) → terms_among (content_children l) ≡ []
no_terms_in_content (Content-F.Body b) = no_term_members b.members
no_terms_in_content (Content-F.OneLine None) = refl
no_terms_in_content (Content-F.OneLine (Some a)) = refl

no_terms_at_member : (l : MemberLayer) → terms_among (member_children l) ≡ []
no_terms_at_member (Member-F.Attribute a) = refl
no_terms_at_member (Member-F.Block b) = no_terms_in_content (out-Content b.content)

terms_right : (n : Node) → terms_among (children n) ≡ terms_of n
terms_right (expr role e) = terms_at_expr role (out-ExprKind e.kind)
terms_right (term role t) = no_terms_at_term (out-Primary t.kind)
terms_right (tail splat t) = no_terms_at_tail (out-Tail t)
terms_right (part x) = no_terms_at_part (out-Part x)
terms_right (member m) = no_terms_at_member (out-Member m)

-- ---- tails

over : (l : TailLayer) (splat leads : Bool) → splat ≡ leads → splat_after splat l ≡ leads_back_over l leads
over (Tail-F.Name n) splat leads h = h
over (Tail-F.LegacyIndex n) splat leads h = h
over _ _ _ _ = refl

flagged : (splat : Bool) (before xs : List Tail) → splat ≡ leads_back_to_splat before → tails_among (nodes_of_tails splat xs) ≡ flagged_tails before xs
flagged splat before [] h = refl
flagged splat before (x ∷ xs) h =
    ap₂ (λ (b : Bool) (ts : List (Bool × Tail)). (b, x) ∷ ts) h (flagged (splat_after splat (out-Tail x)) (x ∷ before) xs (over (out-Tail x) splat (leads_back_to_splat before) h))

no_tail_links : (ls : List Operation) → tails_among (map (λ (l : Operation). expr Elsewhere l.operand) ls) ≡ []
no_tail_links [] = refl
no_tail_links (l ∷ ls) = no_tail_links ls

tails_at_expr : (role : Role) (l : ExprKindLayer) → tails_among (expr_kind_children role l) ≡ tails_of_expr l
tails_at_expr role (ExprKind-F.Binary head ls) = no_tail_links ls
tails_at_expr role (ExprKind-F.Postfix t xs) = flagged false [] xs refl
tails_at_expr _ _ = refl

pub roles_are_right : RolesAreRight
roles_are_right = record {
  of_exprs = exprs_right;
  of_terms = terms_right;
  of_tails = λ role e. tails_at_expr role (out-ExprKind e.kind);
}
