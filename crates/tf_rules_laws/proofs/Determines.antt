-- A node is determined by what it has of its own and by its parts.
use Rattle.std.proofs.Common.{◌≡◌, ℕ, Bool, false, List, [], ◌∷◌, ◌++◌, map, length, Option, Some, None, refl, sym, ap, ◌∙◌, arith, append-nil}
use Rattle.std.specs.List.{flat_map}
use Rattle.hcl_grammar.specs.declared.tree.Attribute.{Attribute}
use Rattle.hcl_grammar.specs.declared.tree.Block.{Block, roll-Block}
use Rattle.hcl_grammar.specs.declared.tree.Body.{Body, roll-Body}
use Rattle.hcl_grammar.specs.declared.tree.Call.{Call, out-Call}
use Rattle.hcl_grammar.specs.declared.tree.Content.{Content, out-Content}
use Rattle.hcl_grammar.specs.declared.tree.Content.TheOpen.{Content-F, Member-F}
use Rattle.hcl_grammar.specs.declared.tree.Content.TheViews as bodies
use Rattle.hcl_grammar.specs.declared.tree.Elem.{Elem, roll-Elem}
use Rattle.hcl_grammar.specs.declared.tree.Expr.{Expr, roll-Expr}
use Rattle.hcl_grammar.specs.declared.tree.ForDirective.{ForDirective, roll-ForDirective}
use Rattle.hcl_grammar.specs.declared.tree.ForObject.{ForObject, out-ForObject}
use Rattle.hcl_grammar.specs.declared.tree.ForTuple.{ForTuple, out-ForTuple}
use Rattle.hcl_grammar.specs.declared.tree.ExprKind.{ExprKind, out-ExprKind}
use Rattle.hcl_grammar.specs.declared.tree.ExprKind.TheOpen.{ExprKind-F, Primary-F, Tail-F, Part-F}
use Rattle.hcl_grammar.specs.declared.tree.ExprKind.TheViews as views
use Rattle.hcl_grammar.specs.declared.tree.IfDirective.{IfDirective, out-IfDirective}
use Rattle.hcl_grammar.specs.declared.tree.Intro.{Intro, roll-Intro}
use Rattle.hcl_grammar.specs.declared.tree.Label.{Label}
use Rattle.hcl_grammar.specs.declared.tree.Operation.{Operation, roll-Operation}
use Rattle.hcl_grammar.specs.declared.tree.Member.{Member, out-Member}
use Rattle.hcl_grammar.specs.declared.tree.BinaryOperator.{BinaryOperator}
use Rattle.hcl_grammar.specs.declared.tree.Part.{Part, out-Part}
use Rattle.hcl_grammar.specs.declared.tree.Primary.{Primary, out-Primary}
use Rattle.hcl_grammar.specs.declared.tree.Tail.{Tail, out-Tail}
use Rattle.hcl_grammar.specs.declared.tree.Template.{Template, roll-Template}
use Rattle.hcl_grammar.specs.declared.tree.Term.{Term, roll-Term}
use Rattle.tf_rules.specs.declared.role.Role.{Role}
use Rattle.tf_rules.specs.declared.role.Role.TheVariants.{Element, Argument, Elsewhere}
use Rattle.hcl_grammar.specs.TreeLayers.{ExprKindLayer, PrimaryLayer, TailLayer, PartLayer, ContentLayer, MemberLayer}
use Rattle.tf_rules.specs.Preorder as nodes
use Rattle.tf_rules.specs.Preorder.{Node, expr, term, tail, part, member, nodes_of_tails, splat_after, expr_kind_children, elem_children, filter_children, for_tuple_children, for_object_children, primary_children, tail_children, else_children, if_children, part_children, content_children, member_children, IsPreorder}
use Rattle.tf_rules_laws.specs.Payload.{Payload, node_key, PreorderDeterminesTree, expr_kind_payload, intro_payload, primary_payload, tail_payload, else_payload, part_payload, attribute_payload, content_payload, member_payload, ChildrenAreComplete}

-- ---- what opens to one layer is one

form_is : (x y : ExprKind) → out-ExprKind x ≡ out-ExprKind y → x ≡ y
form_is x y e = sym (views.roll-out-ExprKind x) ∙ (ap views.roll-ExprKind e ∙ views.roll-out-ExprKind y)

shape_is : (x y : Primary) → out-Primary x ≡ out-Primary y → x ≡ y
shape_is x y e = sym (views.roll-out-Primary x) ∙ (ap views.roll-Primary e ∙ views.roll-out-Primary y)

tail_is : (x y : Tail) → out-Tail x ≡ out-Tail y → x ≡ y
tail_is x y e = sym (views.roll-out-Tail x) ∙ (ap views.roll-Tail e ∙ views.roll-out-Tail y)

part_is : (x y : Part) → out-Part x ≡ out-Part y → x ≡ y
part_is x y e = sym (views.roll-out-Part x) ∙ (ap views.roll-Part e ∙ views.roll-out-Part y)

content_is : (x y : Content) → out-Content x ≡ out-Content y → x ≡ y
content_is x y e = sym (bodies.roll-out-Content x) ∙ (ap bodies.roll-Content e ∙ bodies.roll-out-Content y)

member_is : (x y : Member) → out-Member x ≡ out-Member y → x ≡ y
member_is x y e = sym (bodies.roll-out-Member x) ∙ (ap bodies.roll-Member e ∙ bodies.roll-out-Member y)

-- ---- a struct is determined by its fields

expr_is : (x y : Expr) → x.first ≡ y.first → x.past ≡ y.past → x.kind ≡ y.kind → x ≡ y
expr_is x y e0 e1 e2 = λ i. roll-Expr (record { first = e0 i; past = e1 i; kind = e2 i })

term_is : (x y : Term) → x.first ≡ y.first → x.past ≡ y.past → x.kind ≡ y.kind → x ≡ y
term_is x y e0 e1 e2 = λ i. roll-Term (record { first = e0 i; past = e1 i; kind = e2 i })

link_is : (x y : Operation) → x.operator ≡ y.operator → x.operand ≡ y.operand → x ≡ y
link_is x y e0 e1 = λ i. roll-Operation (record { operator = e0 i; operand = e1 i })

elem_is : (x y : Elem) → x.key ≡ y.key → x.value ≡ y.value → x ≡ y
elem_is x y e0 e1 = λ i. roll-Elem (record { key = e0 i; value = e1 i })

template_is : (x y : Template) → x.first ≡ y.first → x.past ≡ y.past → x.parts ≡ y.parts → x ≡ y
template_is x y e0 e1 e2 = λ i. roll-Template (record { first = e0 i; past = e1 i; parts = e2 i })

intro_is : (x y : Intro) → x.first ≡ y.first → x.past ≡ y.past → x.name ≡ y.name → x.second_name ≡ y.second_name → x.collection ≡ y.collection → x ≡ y
intro_is x y e0 e1 e2 e3 e4 = λ i.
    roll-Intro (record { first = e0 i; past = e1 i; name = e2 i; second_name = e3 i; collection = e4 i })

for_directive_is : (x y : ForDirective) → x.first ≡ y.first → x.past ≡ y.past → x.intro ≡ y.intro → x.body ≡ y.body → x ≡ y
for_directive_is x y e0 e1 e2 e3 = λ i.
    roll-ForDirective (record { first = e0 i; past = e1 i; intro = e2 i; body = e3 i })

attribute_is : (x y : Attribute) → x.first ≡ y.first → x.past ≡ y.past → x.name ≡ y.name → x.value ≡ y.value → x ≡ y
attribute_is x y e0 e1 e2 e3 = λ i. record { first = e0 i; past = e1 i; name = e2 i; value = e3 i }

body_is : (x y : Body) → x.first ≡ y.first → x.past ≡ y.past → x.members ≡ y.members → x ≡ y
body_is x y e0 e1 e2 = λ i. roll-Body (record { first = e0 i; past = e1 i; members = e2 i })

block_is : (x y : Block) → x.first ≡ y.first → x.past ≡ y.past → x.block_type ≡ y.block_type → x.labels ≡ y.labels → x.content ≡ y.content → x ≡ y
block_is x y e0 e1 e2 e3 e4 = λ i.
    roll-Block (record { first = e0 i; past = e1 i; block_type = e2 i; labels = e3 i; content = e4 i })

call_is : (x y : Call) → (out-Call x).names ≡ (out-Call y).names → (out-Call x).arguments ≡ (out-Call y).arguments → (out-Call x).expand_final ≡ (out-Call y).expand_final → x ≡ y
call_is x y e0 e1 e2 =
    let e : views.roll-Call (out-Call x) ≡ views.roll-Call (out-Call y) = λ i.
    views.roll-Call (record { names = e0 i; arguments = e1 i; expand_final = e2 i }) in
    sym (views.roll-out-Call x) ∙ (e ∙ views.roll-out-Call y)

for_tuple_is : (x y : ForTuple) → (out-ForTuple x).intro ≡ (out-ForTuple y).intro → (out-ForTuple x).value ≡ (out-ForTuple y).value → (out-ForTuple x).filter ≡ (out-ForTuple y).filter → x ≡ y
for_tuple_is x y e0 e1 e2 =
    let e : views.roll-ForTuple (out-ForTuple x) ≡ views.roll-ForTuple (out-ForTuple y) = λ i.
    views.roll-ForTuple (record { intro = e0 i; value = e1 i; filter = e2 i }) in
    sym (views.roll-out-ForTuple x) ∙ (e ∙ views.roll-out-ForTuple y)

for_object_is : (x y : ForObject) → (out-ForObject x).intro ≡ (out-ForObject y).intro → (out-ForObject x).key ≡ (out-ForObject y).key → (out-ForObject x).value ≡ (out-ForObject y).value → (out-ForObject x).grouped ≡ (out-ForObject y).grouped → (out-ForObject x).filter ≡ (out-ForObject y).filter → x ≡ y
for_object_is x y e0 e1 e2 e3 e4 =
    let e : views.roll-ForObject (out-ForObject x) ≡ views.roll-ForObject (out-ForObject y) = λ i.
    views.roll-ForObject (record { intro = e0 i; key = e1 i; value = e2 i; grouped = e3 i; filter = e4 i }) in
    sym (views.roll-out-ForObject x) ∙ (e ∙ views.roll-out-ForObject y)

if_directive_is : (x y : IfDirective) → (out-IfDirective x).first ≡ (out-IfDirective y).first → (out-IfDirective x).past ≡ (out-IfDirective y).past → (out-IfDirective x).condition ≡ (out-IfDirective y).condition → (out-IfDirective x).then_branch ≡ (out-IfDirective y).then_branch → (out-IfDirective x).else_branch ≡ (out-IfDirective y).else_branch → x ≡ y
if_directive_is x y e0 e1 e2 e3 e4 =
    let e : views.roll-IfDirective (out-IfDirective x) ≡ views.roll-IfDirective (out-IfDirective y) = λ i.
    views.roll-IfDirective
    (record { first = e0 i; past = e1 i; condition = e2 i; then_branch = e3 i; else_branch = e4 i }) in
    sym (views.roll-out-IfDirective x) ∙ (e ∙ views.roll-out-IfDirective y)

-- ---- lists

listed : {A B : Type 0} (f : A → B) → ((x y : A) → f x ≡ f y → x ≡ y) → (xs ys : List A) → map f xs ≡ map f ys → xs ≡ ys
listed f h [] [] e = refl
listed f h [] (y ∷ ys) e = absurd (cc)
listed f h (x ∷ xs) [] e = absurd (cc)
listed f h (x ∷ xs) (y ∷ ys) e =
    let one : x ≡ y = h x y (cc) in
    let more : xs ≡ ys = listed f h xs ys (cc) in
    cc

exprs : (p : Role) (xs ys : List Expr) → map (expr p) xs ≡ map (expr p) ys → xs ≡ ys
exprs p = listed (expr p) (λ x y e. (let h : x ≡ y = cc in h))

parted : (xs ys : List Part) → map part xs ≡ map part ys → xs ≡ ys
parted = listed part (λ x y e. (let h : x ≡ y = cc in h))

membered : (xs ys : List Member) → map member xs ≡ map member ys → xs ≡ ys
membered = listed member (λ x y e. (let h : x ≡ y = cc in h))

linked : (xs ys : List Operation) → map (λ (l : Operation). l.operator) xs ≡ map (λ (l : Operation). l.operator) ys
    → map (λ (l : Operation). expr Elsewhere l.operand) xs ≡ map (λ (l : Operation). expr Elsewhere l.operand) ys → xs ≡ ys
linked [] [] e f = refl
linked [] (y ∷ ys) e f = absurd (cc)
linked (x ∷ xs) [] e f = absurd (cc)
linked (x ∷ xs) (y ∷ ys) e f =
    let one : x ≡ y = link_is x y (cc) (cc) in
    let more : xs ≡ ys = linked xs ys (cc) (cc) in
    cc

tailed : (s : Bool) (xs ys : List Tail) → nodes_of_tails s xs ≡ nodes_of_tails s ys → xs ≡ ys
tailed s [] [] e = refl
tailed s [] (y ∷ ys) e = absurd (cc)
tailed s (x ∷ xs) [] e = absurd (cc)
tailed s (x ∷ xs) (y ∷ ys) e =
    let one : x ≡ y = cc in
    let more : xs ≡ ys = tailed (splat_after s (out-Tail x)) xs ys (cc) in
    cc

elemed : (xs ys : List Elem) → flat_map elem_children xs ≡ flat_map elem_children ys → xs ≡ ys
elemed [] [] e = refl
elemed [] (y ∷ ys) e = absurd (cc)
elemed (x ∷ xs) [] e = absurd (cc)
elemed (x ∷ xs) (y ∷ ys) e =
    let one : x ≡ y = elem_is x y (cc) (cc) in
    let more : xs ≡ ys = elemed xs ys (cc) in
    cc

filtered : (x y : Option Expr) → filter_children x ≡ filter_children y → x ≡ y
filtered None None e = refl
filtered None (Some y) e = absurd (cc)
filtered (Some x) None e = absurd (cc)
filtered (Some x) (Some y) e = cc

-- the parts before `else`, which are counted, and those after it
elsed : (xs ys : List Part) (x y : Option Template) → length xs ≡ length ys → else_payload x ≡ else_payload y
    → map part xs ++ else_children x ≡ map part ys ++ else_children y → (xs ≡ ys) × (x ≡ y)
elsed [] [] None None n e f = (refl, refl)
elsed [] [] None (Some y) n e f = absurd (cc)
elsed [] [] (Some x) None n e f = absurd (cc)
elsed [] [] (Some x) (Some y) n e f = (refl, (let one : x ≡ y = template_is x y (cc) (cc) (parted x.parts y.parts f) in cc))
elsed [] (q ∷ ys) x y n e f = absurd (omega (arith, n))
elsed (p ∷ xs) [] x y n e f = absurd (omega (arith, n))
elsed (p ∷ xs) (q ∷ ys) x y n e f =
    let more = elsed xs ys x y (omega (arith, n)) e (cc) in
    let first = more.0 in
    ((let h : p ∷ xs ≡ q ∷ ys = cc in h), more.1)

-- ---- one layer

form_same : (p : Role) (x y : ExprKindLayer) → expr_kind_payload x ≡ expr_kind_payload y → expr_kind_children p x ≡ expr_kind_children p y → x ≡ y
form_same p (ExprKind-F.Conditional a b c) (ExprKind-F.Conditional d g h) e f = cc
form_same p (ExprKind-F.Binary a ls) (ExprKind-F.Binary b ms) e f = let more : ls ≡ ms = linked ls ms (cc) (cc) in cc
form_same p (ExprKind-F.Unary o a) (ExprKind-F.Unary q b) e f = cc
form_same p (ExprKind-F.Postfix t xs) (ExprKind-F.Postfix u ys) e f = let more : xs ≡ ys = tailed false xs ys (cc) in cc
form_same p (ExprKind-F.Term t) (ExprKind-F.Term u) e f = cc
form_same p _ _ e f = absurd (cc)

for_tuple_same : (x y : ForTuple) → intro_payload (out-ForTuple x).intro ≡ intro_payload (out-ForTuple y).intro → for_tuple_children x ≡ for_tuple_children y → x ≡ y
for_tuple_same x y e f =
    let i = intro_is (out-ForTuple x).intro (out-ForTuple y).intro (cc) (cc) (cc) (cc) (cc) in
    let o = filtered (out-ForTuple x).filter (out-ForTuple y).filter (cc) in
    for_tuple_is x y i (cc) o

for_object_same : (x y : ForObject) → (out-ForObject x).grouped ≡ (out-ForObject y).grouped → intro_payload (out-ForObject x).intro ≡ intro_payload (out-ForObject y).intro
    → for_object_children x ≡ for_object_children y → x ≡ y
for_object_same x y g e f =
    let i = intro_is (out-ForObject x).intro (out-ForObject y).intro (cc) (cc) (cc) (cc) (cc) in
    let o = filtered (out-ForObject x).filter (out-ForObject y).filter (cc) in
    for_object_is x y i (cc) (cc) g o

shape_same : (x y : PrimaryLayer) → primary_payload x ≡ primary_payload y → primary_children x ≡ primary_children y → x ≡ y
shape_same Primary-F.Number Primary-F.Number e f = refl
shape_same Primary-F.Identifier Primary-F.Identifier e f = refl
shape_same (Primary-F.Call c) (Primary-F.Call d) e f = let one : c ≡ d = call_is c d (cc) (exprs Argument (out-Call c).arguments (out-Call d).arguments f) (cc) in cc
shape_same (Primary-F.Tuple xs) (Primary-F.Tuple ys) e f = let one : xs ≡ ys = exprs Element xs ys f in cc
shape_same (Primary-F.Object xs) (Primary-F.Object ys) e f = let one : xs ≡ ys = elemed xs ys f in cc
shape_same (Primary-F.ForTuple x) (Primary-F.ForTuple y) e f = let one : x ≡ y = for_tuple_same x y (cc) f in cc
shape_same (Primary-F.ForObject x) (Primary-F.ForObject y) e f = let one : x ≡ y = for_object_same x y (cc) (cc) f in cc
shape_same (Primary-F.Quoted x) (Primary-F.Quoted y) e f = let one : x ≡ y = template_is x y (cc) (cc) (parted x.parts y.parts f) in cc
shape_same (Primary-F.Heredoc x) (Primary-F.Heredoc y) e f = let one : x ≡ y = template_is x y (cc) (cc) (parted x.parts y.parts f) in cc
shape_same (Primary-F.Parens x) (Primary-F.Parens y) e f = cc
shape_same _ _ e f = absurd (cc)

tail_same : (x y : TailLayer) → tail_payload x ≡ tail_payload y → tail_children x ≡ tail_children y → x ≡ y
tail_same (Tail-F.Name n) (Tail-F.Name m) e f = cc
tail_same (Tail-F.LegacyIndex n) (Tail-F.LegacyIndex m) e f = cc
tail_same Tail-F.AttributeSplat Tail-F.AttributeSplat e f = refl
tail_same Tail-F.FullSplat Tail-F.FullSplat e f = refl
tail_same (Tail-F.Index a) (Tail-F.Index b) e f = cc
tail_same _ _ e f = absurd (cc)

if_same : (x y : IfDirective) → part_payload (Part-F.If x) ≡ part_payload (Part-F.If y) → if_children x ≡ if_children y → x ≡ y
if_same x y e f =
    let both = elsed (out-IfDirective x).then_branch.parts (out-IfDirective y).then_branch.parts (out-IfDirective x).else_branch (out-IfDirective y).else_branch (cc) (cc) (cc) in
    let met = template_is (out-IfDirective x).then_branch (out-IfDirective y).then_branch (cc) (cc) both.0 in
    if_directive_is x y (cc) (cc) (cc) met both.1

for_same : (x y : ForDirective) → part_payload (Part-F.For x) ≡ part_payload (Part-F.For y) → part_children (Part-F.For x) ≡ part_children (Part-F.For y) → x ≡ y
for_same x y e f =
    let i = intro_is x.intro y.intro (cc) (cc) (cc) (cc) (cc) in
    let b = template_is x.body y.body (cc) (cc) (parted x.body.parts y.body.parts (cc)) in
    for_directive_is x y (cc) (cc) i b

part_same : (x y : PartLayer) → part_payload x ≡ part_payload y → part_children x ≡ part_children y → x ≡ y
part_same (Part-F.Literal n) (Part-F.Literal m) e f = cc
part_same (Part-F.Interp a) (Part-F.Interp b) e f = cc
part_same (Part-F.If x) (Part-F.If y) e f = let one : x ≡ y = if_same x y e f in cc
part_same (Part-F.For x) (Part-F.For y) e f = let one : x ≡ y = for_same x y e f in cc
part_same _ _ e f = absurd (cc)

attribute_same : (x y : Attribute) → attribute_payload x ≡ attribute_payload y → x.value ≡ y.value → x ≡ y
attribute_same x y e f = attribute_is x y (cc) (cc) (cc) f

content_same : (x y : ContentLayer) → content_payload x ≡ content_payload y → content_children x ≡ content_children y → x ≡ y
content_same (Content-F.Body a) (Content-F.Body b) e f = let one : a ≡ b = body_is a b (cc) (cc) (membered a.members b.members f) in cc
content_same (Content-F.OneLine None) (Content-F.OneLine None) e f = refl
content_same (Content-F.OneLine (Some a)) (Content-F.OneLine (Some b)) e f = let one : a ≡ b = attribute_same a b (cc) (cc) in cc
content_same (Content-F.Body a) (Content-F.OneLine None) e f = absurd (cc)
content_same (Content-F.Body a) (Content-F.OneLine (Some b)) e f = absurd (cc)
content_same (Content-F.OneLine None) (Content-F.Body b) e f = absurd (cc)
content_same (Content-F.OneLine None) (Content-F.OneLine (Some b)) e f = absurd (cc)
content_same (Content-F.OneLine (Some a)) (Content-F.Body b) e f = absurd (cc)
content_same (Content-F.OneLine (Some a)) (Content-F.OneLine None) e f = absurd (cc)

block_same : (x y : Block) → member_payload (Member-F.Block x) ≡ member_payload (Member-F.Block y) → content_children (out-Content x.content) ≡ content_children (out-Content y.content) → x ≡ y
block_same x y e f =
    let c = content_is x.content y.content (content_same (out-Content x.content) (out-Content y.content) (cc) f) in
    block_is x y (cc) (cc) (cc) (cc) c

member_same : (x y : MemberLayer) → member_payload x ≡ member_payload y → member_children x ≡ member_children y → x ≡ y
member_same (Member-F.Attribute a) (Member-F.Attribute b) e f = let one : a ≡ b = attribute_same a b (cc) (cc) in cc
member_same (Member-F.Block a) (Member-F.Block b) e f = let one : a ≡ b = block_same a b e f in cc
member_same _ _ e f = absurd (cc)

-- ---- a node

pub none_forgotten : ChildrenAreComplete
none_forgotten (expr p a) (expr q b) e f =
    let r : p ≡ q = cc in
    let x = form_same p (out-ExprKind a.kind) (out-ExprKind b.kind) (cc) (f ∙ ap (λ r. expr_kind_children r (out-ExprKind b.kind)) (sym r)) in
    let one : a ≡ b = expr_is a b (cc) (cc) (form_is a.kind b.kind x) in
    cc
none_forgotten (term p a) (term q b) e f =
    let x = shape_same (out-Primary a.kind) (out-Primary b.kind) (cc) f in
    let one : a ≡ b = term_is a b (cc) (cc) (shape_is a.kind b.kind x) in
    cc
none_forgotten (tail s x) (tail z y) e f = let one : x ≡ y = tail_is x y (tail_same (out-Tail x) (out-Tail y) (cc) f) in cc
none_forgotten (part x) (part y) e f = let one : x ≡ y = part_is x y (part_same (out-Part x) (out-Part y) (cc) f) in cc
none_forgotten (member x) (member y) e f = let one : x ≡ y = member_is x y (member_same (out-Member x) (out-Member y) (cc) f) in cc
none_forgotten _ _ e f = absurd (cc)

-- ---- a tree

map-append : {A B : Type 0} (f : A → B) (xs ys : List A) (zs : List B) → map f (xs ++ ys) ++ zs ≡ map f xs ++ (map f ys ++ zs)
map-append f [] ys zs = refl
map-append f (x ∷ xs) ys zs = ap (λ l. f x ∷ l) (map-append f xs ys zs)

determines : {ns ms xs ys : List Node} → IsPreorder ns xs → IsPreorder ms ys → length ns ≡ length ms → (zs us : List (List Payload × ℕ)) → map node_key xs ++ zs ≡ map node_key ys ++ us
    → (ns ≡ ms) × (zs ≡ us)
determines nodes.no_nodes nodes.no_nodes l zs us e = (refl, e)
determines nodes.no_nodes (nodes.visit a b) l zs us e = absurd (omega (arith, l))
determines (nodes.visit a b) nodes.no_nodes l zs us e = absurd (omega (arith, l))
determines (nodes.visit {n} {ns} {inside} {others} a b) (nodes.visit {n = m} {ns = ms} {inside = within} {others = more} c d) l zs us e =
    let h : node_key n ≡ node_key m = cc in
    let t : map node_key (inside ++ others) ++ zs ≡ map node_key (within ++ more) ++ us = cc in
    let parted = determines a c (ap (λ p. p.1) h) (map node_key others ++ zs) (map node_key more ++ us) (sym (map-append node_key inside others zs) ∙ (t ∙ map-append node_key within more us)) in
    let rest = determines b d (omega (arith, l)) zs us parted.1 in
    let first : n ≡ m = none_forgotten n m (ap (λ p. p.0) h) parted.0 in
    let following : ns ≡ ms = rest.0 in
    ((let all : n ∷ ns ≡ m ∷ ms = cc in all), rest.1)

pub tree_determined : PreorderDeterminesTree
tree_determined ns ms xs ys l a b e =
    (determines a b l [] [] (append-nil (map node_key xs) ∙ (e ∙ sym (append-nil (map node_key ys))))).0
