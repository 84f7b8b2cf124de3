-- One level of each variant of the tree.
use Rattle.std.proofs.Common.{◌≡◌, ℕ, Bool, List, Option, rules}
use Rattle.hcl_grammar.specs.declared.tree.Attribute.{Attribute}
use Rattle.hcl_grammar.specs.declared.tree.Block.{Block}
use Rattle.hcl_grammar.specs.declared.tree.Body.{Body}
use Rattle.hcl_grammar.specs.declared.tree.Call.{Call, out-Call, roll-Call}
use Rattle.hcl_grammar.specs.declared.tree.Elem.{Elem}
use Rattle.hcl_grammar.specs.declared.tree.Expr.{Expr}
use Rattle.hcl_grammar.specs.declared.tree.ForDirective.{ForDirective}
use Rattle.hcl_grammar.specs.declared.tree.ForObject.{ForObject, out-ForObject, roll-ForObject}
use Rattle.hcl_grammar.specs.declared.tree.ForTuple.{ForTuple, out-ForTuple, roll-ForTuple}
use Rattle.hcl_grammar.specs.declared.tree.IfDirective.{IfDirective, out-IfDirective, roll-IfDirective}
use Rattle.hcl_grammar.specs.declared.tree.Intro.{Intro}
use Rattle.hcl_grammar.specs.declared.tree.Operation.{Operation}
use Rattle.hcl_grammar.specs.declared.tree.UnaryOperator.{UnaryOperator}
use Rattle.hcl_grammar.specs.declared.tree.Template.{Template}
use Rattle.hcl_grammar.specs.declared.tree.Term.{Term}
use Rattle.hcl_grammar.specs.declared.tree.Content.{out-Content}
use Rattle.hcl_grammar.specs.declared.tree.Content.TheOpen.{Content-F, Member-F}
use Rattle.hcl_grammar.specs.declared.tree.Content.TheVariants as content
use Rattle.hcl_grammar.specs.declared.tree.Content.TheViews as bodies
use Rattle.hcl_grammar.specs.declared.tree.ExprKind.{out-ExprKind}
use Rattle.hcl_grammar.specs.declared.tree.ExprKind.TheOpen.{ExprKind-F, Primary-F, Tail-F, Part-F}
use Rattle.hcl_grammar.specs.declared.tree.ExprKind.TheVariants as form
use Rattle.hcl_grammar.specs.declared.tree.ExprKind.TheViews.{the_lemmas}
use Rattle.hcl_grammar.specs.declared.tree.Member.{out-Member}
use Rattle.hcl_grammar.specs.declared.tree.Member.TheVariants as member
use Rattle.hcl_grammar.specs.declared.tree.Part.{out-Part}
use Rattle.hcl_grammar.specs.declared.tree.Part.TheVariants as part
use Rattle.hcl_grammar.specs.declared.tree.Primary.{out-Primary}
use Rattle.hcl_grammar.specs.declared.tree.Primary.TheVariants as shape
use Rattle.hcl_grammar.specs.declared.tree.Tail.{Tail, out-Tail}
use Rattle.hcl_grammar.specs.declared.tree.Tail.TheVariants as tail

pub open_conditional : (a b c : Expr) → out-ExprKind (form.Conditional a b c) ≡ ExprKind-F.Conditional a b c
open_conditional a b c = search (rules, the_lemmas)

pub open_chain : (a : Expr) (b : List Operation) → out-ExprKind (form.Binary a b) ≡ ExprKind-F.Binary a b
open_chain a b = search (rules, the_lemmas)

pub open_prefixed : (a : UnaryOperator) (b : Expr) → out-ExprKind (form.Unary a b) ≡ ExprKind-F.Unary a b
open_prefixed a b = search (rules, the_lemmas)

pub open_tailed : (a : Term) (b : List Tail) → out-ExprKind (form.Postfix a b) ≡ ExprKind-F.Postfix a b
open_tailed a b = search (rules, the_lemmas)

pub open_plain : (a : Term) → out-ExprKind (form.Term a) ≡ ExprKind-F.Term a
open_plain a = search (rules, the_lemmas)

pub open_number : out-Primary shape.Number ≡ Primary-F.Number
open_number = search (rules, the_lemmas)

pub open_identifier : out-Primary shape.Identifier ≡ Primary-F.Identifier
open_identifier = search (rules, the_lemmas)

pub open_call : (a : Call) → out-Primary (shape.Call a) ≡ Primary-F.Call a
open_call a = search (rules, the_lemmas)

pub open_tuple : (a : List Expr) → out-Primary (shape.Tuple a) ≡ Primary-F.Tuple a
open_tuple a = search (rules, the_lemmas)

pub open_object : (a : List Elem) → out-Primary (shape.Object a) ≡ Primary-F.Object a
open_object a = search (rules, the_lemmas)

pub open_for_tuple : (a : ForTuple) → out-Primary (shape.ForTuple a) ≡ Primary-F.ForTuple a
open_for_tuple a = search (rules, the_lemmas)

pub open_for_object : (a : ForObject) → out-Primary (shape.ForObject a) ≡ Primary-F.ForObject a
open_for_object a = search (rules, the_lemmas)

pub open_quoted : (a : Template) → out-Primary (shape.Quoted a) ≡ Primary-F.Quoted a
open_quoted a = search (rules, the_lemmas)

pub open_heredoc : (a : Template) → out-Primary (shape.Heredoc a) ≡ Primary-F.Heredoc a
open_heredoc a = search (rules, the_lemmas)

pub open_parens : (a : Expr) → out-Primary (shape.Parens a) ≡ Primary-F.Parens a
open_parens a = search (rules, the_lemmas)

pub open_name : (a : ℕ) → out-Tail (tail.Name a) ≡ Tail-F.Name a
open_name a = search (rules, the_lemmas)

pub open_legacy : (a : ℕ) → out-Tail (tail.LegacyIndex a) ≡ Tail-F.LegacyIndex a
open_legacy a = search (rules, the_lemmas)

pub open_attribute_splat : out-Tail tail.AttributeSplat ≡ Tail-F.AttributeSplat
open_attribute_splat = search (rules, the_lemmas)

pub open_full_splat : out-Tail tail.FullSplat ≡ Tail-F.FullSplat
open_full_splat = search (rules, the_lemmas)

pub open_index : (a : Expr) → out-Tail (tail.Index a) ≡ Tail-F.Index a
open_index a = search (rules, the_lemmas)

pub open_literal : (a : ℕ) → out-Part (part.Literal a) ≡ Part-F.Literal a
open_literal a = search (rules, the_lemmas)

pub open_interp : (a : Expr) → out-Part (part.Interp a) ≡ Part-F.Interp a
open_interp a = search (rules, the_lemmas)

pub open_if : (a : IfDirective) → out-Part (part.If a) ≡ Part-F.If a
open_if a = search (rules, the_lemmas)

pub open_for : (a : ForDirective) → out-Part (part.For a) ≡ Part-F.For a
open_for a = search (rules, the_lemmas)

pub open_lines : (a : Body) → out-Content (content.Body a) ≡ Content-F.Body a
open_lines a = search (rules, bodies.the_lemmas)

pub open_line : (a : Option Attribute) → out-Content (content.OneLine a) ≡ Content-F.OneLine a
open_line a = search (rules, bodies.the_lemmas)

pub open_attribute : (a : Attribute) → out-Member (member.Attribute a) ≡ Member-F.Attribute a
open_attribute a = search (rules, bodies.the_lemmas)

pub open_block : (a : Block) → out-Member (member.Block a) ≡ Member-F.Block a
open_block a = search (rules, bodies.the_lemmas)

pub call_names : (a : List ℕ) (b : List Expr) (c : Bool) → (out-Call (roll-Call (record { names = a; arguments = b; expand_final = c }))).names ≡ a
call_names a b c = search (rules, the_lemmas)

pub call_arguments : (a : List ℕ) (b : List Expr) (c : Bool) → (out-Call (roll-Call (record { names = a; arguments = b; expand_final = c }))).arguments ≡ b
call_arguments a b c = search (rules, the_lemmas)

pub for_tuple_intro : (a : Intro) (b : Expr) (c : Option Expr) → (out-ForTuple (roll-ForTuple (record { intro = a; value = b; filter = c }))).intro ≡ a
for_tuple_intro a b c = search (rules, the_lemmas)

pub for_tuple_value : (a : Intro) (b : Expr) (c : Option Expr) → (out-ForTuple (roll-ForTuple (record { intro = a; value = b; filter = c }))).value ≡ b
for_tuple_value a b c = search (rules, the_lemmas)

pub for_tuple_filter : (a : Intro) (b : Expr) (c : Option Expr) → (out-ForTuple (roll-ForTuple (record { intro = a; value = b; filter = c }))).filter ≡ c
for_tuple_filter a b c = search (rules, the_lemmas)

pub for_object_intro : (a : Intro) (b : Expr) (c : Expr) (d : Bool) (e : Option Expr) → (out-ForObject (roll-ForObject (record { intro = a; key = b; value = c; grouped = d; filter = e }))).intro ≡ a
for_object_intro a b c d e = search (rules, the_lemmas)

pub for_object_key : (a : Intro) (b : Expr) (c : Expr) (d : Bool) (e : Option Expr) → (out-ForObject (roll-ForObject (record { intro = a; key = b; value = c; grouped = d; filter = e }))).key ≡ b
for_object_key a b c d e = search (rules, the_lemmas)

pub for_object_value : (a : Intro) (b : Expr) (c : Expr) (d : Bool) (e : Option Expr) → (out-ForObject (roll-ForObject (record { intro = a; key = b; value = c; grouped = d; filter = e }))).value ≡ c
for_object_value a b c d e = search (rules, the_lemmas)

pub for_object_filter : (a : Intro) (b : Expr) (c : Expr) (d : Bool) (e : Option Expr) → (out-ForObject (roll-ForObject (record { intro = a; key = b; value = c; grouped = d; filter = e }))).filter ≡ e
for_object_filter a b c d e = search (rules, the_lemmas)

pub if_directive_first : (a : ℕ) (b : ℕ) (c : Expr) (d : Template) (e : Option Template) → (out-IfDirective (roll-IfDirective (record { first = a; past = b; condition = c; then_branch = d; else_branch = e }))).first ≡ a
if_directive_first a b c d e = search (rules, the_lemmas)

pub if_directive_past : (a : ℕ) (b : ℕ) (c : Expr) (d : Template) (e : Option Template) → (out-IfDirective (roll-IfDirective (record { first = a; past = b; condition = c; then_branch = d; else_branch = e }))).past ≡ b
if_directive_past a b c d e = search (rules, the_lemmas)

pub if_directive_condition : (a : ℕ) (b : ℕ) (c : Expr) (d : Template) (e : Option Template) → (out-IfDirective (roll-IfDirective (record { first = a; past = b; condition = c; then_branch = d; else_branch = e }))).condition ≡ c
if_directive_condition a b c d e = search (rules, the_lemmas)

pub if_directive_met : (a : ℕ) (b : ℕ) (c : Expr) (d : Template) (e : Option Template) → (out-IfDirective (roll-IfDirective (record { first = a; past = b; condition = c; then_branch = d; else_branch = e }))).then_branch ≡ d
if_directive_met a b c d e = search (rules, the_lemmas)

pub if_directive_unmet : (a : ℕ) (b : ℕ) (c : Expr) (d : Template) (e : Option Template) → (out-IfDirective (roll-IfDirective (record { first = a; past = b; condition = c; then_branch = d; else_branch = e }))).else_branch ≡ e
if_directive_unmet a b c d e = search (rules, the_lemmas)
