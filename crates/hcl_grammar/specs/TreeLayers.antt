-- One level of the syntax tree. The types of a tree are closed cycles: `out-ExprKind` opens a value
-- by one level, so that its variants can be distinguished (`ExprKind-F.Binary ..`), and what is in
-- it is closed again. `ExprKind-F` has the types of the cycle as its arguments; here they are
-- filled in, once for each type.
use Rattle.hcl_grammar.specs.declared.tree.Block.{Block}
use Rattle.hcl_grammar.specs.declared.tree.Body.{Body}
use Rattle.hcl_grammar.specs.declared.tree.Call.{Call}
use Rattle.hcl_grammar.specs.declared.tree.Content.{Content}
use Rattle.hcl_grammar.specs.declared.tree.Content.TheOpen.{Content-F, Member-F}
use Rattle.hcl_grammar.specs.declared.tree.Elem.{Elem}
use Rattle.hcl_grammar.specs.declared.tree.Expr.{Expr}
use Rattle.hcl_grammar.specs.declared.tree.ExprKind.{ExprKind}
use Rattle.hcl_grammar.specs.declared.tree.ExprKind.TheOpen.{ExprKind-F, Primary-F, Tail-F, Part-F, Call-F}
use Rattle.hcl_grammar.specs.declared.tree.ForDirective.{ForDirective}
use Rattle.hcl_grammar.specs.declared.tree.ForObject.{ForObject}
use Rattle.hcl_grammar.specs.declared.tree.ForTuple.{ForTuple}
use Rattle.hcl_grammar.specs.declared.tree.IfDirective.{IfDirective}
use Rattle.hcl_grammar.specs.declared.tree.Intro.{Intro}
use Rattle.hcl_grammar.specs.declared.tree.Member.{Member}
use Rattle.hcl_grammar.specs.declared.tree.Operation.{Operation}
use Rattle.hcl_grammar.specs.declared.tree.Part.{Part}
use Rattle.hcl_grammar.specs.declared.tree.Primary.{Primary}
use Rattle.hcl_grammar.specs.declared.tree.Tail.{Tail}
use Rattle.hcl_grammar.specs.declared.tree.Template.{Template}
use Rattle.hcl_grammar.specs.declared.tree.Term.{Term}

abbrev pub ExprKindLayer : Type 0
ExprKindLayer =
    ExprKind-F ExprKind Part Primary Tail Call Elem Expr ForDirective ForObject ForTuple IfDirective Intro
    Operation Template Term

abbrev pub PrimaryLayer : Type 0
PrimaryLayer =
    Primary-F ExprKind Part Primary Tail Call Elem Expr ForDirective ForObject ForTuple IfDirective Intro
    Operation Template Term

abbrev pub TailLayer : Type 0
TailLayer =
    Tail-F ExprKind Part Primary Tail Call Elem Expr ForDirective ForObject ForTuple IfDirective Intro
    Operation Template Term

abbrev pub PartLayer : Type 0
PartLayer =
    Part-F ExprKind Part Primary Tail Call Elem Expr ForDirective ForObject ForTuple IfDirective Intro
    Operation Template Term

abbrev pub CallLayer : Type 0
CallLayer =
    Call-F ExprKind Part Primary Tail Call Elem Expr ForDirective ForObject ForTuple IfDirective Intro
    Operation Template Term

abbrev pub ContentLayer : Type 0
ContentLayer = Content-F Content Member Block Body

abbrev pub MemberLayer : Type 0
MemberLayer = Member-F Content Member Block Body
