-- The nodes of a tree, each made of what its production has. `first` and `past`: the number of its
-- first token, and the one after its last.
use Rattle.std.specs.Prelude.{ℕ, Bool, List, [], ◌∷◌, Option}
use Rattle.hcl_grammar.specs.declared.tree.Attribute.{Attribute}
use Rattle.hcl_grammar.specs.declared.tree.Block.{roll-Block}
use Rattle.hcl_grammar.specs.declared.tree.Body.{Body, roll-Body}
use Rattle.hcl_grammar.specs.declared.tree.Call.{roll-Call}
use Rattle.hcl_grammar.specs.declared.tree.Content.{Content}
use Rattle.hcl_grammar.specs.declared.tree.Elem.{Elem, roll-Elem}
use Rattle.hcl_grammar.specs.declared.tree.Expr.{Expr, roll-Expr}
use Rattle.hcl_grammar.specs.declared.tree.ForDirective.{roll-ForDirective}
use Rattle.hcl_grammar.specs.declared.tree.ForObject.{roll-ForObject}
use Rattle.hcl_grammar.specs.declared.tree.ForTuple.{roll-ForTuple}
use Rattle.hcl_grammar.specs.declared.tree.ExprKind.{ExprKind}
use Rattle.hcl_grammar.specs.declared.tree.ExprKind.TheVariants as expr_kind
use Rattle.hcl_grammar.specs.declared.tree.IfDirective.{roll-IfDirective}
use Rattle.hcl_grammar.specs.declared.tree.Intro.{Intro, roll-Intro}
use Rattle.hcl_grammar.specs.declared.tree.Label.{Label}
use Rattle.hcl_grammar.specs.declared.tree.Operation.{Operation, roll-Operation}
use Rattle.hcl_grammar.specs.declared.tree.Member.{Member}
use Rattle.hcl_grammar.specs.declared.tree.Member.TheVariants as member
use Rattle.hcl_grammar.specs.declared.tree.BinaryOperator.{BinaryOperator}
use Rattle.hcl_grammar.specs.declared.tree.Part.{Part}
use Rattle.hcl_grammar.specs.declared.tree.Part.TheVariants as part
use Rattle.hcl_grammar.specs.declared.tree.Primary.{Primary}
use Rattle.hcl_grammar.specs.declared.tree.Primary.TheVariants as primary
use Rattle.hcl_grammar.specs.declared.tree.Tail.{Tail}
use Rattle.hcl_grammar.specs.declared.tree.Template.{Template, roll-Template}
use Rattle.hcl_grammar.specs.declared.tree.Term.{Term, roll-Term}
use Rattle.hcl_grammar.specs.declared.tree.Tree.{Tree}

-- an expression
unfoldable pub expr : ℕ → ℕ → ExprKind → Expr
expr first past x = roll-Expr (record { first = first; past = past; kind = x })

-- a term
unfoldable pub term : ℕ → ℕ → Primary → Term
term first past x = roll-Term (record { first = first; past = past; kind = x })

-- an operator of a chain, and its second operand
unfoldable pub operation : BinaryOperator → Expr → Operation
operation op x = roll-Operation (record { operator = op; operand = x })

-- an element of an object
unfoldable pub elem : Expr → Expr → Elem
elem key value = roll-Elem (record { key = key; value = value })

-- an operand, followed by operators of one level, if there are any
abbrev pub binary : ℕ → ℕ → Expr → List Operation → Expr
binary first past head [] = head
binary first past head (x ∷ xs) = expr first past (expr_kind.Binary head (x ∷ xs))

-- a term, with its tails, if there are any
abbrev pub postfix : ℕ → ℕ → Term → List Tail → Expr
postfix first past head [] = expr first past (expr_kind.Term head)
postfix first past head (x ∷ xs) = expr first past (expr_kind.Postfix head (x ∷ xs))

-- a call: the numbers of its names, its arguments, and whether `...` follows the last
unfoldable pub call : List ℕ → List Expr → Bool → Primary
call names arguments expand_final =
    primary.Call (roll-Call (record { names = names; arguments = arguments; expand_final = expand_final }))

-- what begins a `for`: the numbers of its names, and what is gone through
unfoldable pub intro : ℕ → ℕ → ℕ → Option ℕ → Expr → Intro
intro first past name second collection =
    roll-Intro (record {
      first = first;
      past = past;
      name = name;
      second_name = second;
      collection = collection;
    })

-- a `for` in brackets, perhaps with a filter
unfoldable pub for_tuple : Intro → Expr → Option Expr → Primary
for_tuple i value filter =
    primary.ForTuple (roll-ForTuple (record { intro = i; value = value; filter = filter }))

-- a `for` in braces; whether `...` follows its value; perhaps with a filter
unfoldable pub for_object : Intro → Expr → Expr → Bool → Option Expr → Primary
for_object i key value grouped filter =
    primary.ForObject (roll-ForObject
    (record { intro = i; key = key; value = value; grouped = grouped; filter = filter }))

-- a template, by its parts
unfoldable pub template : ℕ → ℕ → List Part → Template
template first past parts = roll-Template (record { first = first; past = past; parts = parts })

-- an `if` directive, perhaps with an `else`
unfoldable pub if_part : ℕ → ℕ → Expr → Template → Option Template → Part
if_part first past condition then_branch else_branch =
    part.If (roll-IfDirective
    (record {
      first = first;
      past = past;
      condition = condition;
      then_branch = then_branch;
      else_branch = else_branch;
    }))

-- a `for` directive
unfoldable pub for_part : ℕ → ℕ → Intro → Template → Part
for_part first past i body =
    part.For (roll-ForDirective (record { first = first; past = past; intro = i; body = body }))

-- an attribute, whose first token is its name
unfoldable pub attribute : ℕ → ℕ → Expr → Attribute
attribute first past value = record { first = first; past = past; name = first; value = value }

-- a label, and the number of its text's token
unfoldable pub label : ℕ → ℕ → Option ℕ → Label
label first past name = record { first = first; past = past; name = name }

-- a block, whose first token is its word
unfoldable pub block : ℕ → ℕ → List Label → Content → Member
block first past labels content =
    member.Block (roll-Block
    (record { first = first; past = past; block_type = first; labels = labels; content = content }))

-- a body, by its attributes and blocks
unfoldable pub body : ℕ → ℕ → List Member → Body
body first past members = roll-Body (record { first = first; past = past; members = members })

-- the tree of a whole text, whose first token is token 0
unfoldable pub tree : ℕ → Body → Tree
tree past body = record { first = 0; past = past; body = body }
