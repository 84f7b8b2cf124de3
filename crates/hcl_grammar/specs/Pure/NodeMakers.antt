-- The makers of the nodes of a tree.
use Rattle.std.specs.Prelude.{◌≡◌, ℕ, zero, suc, ◌==◌, if◌then◌else◌, List, [], ◌∷◌, ◌++◌, refl}
use Rattle.hcl_grammar.specs.declared.tree.Attribute.{Attribute}
use Rattle.hcl_grammar.specs.declared.tree.Body.{Body}
use Rattle.hcl_grammar.specs.declared.tree.Content.{Content}
use Rattle.hcl_grammar.specs.declared.tree.Content.TheVariants as content
use Rattle.hcl_grammar.specs.declared.tree.Elem.{Elem}
use Rattle.hcl_grammar.specs.declared.tree.Expr.{Expr}
use Rattle.hcl_grammar.specs.declared.tree.ExprKind.TheVariants as form
use Rattle.hcl_grammar.specs.declared.tree.Intro.{Intro}
use Rattle.hcl_grammar.specs.declared.tree.Label.{Label}
use Rattle.hcl_grammar.specs.declared.tree.Member.{Member}
use Rattle.hcl_grammar.specs.declared.tree.Member.TheVariants as member
use Rattle.hcl_grammar.specs.declared.tree.Operation.{Operation}
use Rattle.hcl_grammar.specs.declared.tree.Part.{Part}
use Rattle.hcl_grammar.specs.declared.tree.Part.TheVariants as part
use Rattle.hcl_grammar.specs.declared.tree.Primary.TheVariants as shape
use Rattle.hcl_grammar.specs.declared.tree.Tail.{Tail}
use Rattle.hcl_grammar.specs.declared.tree.Tail.TheVariants as tail
use Rattle.hcl_grammar.specs.declared.tree.Template.{Template}
use Rattle.hcl_grammar.specs.declared.tree.Term.{Term}
use Rattle.hcl_grammar.specs.declared.tree.Tree.{Tree}
use Rattle.hcl_grammar.specs.Nodes as node
use Rattle.hcl_grammar.specs.Operators.{operator_level, levels}
use Rattle.hcl_grammar.specs.Pure.Makers.{Types, Makers}

-- the place after the operators that follow a place, each with its second operand
abbrev pub chain_end : ℕ → List Operation → ℕ
chain_end past [] = past
chain_end past (x ∷ xs) = chain_end x.operand.past xs

-- The operators of a chain, split at those of level n: what precedes the first of these, and these,
-- each with its operand and the operators up to the next, which `join` makes one expression of.
unfoldable pub split_level : ℕ → (Expr → List Operation → Expr) → List Operation
    → List Operation × List Operation
split_level n join [] = ([], [])
split_level n join (x ∷ xs) = let rest = split_level n join xs in
    if operator_level x.operator == n
    then ([], node.operation x.operator (join x.operand rest.0) ∷ rest.1)
    else (x ∷ rest.0, rest.1)

-- an operand and the operators of the levels below n that follow it, grouped by levels
unfoldable pub group : ℕ → Expr → List Operation → Expr
group zero head xs = head
group (suc n) head xs = let split = split_level n (group n) xs in
    node.binary head.first (chain_end head.past xs) (group n head split.0) split.1

abbrev pub node_types : Types
node_types = record {
  Expr = Expr;
  Exprs = List Expr;
  Operations = List Operation;
  Term = Term;
  Tail = Tail;
  Tails = List Tail;
  Names = List ℕ;
  Elems = List Elem;
  Intro = Intro;
  Template = Template;
  Part = Part;
  Parts = List Part;
  Attribute = Attribute;
  Label = Label;
  Labels = List Label;
  Content = Content;
  Member = Member;
  Members = List Member;
  Body = Body;
  Tree = Tree;
}

pub no_operator : (head : Expr) → group levels head [] ≡ head
unfolding group split_level
no_operator head = refl

abbrev pub nodes : Makers node_types
nodes = record {
  conditional = λ first past c x y. node.expr first past (form.Conditional c x y);
  chain = group levels;
  no_operations = [];
  add_operation = λ xs op x. xs ++ node.operation op x ∷ [];
  alone = no_operator;
  unary = λ first past op x. node.expr first past (form.Unary op x);
  postfix = node.postfix;
  no_tails = [];
  add_tail = λ xs x. xs ++ x ∷ [];
  name_tail = tail.Name;
  legacy_index = tail.LegacyIndex;
  attribute_splat = tail.AttributeSplat;
  full_splat = tail.FullSplat;
  index = tail.Index;
  number = λ first past. node.term first past shape.Number;
  identifier = λ first past. node.term first past shape.Identifier;
  call = λ first past names xs more. node.term first past (node.call names xs more);
  first_name = λ n. n ∷ [];
  add_name = λ xs n. xs ++ n ∷ [];
  no_exprs = [];
  add_expr = λ xs x. xs ++ x ∷ [];
  tuple = λ first past xs. node.term first past (shape.Tuple xs);
  object = λ first past xs. node.term first past (shape.Object xs);
  no_elems = [];
  add_elem = λ xs key value. xs ++ node.elem key value ∷ [];
  intro = node.intro;
  for_tuple = λ first past x value filter.
      node.term first past (node.for_tuple x value filter);
  for_object = λ first past x key value grouped filter.
      node.term first past (node.for_object x key value grouped filter);
  quoted = λ first past x. node.term first past (shape.Quoted x);
  heredoc = λ first past x. node.term first past (shape.Heredoc x);
  parens = λ first past x. node.term first past (shape.Parens x);
  template = node.template;
  no_parts = [];
  add_part = λ xs x. xs ++ x ∷ [];
  literal = part.Literal;
  interpolation = part.Interp;
  if_directive = node.if_part;
  for_directive = node.for_part;
  attribute = node.attribute;
  label = node.label;
  no_labels = [];
  add_label = λ xs x. xs ++ x ∷ [];
  one_line = content.OneLine;
  block_body = content.Body;
  attribute_member = member.Attribute;
  block = node.block;
  no_members = [];
  add_member = λ xs x. xs ++ x ∷ [];
  body = node.body;
  tree = node.tree;
}
