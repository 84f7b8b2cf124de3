-- For proofs: two parsers that make different things of the same tokens. What they make is related
-- if each maker makes of related parts what is related.
use Rattle.std.specs.Prelude.{◌≢◌, ℕ, Bool, Option, Some, None, Ok, Err}
use Rattle.hcl_grammar.specs.declared.fault.TokenFault.{TokenFault}
use Rattle.hcl_grammar.specs.declared.fault.TokenFault.TheVariants.{Memory}
use Rattle.hcl_grammar.specs.declared.tree.BinaryOperator.{BinaryOperator}
use Rattle.hcl_grammar.specs.declared.tree.UnaryOperator.{UnaryOperator}
use Rattle.hcl_grammar.specs.Pure.Reading.{Outcome}
use Rattle.hcl_grammar.specs.Pure.Makers.{Types, Makers}

-- both end at the same place, with values that are related, or with the same error, which is not
-- that memory ran out
pub data Alike {A B : Type 0} (R : A → B → Type 0) : Outcome A → Outcome B → Type 0 where
  read : {x : A} {y : B} {i : ℕ} → R x y → Alike R (Ok (x, i)) (Ok (y, i))
  fault : {e : TokenFault} → e ≢ Memory → Alike R (Err e) (Err e)

-- neither is there, or both are and are related
abbrev pub InSome : {A B : Type 0} → (A → B → Type 0) → Option A → Option B → Type 0
InSome R None None = Unit {0}
InSome R (Some x) (Some y) = R x y
InSome R None (Some y) = ⊥
InSome R (Some x) None = ⊥

-- of related arguments both make what is related
infixr 5 ◌⇒◌
abbrev pub ◌⇒◌ : {A B C D : Type 0} → (A → B → Type 0) → (C → D → Type 0)
    → (A → C) → (B → D) → Type 0
◌⇒◌ {A} {B} R S = λ f g. (x : A) (y : B) → R x y → S (f x) (g y)

-- of the same argument
abbrev pub OfEach : {N A B : Type 0} → (A → B → Type 0) → (N → A) → (N → B) → Type 0
OfEach {N} R = λ f g. (n : N) → R (f n) (g n)

-- of the same two numbers
abbrev pub Node : {A B : Type 0} → (A → B → Type 0) → (ℕ → ℕ → A) → (ℕ → ℕ → B) → Type 0
Node R = OfEach {N = ℕ} (OfEach {N = ℕ} R)

-- a relation for each kind of node
pub record Relations (s t : Types) : Type 1 where
  pub Expr : s.Expr → t.Expr → Type 0
  pub Exprs : s.Exprs → t.Exprs → Type 0
  pub Operations : s.Operations → t.Operations → Type 0
  pub Term : s.Term → t.Term → Type 0
  pub Tail : s.Tail → t.Tail → Type 0
  pub Tails : s.Tails → t.Tails → Type 0
  pub Names : s.Names → t.Names → Type 0
  pub Elems : s.Elems → t.Elems → Type 0
  pub Intro : s.Intro → t.Intro → Type 0
  pub Template : s.Template → t.Template → Type 0
  pub Part : s.Part → t.Part → Type 0
  pub Parts : s.Parts → t.Parts → Type 0
  pub Attribute : s.Attribute → t.Attribute → Type 0
  pub Label : s.Label → t.Label → Type 0
  pub Labels : s.Labels → t.Labels → Type 0
  pub Content : s.Content → t.Content → Type 0
  pub Member : s.Member → t.Member → Type 0
  pub Members : s.Members → t.Members → Type 0
  pub Body : s.Body → t.Body → Type 0
  pub Tree : s.Tree → t.Tree → Type 0

-- each maker of a makes of related parts what is related to what that of b makes
module _ {s t : Types} (a : Makers s) (b : Makers t) (R : Relations s t) where
  open R use {Expr, Exprs, Operations, Term, Tail, Tails, Names, Elems, Intro}
  open R use {Template, Part, Parts}
  open R use {Attribute, Label, Labels, Content, Member, Members, Body, Tree}

  pub record Respects : Type 0 where
    pub conditional : Node (Expr ⇒ Expr ⇒ Expr ⇒ Expr) a.conditional b.conditional
    pub chain : (Expr ⇒ Operations ⇒ Expr) a.chain b.chain
    pub no_operations : Operations a.no_operations b.no_operations
    pub add_operation : (Operations ⇒ OfEach {N = BinaryOperator} (Expr ⇒ Operations))
        a.add_operation b.add_operation
    pub unary : Node (OfEach {N = UnaryOperator} (Expr ⇒ Expr)) a.unary b.unary
    pub postfix : Node (Term ⇒ Tails ⇒ Expr) a.postfix b.postfix
    pub no_tails : Tails a.no_tails b.no_tails
    pub add_tail : (Tails ⇒ Tail ⇒ Tails) a.add_tail b.add_tail
    pub name_tail : OfEach Tail a.name_tail b.name_tail
    pub legacy_index : OfEach Tail a.legacy_index b.legacy_index
    pub attribute_splat : Tail a.attribute_splat b.attribute_splat
    pub full_splat : Tail a.full_splat b.full_splat
    pub index : (Expr ⇒ Tail) a.index b.index
    pub number : Node Term a.number b.number
    pub identifier : Node Term a.identifier b.identifier
    pub call : Node (Names ⇒ Exprs ⇒ OfEach {N = Bool} Term) a.call b.call
    pub first_name : OfEach Names a.first_name b.first_name
    pub add_name : (Names ⇒ OfEach {N = ℕ} Names) a.add_name b.add_name
    pub no_exprs : Exprs a.no_exprs b.no_exprs
    pub add_expr : (Exprs ⇒ Expr ⇒ Exprs) a.add_expr b.add_expr
    pub tuple : Node (Exprs ⇒ Term) a.tuple b.tuple
    pub object : Node (Elems ⇒ Term) a.object b.object
    pub no_elems : Elems a.no_elems b.no_elems
    pub add_elem : (Elems ⇒ Expr ⇒ Expr ⇒ Elems) a.add_elem b.add_elem
    pub intro : Node (OfEach {N = ℕ} (OfEach {N = Option ℕ} (Expr ⇒ Intro))) a.intro b.intro
    pub for_tuple : Node (Intro ⇒ Expr ⇒ InSome Expr ⇒ Term) a.for_tuple b.for_tuple
    pub for_object : Node (Intro ⇒ Expr ⇒ Expr ⇒ OfEach {N = Bool} (InSome Expr ⇒ Term))
        a.for_object b.for_object
    pub quoted : Node (Template ⇒ Term) a.quoted b.quoted
    pub heredoc : Node (Template ⇒ Term) a.heredoc b.heredoc
    pub parens : Node (Expr ⇒ Term) a.parens b.parens
    pub template : Node (Parts ⇒ Template) a.template b.template
    pub no_parts : Parts a.no_parts b.no_parts
    pub add_part : (Parts ⇒ Part ⇒ Parts) a.add_part b.add_part
    pub literal : OfEach Part a.literal b.literal
    pub interpolation : (Expr ⇒ Part) a.interpolation b.interpolation
    pub if_directive : Node (Expr ⇒ Template ⇒ InSome Template ⇒ Part) a.if_directive b.if_directive
    pub for_directive : Node (Intro ⇒ Template ⇒ Part) a.for_directive b.for_directive
    pub attribute : Node (Expr ⇒ Attribute) a.attribute b.attribute
    pub label : Node (OfEach {N = Option ℕ} Label) a.label b.label
    pub no_labels : Labels a.no_labels b.no_labels
    pub add_label : (Labels ⇒ Label ⇒ Labels) a.add_label b.add_label
    pub one_line : (InSome Attribute ⇒ Content) a.one_line b.one_line
    pub block_body : (Body ⇒ Content) a.block_body b.block_body
    pub attribute_member : (Attribute ⇒ Member) a.attribute_member b.attribute_member
    pub block : Node (Labels ⇒ Content ⇒ Member) a.block b.block
    pub no_members : Members a.no_members b.no_members
    pub add_member : (Members ⇒ Member ⇒ Members) a.add_member b.add_member
    pub body : Node (Members ⇒ Body) a.body b.body
    pub tree : OfEach (Body ⇒ Tree) a.tree b.tree
