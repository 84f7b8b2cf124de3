-- What a parser makes of what it reads: a type for each kind of node, and a function for each
-- node. The first two numbers are those of a node's tokens: of its first one, and the one after its
-- last.
use Rattle.std.specs.Prelude.{◌≡◌, ℕ, Bool, Option}
use Rattle.hcl_grammar.specs.declared.tree.BinaryOperator.{BinaryOperator}
use Rattle.hcl_grammar.specs.declared.tree.UnaryOperator.{UnaryOperator}

-- a plural is a list of what is in the singular
pub record Types : Type 1 where
  pub Expr : Type 0
  pub Exprs : Type 0
  pub Operations : Type 0
  pub Term : Type 0
  pub Tail : Type 0
  pub Tails : Type 0
  pub Names : Type 0
  pub Elems : Type 0
  pub Intro : Type 0
  pub Template : Type 0
  pub Part : Type 0
  pub Parts : Type 0
  pub Attribute : Type 0
  pub Label : Type 0
  pub Labels : Type 0
  pub Content : Type 0
  pub Member : Type 0
  pub Members : Type 0
  pub Body : Type 0
  pub Tree : Type 0

module _ (t : Types) where
  open t use {Expr, Exprs, Operations, Term, Tail, Tails, Names, Elems, Intro}
  open t use {Template, Part, Parts}
  open t use {Attribute, Label, Labels, Content, Member, Members, Body, Tree}

  pub record Makers : Type 0 where
    -- condition, and the expression if it holds, and if it does not
    pub conditional : ℕ → ℕ → Expr → Expr → Expr → Expr
    -- an operand and the operators of all levels that follow it, each with its second operand
    pub chain : Expr → Operations → Expr
    pub no_operations : Operations
    pub add_operation : Operations → BinaryOperator → Expr → Operations
    -- with no operator, the operand alone
    pub alone : (head : Expr) → chain head no_operations ≡ head
    pub unary : ℕ → ℕ → UnaryOperator → Expr → Expr
    pub postfix : ℕ → ℕ → Term → Tails → Expr
    pub no_tails : Tails
    pub add_tail : Tails → Tail → Tails
    -- by the number of the token after the dot
    pub name_tail : ℕ → Tail
    pub legacy_index : ℕ → Tail
    pub attribute_splat : Tail
    pub full_splat : Tail
    pub index : Expr → Tail
    pub number : ℕ → ℕ → Term
    pub identifier : ℕ → ℕ → Term
    -- whether `...` follows the last argument
    pub call : ℕ → ℕ → Names → Exprs → Bool → Term
    pub first_name : ℕ → Names
    pub add_name : Names → ℕ → Names
    pub no_exprs : Exprs
    pub add_expr : Exprs → Expr → Exprs
    pub tuple : ℕ → ℕ → Exprs → Term
    pub object : ℕ → ℕ → Elems → Term
    pub no_elems : Elems
    -- key and value
    pub add_elem : Elems → Expr → Expr → Elems
    -- the numbers of its names, and the collection
    pub intro : ℕ → ℕ → ℕ → Option ℕ → Expr → Intro
    -- value and filter
    pub for_tuple : ℕ → ℕ → Intro → Expr → Option Expr → Term
    -- key, value, whether `...` follows it, and filter
    pub for_object : ℕ → ℕ → Intro → Expr → Expr → Bool → Option Expr → Term
    pub quoted : ℕ → ℕ → Template → Term
    pub heredoc : ℕ → ℕ → Template → Term
    pub parens : ℕ → ℕ → Expr → Term
    pub template : ℕ → ℕ → Parts → Template
    pub no_parts : Parts
    pub add_part : Parts → Part → Parts
    pub literal : ℕ → Part
    pub interpolation : Expr → Part
    -- condition, and the text if it holds, and if it does not
    pub if_directive : ℕ → ℕ → Expr → Template → Option Template → Part
    pub for_directive : ℕ → ℕ → Intro → Template → Part
    pub attribute : ℕ → ℕ → Expr → Attribute
    -- the number of its text's token
    pub label : ℕ → ℕ → Option ℕ → Label
    pub no_labels : Labels
    pub add_label : Labels → Label → Labels
    pub one_line : Option Attribute → Content
    pub block_body : Body → Content
    pub attribute_member : Attribute → Member
    pub block : ℕ → ℕ → Labels → Content → Member
    pub no_members : Members
    pub add_member : Members → Member → Members
    pub body : ℕ → ℕ → Members → Body
    -- how many tokens the text has
    pub tree : ℕ → Body → Tree
