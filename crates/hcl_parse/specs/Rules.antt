-- For proofs: the productions of the parser, over a text as it is read at one place.
use Rattle.std.specs.Prelude.{◌≡◌, ℕ, suc, ◌||◌, Bool, false, length, Option, Some, Result}
use Rattle.std.specs.Prelude.{Ok, Err}
use Rattle.hcl_token.specs.declared.kind.Kind.{Kind}
use Rattle.hcl_token.specs.declared.kind.Kind.TheVariants as k
use Rattle.hcl_grammar.specs.declared.fault.TokenFault.{TokenFault}
use Rattle.hcl_grammar.specs.declared.fault.TokenFault.TheVariants.{Syntax, TooDeep, Memory}
use Rattle.hcl_grammar.specs.declared.goal.Goal.TheVariants.{Whole, Operand}
use Rattle.hcl_grammar.specs.declared.tree.BinaryOperator.{BinaryOperator}
use Rattle.hcl_grammar.specs.declared.tree.UnaryOperator.{UnaryOperator}
use Rattle.hcl_grammar.specs.Pure.Reading as r
use Rattle.hcl_grammar.specs.Pure.Reading.{Outcome, Step, ◌>>=◌, ◌>>◌}
use Rattle.hcl_reader.specs.ReaderRules.{ReaderState, IsEntered, IsEnteredTwice}
use Rattle.hcl_grammar.specs.Pure.Makers.{Types, Makers}
use Rattle.hcl_grammar.specs.Pure.BodyParser as bodies
use Rattle.hcl_grammar.specs.Pure.Parser as p
use Rattle.hcl_grammar.specs.Pure.Steps as steps

-- the error is not that memory ran out, if it may
abbrev pub IsOwn : Bool → TokenFault → Type 0
IsOwn may_run_out Memory = may_run_out ≡ false
IsOwn may_run_out (Syntax at) = Unit {0}
IsOwn may_run_out (TooDeep at) = Unit {0}

-- what a function that parses ensures: the parser's outcome, unless memory ran out, if it may
abbrev pub Yields : {A : Type 0} → Bool → Outcome A → Result A TokenFault → ℕ → Type 0
Yields may_run_out outcome (Ok x) new = outcome ≡ Ok (x, new)
Yields may_run_out outcome (Err e) new = IsOwn may_run_out e → outcome ≡ Err e

-- a name before the place is that of a function
abbrev pub is_called : ReaderState → ℕ → Bool
is_called t i =
    r.next_is t.tokens t.skip_newlines k.OpenParen i
    || r.next_is t.tokens t.skip_newlines k.DoubleColon i

abbrev pub eat_operator : ReaderState → Step (Option BinaryOperator)
eat_operator t = steps.eat_operator t.tokens t.skip_newlines

abbrev pub equals_or_colon : ReaderState → Step (Unit {0})
equals_or_colon t = steps.equals_or_colon t.tokens

module _ {types : Types} (a : Makers types) (t : ReaderState) where
  open types use {Expr, Exprs, Operations, Term, Tail, Tails, Names, Elems, Intro}
  open types use {Template, Part, Parts}

  abbrev pub expr : Step Expr
  expr = (p.under a t.tokens t.depth).expr t.skip_newlines Whole

  abbrev pub operand : Step Expr
  operand = (p.under a t.tokens t.depth).expr t.skip_newlines Operand

  abbrev pub parts : Step Parts
  parts = (p.under a t.tokens t.depth).parts t.skip_newlines

  abbrev pub whole : Step Expr
  whole = p.whole a t.tokens t.depth (p.deeper a t.tokens t.depth) t.skip_newlines

  abbrev pub operations_from : ℕ → Operations → Step Operations
  operations_from n found =
      p.operations_from a t.tokens t.depth (p.deeper a t.tokens t.depth) t.skip_newlines n found

  abbrev pub operations : Step Operations
  operations = operations_from (length t.tokens) a.no_operations

  abbrev pub conditional : ℕ → Expr → Step Expr
  conditional first c =
      p.conditional a t.tokens t.depth (p.deeper a t.tokens t.depth) t.skip_newlines first c

  -- after the first operand of an expression, which begins at token `first`
  abbrev pub after_operand : ℕ → Expr → Step Expr
  after_operand first head = do
    c ← p.chain a t.tokens t.depth (p.deeper a t.tokens t.depth) t.skip_newlines head
    conditional first c

  abbrev pub unary : Step Expr
  unary = p.unary a t.tokens t.depth (p.deeper a t.tokens t.depth) t.skip_newlines

  abbrev pub unary_with : ℕ → Kind → UnaryOperator → Step Expr
  unary_with first kind op =
      p.prefixed a t.tokens t.depth
      (p.deeper a t.tokens t.depth) t.skip_newlines first kind (Some op)

  abbrev pub post : ℕ → Kind → Step Expr
  post first kind =
      p.post_by a t.tokens t.depth (p.deeper a t.tokens t.depth) t.skip_newlines first kind

  abbrev pub with_tails : ℕ → ℕ → Term → Tails → Step Expr
  with_tails n first head found =
      p.with_tails a t.tokens t.depth
      (p.deeper a t.tokens t.depth) t.skip_newlines n first head found

  abbrev pub tails_from : ℕ → Tails → Step Tails
  tails_from n found =
      p.tails_from a t.tokens t.depth (p.deeper a t.tokens t.depth) t.skip_newlines n found

  abbrev pub tail : Step (Option Tail)
  tail = p.tail_of a t.tokens t.depth (p.deeper a t.tokens t.depth) t.skip_newlines

  abbrev pub dot_tail : Step Tail
  dot_tail = p.dot_tail a t.tokens t.depth (p.deeper a t.tokens t.depth) t.skip_newlines

  abbrev pub bracket_tail : ℕ → Step Tail
  bracket_tail first = p.bracket_tail a t.tokens t.depth (p.deeper a t.tokens t.depth) first

  abbrev pub term : ℕ → Kind → Step Term
  term first kind =
      p.term_by a t.tokens t.depth (p.deeper a t.tokens t.depth) t.skip_newlines first kind

  abbrev pub identifier_or_call : ℕ → Step Term
  identifier_or_call first =
      p.identifier_or_call a t.tokens t.depth (p.deeper a t.tokens t.depth) t.skip_newlines first

  abbrev pub call : ℕ → Step Term
  call first = p.call a t.tokens t.depth (p.deeper a t.tokens t.depth) t.skip_newlines first

  abbrev pub names_from : ℕ → Names → Step Names
  names_from n found = p.names_from a t.tokens t.skip_newlines n found

  abbrev pub names : ℕ → Step Names
  names first = names_from (length t.tokens) (a.first_name first)

  abbrev pub enclosed : Kind → ℕ → Step Expr
  enclosed close first = p.enclosed a t.tokens t.depth (p.deeper a t.tokens t.depth) close first

  abbrev pub parens : ℕ → Step Term
  parens first = p.parens a t.tokens t.depth (p.deeper a t.tokens t.depth) first

  abbrev pub tuple_or_for : ℕ → Step Term
  tuple_or_for first = p.tuple_or_for a t.tokens t.depth (p.deeper a t.tokens t.depth) first

  abbrev pub object_or_for : ℕ → Step Term
  object_or_for first = p.object_or_for a t.tokens t.depth (p.deeper a t.tokens t.depth) first

  abbrev pub quoted : ℕ → Step Term
  quoted first = p.quoted a t.tokens t.depth (p.deeper a t.tokens t.depth) t.skip_newlines first

  abbrev pub heredoc : ℕ → Step Term
  heredoc first = p.heredoc a t.tokens t.depth (p.deeper a t.tokens t.depth) t.skip_newlines first

  abbrev pub interpolation : ℕ → Step Part
  interpolation first = p.interpolation a t.tokens t.depth (p.deeper a t.tokens t.depth) first

  abbrev pub parts_from : ℕ → Parts → Step Parts
  parts_from n found =
      p.parts_from a t.tokens t.depth (p.deeper a t.tokens t.depth)
      (p.twice a t.tokens t.depth) t.skip_newlines n found

  abbrev pub part : Step (Option Part)
  part =
      p.part_of a t.tokens t.depth (p.deeper a t.tokens t.depth)
      (p.twice a t.tokens t.depth) t.skip_newlines

  abbrev pub directive : ℕ → Step (Option Part)
  directive first =
      p.directive a t.tokens t.depth (p.deeper a t.tokens t.depth)
      (p.twice a t.tokens t.depth) t.skip_newlines first

  abbrev pub if_directive : ℕ → Step Part
  if_directive first =
      p.if_directive a t.tokens t.depth (p.deeper a t.tokens t.depth)
      (p.twice a t.tokens t.depth) t.skip_newlines first

  abbrev pub for_directive : ℕ → Step Part
  for_directive first =
      p.for_directive a t.tokens t.depth (p.deeper a t.tokens t.depth)
      (p.twice a t.tokens t.depth) t.skip_newlines first

  -- ---- in a construct that was opened

  abbrev pub tuple_items_from : ℕ → Exprs → Step Exprs
  tuple_items_from n found = p.tuple_items_from a t.tokens (p.under a t.tokens t.depth).expr n found

  abbrev pub tuple_items : Step Exprs
  tuple_items = tuple_items_from (length t.tokens) a.no_exprs

  abbrev pub arguments_from : ℕ → Exprs → Step (Exprs × Bool)
  arguments_from n found = p.arguments_from a t.tokens (p.under a t.tokens t.depth).expr n found

  abbrev pub arguments : Step (Exprs × Bool)
  arguments = arguments_from (length t.tokens) a.no_exprs

  abbrev pub elem : Elems → Step Elems
  elem found = p.elem a t.tokens (p.under a t.tokens t.depth).expr found

  abbrev pub elems_from : ℕ → Elems → Step Elems
  elems_from n found = p.elems_from a t.tokens (p.under a t.tokens t.depth).expr n found

  abbrev pub elems : Step Elems
  elems = elems_from (length t.tokens) a.no_elems

  abbrev pub intro : Step Intro
  intro = p.intro a t.tokens (p.under a t.tokens t.depth).expr

  abbrev pub filter : Kind → Step (Option Expr)
  filter close = p.filter a t.tokens (p.under a t.tokens t.depth).expr close

  abbrev pub tuple : ℕ → Step Term
  tuple first = p.tuple a t.tokens (p.under a t.tokens t.depth).expr first

  abbrev pub object : ℕ → Step Term
  object first = p.object a t.tokens (p.under a t.tokens t.depth).expr first

  abbrev pub for_tuple : ℕ → Step Term
  for_tuple first = p.for_tuple a t.tokens (p.under a t.tokens t.depth).expr first

  abbrev pub for_object : ℕ → Step Term
  for_object first = p.for_object a t.tokens (p.under a t.tokens t.depth).expr first

  abbrev pub for_value : ℕ → Intro → Expr → Step Term
  for_value first x key = p.for_value a t.tokens (p.under a t.tokens t.depth).expr first x key

  abbrev pub template : Step Template
  template = p.template a t.tokens (suc t.depth) (p.under a t.tokens t.depth) t.skip_newlines

  abbrev pub else_and_endif : Step (Option Template)
  else_and_endif =
      p.else_and_endif a t.tokens (suc t.depth) (p.under a t.tokens t.depth) t.skip_newlines

  -- after a term and tails of it, of which at most n follow
  abbrev pub rest_of_expr : ℕ → ℕ → Term → Tails → Step Expr
  rest_of_expr n first head found = do
    operand ← with_tails n first head found
    after_operand first operand

  -- a construct that was opened: one less may nest in it
  pub record IsInside (inner : ReaderState) : Type 0 where
    pub opened : IsEntered t inner
    pub deeper : p.deeper a t.tokens t.depth ≡ p.under a t.tokens inner.depth
    pub members : bodies.deeper_members a t.tokens t.depth ≡ bodies.members a t.tokens inner.depth

  -- two, one in the other
  pub record IsInsideTwice (inner : ReaderState) : Type 0 where
    pub opened : IsEnteredTwice t inner
    pub deeper : p.twice a t.tokens t.depth ≡ (p.under a t.tokens inner.depth).expr

  abbrev pub Opens : ℕ → ℕ → Result ReaderState TokenFault → ℕ → Type 0
  Opens opening old (Ok inner) new = (r.enter t.depth opening old ≡ Ok (tt, new)) × IsInside inner
  Opens opening old (Err e) new = r.enter t.depth opening old ≡ Err e

  abbrev pub OpensTwo : ℕ → ℕ → Result (ReaderState × ReaderState) TokenFault → ℕ → Type 0
  OpensTwo opening old (Ok inner) new =
      (r.enter_two t.depth opening old ≡ Ok (tt, new)) × IsInside inner.0 × IsInsideTwice inner.1
  OpensTwo opening old (Err e) new = r.enter_two t.depth opening old ≡ Err e
