-- For proofs: what the parser of expressions and templates answers, whatever it makes.
use Rattle.std.specs.Prelude.{ℕ, zero, suc, ◌||◌, Bool, true, false, if◌then◌else◌, List, length}
use Rattle.std.specs.Prelude.{Option, Some, None, Ok, Err}
use Rattle.hcl_token.specs.declared.kind.Kind.{Kind}
use Rattle.hcl_token.specs.declared.kind.Kind.TheVariants as k
use Rattle.hcl_grammar.specs.declared.fault.TokenFault.TheVariants.{Syntax, TooDeep}
use Rattle.hcl_grammar.specs.declared.goal.Goal.{Goal}
use Rattle.hcl_grammar.specs.declared.goal.Goal.TheVariants.{Whole, Operand}
use Rattle.hcl_grammar.specs.declared.tree.BinaryOperator.{BinaryOperator}
use Rattle.hcl_grammar.specs.declared.tree.UnaryOperator.{UnaryOperator}
use Rattle.hcl_grammar.specs.Operators.{unary_operator}
use Rattle.hcl_grammar.specs.Pure.Makers.{Types, Makers}
use Rattle.hcl_grammar.specs.Pure.Reading.{Step, ◌>>=◌, ◌>>◌, pure, position, peek_index}
use Rattle.hcl_grammar.specs.Pure.Reading.{syntax_fault, peek_kind, eat, expect, bump_known}
use Rattle.hcl_grammar.specs.Pure.Reading.{peek_is_word, expect_word, next_is, next_is_word}
use Rattle.hcl_grammar.specs.Pure.Reading.{enter, enter_two}
use Rattle.hcl_grammar.specs.Pure.Steps.{as_some, skip_newlines, eat_separator_or_brace}
use Rattle.hcl_grammar.specs.Pure.Steps.{second_name, keyword_directive, eat_operator}
use Rattle.hcl_grammar.specs.Pure.Steps.{equals_or_colon}
use Rattle.hcl_grammar.specs.Tokens.{Token, after_next, first_token_in, for_word, in_word}
use Rattle.hcl_grammar.specs.Tokens.{if_word, else_word, endif_word, endfor_word}

-- the steps that read what is one construct deeper
pub record Deeper (t : Types) : Type 0 where
  pub expr : Bool → Goal → Step t.Expr
  pub parts : Bool → Step t.Parts

module _ {t : Types} (a : Makers t) (ts : List Token) where
  open t use {Expr, Exprs, Operations, Term, Tail, Tails, Names, Elems, Intro}
  open t use {Template, Part, Parts}

  -- the names after the first of a function's name
  unfoldable pub names_from : Bool → ℕ → Names → Step Names
  names_from m zero found = pure found
  names_from m (suc n) found = do
    more ← eat ts m k.DoubleColon
    if more then (do
      number ← peek_index ts m
      expect ts m k.Identifier
      names_from m n (a.add_name found number)) else pure found

  -- inner: the expressions of one construct deeper
  module _ (inner : Bool → Goal → Step Expr) where
    -- (Expr ("," Expr)* ","?)? and `]`, added to those that were found; so in the lists below
    unfoldable pub tuple_items_from : ℕ → Exprs → Step Exprs
    tuple_items_from zero found = syntax_fault ts true
    tuple_items_from (suc n) found = do
      is_closed ← eat ts true k.CloseBracket
      if is_closed then pure found else (do
        x ← inner true Whole
        more ← eat ts true k.Comma
        if more then tuple_items_from n (a.add_expr found x) else (do
          expect ts true k.CloseBracket
          pure (a.add_expr found x)))

    -- (Expr ("," Expr)* (","|"...")?)? and `)`
    unfoldable pub arguments_from : ℕ → Exprs → Step (Exprs × Bool)
    arguments_from zero found = syntax_fault ts true
    arguments_from (suc n) found = do
      is_closed ← eat ts true k.CloseParen
      if is_closed then pure (found, false) else (do
        x ← inner true Whole
        more ← eat ts true k.Comma
        if more then arguments_from n (a.add_expr found x) else (do
          expand_final ← eat ts true k.Ellipsis
          expect ts true k.CloseParen
          pure (a.add_expr found x, expand_final)))

    -- Elem, added
    unfoldable pub elem : Elems → Step Elems
    elem found = do
      key ← inner false Whole
      equals_or_colon ts
      value ← inner false Whole
      pure (a.add_elem found key value)

    -- (Elem (Sep Elem)* Sep?)? and `}`
    unfoldable pub elems_from : ℕ → Elems → Step Elems
    elems_from zero found = syntax_fault ts false
    elems_from (suc n) found = do
      is_closed ← eat ts false k.CloseBrace
      if is_closed then pure found else (do
        xs ← elem found
        more ← eat_separator_or_brace ts
        if more then elems_from n xs else pure xs)

    -- Intro
    unfoldable pub intro : Step Intro
    intro = do
      first ← peek_index ts true
      expect_word ts true for_word
      name ← peek_index ts true
      expect ts true k.Identifier
      second ← second_name ts
      expect_word ts true in_word
      collection ← inner true Whole
      end ← position
      pure (a.intro first end name second collection)

    -- ("if" Expr)? and the closing bracket
    unfoldable pub filter : Kind → Step (Option Expr)
    filter close = do
      is_there ← peek_is_word ts true if_word
      if is_there then (do
        bump_known ts true
        e ← inner true Whole
        expect ts true close
        pure (Some e)) else (do
          expect ts true close
          pure None)

    -- each after its opening bracket
    unfoldable pub tuple : ℕ → Step Term
    tuple first = do
      xs ← tuple_items_from (length ts) a.no_exprs
      end ← position
      pure (a.tuple first end xs)

    unfoldable pub object : ℕ → Step Term
    object first = do
      skip_newlines ts
      xs ← elems_from (length ts) a.no_elems
      end ← position
      pure (a.object first end xs)

    unfoldable pub for_tuple : ℕ → Step Term
    for_tuple first = do
      x ← intro
      expect ts true k.Colon
      value ← inner true Whole
      c ← filter k.CloseBracket
      end ← position
      pure (a.for_tuple first end x value c)

    -- after the key
    unfoldable pub for_value : ℕ → Intro → Expr → Step Term
    for_value first x key = do
      expect ts true k.FatArrow
      value ← inner true Whole
      grouped ← eat ts true k.Ellipsis
      c ← filter k.CloseBrace
      end ← position
      pure (a.for_object first end x key value grouped c)

    unfoldable pub for_object : ℕ → Step Term
    for_object first = do
      x ← intro
      expect ts true k.Colon
      key ← inner true Whole
      for_value first x key

  -- depth: how many constructs may still nest
  module _ (depth : ℕ) (inner : Deeper t) where
    -- after `[`
    unfoldable pub tuple_or_for : ℕ → Step Term
    tuple_or_for first = do
      enter depth first
      is_for ← peek_is_word ts true for_word
      if is_for then for_tuple inner.expr first else tuple inner.expr first

    -- after `{`
    unfoldable pub object_or_for : ℕ → Step Term
    object_or_for first = do
      enter depth first
      is_for ← peek_is_word ts true for_word
      if is_for then for_object inner.expr first else object inner.expr first

    -- an expression and what closes it, after an opening
    unfoldable pub enclosed : Kind → ℕ → Step Expr
    enclosed close first = do
      enter depth first
      e ← inner.expr true Whole
      expect ts true close
      pure e

    -- after `(`
    unfoldable pub parens : ℕ → Step Term
    parens first = do
      e ← enclosed k.CloseParen first
      end ← position
      pure (a.parens first end e)

    -- Parts
    unfoldable pub template : Bool → Step Template
    template m = do
      from ← position
      xs ← inner.parts m
      to ← position
      pure (a.template (first_token_in ts m from to) to xs)

    -- after the opening
    unfoldable pub quoted : Bool → ℕ → Step Term
    quoted m first = do
      enter depth first
      x ← template m
      expect ts m k.QuoteClose
      end ← position
      pure (a.quoted first end x)

    unfoldable pub heredoc : Bool → ℕ → Step Term
    heredoc m first = do
      enter depth first
      x ← template m
      expect ts m k.HereClose
      end ← position
      pure (a.heredoc first end x)

    -- a call, after its first name
    unfoldable pub call : Bool → ℕ → Step Term
    call m first = do
      names ← names_from m (length ts) (a.first_name first)
      opening ← peek_index ts m
      expect ts m k.OpenParen
      enter depth opening
      xs ← arguments_from inner.expr (length ts) a.no_exprs
      end ← position
      pure (a.call first end names xs.0 xs.1)

    -- after the identifier
    unfoldable pub identifier_or_call : Bool → ℕ → Step Term
    identifier_or_call m first = do
      end ← position
      is_call ← (λ i. Ok (next_is ts m k.OpenParen i || next_is ts m k.DoubleColon i, i))
      if is_call then call m first else pure (a.identifier first end)

    -- by the kind of its first token, which was taken
    abbrev pub term_by : Bool → ℕ → Kind → Step Term
    term_by m first k.Number = do end ← position; pure (a.number first end)
    term_by m first k.Identifier = identifier_or_call m first
    term_by m first k.OpenBracket = tuple_or_for first
    term_by m first k.OpenBrace = object_or_for first
    term_by m first k.OpenParen = parens first
    term_by m first k.QuoteOpen = quoted m first
    term_by m first k.HereOpen = heredoc m first
    term_by m first _ = λ i. Err (Syntax first)

    -- after `.`
    unfoldable pub dot_tail : Bool → Step Tail
    dot_tail m = do
      is_splat ← eat ts m k.Star
      if is_splat then pure a.attribute_splat else (do
        name ← peek_index ts m
        expect ts m k.Identifier
        pure (a.name_tail name))

    -- after `[`
    unfoldable pub bracket_tail : ℕ → Step Tail
    bracket_tail first = do
      enter depth first
      is_splat ← eat ts true k.Star
      if is_splat then (do
        expect ts true k.CloseBracket
        pure a.full_splat) else (do
          e ← inner.expr true Whole
          expect ts true k.CloseBracket
          pure (a.index e))

    -- by the kind of the token that comes next
    abbrev pub tail_by : Bool → ℕ → Option Kind → Step (Option Tail)
    tail_by m first (Some k.Dot) = bump_known ts m >> as_some (dot_tail m)
    tail_by m first (Some k.DotIndex) = bump_known ts m >> as_some (pure (a.legacy_index first))
    tail_by m first (Some k.OpenBracket) = bump_known ts m >> as_some (bracket_tail first)
    tail_by m first (Some _) = pure None
    tail_by m first None = pure None

    -- a tail, if one comes next
    unfoldable pub tail_of : Bool → Step (Option Tail)
    tail_of m = do
      first ← peek_index ts m
      t ← peek_kind ts m
      tail_by m first t

    abbrev pub tails_step : (Tails → Step Tails) → Tails → Option Tail → Step Tails
    tails_step more found None = pure found
    tails_step more found (Some x) = more (a.add_tail found x)

    -- Tail*, at most n
    unfoldable pub tails_from : Bool → ℕ → Tails → Step Tails
    tails_from m zero found = pure found
    tails_from m (suc n) found = do
      x ← tail_of m
      tails_step (tails_from m n) found x

    -- after a term and tails of it, of which at most n follow
    unfoldable pub with_tails : Bool → ℕ → ℕ → Term → Tails → Step Expr
    with_tails m n first head found = do
      xs ← tails_from m n found
      end ← position
      pure (a.postfix first end head xs)

    -- Post, after its first token, which is of this kind
    unfoldable pub post_by : Bool → ℕ → Kind → Step Expr
    post_by m first t = do
      head ← term_by m first t
      with_tails m (length ts) first head a.no_tails

    abbrev pub prefixed : Bool → ℕ → Kind → Option UnaryOperator → Step Expr
    prefixed m first t None = post_by m first t
    prefixed m first t (Some op) = do
      enter depth first
      e ← inner.expr m Operand
      end ← position
      pure (a.unary first end op e)

    abbrev pub unary_by : Bool → ℕ → Option Kind → Step Expr
    unary_by m first None = λ i. Err (Syntax first)
    unary_by m first (Some t) = bump_known ts m >> prefixed m first t (unary_operator t)

    -- Unary
    unfoldable pub unary : Bool → Step Expr
    unary m = do
      first ← peek_index ts m
      t ← peek_kind ts m
      unary_by m first t

    abbrev pub operations_step : Bool → (Operations → Step Operations) → Operations
        → Option BinaryOperator → Step Operations
    operations_step m more found None = pure found
    operations_step m more found (Some op) = do
      x ← unary m
      more (a.add_operation found op x)

    -- operators of whatever level, each with its second operand, at most n
    unfoldable pub operations_from : Bool → ℕ → Operations → Step Operations
    operations_from m zero found = pure found
    operations_from m (suc n) found = do
      op ← eat_operator ts m
      operations_step m (operations_from m n) found op

    -- the operators that follow an operand
    unfoldable pub chain : Bool → Expr → Step Expr
    chain m head = do
      xs ← operations_from m (length ts) a.no_operations
      pure (a.chain head xs)

    -- ("?" Expr ":" Expr)?, after the condition
    unfoldable pub conditional : Bool → ℕ → Expr → Step Expr
    conditional m first c = do
      opening ← peek_index ts m
      is_conditional ← eat ts m k.Question
      if is_conditional then (do
        enter depth opening
        then_branch ← inner.expr m Whole
        expect ts m k.Colon
        else_branch ← inner.expr m Whole
        end ← position
        pure (a.conditional first end c then_branch else_branch)) else pure c

    -- Expr
    unfoldable pub whole : Bool → Step Expr
    whole m = do
      first ← peek_index ts m
      head ← unary m
      c ← chain m head
      conditional m first c

    abbrev pub goal : Bool → Goal → Step Expr
    goal m Whole = whole m
    goal m Operand = unary m

    -- after `${`
    unfoldable pub interpolation : ℕ → Step Part
    interpolation first = do
      e ← enclosed k.SeqClose first
      pure (a.interpolation e)

    -- ("else" and parts)? and "endif"
    unfoldable pub else_and_endif : Bool → Step (Option Template)
    else_and_endif m = do
      is_else ← (λ i. Ok (next_is_word ts true else_word (after_next ts m i), i))
      if is_else then (do
        keyword_directive ts m else_word
        x ← template m
        keyword_directive ts m endif_word
        pure (Some x)) else (do
          keyword_directive ts m endif_word
          pure None)

    -- braces: the expressions of two constructs deeper
    module _ (braces : Bool → Goal → Step Expr) where
      -- after `%{` of an `if`
      unfoldable pub if_directive : Bool → ℕ → Step Part
      if_directive m first = do
        enter_two depth first
        bump_known ts true
        c ← braces true Whole
        expect ts true k.SeqClose
        then_branch ← template m
        else_branch ← else_and_endif m
        end ← position
        pure (a.if_directive first end c then_branch else_branch)

      -- after `%{` of a `for`
      unfoldable pub for_directive : Bool → ℕ → Step Part
      for_directive m first = do
        enter_two depth first
        x ← intro braces
        expect ts true k.SeqClose
        body ← template m
        keyword_directive ts m endfor_word
        end ← position
        pure (a.for_directive first end x body)

      -- at `%{`
      unfoldable pub directive : Bool → ℕ → Step (Option Part)
      directive m first = do
        is_if ← (λ i. Ok (next_is_word ts true if_word (after_next ts m i), i))
        if is_if then bump_known ts m >> as_some (if_directive m first) else (do
          is_for ← (λ i. Ok (next_is_word ts true for_word (after_next ts m i), i))
          if is_for then bump_known ts m >> as_some (for_directive m first) else pure None)

      -- by the kind of the token that comes next
      abbrev pub part_by : Bool → ℕ → Option Kind → Step (Option Part)
      part_by m first (Some k.QuoteLit) = bump_known ts m >> pure (Some (a.literal first))
      part_by m first (Some k.HereLit) = bump_known ts m >> pure (Some (a.literal first))
      part_by m first (Some k.InterpOpen) = bump_known ts m >> as_some (interpolation first)
      part_by m first (Some k.DirectiveOpen) = directive m first
      part_by m first (Some _) = pure None
      part_by m first None = pure None

      -- a part, if one comes next
      unfoldable pub part_of : Bool → Step (Option Part)
      part_of m = do
        first ← peek_index ts m
        t ← peek_kind ts m
        part_by m first t

      abbrev pub parts_step : (Parts → Step Parts) → Parts → Option Part → Step Parts
      parts_step more found None = pure found
      parts_step more found (Some x) = more (a.add_part found x)

      -- Parts, at most n
      unfoldable pub parts_from : Bool → ℕ → Parts → Step Parts
      parts_from m zero found = pure found
      parts_from m (suc n) found = do
        x ← part_of m
        parts_step (parts_from m n) found x

      -- the steps at this depth
      abbrev pub at_depth : Deeper t
      at_depth = record { expr = goal; parts = λ m. parts_from m (length ts) a.no_parts }

  -- no construct may nest
  abbrev pub too_deep : Deeper t
  too_deep = record { expr = λ m g i. Err (TooDeep i); parts = λ m i. Err (TooDeep i) }

  -- with constructs nested no deeper than the number
  unfoldable pub under : ℕ → Deeper t
  under zero = at_depth zero too_deep too_deep.expr
  under (suc zero) = at_depth (suc zero) (under zero) too_deep.expr
  under (suc (suc depth)) = at_depth (suc (suc depth)) (under (suc depth)) (under depth).expr

  -- one construct deeper
  abbrev pub deeper : ℕ → Deeper t
  deeper zero = too_deep
  deeper (suc depth) = under depth

  -- two
  abbrev pub twice : ℕ → Bool → Goal → Step Expr
  twice zero = too_deep.expr
  twice (suc zero) = too_deep.expr
  twice (suc (suc depth)) = (under depth).expr
