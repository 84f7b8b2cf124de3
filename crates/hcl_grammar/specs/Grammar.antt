-- The grammar of expressions and templates: which tree is derived from which tokens.
-- HCL native syntax specification, Expressions and Templates.
--
-- In `IsExpr ts d m e i j` the tokens are ts, and the expression e is derived from those from place
-- i up to place j. d: constructs are nested no more than d deep; what nests is a construct at
-- `suc d` whose inside is at d. m: whether line ends and line comments are dropped here. `NextIs ts
-- m t i`: after what is dropped, a token of kind t comes next; `next_index ts m i` is its number,
-- and `after_next ts m i` the place after it.
--
-- What nests, each one construct, so that its inside is at d where it is at suc d: parentheses; the
-- parentheses of a call; the brackets of a tuple, an object, a `for`, an index and `[*]`; an
-- operand of `-` or `!`; either branch of a conditional (its condition not); quoted text; a
-- heredoc; an interpolation; the braces of a block. A directive counts twice: itself, and its
-- braces, so that its expression is at d where it is at suc (suc d), and its parts, those of `else`
-- too, at suc d.
-- What does not nest: operators of a chain, attributes and splats by `.`, labels, `else`, `endif`,
-- `endfor`.
use Rattle.std.specs.Prelude.{◌≡◌, ◌≢◌, ℕ, zero, suc, Bool, true, false, List, [], ◌∷◌, Option, Some, None}
use Rattle.hcl_token.specs.declared.kind.Kind.{Kind}
use Rattle.hcl_token.specs.declared.kind.Kind.TheVariants as k
use Rattle.hcl_grammar.specs.declared.tree.Elem.{Elem}
use Rattle.hcl_grammar.specs.declared.tree.Expr.{Expr}
use Rattle.hcl_grammar.specs.declared.tree.ExprKind.TheVariants as expr_kind
use Rattle.hcl_grammar.specs.declared.tree.Intro.{Intro}
use Rattle.hcl_grammar.specs.declared.tree.Operation.{Operation}
use Rattle.hcl_grammar.specs.declared.tree.BinaryOperator.{BinaryOperator}
use Rattle.hcl_grammar.specs.declared.tree.Part.{Part}
use Rattle.hcl_grammar.specs.declared.tree.Part.TheVariants as part
use Rattle.hcl_grammar.specs.declared.tree.UnaryOperator.{UnaryOperator}
use Rattle.hcl_grammar.specs.declared.tree.Primary.TheVariants as primary
use Rattle.hcl_grammar.specs.declared.tree.Tail.{Tail}
use Rattle.hcl_grammar.specs.declared.tree.Tail.TheVariants as tail
use Rattle.hcl_grammar.specs.declared.tree.Template.{Template}
use Rattle.hcl_grammar.specs.declared.tree.Term.{Term}
use Rattle.hcl_grammar.specs.Lookahead.{NextIs, NextIsWord, NextIsNotWord, IsNewlines, IsSep, IsNameTail}
use Rattle.hcl_grammar.specs.Lookahead.{IsSecondName, IsEllipsis, IsKeyword}
use Rattle.hcl_grammar.specs.Nodes as node
use Rattle.hcl_grammar.specs.Operators.{unary_operator, binary_operator, levels}
use Rattle.hcl_grammar.specs.Tokens.{Token, next_index, next_kind, after_next, first_token_in, for_word}
use Rattle.hcl_grammar.specs.Tokens.{in_word, if_word, else_word, endif_word, endfor_word}

mutual
  -- Expr = Or ("?" Expr ":" Expr)?
  -- Either branch of a conditional is one construct deeper.
  pub data IsExpr (ts : List Token) : ℕ → Bool → Expr → ℕ → ℕ → Type 0 where
    plain : {d : ℕ} {m : Bool} {e : Expr} {i j : ℕ} → IsLevel ts d m levels e i j
        → IsExpr ts d m e i j
    conditional : {d : ℕ} {m : Bool} {c then_branch else_branch : Expr} {i j n l : ℕ}
        → IsLevel ts (suc d) m levels c i j
        → NextIs ts m k.Question j → IsExpr ts d m then_branch (after_next ts m j) n
        → NextIs ts m k.Colon n → IsExpr ts d m else_branch (after_next ts m n) l
        → IsExpr ts (suc d) m
        (node.expr (next_index ts m i) l (expr_kind.Conditional c then_branch else_branch)) i l

  -- Or = And (two bars And)*
  --
  -- And = Eq ("&&" Eq)*
  --
  -- Eq = Cmp (("=="|"!=") Cmp)*
  --
  -- Cmp = Sum ((">"|">="|"<"|"<=") Sum)*
  --
  -- Sum = Prod (("+"|"-") Prod)*
  --
  -- Prod = Unary (("*"|"/"|"%") Unary)*
  --
  -- Level n + 1: operators of level n between operands of level n. Level 0 is Unary, level 6 is Or.
  pub data IsLevel (ts : List Token) : ℕ → Bool → ℕ → Expr → ℕ → ℕ → Type 0 where
    lowest : {d : ℕ} {m : Bool} {e : Expr} {i j : ℕ} → IsUnary ts d m e i j
        → IsLevel ts d m zero e i j
    level : {d : ℕ} {m : Bool} {n : ℕ} {head : Expr} {links : List Operation} {i j l : ℕ}
        → IsLevel ts d m n head i j → IsOperations ts d m n links j l
        → IsLevel ts d m (suc n) (node.binary (next_index ts m i) l head links) i l

  -- what follows the first operand of a level: its operators, each with its second operand
  pub data IsOperations (ts : List Token) : ℕ → Bool → ℕ → List Operation → ℕ → ℕ → Type 0 where
    no_operations : {d : ℕ} {m : Bool} {n i : ℕ} → IsOperations ts d m n [] i i
    operation : {d : ℕ} {m : Bool} {n : ℕ} {t : Kind} {op : BinaryOperator}
        {x : Expr} {links : List Operation}
        {i j l : ℕ}
        → NextIs ts m t i → binary_operator t ≡ Some (n, op) → IsLevel ts d m n x (after_next ts m i) j
        → IsOperations ts d m n links j l
        → IsOperations ts d m n (node.operation op x ∷ links) i l

  -- Unary = ("-"|"!") Unary | Post
  pub data IsUnary (ts : List Token) : ℕ → Bool → Expr → ℕ → ℕ → Type 0 where
    with_operator : {d : ℕ} {m : Bool} {t : Kind} {op : UnaryOperator} {e : Expr} {i j : ℕ}
        → NextIs ts m t i → unary_operator t ≡ Some op → IsUnary ts d m e (after_next ts m i) j
        → IsUnary ts (suc d) m (node.expr (next_index ts m i) j (expr_kind.Unary op e)) i j
    -- Post = Term Tail*
    post : {d : ℕ} {m : Bool} {head : Term} {tails : List Tail} {i j l : ℕ}
        → IsTerm ts d m head i j → IsTails ts d m tails j l
        → IsUnary ts d m (node.postfix (next_index ts m i) l head tails) i l

  -- Tail*
  pub data IsTails (ts : List Token) : ℕ → Bool → List Tail → ℕ → ℕ → Type 0 where
    no_tails : {d : ℕ} {m : Bool} {i : ℕ} → IsTails ts d m [] i i
    tails : {d : ℕ} {m : Bool} {x : Tail} {xs : List Tail} {i j l : ℕ} → IsTail ts d m x i j
        → IsTails ts d m xs j l → IsTails ts d m (x ∷ xs) i l

  -- Tail = "." Identifier | DotIndex | "." "*" | "[" "*" "]" | "[" Expr "]"
  pub data IsTail (ts : List Token) : ℕ → Bool → Tail → ℕ → ℕ → Type 0 where
    by_name : {d : ℕ} {m : Bool} {i : ℕ} → NextIs ts m k.Dot i → NextIs ts m k.Identifier (after_next ts m i)
        → IsTail ts d m (tail.Name (next_index ts m (after_next ts m i)))
        i (after_next ts m (after_next ts m i))
    legacy : {d : ℕ} {m : Bool} {i : ℕ} → NextIs ts m k.DotIndex i
        → IsTail ts d m (tail.LegacyIndex (next_index ts m i)) i (after_next ts m i)
    attribute_splat : {d : ℕ} {m : Bool} {i : ℕ}
        → NextIs ts m k.Dot i → NextIs ts m k.Star (after_next ts m i)
        → IsTail ts d m tail.AttributeSplat i (after_next ts m (after_next ts m i))
    full_splat : {d : ℕ} {m : Bool} {i : ℕ} → NextIs ts m k.OpenBracket i
        → NextIs ts true k.Star (after_next ts m i)
        → NextIs ts true k.CloseBracket (after_next ts true (after_next ts m i))
        → IsTail ts (suc d) m tail.FullSplat i (after_next ts true (after_next ts true (after_next ts m i)))
    index : {d : ℕ} {m : Bool} {e : Expr} {i j : ℕ} → NextIs ts m k.OpenBracket i
        → IsExpr ts d true e (after_next ts m i) j → NextIs ts true k.CloseBracket j
        → IsTail ts (suc d) m (tail.Index e) i (after_next ts true j)

  -- Term = Number | Identifier | Call | Tuple | Object | For | Quoted | Heredoc | "(" Expr ")"
  pub data IsTerm (ts : List Token) : ℕ → Bool → Term → ℕ → ℕ → Type 0 where
    number : {d : ℕ} {m : Bool} {i : ℕ} → NextIs ts m k.Number i
        → IsTerm ts d m
        (node.term (next_index ts m i) (after_next ts m i) primary.Number) i (after_next ts m i)
    -- a Term that is an Identifier is not followed by `(` or `::`
    identifier : {d : ℕ} {m : Bool} {i : ℕ} → NextIs ts m k.Identifier i
        → next_kind ts m (after_next ts m i) ≢ Some k.OpenParen
        → next_kind ts m (after_next ts m i) ≢ Some k.DoubleColon
        → IsTerm ts d m
        (node.term (next_index ts m i) (after_next ts m i) primary.Identifier) i (after_next ts m i)
    -- Call = Identifier ("::" Identifier)* "(" (Expr ("," Expr)* (","|"...")?)? ")"
    call : {d : ℕ} {m : Bool} {names : List ℕ} {es : List Expr} {expand_final : Bool} {i j l : ℕ}
        → NextIs ts m k.Identifier i
        → IsNameTail ts m names (after_next ts m i) j → NextIs ts m k.OpenParen j
        → IsArguments ts d es expand_final (after_next ts m j) l
        → IsTerm ts (suc d) m
        (node.term (next_index ts m i) l (node.call (next_index ts m i ∷ names) es expand_final)) i l
    -- Tuple = "[" (Expr ("," Expr)* ","?)? "]", and no "for" follows the `[`
    tuple : {d : ℕ} {m : Bool} {es : List Expr} {i j : ℕ} → NextIs ts m k.OpenBracket i
        → NextIsNotWord ts true for_word (after_next ts m i)
        → IsItems ts d es (after_next ts m i) j
        → IsTerm ts (suc d) m (node.term (next_index ts m i) j (primary.Tuple es)) i j
    -- Object = "{" nl* (Elem (Sep Elem)* Sep?)? "}", and no "for" follows the `{` and line ends
    -- and comments
    object : {d : ℕ} {m : Bool} {xs : List Elem} {i j l : ℕ} → NextIs ts m k.OpenBrace i
        → NextIsNotWord ts true for_word (after_next ts m i)
        → IsNewlines ts (after_next ts m i) j → IsElems ts d xs j l
        → IsTerm ts (suc d) m (node.term (next_index ts m i) l (primary.Object xs)) i l
    -- For = "[" Intro ":" Expr ("if" Expr)? "]"
    for_tuple : {d : ℕ} {m : Bool} {x : Intro} {value : Expr} {filter : Option Expr} {i j n l : ℕ}
        → NextIs ts m k.OpenBracket i
        → IsIntro ts d x (after_next ts m i) j → NextIs ts true k.Colon j
        → IsExpr ts d true value (after_next ts true j) n
        → IsFilter ts d k.CloseBracket filter n l
        → IsTerm ts (suc d) m (node.term (next_index ts m i) l (node.for_tuple x value filter)) i l
    -- For = "{" Intro ":" Expr "=>" Expr "..."? ("if" Expr)? "}"
    for_object : {d : ℕ} {m : Bool} {x : Intro} {key value : Expr} {grouped : Bool}
        {filter : Option Expr} {i j n o q l : ℕ} → NextIs ts m k.OpenBrace i
        → IsIntro ts d x (after_next ts m i) j → NextIs ts true k.Colon j
        → IsExpr ts d true key (after_next ts true j) n
        → NextIs ts true k.FatArrow n → IsExpr ts d true value (after_next ts true n) o
        → IsEllipsis ts grouped o q
        → IsFilter ts d k.CloseBrace filter q l
        → IsTerm ts (suc d) m
        (node.term (next_index ts m i) l (node.for_object x key value grouped filter)) i l
    -- Quoted = QuoteOpen Parts QuoteClose
    quoted : {d : ℕ} {m : Bool} {ps : List Part} {i j : ℕ} → NextIs ts m k.QuoteOpen i
        → IsParts ts d m ps (after_next ts m i) j → NextIs ts m k.QuoteClose j
        → IsTerm ts (suc d) m
        (node.term (next_index ts m i) (after_next ts m j)
        (primary.Quoted (node.template (first_token_in ts m (after_next ts m i) j) j ps))) i
        (after_next ts m j)
    -- Heredoc = HereOpen Parts HereClose
    heredoc : {d : ℕ} {m : Bool} {ps : List Part} {i j : ℕ} → NextIs ts m k.HereOpen i
        → IsParts ts d m ps (after_next ts m i) j → NextIs ts m k.HereClose j
        → IsTerm ts (suc d) m
        (node.term (next_index ts m i) (after_next ts m j)
        (primary.Heredoc (node.template (first_token_in ts m (after_next ts m i) j) j ps))) i
        (after_next ts m j)
    -- "(" Expr ")"
    parens : {d : ℕ} {m : Bool} {e : Expr} {i j : ℕ} → NextIs ts m k.OpenParen i
        → IsExpr ts d true e (after_next ts m i) j → NextIs ts true k.CloseParen j
        → IsTerm ts (suc d) m (node.term (next_index ts m i) (after_next ts true j) (primary.Parens e)) i
        (after_next ts true j)

  -- (Expr ("," Expr)* (","|"...")?)? and `)`; whether `...` is there
  pub data IsArguments (ts : List Token) : ℕ → List Expr → Bool → ℕ → ℕ → Type 0 where
    no_arguments : {d i : ℕ} → NextIs ts true k.CloseParen i
        → IsArguments ts d [] false i (after_next ts true i)
    last_argument : {d : ℕ} {e : Expr} {i j : ℕ} → IsExpr ts d true e i j
        → NextIs ts true k.CloseParen j
        → IsArguments ts d (e ∷ []) false i (after_next ts true j)
    spread_argument : {d : ℕ} {e : Expr} {i j : ℕ} → IsExpr ts d true e i j
        → NextIs ts true k.Ellipsis j → NextIs ts true k.CloseParen (after_next ts true j)
        → IsArguments ts d (e ∷ []) true i (after_next ts true (after_next ts true j))
    argument : {d : ℕ} {e : Expr} {es : List Expr} {expand_final : Bool} {i j l : ℕ}
        → IsExpr ts d true e i j → NextIs ts true k.Comma j
        → IsArguments ts d es expand_final (after_next ts true j) l
        → IsArguments ts d (e ∷ es) expand_final i l

  -- (Expr ("," Expr)* ","?)? and `]`
  pub data IsItems (ts : List Token) : ℕ → List Expr → ℕ → ℕ → Type 0 where
    no_items : {d i : ℕ} → NextIs ts true k.CloseBracket i → IsItems ts d [] i (after_next ts true i)
    last_item : {d : ℕ} {e : Expr} {i j : ℕ} → IsExpr ts d true e i j → NextIs ts true k.CloseBracket j
        → IsItems ts d (e ∷ []) i (after_next ts true j)
    item : {d : ℕ} {e : Expr} {es : List Expr} {i j l : ℕ} → IsExpr ts d true e i j
        → NextIs ts true k.Comma j
        → IsItems ts d es (after_next ts true j) l
        → IsItems ts d (e ∷ es) i l

  -- (Elem (Sep Elem)* Sep?)? and `}`
  pub data IsElems (ts : List Token) : ℕ → List Elem → ℕ → ℕ → Type 0 where
    no_elems : {d i : ℕ} → NextIs ts false k.CloseBrace i → IsElems ts d [] i (after_next ts false i)
    last_elem : {d : ℕ} {x : Elem} {i j : ℕ} → IsElem ts d x i j → NextIs ts false k.CloseBrace j
        → IsElems ts d (x ∷ []) i (after_next ts false j)
    elems : {d : ℕ} {x : Elem} {xs : List Elem} {i j n l : ℕ} → IsElem ts d x i j → IsSep ts j n
        → IsElems ts d xs n l
        → IsElems ts d (x ∷ xs) i l

  -- Elem = Expr ("="|":") Expr
  pub data IsElem (ts : List Token) : ℕ → Elem → ℕ → ℕ → Type 0 where
    by_equals : {d : ℕ} {key value : Expr} {i j l : ℕ} → IsExpr ts d false key i j
        → NextIs ts false k.Equal j → IsExpr ts d false value (after_next ts false j) l
        → IsElem ts d (node.elem key value) i l
    by_colon : {d : ℕ} {key value : Expr} {i j l : ℕ} → IsExpr ts d false key i j
        → NextIs ts false k.Colon j → IsExpr ts d false value (after_next ts false j) l
        → IsElem ts d (node.elem key value) i l

  -- Intro = "for" Identifier ("," Identifier)? "in" Expr
  pub data IsIntro (ts : List Token) : ℕ → Intro → ℕ → ℕ → Type 0 where
    intro : {d : ℕ} {o : Option ℕ} {e : Expr} {i j l : ℕ} → NextIsWord ts true for_word i
        → NextIs ts true k.Identifier (after_next ts true i)
        → IsSecondName ts o (after_next ts true (after_next ts true i)) j → NextIsWord ts true in_word j
        → IsExpr ts d true e (after_next ts true j) l
        → IsIntro ts d
        (node.intro (next_index ts true i) l (next_index ts true (after_next ts true i)) o e) i l

  -- ("if" Expr)? and the closing bracket
  pub data IsFilter (ts : List Token) : ℕ → Kind → Option Expr → ℕ → ℕ → Type 0 where
    no_filter : {d : ℕ} {close : Kind} {i : ℕ} → NextIs ts true close i
        → IsFilter ts d close None i (after_next ts true i)
    filter : {d : ℕ} {close : Kind} {e : Expr} {i j : ℕ} → NextIsWord ts true if_word i
        → IsExpr ts d true e (after_next ts true i) j → NextIs ts true close j
        → IsFilter ts d close (Some e) i (after_next ts true j)

  -- Parts = (QuoteLit | HereLit | Interp | IfDir | ForDir)*
  pub data IsParts (ts : List Token) : ℕ → Bool → List Part → ℕ → ℕ → Type 0 where
    no_parts : {d : ℕ} {m : Bool} {i : ℕ} → IsParts ts d m [] i i
    parts : {d : ℕ} {m : Bool} {x : Part} {xs : List Part} {i j l : ℕ} → IsPart ts d m x i j
        → IsParts ts d m xs j l → IsParts ts d m (x ∷ xs) i l

  -- one of them
  pub data IsPart (ts : List Token) : ℕ → Bool → Part → ℕ → ℕ → Type 0 where
    quote_text : {d : ℕ} {m : Bool} {i : ℕ} → NextIs ts m k.QuoteLit i
        → IsPart ts d m (part.Literal (next_index ts m i)) i (after_next ts m i)
    here_text : {d : ℕ} {m : Bool} {i : ℕ} → NextIs ts m k.HereLit i
        → IsPart ts d m (part.Literal (next_index ts m i)) i (after_next ts m i)
    -- Interp = InterpOpen Expr SeqClose
    interp : {d : ℕ} {m : Bool} {e : Expr} {i j : ℕ} → NextIs ts m k.InterpOpen i
        → IsExpr ts d true e (after_next ts m i) j → NextIs ts true k.SeqClose j
        → IsPart ts (suc d) m (part.Interp e) i (after_next ts true j)
    -- IfDir = DirectiveOpen "if" Expr SeqClose Parts (DirectiveOpen "else" SeqClose Parts)?
    -- DirectiveOpen "endif" SeqClose
    --
    -- The directive is a construct, and the braces in it are: the parts are one deeper, the
    -- expression two.
    if_directive : {d : ℕ} {m : Bool} {c : Expr} {then_branch : List Part} {else_branch : Option Template}
        {i j n l : ℕ} → NextIs ts m k.DirectiveOpen i
        → NextIsWord ts true if_word (after_next ts m i)
        → IsExpr ts d true c (after_next ts true (after_next ts m i)) j
        → NextIs ts true k.SeqClose j
        → IsParts ts (suc d) m then_branch (after_next ts true j) n → IsElse ts (suc d) m else_branch n l
        → IsPart ts (suc (suc d)) m
        (node.if_part (next_index ts m i) l c
        (node.template (first_token_in ts m (after_next ts true j) n) n then_branch) else_branch) i l
    -- ForDir = DirectiveOpen Intro SeqClose Parts DirectiveOpen "endfor" SeqClose
    for_directive : {d : ℕ} {m : Bool} {x : Intro} {body : List Part} {i j n l : ℕ}
        → NextIs ts m k.DirectiveOpen i
        → IsIntro ts d x (after_next ts m i) j → NextIs ts true k.SeqClose j
        → IsParts ts (suc d) m body (after_next ts true j) n → IsKeyword ts m endfor_word n l
        → IsPart ts (suc (suc d)) m
        (node.for_part (next_index ts m i) l x
        (node.template (first_token_in ts m (after_next ts true j) n) n body)) i l

  -- (DirectiveOpen "else" SeqClose Parts)? DirectiveOpen "endif" SeqClose
  pub data IsElse (ts : List Token) : ℕ → Bool → Option Template → ℕ → ℕ → Type 0 where
    no_else : {d : ℕ} {m : Bool} {i j : ℕ} → IsKeyword ts m endif_word i j → IsElse ts d m None i j
    has_else : {d : ℕ} {m : Bool} {ps : List Part} {i j n l : ℕ} → IsKeyword ts m else_word i j
        → IsParts ts d m ps j n → IsKeyword ts m endif_word n l
        → IsElse ts d m (Some (node.template (first_token_in ts m j n) n ps)) i l
