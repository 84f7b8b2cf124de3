-- Parsers whose makers respect relations answer alike.
use Rattle.std.proofs.Common.{◌≡◌, ◌≢◌, ℕ, zero, suc, ◌||◌, Bool, true, false, if◌then◌else◌, List, length, Option, Some, None, Ok, Err, refl}
use Rattle.hcl_token.specs.declared.kind.Kind.{Kind}
use Rattle.hcl_token.specs.declared.kind.Kind.TheVariants as k
use Rattle.hcl_grammar.specs.declared.fault.TokenFault.TheVariants.{Syntax, TooDeep, Memory}
use Rattle.hcl_grammar.specs.declared.goal.Goal.{Goal}
use Rattle.hcl_grammar.specs.declared.goal.Goal.TheVariants.{Whole, Operand}
use Rattle.hcl_grammar.specs.declared.tree.BinaryOperator.{BinaryOperator}
use Rattle.hcl_grammar.specs.declared.tree.UnaryOperator.{UnaryOperator}
use Rattle.hcl_grammar.specs.Operators.{unary_operator, binary_operator}
use Rattle.hcl_grammar.specs.Pure.BodyParser as bodies
use Rattle.hcl_grammar.specs.Pure.BodyParser.{saturating_pred}
use Rattle.hcl_grammar.specs.Pure.Steps.{eol, expect_end}
use Rattle.hcl_grammar.specs.Pure.Steps.{eat_newline, eat_inner_newline, skip_newlines_from, skip_newlines, eat_separator, eat_separator_or_brace, second_name, keyword_directive}
use Rattle.hcl_grammar.specs.Pure.Reading.{Outcome, Step, and_then, next_is, after_if_next, next_is_word, expect, expect_word, enter, enter_two}
use Rattle.hcl_grammar.specs.Tokens.{Token, next_index, next_kind, after_next, for_word, in_word, if_word, else_word, endif_word, endfor_word}
use Rattle.hcl_parse.specs.Alike.{Alike, read, fault, InSome, Relations, Respects}
use Rattle.hcl_grammar.specs.Pure.Makers.{Types, Makers}
use Rattle.hcl_grammar.specs.Pure.Parser as g
use Rattle.hcl_grammar.specs.Pure.Steps as steps

-- something was read, or the error is not that memory ran out
abbrev Own : {A : Type 0} → Outcome A → Type 0
Own (Ok x) = Unit {0}
Own (Err e) = e ≢ Memory

is_syntax : (at : ℕ) → Syntax at ≢ Memory
is_syntax at e = absurd (cc)

is_deep : (at : ℕ) → TooDeep at ≢ Memory
is_deep at e = absurd (cc)

own_then : {A B : Type 0} (o : Outcome A) (f : A → Step B) → Own o → ((x : A) (i : ℕ) → Own (f x i)) → Own (and_then o f)
own_then (Ok x) f h more = more x.0 x.1
own_then (Err e) f h more = h

own_branch : {A : Type 0} (b : Bool) (i : ℕ) (f g : Step A) → Own (f i) → Own (g i) → Own ((if b then f else g) i)
own_branch true i f g h e = h
own_branch false i f g h e = e

own_either : {A : Type 0} (b : Bool) (o q : Outcome A) → Own o → Own q → Own (if b then o else q)
own_either true o q h e = h
own_either false o q h e = e

own_enter : (depth first i : ℕ) → Own (enter depth first i)
own_enter zero first i = is_deep first
own_enter (suc depth) first i = tt

own_enter_two : (depth first i : ℕ) → Own (enter_two depth first i)
own_enter_two zero first i = is_deep first
own_enter_two (suc zero) first i = is_deep first
own_enter_two (suc (suc depth)) first i = tt

module _ (ts : List Token) where
  own_expect : (m : Bool) (kind : Kind) (i : ℕ) → Own (expect ts m kind i)
  unfolding expect
  own_expect m kind i = own_either (next_is ts m kind i) _ _ tt (is_syntax _)

  own_expect_word : (m : Bool) (w : List ℕ) (i : ℕ) → Own (expect_word ts m w i)
  unfolding expect_word
  own_expect_word m w i = own_either (next_is_word ts m w i) _ _ tt (is_syntax _)

  own_eat_newline : (i : ℕ) → Own (eat_newline ts i)
  unfolding eat_newline
  own_eat_newline i = tt

  own_eat_inner_newline : (i : ℕ) → Own (eat_inner_newline ts i)
  unfolding eat_inner_newline
  own_eat_inner_newline i = own_branch (next_is ts false k.LineComment i) _ _ _ (own_then (expect ts false k.LineEnd _) _ (own_expect false k.LineEnd _) (λ u j. tt)) tt

  own_skip_newlines_from : (n i : ℕ) → Own (skip_newlines_from ts n i)
  unfolding skip_newlines_from
  own_skip_newlines_from zero i = tt
  own_skip_newlines_from (suc n) i = own_then (eat_inner_newline ts i) _ (own_eat_inner_newline i) (λ more j. own_branch more j _ _ (own_skip_newlines_from n j) tt)

  own_skip_newlines : (i : ℕ) → Own (skip_newlines ts i)
  own_skip_newlines i = own_skip_newlines_from (length ts) i

  own_eat_separator : (i : ℕ) → Own (eat_separator ts i)
  unfolding eat_separator
  own_eat_separator i = own_then ((if next_is ts false k.Comma i then (λ j. Ok (true, j)) else eat_inner_newline ts) _) _ (own_branch (next_is ts false k.Comma i) _ _ _ tt (own_eat_inner_newline _)) (λ is_line j. own_branch is_line j _ _ (own_then (skip_newlines ts j) _ (own_skip_newlines j) (λ u l. tt)) tt)

  own_eat_separator_or_brace : (i : ℕ) → Own (eat_separator_or_brace ts i)
  unfolding eat_separator_or_brace
  own_eat_separator_or_brace i = own_then (eat_separator ts i) _ (own_eat_separator i) (λ more j. own_branch more j _ _ tt (own_then (expect ts false k.CloseBrace j) _ (own_expect false k.CloseBrace j) (λ u l. tt)))

  own_second_name : (i : ℕ) → Own (second_name ts i)
  unfolding second_name
  own_second_name i = own_branch (next_is ts true k.Comma i) _ _ _ (own_then (expect ts true k.Identifier _) _ (own_expect true k.Identifier _) (λ u j. tt)) tt

  own_keyword_directive : (m : Bool) (w : List ℕ) (i : ℕ) → Own (keyword_directive ts m w i)
  unfolding keyword_directive
  own_keyword_directive m w i = own_then (expect ts m k.DirectiveOpen i) _ (own_expect m k.DirectiveOpen i) (λ u j. own_then (expect_word ts true w j) _ (own_expect_word true w j) (λ u l. own_expect true k.SeqClose l))

  own_expect_end : (o : Option Kind) (i : ℕ) → Own (expect_end ts o i)
  own_expect_end None i = tt
  own_expect_end (Some kind) i = is_syntax _

  own_eol : (i : ℕ) → Own (eol ts i)
  unfolding eol
  own_eol i = own_then (eat_newline ts i) _ (own_eat_newline i) (λ is_line j. own_branch is_line j _ _ tt (own_expect_end _ _))

  own_equals_or_colon : (i : ℕ) → Own (steps.equals_or_colon ts i)
  unfolding steps.equals_or_colon
  own_equals_or_colon i = own_branch (next_is ts false k.Equal i) _ _ _ tt (own_expect false k.Colon _)

  own_eat_operator : (m : Bool) (i : ℕ) → Own (steps.eat_operator ts m i)
  unfolding steps.eat_operator
  own_eat_operator m i = by (next_kind ts m i)
    where
      taken : (o : Option (ℕ × BinaryOperator)) → Own (steps.take_operator ts m i o)
      taken None = tt
      taken (Some q) = tt

      by : (o : Option Kind) → Own (steps.operator_by_kind ts m i o)
      by None = tt
      by (Some t) = taken (binary_operator t)

following : {A B C D : Type 0} {R : A → B → Type 0} {S : C → D → Type 0} {o : Outcome A} {q : Outcome B} (f : A → Step C) (v : B → Step D) → Alike R o q → ((x : A) (y : B) (i : ℕ) → R x y → Alike S (f x i) (v y i)) → Alike S (and_then o f) (and_then q v)
following f v (read {x} {y} {i} r) more = more x y i r
following f v (fault h) more = fault h

-- after a step in which nothing is made
step : {A C D : Type 0} {S : C → D → Type 0} (o : Outcome A) → Own o → (f : A → Step C) (v : A → Step D) → ((x : A) (i : ℕ) → Alike S (f x i) (v x i)) → Alike S (and_then o f) (and_then o v)
step (Ok x) h f v more = more x.0 x.1
step (Err e) h f v more = fault h

branch : {A B : Type 0} {S : A → B → Type 0} (b : Bool) (i : ℕ) (f g : Step A) (v w : Step B) → Alike S (f i) (v i) → Alike S (g i) (w i) → Alike S ((if b then f else g) i) ((if b then v else w) i)
branch true i f g v w h e = h
branch false i f g v w h e = e

-- where there is an element more, and where there is none
each : {X Y A B : Type 0} (R : X → Y → Type 0) {S : A → B → Type 0} (f : Option X → Step A) (v : Option Y → Step B) (i : ℕ) → Alike S (f None i) (v None i) → ((x : X) (y : Y) → R x y → Alike S (f (Some x) i) (v (Some y) i)) → (o : Option X) (q : Option Y) → InSome R o q → Alike S (f o i) (v q i)
each R f v i none some None None h = none
each R f v i none some (Some x) (Some y) h = some x y h
each R f v i none some None (Some y) h = absurd h
each R f v i none some (Some x) None h = absurd h

module _ {s t : Types} (a : Makers s) (b : Makers t) (R : Relations s t) (r : Respects a b R) (ts : List Token) where
  record Deeper (I : g.Deeper s) (J : g.Deeper t) : Type 0 where
    expr : (m : Bool) (goal : Goal) (i : ℕ) → Alike R.Expr (I.expr m goal i) (J.expr m goal i)
    parts : (m : Bool) (i : ℕ) → Alike R.Parts (I.parts m i) (J.parts m i)

  names : (m : Bool) (n : ℕ) (x : s.Names) (y : t.Names) (i : ℕ) → R.Names x y → Alike R.Names (g.names_from a ts m n x i) (g.names_from b ts m n y i)
  unfolding g.names_from
  names m zero x y i h = read h
  names m (suc n) x y i h = branch (next_is ts m k.DoubleColon i) (after_if_next ts m k.DoubleColon i) _ _ _ _ (step (expect ts m k.Identifier _) (own_expect ts m k.Identifier _) _ _ (λ u j. names m n _ _ j (r.add_name x y h _))) (read h)

  module _ (I : Bool → Goal → Step s.Expr) (J : Bool → Goal → Step t.Expr) (h : (m : Bool) (goal : Goal) (i : ℕ) → Alike R.Expr (I m goal i) (J m goal i)) where
    items : (n : ℕ) (x : s.Exprs) (y : t.Exprs) (i : ℕ) → R.Exprs x y → Alike R.Exprs (g.tuple_items_from a ts I n x i) (g.tuple_items_from b ts J n y i)
    unfolding g.tuple_items_from
    items zero x y i e = fault (is_syntax _)
    items (suc n) x y i e = branch (next_is ts true k.CloseBracket i) (after_if_next ts true k.CloseBracket i) _ _ _ _ (read e) (following _ _ (h true Whole _) (λ v w j d. branch (next_is ts true k.Comma j) (after_if_next ts true k.Comma j) _ _ _ _ (items n _ _ _ (r.add_expr x y e v w d)) (step (expect ts true k.CloseBracket _) (own_expect ts true k.CloseBracket _) _ _ (λ u l. read (r.add_expr x y e v w d)))))

    abbrev Arguments : s.Exprs × Bool → t.Exprs × Bool → Type 0
    Arguments x y = R.Exprs x.0 y.0 × (x.1 ≡ y.1)

    arguments : (n : ℕ) (x : s.Exprs) (y : t.Exprs) (i : ℕ) → R.Exprs x y → Alike Arguments (g.arguments_from a ts I n x i) (g.arguments_from b ts J n y i)
    unfolding g.arguments_from
    arguments zero x y i e = fault (is_syntax _)
    arguments (suc n) x y i e = branch (next_is ts true k.CloseParen i) (after_if_next ts true k.CloseParen i) _ _ _ _ (read (e, refl)) (following _ _ (h true Whole _) (λ v w j d. branch (next_is ts true k.Comma j) (after_if_next ts true k.Comma j) _ _ _ _ (arguments n _ _ _ (r.add_expr x y e v w d)) (step (expect ts true k.CloseParen _) (own_expect ts true k.CloseParen _) _ _ (λ u l. read (r.add_expr x y e v w d, refl)))))

    elem : (x : s.Elems) (y : t.Elems) (i : ℕ) → R.Elems x y → Alike R.Elems (g.elem a ts I x i) (g.elem b ts J y i)
    unfolding g.elem
    elem x y i e = following _ _ (h false Whole i) (λ v w j d. step (steps.equals_or_colon ts j) (own_equals_or_colon ts j) _ _ (λ u l. following _ _ (h false Whole l) (λ c z o f. read (r.add_elem x y e v w d c z f))))

    elems : (n : ℕ) (x : s.Elems) (y : t.Elems) (i : ℕ) → R.Elems x y → Alike R.Elems (g.elems_from a ts I n x i) (g.elems_from b ts J n y i)
    unfolding g.elems_from
    elems zero x y i e = fault (is_syntax _)
    elems (suc n) x y i e = branch (next_is ts false k.CloseBrace i) (after_if_next ts false k.CloseBrace i) _ _ _ _ (read e) (following _ _ (elem x y _ e) (λ v w j d. step (eat_separator_or_brace ts j) (own_eat_separator_or_brace ts j) _ _ (λ more l. branch more l _ _ _ _ (elems n v w l d) (read d))))

    intro : (i : ℕ) → Alike R.Intro (g.intro a ts I i) (g.intro b ts J i)
    unfolding g.intro
    intro i = step (expect_word ts true for_word i) (own_expect_word ts true for_word i) _ _ (λ u j. step (expect ts true k.Identifier j) (own_expect ts true k.Identifier j) _ _ (λ u j. step (second_name ts j) (own_second_name ts j) _ _ (λ o j. step (expect_word ts true in_word j) (own_expect_word ts true in_word j) _ _ (λ u j. following _ _ (h true Whole j) (λ x y l e. read (r.intro _ _ _ o x y e))))))

    filter : (close : Kind) (i : ℕ) → Alike (InSome R.Expr) (g.filter a ts I close i) (g.filter b ts J close i)
    unfolding g.filter
    filter close i = branch (next_is_word ts true if_word i) i _ _ _ _ (following _ _ (h true Whole _) (λ x y j e. step (expect ts true close j) (own_expect ts true close j) _ _ (λ u l. read e))) (step (expect ts true close _) (own_expect ts true close _) _ _ (λ u l. read tt))

    tuple : (first i : ℕ) → Alike R.Term (g.tuple a ts I first i) (g.tuple b ts J first i)
    unfolding g.tuple
    tuple first i = following _ _ (items (length ts) _ _ i r.no_exprs) (λ x y l e. read (r.tuple first l x y e))

    object : (first i : ℕ) → Alike R.Term (g.object a ts I first i) (g.object b ts J first i)
    unfolding g.object
    object first i = step (skip_newlines ts i) (own_skip_newlines ts i) _ _ (λ u j. following _ _ (elems (length ts) _ _ j r.no_elems) (λ x y l e. read (r.object first l x y e)))

    for_tuple : (first i : ℕ) → Alike R.Term (g.for_tuple a ts I first i) (g.for_tuple b ts J first i)
    unfolding g.for_tuple
    for_tuple first i = following _ _ (intro i) (λ x y j e. step (expect ts true k.Colon j) (own_expect ts true k.Colon j) _ _ (λ u j. following _ _ (h true Whole j) (λ v w j d. following _ _ (filter k.CloseBracket j) (λ c z l f. read (r.for_tuple first l x y e v w d c z f)))))

    for_value : (first : ℕ) (x : s.Intro) (y : t.Intro) (v : s.Expr) (w : t.Expr) (i : ℕ) → R.Intro x y → R.Expr v w → Alike R.Term (g.for_value a ts I first x v i) (g.for_value b ts J first y w i)
    unfolding g.for_value
    for_value first x y v w i e d = step (expect ts true k.FatArrow i) (own_expect ts true k.FatArrow i) _ _ (λ u j. following _ _ (h true Whole j) (λ n o j c. following _ _ (filter k.CloseBrace _) (λ q z l f. read (r.for_object first l x y e v w d n o c _ q z f))))

    for_object : (first i : ℕ) → Alike R.Term (g.for_object a ts I first i) (g.for_object b ts J first i)
    unfolding g.for_object
    for_object first i = following _ _ (intro i) (λ x y j e. step (expect ts true k.Colon j) (own_expect ts true k.Colon j) _ _ (λ u j. following _ _ (h true Whole j) (λ v w j d. for_value first x y v w j e d)))

  module _ (depth : ℕ) (I : g.Deeper s) (J : g.Deeper t) (h : Deeper I J) where
    tuple_or_for : (first i : ℕ) → Alike R.Term (g.tuple_or_for a ts depth I first i) (g.tuple_or_for b ts depth J first i)
    unfolding g.tuple_or_for
    tuple_or_for first i = step (enter depth first i) (own_enter depth first i) _ _ (λ u j. branch (next_is_word ts true for_word j) j _ _ _ _ (for_tuple I.expr J.expr h.expr first j) (tuple I.expr J.expr h.expr first j))

    object_or_for : (first i : ℕ) → Alike R.Term (g.object_or_for a ts depth I first i) (g.object_or_for b ts depth J first i)
    unfolding g.object_or_for
    object_or_for first i = step (enter depth first i) (own_enter depth first i) _ _ (λ u j. branch (next_is_word ts true for_word j) j _ _ _ _ (for_object I.expr J.expr h.expr first j) (object I.expr J.expr h.expr first j))

    enclosed : (close : Kind) (first i : ℕ) → Alike R.Expr (g.enclosed a ts depth I close first i) (g.enclosed b ts depth J close first i)
    unfolding g.enclosed
    enclosed close first i = step (enter depth first i) (own_enter depth first i) _ _ (λ u j. following _ _ (h.expr true Whole j) (λ x y l e. step (expect ts true close l) (own_expect ts true close l) _ _ (λ u o. read e)))

    parens : (first i : ℕ) → Alike R.Term (g.parens a ts depth I first i) (g.parens b ts depth J first i)
    unfolding g.parens
    parens first i = following _ _ (enclosed k.CloseParen first i) (λ x y l e. read (r.parens first l x y e))

    template : (m : Bool) (i : ℕ) → Alike R.Template (g.template a ts depth I m i) (g.template b ts depth J m i)
    unfolding g.template
    template m i = following _ _ (h.parts m i) (λ x y l e. read (r.template _ l x y e))

    quoted : (m : Bool) (first i : ℕ) → Alike R.Term (g.quoted a ts depth I m first i) (g.quoted b ts depth J m first i)
    unfolding g.quoted
    quoted m first i = step (enter depth first i) (own_enter depth first i) _ _ (λ u j. following _ _ (template m j) (λ x y l e. step (expect ts m k.QuoteClose l) (own_expect ts m k.QuoteClose l) _ _ (λ u o. read (r.quoted first o x y e))))

    heredoc : (m : Bool) (first i : ℕ) → Alike R.Term (g.heredoc a ts depth I m first i) (g.heredoc b ts depth J m first i)
    unfolding g.heredoc
    heredoc m first i = step (enter depth first i) (own_enter depth first i) _ _ (λ u j. following _ _ (template m j) (λ x y l e. step (expect ts m k.HereClose l) (own_expect ts m k.HereClose l) _ _ (λ u o. read (r.heredoc first o x y e))))

    call : (m : Bool) (first i : ℕ) → Alike R.Term (g.call a ts depth I m first i) (g.call b ts depth J m first i)
    unfolding g.call
    call m first i = following _ _ (names m (length ts) _ _ i (r.first_name first)) (λ n o j d. step (expect ts m k.OpenParen j) (own_expect ts m k.OpenParen j) _ _ (λ u l. step (enter depth _ l) (own_enter depth _ l) _ _ (λ u q. following _ _ (arguments I.expr J.expr h.expr (length ts) _ _ q r.no_exprs) (λ x y z e. read (call_is n o d x y e z)))))
      where
        call_is : (n : s.Names) (o : t.Names) → R.Names n o → (x : s.Exprs × Bool) (y : t.Exprs × Bool) → R.Exprs x.0 y.0 × (x.1 ≡ y.1) → (z : ℕ) → R.Term (a.call first z n x.0 x.1) (b.call first z o y.0 y.1)
        call_is n o d x y e z = rw e.1 (r.call first z n o d x.0 y.0 e.0 y.1)

    identifier_or_call : (m : Bool) (first i : ℕ) → Alike R.Term (g.identifier_or_call a ts depth I m first i) (g.identifier_or_call b ts depth J m first i)
    unfolding g.identifier_or_call
    identifier_or_call m first i = branch (next_is ts m k.OpenParen i || next_is ts m k.DoubleColon i) i _ _ _ _ (call m first i) (read (r.identifier first i))

    term : (m : Bool) (first : ℕ) (kind : Kind) (i : ℕ) → Alike R.Term (g.term_by a ts depth I m first kind i) (g.term_by b ts depth J m first kind i)
    term m first k.Number i = read (r.number first i)
    term m first k.Identifier i = identifier_or_call m first i
    term m first k.OpenBracket i = tuple_or_for first i
    term m first k.OpenBrace i = object_or_for first i
    term m first k.OpenParen i = parens first i
    term m first k.QuoteOpen i = quoted m first i
    term m first k.HereOpen i = heredoc m first i
    term m first _ i = fault (is_syntax first)

    dot_tail : (m : Bool) (i : ℕ) → Alike R.Tail (g.dot_tail a ts depth I m i) (g.dot_tail b ts depth J m i)
    unfolding g.dot_tail
    dot_tail m i = branch (next_is ts m k.Star i) (after_if_next ts m k.Star i) _ _ _ _ (read r.attribute_splat) (step (expect ts m k.Identifier _) (own_expect ts m k.Identifier _) _ _ (λ u j. read (r.name_tail _)))

    bracket_tail : (first i : ℕ) → Alike R.Tail (g.bracket_tail a ts depth I first i) (g.bracket_tail b ts depth J first i)
    unfolding g.bracket_tail
    bracket_tail first i = step (enter depth first i) (own_enter depth first i) _ _ (λ u j. branch (next_is ts true k.Star j) (after_if_next ts true k.Star j) _ _ _ _ (step (expect ts true k.CloseBracket _) (own_expect ts true k.CloseBracket _) _ _ (λ u l. read r.full_splat)) (following _ _ (h.expr true Whole _) (λ x y l e. step (expect ts true k.CloseBracket l) (own_expect ts true k.CloseBracket l) _ _ (λ u o. read (r.index x y e)))))

    tail_by : (m : Bool) (o : Option Kind) (i : ℕ) → Alike (InSome R.Tail) (g.tail_by a ts depth I m (next_index ts m i) o i) (g.tail_by b ts depth J m (next_index ts m i) o i)
    tail_by m (Some k.Dot) i = following _ _ (dot_tail m _) (λ x y j e. read e)
    tail_by m (Some k.DotIndex) i = read (r.legacy_index _)
    tail_by m (Some k.OpenBracket) i = following _ _ (bracket_tail _ _) (λ x y j e. read e)
    tail_by m (Some _) i = read tt
    tail_by m None i = read tt

    tails : (m : Bool) (n : ℕ) (x : s.Tails) (y : t.Tails) (i : ℕ) → R.Tails x y → Alike R.Tails (g.tails_from a ts depth I m n x i) (g.tails_from b ts depth J m n y i)
    unfolding g.tails_from g.tail_of
    tails m zero x y i e = read e
    tails m (suc n) x y i e = following _ _ (tail_by m (next_kind ts m i) i) (λ v w j d. each R.Tail (g.tails_step a ts depth I (g.tails_from a ts depth I m n) x) (g.tails_step b ts depth J (g.tails_from b ts depth J m n) y) j (read e) (λ v w d. tails m n _ _ j (r.add_tail x y e v w d)) v w d)

    post : (m : Bool) (first : ℕ) (kind : Kind) (i : ℕ) → Alike R.Expr (g.post_by a ts depth I m first kind i) (g.post_by b ts depth J m first kind i)
    unfolding g.post_by g.with_tails
    post m first kind i = following _ _ (term m first kind i) (λ x y j e. following _ _ (tails m (length ts) _ _ j r.no_tails) (λ v w l d. read (r.postfix first l x y e v w d)))

    unary : (m : Bool) (i : ℕ) → Alike R.Expr (g.unary a ts depth I m i) (g.unary b ts depth J m i)
    unfolding g.unary
    unary m i = by (next_kind ts m i)
      where
        prefixed : (kind : Kind) (o : Option UnaryOperator) → Alike R.Expr (g.prefixed a ts depth I m (next_index ts m i) kind o (after_next ts m i)) (g.prefixed b ts depth J m (next_index ts m i) kind o (after_next ts m i))
        prefixed kind None = post m _ kind _
        prefixed kind (Some op) = step (enter depth _ _) (own_enter depth _ _) _ _ (λ u j. following _ _ (h.expr m Operand j) (λ x y l e. read (r.unary _ l op x y e)))

        by : (o : Option Kind) → Alike R.Expr (g.unary_by a ts depth I m (next_index ts m i) o i) (g.unary_by b ts depth J m (next_index ts m i) o i)
        by None = fault (is_syntax _)
        by (Some kind) = prefixed kind (unary_operator kind)

    operations : (m : Bool) (n : ℕ) (x : s.Operations) (y : t.Operations) (i : ℕ) → R.Operations x y → Alike R.Operations (g.operations_from a ts depth I m n x i) (g.operations_from b ts depth J m n y i)
    unfolding g.operations_from
    operations m zero x y i e = read e
    operations m (suc n) x y i e = step (steps.eat_operator ts m i) (own_eat_operator ts m i) _ _ (λ o j. by (λ op v w l d. operations m n _ _ l (r.add_operation x y e op v w d)) o j)
      where
        by : ((op : BinaryOperator) (v : s.Expr) (w : t.Expr) (l : ℕ) → R.Expr v w → Alike R.Operations (g.operations_from a ts depth I m n (a.add_operation x op v) l) (g.operations_from b ts depth J m n (b.add_operation y op w) l)) → (o : Option BinaryOperator) (j : ℕ) → Alike R.Operations (g.operations_step a ts depth I m (g.operations_from a ts depth I m n) x o j) (g.operations_step b ts depth J m (g.operations_from b ts depth J m n) y o j)
        by again None j = read e
        by again (Some op) j = following _ _ (unary m j) (λ v w l d. again op v w l d)

    chain : (m : Bool) (x : s.Expr) (y : t.Expr) (i : ℕ) → R.Expr x y → Alike R.Expr (g.chain a ts depth I m x i) (g.chain b ts depth J m y i)
    unfolding g.chain
    chain m x y i e = following _ _ (operations m (length ts) _ _ i r.no_operations) (λ v w j d. read (r.chain x y e v w d))

    conditional : (m : Bool) (first : ℕ) (c : s.Expr) (d : t.Expr) (i : ℕ) → R.Expr c d → Alike R.Expr (g.conditional a ts depth I m first c i) (g.conditional b ts depth J m first d i)
    unfolding g.conditional
    conditional m first c d i e = branch (next_is ts m k.Question i) (after_if_next ts m k.Question i) _ _ _ _ (step (enter depth _ _) (own_enter depth _ _) _ _ (λ u j. following _ _ (h.expr m Whole j) (λ x y l f. step (expect ts m k.Colon l) (own_expect ts m k.Colon l) _ _ (λ u o. following _ _ (h.expr m Whole o) (λ v w z q. read (r.conditional first z c d e x y f v w q)))))) (read e)

    whole : (m : Bool) (i : ℕ) → Alike R.Expr (g.whole a ts depth I m i) (g.whole b ts depth J m i)
    unfolding g.whole
    whole m i = following _ _ (unary m i) (λ x y j e. following _ _ (chain m x y j e) (λ v w l d. conditional m _ v w l d))

    interpolation : (first i : ℕ) → Alike R.Part (g.interpolation a ts depth I first i) (g.interpolation b ts depth J first i)
    unfolding g.interpolation
    interpolation first i = following _ _ (enclosed k.SeqClose first i) (λ x y l e. read (r.interpolation x y e))

    else_and_endif : (m : Bool) (i : ℕ) → Alike (InSome R.Template) (g.else_and_endif a ts depth I m i) (g.else_and_endif b ts depth J m i)
    unfolding g.else_and_endif
    else_and_endif m i = branch (next_is_word ts true else_word (after_next ts m i)) i _ _ _ _ (step (keyword_directive ts m else_word i) (own_keyword_directive ts m else_word i) _ _ (λ u j. following _ _ (template m j) (λ x y l e. step (keyword_directive ts m endif_word l) (own_keyword_directive ts m endif_word l) _ _ (λ u o. read e)))) (step (keyword_directive ts m endif_word i) (own_keyword_directive ts m endif_word i) _ _ (λ u j. read tt))

    module _ (B : Bool → Goal → Step s.Expr) (C : Bool → Goal → Step t.Expr) (braces : (m : Bool) (goal : Goal) (i : ℕ) → Alike R.Expr (B m goal i) (C m goal i)) where
      if_directive : (m : Bool) (first i : ℕ) → Alike R.Part (g.if_directive a ts depth I B m first i) (g.if_directive b ts depth J C m first i)
      unfolding g.if_directive
      if_directive m first i = step (enter_two depth first i) (own_enter_two depth first i) _ _ (λ u j. following _ _ (braces true Whole _) (λ c d j e. step (expect ts true k.SeqClose j) (own_expect ts true k.SeqClose j) _ _ (λ u j. following _ _ (template m j) (λ x y l f. following _ _ (else_and_endif m l) (λ v w o q. read (r.if_directive first o c d e x y f v w q))))))

      for_directive : (m : Bool) (first i : ℕ) → Alike R.Part (g.for_directive a ts depth I B m first i) (g.for_directive b ts depth J C m first i)
      unfolding g.for_directive
      for_directive m first i = step (enter_two depth first i) (own_enter_two depth first i) _ _ (λ u j. following _ _ (intro B C braces j) (λ c d j e. step (expect ts true k.SeqClose j) (own_expect ts true k.SeqClose j) _ _ (λ u j. following _ _ (template m j) (λ x y l f. step (keyword_directive ts m endfor_word l) (own_keyword_directive ts m endfor_word l) _ _ (λ u o. read (r.for_directive first o c d e x y f))))))

      directive : (m : Bool) (first i : ℕ) → Alike (InSome R.Part) (g.directive a ts depth I B m first i) (g.directive b ts depth J C m first i)
      unfolding g.directive
      directive m first i = branch (next_is_word ts true if_word (after_next ts m i)) i _ _ _ _ (following _ _ (if_directive m first _) (λ x y j e. read e)) (branch (next_is_word ts true for_word (after_next ts m i)) i _ _ _ _ (following _ _ (for_directive m first _) (λ x y j e. read e)) (read tt))

      part_by : (m : Bool) (first : ℕ) (o : Option Kind) (i : ℕ) → Alike (InSome R.Part) (g.part_by a ts depth I B m first o i) (g.part_by b ts depth J C m first o i)
      part_by m first (Some k.QuoteLit) i = read (r.literal first)
      part_by m first (Some k.HereLit) i = read (r.literal first)
      part_by m first (Some k.InterpOpen) i = following _ _ (interpolation first _) (λ x y j e. read e)
      part_by m first (Some k.DirectiveOpen) i = directive m first i
      part_by m first (Some _) i = read tt
      part_by m first None i = read tt

      parts : (m : Bool) (n : ℕ) (x : s.Parts) (y : t.Parts) (i : ℕ) → R.Parts x y → Alike R.Parts (g.parts_from a ts depth I B m n x i) (g.parts_from b ts depth J C m n y i)
      unfolding g.parts_from g.part_of
      parts m zero x y i e = read e
      parts m (suc n) x y i e = following _ _ (part_by m _ (next_kind ts m i) i) (λ v w j d. each R.Part (g.parts_step a ts depth I B (g.parts_from a ts depth I B m n) x) (g.parts_step b ts depth J C (g.parts_from b ts depth J C m n) y) j (read e) (λ v w d. parts m n _ _ j (r.add_part x y e v w d)) v w d)

      at_depth : Deeper (g.at_depth a ts depth I B) (g.at_depth b ts depth J C)
      at_depth = record { expr = λ m goal i. by m goal i; parts = λ m i. parts m (length ts) _ _ i r.no_parts }
        where
          by : (m : Bool) (goal : Goal) (i : ℕ) → Alike R.Expr (g.goal a ts depth I m goal i) (g.goal b ts depth J m goal i)
          by m Whole i = whole m i
          by m Operand i = unary m i

  too_deep : Deeper (g.too_deep a ts) (g.too_deep b ts)
  too_deep = record { expr = λ m goal i. fault (is_deep i); parts = λ m i. fault (is_deep i) }

  under : (depth : ℕ) → Deeper (g.under a ts depth) (g.under b ts depth)
  unfolding g.under
  under zero = at_depth zero _ _ too_deep _ _ too_deep.expr
  under (suc zero) = at_depth (suc zero) _ _ (under zero) _ _ too_deep.expr
  under (suc (suc depth)) = at_depth (suc (suc depth)) _ _ (under (suc depth)) _ _ ((under depth).expr)

  pub expr : (depth : ℕ) (m : Bool) (goal : Goal) (i : ℕ) → Alike R.Expr ((g.under a ts depth).expr m goal i) ((g.under b ts depth).expr m goal i)
  expr depth m goal i = (under depth).expr m goal i

  -- ---- bodies

  quoted_label : (first i : ℕ) → Alike R.Label (bodies.quoted_label a ts first i) (bodies.quoted_label b ts first i)
  unfolding bodies.quoted_label
  quoted_label first i = step (expect ts false k.QuoteClose _) (own_expect ts false k.QuoteClose _) _ _ (λ u j. read (r.label first j _))

  label_by : (first : ℕ) (o : Option Kind) (i : ℕ) → Alike (InSome R.Label) (bodies.label_by a ts first o i) (bodies.label_by b ts first o i)
  label_by first (Some k.Identifier) i = read (r.label first _ _)
  label_by first (Some k.QuoteOpen) i = following _ _ (quoted_label first _) (λ x y j e. read e)
  label_by first (Some _) i = read tt
  label_by first None i = read tt

  labels : (n : ℕ) (x : s.Labels) (y : t.Labels) (i : ℕ) → R.Labels x y → Alike R.Labels (bodies.labels_from a ts n x i) (bodies.labels_from b ts n y i)
  unfolding bodies.labels_from bodies.label_of
  labels zero x y i e = read e
  labels (suc n) x y i e = following _ _ (label_by _ (next_kind ts false i) i) (λ v w j d. each R.Label (bodies.labels_step a ts (bodies.labels_from a ts n) x) (bodies.labels_step b ts (bodies.labels_from b ts n) y) j (read e) (λ v w d. labels n _ _ j (r.add_label x y e v w d)) v w d)

  one_line_body : (depth i : ℕ) → Alike R.Content (bodies.one_line_body a ts depth i) (bodies.one_line_body b ts depth i)
  unfolding bodies.one_line_body
  one_line_body depth i = branch (next_is ts false k.Identifier i) (after_if_next ts false k.Identifier i) _ _ _ _ (step (expect ts false k.Equal _) (own_expect ts false k.Equal _) _ _ (λ u j. following _ _ (expr depth false Whole j) (λ x y l e. read (r.one_line _ _ (r.attribute _ l x y e))))) (read (r.one_line None None tt))

  module _ (depth : ℕ) (I : Step s.Members) (J : Step t.Members) (h : (i : ℕ) → Alike R.Members (I i) (J i)) where
    attribute_by : (first i : ℕ) → Alike R.Member (bodies.attribute_by a ts depth I first i) (bodies.attribute_by b ts depth J first i)
    unfolding bodies.attribute_by
    attribute_by first i = following _ _ (expr depth false Whole i) (λ x y j e. step (eol ts j) (own_eol ts j) _ _ (λ u l. read (r.attribute_member _ _ (r.attribute first l x y e))))

    nested_body : (i : ℕ) → Alike R.Content (bodies.nested_body a ts depth I i) (bodies.nested_body b ts depth J i)
    unfolding bodies.nested_body
    nested_body i = following _ _ (h i) (λ x y j e. read (r.block_body _ _ (r.body _ j x y e)))

    block_content : (i : ℕ) → Alike R.Content (bodies.block_content a ts depth I i) (bodies.block_content b ts depth J i)
    unfolding bodies.block_content
    block_content i = step (eat_inner_newline ts i) (own_eat_inner_newline ts i) _ _ (λ is_line j. branch is_line j _ _ _ _ (nested_body j) (one_line_body (saturating_pred depth) j))

    block_by : (first i : ℕ) → Alike R.Member (bodies.block_by a ts depth I first i) (bodies.block_by b ts depth J first i)
    unfolding bodies.block_by
    block_by first i = following _ _ (labels (length ts) _ _ i r.no_labels) (λ x y j e. step (expect ts false k.OpenBrace j) (own_expect ts false k.OpenBrace j) _ _ (λ u l. step (enter depth _ l) (own_enter depth _ l) _ _ (λ u o. following _ _ (block_content o) (λ v w q d. step (expect ts false k.CloseBrace q) (own_expect ts false k.CloseBrace q) _ _ (λ u q. step (eol ts q) (own_eol ts q) _ _ (λ u q. read (r.block first q x y e v w d)))))))

    attribute_or_block : (first i : ℕ) → Alike R.Member (bodies.attribute_or_block a ts depth I first i) (bodies.attribute_or_block b ts depth J first i)
    unfolding bodies.attribute_or_block
    attribute_or_block first i = branch (next_is ts false k.Equal i) (after_if_next ts false k.Equal i) _ _ _ _ (attribute_by first _) (block_by first _)

    member_of : (i : ℕ) → Alike (InSome R.Member) (bodies.member_of a ts depth I i) (bodies.member_of b ts depth J i)
    unfolding bodies.member_of
    member_of i = branch (next_is ts false k.Identifier i) (after_if_next ts false k.Identifier i) _ _ _ _ (following _ _ (attribute_or_block _ _) (λ x y j e. read e)) (read tt)

    members_from : (n : ℕ) (x : s.Members) (y : t.Members) (i : ℕ) → R.Members x y → Alike R.Members (bodies.members_from a ts depth I n x i) (bodies.members_from b ts depth J n y i)
    unfolding bodies.members_from
    members_from zero x y i e = read e
    members_from (suc n) x y i e = step (eat_newline ts i) (own_eat_newline ts i) _ _ (λ is_line j. branch is_line j _ _ _ _ (members_from n x y j e) (following _ _ (member_of j) (λ v w j d. each R.Member (bodies.members_step a ts depth I (bodies.members_from a ts depth I n) x) (bodies.members_step b ts depth J (bodies.members_from b ts depth J n) y) j (read e) (λ v w d. members_from n _ _ j (r.add_member x y e v w d)) v w d)))

  members : (depth i : ℕ) → Alike R.Members (bodies.members a ts depth i) (bodies.members b ts depth i)
  unfolding bodies.members
  members zero i = members_from zero _ _ (λ i. fault (is_deep i)) (length ts) _ _ i r.no_members
  members (suc depth) i = members_from (suc depth) _ _ (λ i. members depth i) (length ts) _ _ i r.no_members

  pub member : (depth i : ℕ) → Alike (InSome R.Member) (bodies.member_of a ts depth (bodies.deeper_members a ts depth) i) (bodies.member_of b ts depth (bodies.deeper_members b ts depth) i)
  member zero i = member_of zero _ _ (λ i. fault (is_deep i)) i
  member (suc depth) i = member_of (suc depth) _ _ (λ i. members depth i) i

  pub file : (depth i : ℕ) → Alike R.Tree (bodies.file a ts depth i) (bodies.file b ts depth i)
  unfolding bodies.file
  file depth i = following _ _ (members depth _) (λ x y j e. step (expect_end ts _ _) (own_expect_end ts _ _) _ _ (λ u l. read (r.tree (length ts) _ _ (r.body _ j x y e))))
