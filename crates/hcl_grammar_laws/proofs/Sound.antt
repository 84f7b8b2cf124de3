-- What the parser answers is derived.
use Rattle.std.proofs.Common.{◌≡◌, ℕ, zero, suc, ◌||◌, Bool, true, false, if◌then◌else◌, List, [], ◌∷◌, ◌++◌, length, Option, Some, None, Ok, refl, sym, subst, append_assoc, append-nil}
use Rattle.hcl_token.specs.declared.kind.Kind.{Kind}
use Rattle.hcl_token.specs.declared.kind.Kind.TheVariants as k
use Rattle.hcl_grammar.specs.declared.goal.Goal.TheVariants.{Whole, Operand}
use Rattle.hcl_grammar.specs.declared.tree.Elem.{Elem}
use Rattle.hcl_grammar.specs.declared.tree.Expr.{Expr}
use Rattle.hcl_grammar.specs.declared.tree.Intro.{Intro}
use Rattle.hcl_grammar.specs.declared.tree.Operation.{Operation}
use Rattle.hcl_grammar.specs.declared.tree.BinaryOperator.{BinaryOperator}
use Rattle.hcl_grammar.specs.declared.tree.Part.{Part}
use Rattle.hcl_grammar.specs.declared.tree.Part.TheVariants as part
use Rattle.hcl_grammar.specs.declared.tree.UnaryOperator.{UnaryOperator}
use Rattle.hcl_grammar.specs.declared.tree.Primary.TheVariants as shape
use Rattle.hcl_grammar.specs.declared.tree.Tail.{Tail}
use Rattle.hcl_grammar.specs.declared.tree.Template.{Template}
use Rattle.hcl_grammar.specs.declared.tree.Term.{Term}
use Rattle.hcl_grammar.specs.Grammar.{IsExpr, plain, conditional, IsLevel, IsUnary, with_operator, post, IsTails, no_tails, tails, IsTail, by_name, legacy, attribute_splat, full_splat, index, IsTerm, number, identifier, call, tuple, object, for_tuple, for_object, quoted, heredoc, parens, IsArguments, no_arguments, last_argument, spread_argument, argument, IsItems, no_items, last_item, item, IsElems, no_elems, last_elem, elems, IsElem, by_equals, by_colon, IsIntro, intro, IsFilter, no_filter, filter, IsParts, no_parts, parts, IsPart, quote_text, here_text, interp, if_directive, for_directive, IsElse, no_else, has_else}
use Rattle.hcl_grammar.specs.Lookahead.{NextIs, NextIsWord, IsNewline, line_end, comment, IsNewlines, no_lines, line, IsSep, comma, lines, IsNameTail, no_names, name, IsSecondName, no_second, second, no_ellipsis, ellipsis, IsKeyword, keyword}
use Rattle.hcl_grammar.specs.Nodes as node
use Rattle.hcl_grammar.specs.Operators.{unary_operator, binary_operator, levels}
use Rattle.hcl_grammar.specs.Pure.NodeMakers.{nodes}
use Rattle.hcl_grammar.specs.Pure.Parser as p
use Rattle.hcl_grammar.specs.Pure.Parser.{deeper, twice}
use Rattle.hcl_grammar.specs.Pure.Reading.{Outcome, Step, and_then, ◌>>=◌, ◌>>◌, next_is, pure, expect}
use Rattle.hcl_grammar.specs.Pure.Steps as steps
use Rattle.hcl_grammar.specs.Tokens.{Token, next_index, next_kind, after_next, first_token_in, for_word, in_word, if_word, else_word, endif_word, endfor_word}
use Rattle.hcl_grammar_laws.proofs.Chains.{Operators, no_more as no_operators, one_more as one_operator, its_level, grouped}
use Rattle.hcl_grammar_laws.proofs.Gives.{Gives, read, fault, implies, next, Eats, taken, untaken, then_taken, Finds, found, unfound, then_found, Extends, extended, then_extended, whole_list, no_more, one_more, branch, eat_then, eat_or, expect_then, word_or, word_then, sees-true, expected, unseen}
use Rattle.hcl_grammar_laws.proofs.Placed.{placed_unary}

module _ (ts : List Token) where
  -- with constructs nested no deeper than the number
  pub record Sound (a : ℕ) : Type 0 where
    pub whole : (m : Bool) (i : ℕ) → Gives (λ e j. IsExpr ts a m e i j) ((p.under nodes ts a).expr m Whole i)
    pub operand : (m : Bool) (i : ℕ) → Gives (λ e j. IsUnary ts a m e i j) ((p.under nodes ts a).expr m Operand i)
    pub inside : (m : Bool) (i : ℕ) → Gives (λ ps j. IsParts ts a m ps i j) ((p.under nodes ts a).parts m i)

  -- ---- line ends

  abbrev pub Line : ℕ → ℕ → Type 0
  Line i j = IsNewline ts i j

  -- an answer by whether the line ends at this place
  abbrev ended : ℕ → ℕ → Bool → Outcome Bool
  ended i n b = Ok (b, if b then after_next ts false n else i)

  pub s_line : (i : ℕ) → Gives (Eats (Line i) i) (steps.eat_newline ts i)
  unfolding steps.eat_newline
  s_line i = eat_then ts false k.LineComment i (λ _ n. ended i n (next_is ts false k.LineEnd n)) (λ q. ending (after_next ts false i) (comment q)) (λ _. ending i line_end)
    where
      by : (n : ℕ) → (NextIs ts false k.LineEnd n → Line i (after_next ts false n)) → (b : Bool) → next_is ts false k.LineEnd n ≡ b → Gives (Eats (Line i) i) (ended i n b)
      by n h true e = read (taken (h (sees-true ts false k.LineEnd n e)))
      by n h false e = read untaken

      ending : (n : ℕ) → (NextIs ts false k.LineEnd n → Line i (after_next ts false n)) → Gives (Eats (Line i) i) (ended i n (next_is ts false k.LineEnd n))
      ending n h = by n h (next_is ts false k.LineEnd n) refl

  pub s_inner_line : (i : ℕ) → Gives (Eats (Line i) i) (steps.eat_inner_newline ts i)
  unfolding steps.eat_inner_newline
  s_inner_line i =
      eat_or ts false k.LineComment i _ _ (λ q. expect_then ts false k.LineEnd _ _ (λ r. read (taken (comment q r))))
      (λ _. eat_then ts false k.LineEnd i pure (λ r. read (taken (line_end r))) (λ _. read untaken))

  s_lines : (n i : ℕ) → Gives (λ _ j. IsNewlines ts i j) (steps.skip_newlines_from ts n i)
  unfolding steps.skip_newlines_from
  s_lines zero i = read no_lines
  s_lines (suc n) i = then_taken _ (s_inner_line i) (λ j l. implies (s_lines n j) (λ _ _ r. line l r)) (read no_lines)

  -- what is taken before line ends is a separator with them
  abbrev Separates : ℕ → ℕ → Type 0
  Separates i j = (l : ℕ) → IsNewlines ts j l → IsSep ts i l

  s_first_of_sep : (i : ℕ) → Gives (Eats (Separates i) i) (steps.eat_inner_newline ts i)
  s_first_of_sep i = implies (s_inner_line i) by
    where
      by : (b : Bool) (j : ℕ) → Eats (Line i) i b j → Eats (Separates i) i b j
      by b j (taken l) = taken (λ n r. lines l r)
      by b j untaken = untaken

  s_sep : (i : ℕ) → Gives (Eats (λ j. IsSep ts i j) i) (steps.eat_separator ts i)
  unfolding steps.eat_separator
  s_sep i =
      then_taken {T = Separates i} _ (eat_or ts false k.Comma i _ _ (λ q. read (taken (λ l r. comma q r))) (λ _. s_first_of_sep i))
      (λ j t. next _ (s_lines (length ts) j) (λ _ l r. read (taken (t l r)))) (read untaken)

  -- a separator, or the closing brace
  data SepOrBrace (i : ℕ) : Bool → ℕ → Type 0 where
    sep : {j : ℕ} → IsSep ts i j → SepOrBrace i true j
    brace : NextIs ts false k.CloseBrace i → SepOrBrace i false (after_next ts false i)

  s_sep_or_brace : (i : ℕ) → Gives (SepOrBrace i) (steps.eat_separator_or_brace ts i)
  unfolding steps.eat_separator_or_brace
  s_sep_or_brace i = then_taken _ (s_sep i) (λ j t. read (sep t)) (expect_then ts false k.CloseBrace i _ (λ c. read (brace c)))

  -- ---- items and arguments

  s_items : (a : ℕ) → Sound a → (turns : ℕ) (acc : List Expr) (i : ℕ) → Gives (Extends (λ es j. IsItems ts a es i j) acc) (p.tuple_items_from nodes ts (p.under nodes ts a).expr turns acc i)
  unfolding p.tuple_items_from
  s_items a z zero acc i = fault
  s_items a z (suc turns) acc i =
      eat_or ts true k.CloseBracket i _ _ (λ q. read (no_more acc (no_items q)))
      (λ _. next _ (z.whole true i) (λ e j x. eat_or ts true k.Comma j _ _ (λ q. one_more acc e (λ _ _ r. item x q r) (s_items a z turns (acc ++ e ∷ []) (after_next ts true j)))
      (λ _. expect_then ts true k.CloseBracket j _ (λ c. read (extended (last_item x c))))))

  -- arguments, added to a list, and whether `...` follows them
  data Arguments (a i : ℕ) (acc : List Expr) : List Expr × Bool → ℕ → Type 0 where
    arguments : {es : List Expr} {b : Bool} {j : ℕ} → IsArguments ts a es b i j → Arguments a i acc (acc ++ es, b) j

  s_arguments : (a : ℕ) → Sound a → (turns : ℕ) (acc : List Expr) (i : ℕ) → Gives (Arguments a i acc) (p.arguments_from nodes ts (p.under nodes ts a).expr turns acc i)
  unfolding p.arguments_from
  s_arguments a z zero acc i = fault
  s_arguments a z (suc turns) acc i =
      eat_or ts true k.CloseParen i _ _ (λ q. read (subst (λ es. Arguments a i acc (es, false) (after_next ts true i)) (append-nil acc) (arguments (no_arguments q))))
      (λ _. next _ (z.whole true i) (λ e j x. eat_or ts true k.Comma j _ _ (λ q. implies (s_arguments a z turns (acc ++ e ∷ []) (after_next ts true j)) (more e j x q))
      (λ _. eat_then ts true k.Ellipsis j (λ b. expect ts true k.CloseParen >> pure (acc ++ e ∷ [], b)) (λ s. expect_then ts true k.CloseParen _ _ (λ c. read (arguments (spread_argument x s c))))
      (λ _. expect_then ts true k.CloseParen j _ (λ c. read (arguments (last_argument x c)))))))
    where
      more : (e : Expr) (j : ℕ) → IsExpr ts a true e i j → NextIs ts true k.Comma j → (es : List Expr × Bool) (l : ℕ) → Arguments a (after_next ts true j) (acc ++ e ∷ []) es l → Arguments a i acc es l
      more e j x q _ l (arguments {es} {b} r) = subst (λ es. Arguments a i acc (es, b) l) (sym (append_assoc acc (e ∷ []) es)) (arguments (argument x q r))

  -- ---- elements

  data Added (a : ℕ) (acc : List Elem) (i : ℕ) : List Elem → ℕ → Type 0 where
    added : {x : Elem} {j : ℕ} → IsElem ts a x i j → Added a acc i (acc ++ x ∷ []) j

  -- what is between a key and its value
  abbrev Binds : ℕ → ℕ → ℕ → ℕ → Type 0
  Binds a i j l = (key value : Expr) (n : ℕ) → IsExpr ts a false key i j → IsExpr ts a false value l n → IsElem ts a (node.elem key value) i n

  s_equals : (a i j : ℕ) → Gives (λ _ l. Binds a i j l) (steps.equals_or_colon ts j)
  unfolding steps.equals_or_colon
  s_equals a i j = eat_or ts false k.Equal j _ _ (λ q. read (λ key value n x y. by_equals x q y)) (λ _. expected ts false k.Colon j (λ q key value n x y. by_colon x q y))

  s_elem : (a : ℕ) → Sound a → (acc : List Elem) (i : ℕ) → Gives (Added a acc i) (p.elem nodes ts (p.under nodes ts a).expr acc i)
  unfolding p.elem
  s_elem a z acc i = next _ (z.whole false i) (λ key j x. next _ (s_equals a i j) (λ _ l t. next _ (z.whole false l) (λ value n y. read (added (t key value n x y)))))

  s_elems : (a : ℕ) → Sound a → (turns : ℕ) (acc : List Elem) (i : ℕ) → Gives (Extends (λ xs j. IsElems ts a xs i j) acc) (p.elems_from nodes ts (p.under nodes ts a).expr turns acc i)
  unfolding p.elems_from
  s_elems a z zero acc i = fault
  s_elems a z (suc turns) acc i = eat_or ts false k.CloseBrace i _ _ (λ q. read (no_more acc (no_elems q))) (λ _. next _ (s_elem a z acc i) (λ xs j x. next _ (s_sep_or_brace j) (λ b l s. by (s_elems a z turns) xs j x b l s)))
    where
      by : ((acc : List Elem) (l : ℕ) → Gives (Extends (λ xs j. IsElems ts a xs l j) acc) (p.elems_from nodes ts (p.under nodes ts a).expr turns acc l)) → (xs : List Elem) (j : ℕ) → Added a acc i xs j → (b : Bool) (l : ℕ) → SepOrBrace j b l
          → Gives (Extends (λ xs j. IsElems ts a xs i j) acc) ((if b then p.elems_from nodes ts (p.under nodes ts a).expr turns xs else pure xs) l)
      by again xs j (added {x = e} x) b l (sep s) = one_more acc e (λ _ _ r. elems x s r) (again (acc ++ e ∷ []) l)
      by again xs j (added x) b l (brace c) = read (extended (last_elem x c))

  -- ---- `for`

  s_second : (i : ℕ) → Gives (λ o j. IsSecondName ts o i j) (steps.second_name ts i)
  unfolding steps.second_name
  s_second i = eat_or ts true k.Comma i _ _ (λ q. expect_then ts true k.Identifier _ _ (λ n. read (second q n))) (λ _. read no_second)

  s_intro : (a : ℕ) → Sound a → (i : ℕ) → Gives (λ x j. IsIntro ts a x i j) (p.intro nodes ts (p.under nodes ts a).expr i)
  unfolding p.intro
  s_intro a z i =
      word_then ts true for_word i _ (λ w. expect_then ts true k.Identifier _ _ (λ n. next _ (s_second _) (λ o j s. word_then ts true in_word j _ (λ v. next _ (z.whole true _) (λ e l x. read (intro w n s v x))))))

  s_filter : (a : ℕ) → Sound a → (close : Kind) (i : ℕ) → Gives (λ o j. IsFilter ts a close o i j) (p.filter nodes ts (p.under nodes ts a).expr close i)
  unfolding p.filter
  s_filter a z close i =
      word_or ts true if_word i i _ _ (λ w. next _ (z.whole true _) (λ e j x. expect_then ts true close j _ (λ c. read (filter w x c)))) (λ _. expect_then ts true close i _ (λ c. read (no_filter c)))

  -- ---- terms, after their first token

  abbrev Below : ℕ → Type 0
  Below zero = Unit {0}
  Below (suc a) = Sound a

  abbrev Twice : ℕ → Type 0
  Twice zero = Unit {0}
  Twice (suc zero) = Unit {0}
  Twice (suc (suc a)) = Sound a

  abbrev GivesTerm : ℕ → Bool → ℕ → Outcome Term → Type 0
  GivesTerm b m i = Gives (λ e j. IsTerm ts b m e i j)

  s_for_value : (a : ℕ) → Sound a → (m : Bool) (i : ℕ) → NextIs ts m k.OpenBrace i → (x : Intro) (j : ℕ) → IsIntro ts a x (after_next ts m i) j → NextIs ts true k.Colon j
      → (key : Expr) (n : ℕ) → IsExpr ts a true key (after_next ts true j) n → GivesTerm (suc a) m i (p.for_value nodes ts (p.under nodes ts a).expr (next_index ts m i) x key n)
  unfolding p.for_value
  s_for_value a z m i h x j y c key n e =
      expect_then ts true k.FatArrow n _ (λ t. next _ (z.whole true _) (λ value o v. eat_then ts true k.Ellipsis o (λ grouped. p.filter nodes ts (p.under nodes ts a).expr k.CloseBrace >>= (λ f end. Ok (node.term (next_index ts m i) end (node.for_object x key value grouped f), end)))
      (λ q. next _ (s_filter a z k.CloseBrace _) (λ f l w. read (for_object h y c e t v (ellipsis q) w))) (λ _. next _ (s_filter a z k.CloseBrace _) (λ f l w. read (for_object h y c e t v no_ellipsis w)))))

  s_bracket : (b : ℕ) → Below b → (m : Bool) (i : ℕ) → NextIs ts m k.OpenBracket i → GivesTerm b m i (p.tuple_or_for nodes ts b (deeper nodes ts b) (next_index ts m i) (after_next ts m i))
  unfolding p.tuple_or_for p.for_tuple p.tuple
  s_bracket zero z m i h = fault
  s_bracket (suc a) z m i h =
      word_or ts true for_word _ _ _ _
      (λ _. next _ (s_intro a z _) (λ x j y. expect_then ts true k.Colon j _ (λ c. next _ (z.whole true _) (λ v n e. next _ (s_filter a z k.CloseBracket n) (λ o l f. read (for_tuple h y c e f))))))
      (λ w. then_extended _ (s_items a z (length ts) [] _) (λ es j r. read (tuple h w r)))

  s_brace : (b : ℕ) → Below b → (m : Bool) (i : ℕ) → NextIs ts m k.OpenBrace i → GivesTerm b m i (p.object_or_for nodes ts b (deeper nodes ts b) (next_index ts m i) (after_next ts m i))
  unfolding p.object_or_for p.for_object p.object
  s_brace zero z m i h = fault
  s_brace (suc a) z m i h =
      word_or ts true for_word _ _ _ _
      (λ _. next _ (s_intro a z _) (λ x j y. expect_then ts true k.Colon j _ (λ c. next _ (z.whole true _) (λ key n e. s_for_value a z m i h x j y c key n e))))
      (λ w. next _ (s_lines (length ts) _) (λ _ n l. then_extended _ (s_elems a z (length ts) [] n) (λ xs j r. read (object h w l r))))

  -- an expression and what closes it
  data Enclosed (a : ℕ) (close : Kind) (i : ℕ) : Expr → ℕ → Type 0 where
    enclosed : {e : Expr} {j : ℕ} → IsExpr ts a true e i j → NextIs ts true close j → Enclosed a close i e (after_next ts true j)

  s_enclosed : (a : ℕ) → Sound a → (close : Kind) (first i : ℕ) → Gives (Enclosed a close i) (p.enclosed nodes ts (suc a) (p.under nodes ts a) close first i)
  unfolding p.enclosed
  s_enclosed a z close first i = next _ (z.whole true i) (λ e j x. expect_then ts true close j _ (λ c. read (enclosed x c)))

  s_parens : (b : ℕ) → Below b → (m : Bool) (i : ℕ) → NextIs ts m k.OpenParen i → GivesTerm b m i (p.parens nodes ts b (deeper nodes ts b) (next_index ts m i) (after_next ts m i))
  unfolding p.parens p.enclosed
  s_parens zero z m i h = fault
  s_parens (suc a) z m i h = next _ (s_enclosed a z k.CloseParen (next_index ts m i) _) by
    where
      by : (e : Expr) (j : ℕ) → Enclosed a k.CloseParen (after_next ts m i) e j → GivesTerm (suc a) m i (Ok (node.term (next_index ts m i) j (shape.Parens e), j))
      by e j (enclosed x c) = read (parens h x c)

  -- the parts of a template
  data Inside (a : ℕ) (m : Bool) (i : ℕ) : Template → ℕ → Type 0 where
    inside : {ps : List Part} {j : ℕ} → IsParts ts a m ps i j → Inside a m i (node.template (first_token_in ts m i j) j ps) j

  s_template : (a : ℕ) → Sound a → (b : ℕ) (m : Bool) (i : ℕ) → Gives (Inside a m i) (p.template nodes ts b (p.under nodes ts a) m i)
  unfolding p.template
  s_template a z b m i = next _ (z.inside m i) (λ ps j w. read (inside w))

  then_inside : {a : ℕ} {m : Bool} {i : ℕ} {B : Type 0} {Q : B → ℕ → Type 0} {o : Outcome Template} (f : Template → Step B) → Gives (Inside a m i) o
      → ((ps : List Part) (j : ℕ) → IsParts ts a m ps i j → Gives Q (f (node.template (first_token_in ts m i j) j ps) j)) → Gives Q (and_then o f)
  then_inside f (read (inside {ps} {j} w)) more = more ps j w
  then_inside f fault more = fault

  s_quoted : (b : ℕ) → Below b → (m : Bool) (i : ℕ) → NextIs ts m k.QuoteOpen i → GivesTerm b m i (p.quoted nodes ts b (deeper nodes ts b) m (next_index ts m i) (after_next ts m i))
  unfolding p.quoted
  s_quoted zero z m i h = fault
  s_quoted (suc a) z m i h = then_inside _ (s_template a z (suc a) m _) (λ ps j w. expect_then ts m k.QuoteClose j _ (λ c. read (quoted h w c)))

  s_heredoc : (b : ℕ) → Below b → (m : Bool) (i : ℕ) → NextIs ts m k.HereOpen i → GivesTerm b m i (p.heredoc nodes ts b (deeper nodes ts b) m (next_index ts m i) (after_next ts m i))
  unfolding p.heredoc
  s_heredoc zero z m i h = fault
  s_heredoc (suc a) z m i h = then_inside _ (s_template a z (suc a) m _) (λ ps j w. expect_then ts m k.HereClose j _ (λ c. read (heredoc h w c)))

  s_names : (m : Bool) (turns : ℕ) (acc : List ℕ) (i : ℕ) → Gives (Extends (λ ns j. IsNameTail ts m ns i j) acc) (p.names_from nodes ts m turns acc i)
  unfolding p.names_from
  s_names m zero acc i = read (no_more acc no_names)
  s_names m (suc turns) acc i =
      eat_or ts m k.DoubleColon i _ _ (λ q. expect_then ts m k.Identifier _ _ (λ n. one_more acc _ (λ _ _ r. name q n r) (s_names m turns _ _))) (λ _. read (no_more acc no_names))

  s_call : (b : ℕ) → Below b → (m : Bool) (i : ℕ) → NextIs ts m k.Identifier i → GivesTerm b m i (p.call nodes ts b (deeper nodes ts b) m (next_index ts m i) (after_next ts m i))
  unfolding p.call
  s_call zero z m i h = then_extended _ (s_names m (length ts) (next_index ts m i ∷ []) _) (λ ns j r. expect_then ts m k.OpenParen j _ (λ q. fault))
  s_call (suc a) z m i h = then_extended _ (s_names m (length ts) (next_index ts m i ∷ []) _) (λ ns j r. expect_then ts m k.OpenParen j _ (λ q. next _ (s_arguments a z (length ts) [] _) (λ es l w. by ns j r q es l w)))
    where
      by : (ns : List ℕ) (j : ℕ) → IsNameTail ts m ns (after_next ts m i) j → NextIs ts m k.OpenParen j → (es : List Expr × Bool) (l : ℕ) → Arguments a (after_next ts m j) [] es l
          → GivesTerm (suc a) m i (Ok (node.term (next_index ts m i) l (node.call (next_index ts m i ∷ ns) es.0 es.1), l))
      by ns j r q es l (arguments w) = read (call h r q w)

  s_named : (b : ℕ) → Below b → (m : Bool) (i : ℕ) → NextIs ts m k.Identifier i → GivesTerm b m i (p.identifier_or_call nodes ts b (deeper nodes ts b) m (next_index ts m i) (after_next ts m i))
  unfolding p.identifier_or_call
  s_named b z m i h =
      branch ts (next_is ts m k.OpenParen (after_next ts m i) || next_is ts m k.DoubleColon (after_next ts m i)) _ _ _ (λ _. s_call b z m i h)
      (λ e. read (identifier h (unseen ts m k.OpenParen (after_next ts m i) (left _ _ e)) (unseen ts m k.DoubleColon (after_next ts m i) (right _ _ e))))
    where
      left : (x y : Bool) → (x || y) ≡ false → x ≡ false
      left true y g = g
      left false y g = refl

      right : (x y : Bool) → (x || y) ≡ false → y ≡ false
      right true y g = absurd (let clash : true ≡ false = g in cc)
      right false y g = g

  s_term : (b : ℕ) → Below b → (m : Bool) (i : ℕ) (t : Kind) → NextIs ts m t i → GivesTerm b m i (p.term_by nodes ts b (deeper nodes ts b) m (next_index ts m i) t (after_next ts m i))
  s_term b z m i k.Number h = read (number h)
  s_term b z m i k.Identifier h = s_named b z m i h
  s_term b z m i k.OpenBracket h = s_bracket b z m i h
  s_term b z m i k.OpenBrace h = s_brace b z m i h
  s_term b z m i k.OpenParen h = s_parens b z m i h
  s_term b z m i k.QuoteOpen h = s_quoted b z m i h
  s_term b z m i k.HereOpen h = s_heredoc b z m i h
  s_term b z m i _ h = fault

  -- ---- tails

  abbrev GivesTail : ℕ → Bool → ℕ → Outcome Tail → Type 0
  GivesTail b m i = Gives (λ x j. IsTail ts b m x i j)

  s_dotted : (b : ℕ) (m : Bool) (i : ℕ) → NextIs ts m k.Dot i → GivesTail b m i (p.dot_tail nodes ts b (deeper nodes ts b) m (after_next ts m i))
  unfolding p.dot_tail
  s_dotted b m i h = eat_or ts m k.Star _ _ _ (λ q. read (attribute_splat h q)) (λ _. expect_then ts m k.Identifier _ _ (λ n. read (by_name h n)))

  s_indexed : (b : ℕ) → Below b → (m : Bool) (i : ℕ) → NextIs ts m k.OpenBracket i → GivesTail b m i (p.bracket_tail nodes ts b (deeper nodes ts b) (next_index ts m i) (after_next ts m i))
  unfolding p.bracket_tail
  s_indexed zero z m i h = fault
  s_indexed (suc a) z m i h =
      eat_or ts true k.Star _ _ _ (λ q. expect_then ts true k.CloseBracket _ _ (λ c. read (full_splat h q c)))
      (λ _. next _ (z.whole true _) (λ e j x. expect_then ts true k.CloseBracket j _ (λ c. read (index h x c))))

  s_tail : (b : ℕ) → Below b → (m : Bool) (i : ℕ) (o : Option Kind) → next_kind ts m i ≡ o → Gives (Finds (λ x j. IsTail ts b m x i j) i) (p.tail_by nodes ts b (deeper nodes ts b) m (next_index ts m i) o i)
  s_tail b z m i None h = read unfound
  s_tail b z m i (Some k.Dot) h = next _ (s_dotted b m i h) (λ _ _ x. read (found x))
  s_tail b z m i (Some k.DotIndex) h = read (found (legacy h))
  s_tail b z m i (Some k.OpenBracket) h = next _ (s_indexed b z m i h) (λ _ _ x. read (found x))
  s_tail b z m i (Some _) h = read unfound

  s_tails : (b : ℕ) → Below b → (m : Bool) (turns : ℕ) (acc : List Tail) (i : ℕ) → Gives (Extends (λ xs j. IsTails ts b m xs i j) acc) (p.tails_from nodes ts b (deeper nodes ts b) m turns acc i)
  unfolding p.tails_from p.tail_of
  s_tails b z m zero acc i = read (no_more acc no_tails)
  s_tails b z m (suc turns) acc i =
      then_found _ (s_tail b z m i (next_kind ts m i) refl) (λ x j t. one_more acc x (λ _ _ r. tails t r) (s_tails b z m turns (acc ++ x ∷ []) j)) (read (no_more acc no_tails))

  -- ---- operators

  s_unary : (b : ℕ) → Below b → (m : Bool) (i : ℕ) → Gives (λ e j. IsUnary ts b m e i j) (p.unary nodes ts b (deeper nodes ts b) m i)
  unfolding p.unary p.post_by p.with_tails
  s_unary b z m i = by (next_kind ts m i) refl
    where
      after : (b : ℕ) → Below b → (t : Kind) → NextIs ts m t i → (o : Option UnaryOperator) → unary_operator t ≡ o
          → Gives (λ e j. IsUnary ts b m e i j) (p.prefixed nodes ts b (deeper nodes ts b) m (next_index ts m i) t o (after_next ts m i))
      after b z t h None g = next _ (s_term b z m i t h) (λ x j w. then_extended _ (s_tails b z m (length ts) [] j) (λ xs l r. read (post w r)))
      after zero z t h (Some op) g = fault
      after (suc a) z t h (Some op) g = next _ (z.operand m _) (λ e j x. read (with_operator h g x))

      by : (o : Option Kind) → next_kind ts m i ≡ o → Gives (λ e j. IsUnary ts b m e i j) (p.unary_by nodes ts b (deeper nodes ts b) m (next_index ts m i) o i)
      by None h = fault
      by (Some t) h = after b z t h (unary_operator t) refl

  data IsOperator (m : Bool) (i : ℕ) : BinaryOperator → ℕ → Type 0 where
    operator : {t : Kind} {n : ℕ} {op : BinaryOperator} → NextIs ts m t i → binary_operator t ≡ Some (n, op) → IsOperator m i op (after_next ts m i)

  s_operator : (m : Bool) (i : ℕ) → Gives (Finds (IsOperator m i) i) (steps.eat_operator ts m i)
  unfolding steps.eat_operator
  s_operator m i = go (next_kind ts m i) refl
    where
      by : (t : Kind) → NextIs ts m t i → (o : Option (ℕ × BinaryOperator)) → binary_operator t ≡ o → Gives (Finds (IsOperator m i) i) (steps.take_operator ts m i o)
      by t h None g = read unfound
      by t h (Some q) g = read (found (operator h g))

      go : (o : Option Kind) → next_kind ts m i ≡ o → Gives (Finds (IsOperator m i) i) (steps.operator_by_kind ts m i o)
      go None h = read unfound
      go (Some t) h = by t h (binary_operator t) refl

  s_operators : (b : ℕ) → Below b → (m : Bool) (turns : ℕ) (acc : List Operation) (i : ℕ)
      → Gives (Extends (λ xs j. Operators ts b m levels xs i j) acc) (p.operations_from nodes ts b (deeper nodes ts b) m turns acc i)
  unfolding p.operations_from
  s_operators b z m zero acc i = read (no_more acc no_operators)
  s_operators b z m (suc turns) acc i = then_found _ (s_operator m i) (λ op j o. next _ (s_unary b z m j) (λ x l u. one_more acc _ (add op j o x l u) (s_operators b z m turns _ l))) (read (no_more acc no_operators))
    where
      add : (op : BinaryOperator) (j : ℕ) → IsOperator m i op j → (x : Expr) (l : ℕ) → IsUnary ts b m x j l
          → (xs : List Operation) (n : ℕ) → Operators ts b m levels xs l n → Operators ts b m levels (node.operation op x ∷ xs) i n
      add op j (operator {t} {n} h g) x l u xs _ r = one_operator h g (its_level t (n, op) g).1 (placed_unary u).1 u r

  s_choice : (b : ℕ) → Below b → (m : Bool) (i : ℕ) (c : Expr) (l : ℕ) → IsLevel ts b m levels c i l
      → Gives (λ e j. IsExpr ts b m e i j) (p.conditional nodes ts b (deeper nodes ts b) m (next_index ts m i) c l)
  unfolding p.conditional
  s_choice zero z m i c l w = eat_or ts m k.Question l _ _ (λ q. fault) (λ _. read (plain w))
  s_choice (suc d) z m i c l w =
      eat_or ts m k.Question l _ _ (λ q. next _ (z.whole m _) (λ x j y. expect_then ts m k.Colon j _ (λ s. next _ (z.whole m _) (λ v n u. read (conditional w q y s u))))) (λ _. read (plain w))

  s_whole : (b : ℕ) → Below b → (m : Bool) (i : ℕ) → Gives (λ e j. IsExpr ts b m e i j) (p.whole nodes ts b (deeper nodes ts b) m i)
  unfolding p.whole p.chain
  s_whole b z m i =
      next _ (s_unary b z m i) (λ head j u. next _ (next _ (whole_list (s_operators b z m (length ts) [] j)) (λ xs l r. read (grouped ts b m levels head xs i j l u r))) (λ c l w. s_choice b z m i c l w))

  -- ---- templates

  s_keyword : (m : Bool) (w : List ℕ) (i : ℕ) → Gives (λ _ j. IsKeyword ts m w i j) (steps.keyword_directive ts m w i)
  unfolding steps.keyword_directive
  s_keyword m w i = expect_then ts m k.DirectiveOpen i _ (λ h. word_then ts true w _ _ (λ v. expected ts true k.SeqClose _ (λ c. keyword h v c)))

  s_else : (a : ℕ) → Sound a → (b : ℕ) (m : Bool) (i : ℕ) → Gives (λ o j. IsElse ts a m o i j) (p.else_and_endif nodes ts b (p.under nodes ts a) m i)
  unfolding p.else_and_endif
  s_else a z b m i =
      word_or ts true else_word _ _ _ _ (λ _. next _ (s_keyword m else_word i) (λ _ j s. then_inside _ (s_template a z b m j) (λ ps n w. next _ (s_keyword m endif_word n) (λ _ l e. read (has_else s w e)))))
      (λ _. next _ (s_keyword m endif_word i) (λ _ j e. read (no_else e)))

  abbrev GivesPart : ℕ → Bool → ℕ → Outcome Part → Type 0
  GivesPart b m i = Gives (λ x j. IsPart ts b m x i j)

  s_interp : (b : ℕ) → Below b → (m : Bool) (i : ℕ) → NextIs ts m k.InterpOpen i → GivesPart b m i (p.interpolation nodes ts b (deeper nodes ts b) (next_index ts m i) (after_next ts m i))
  unfolding p.interpolation p.enclosed
  s_interp zero z m i h = fault
  s_interp (suc a) z m i h = next _ (s_enclosed a z k.SeqClose (next_index ts m i) _) by
    where
      by : (e : Expr) (j : ℕ) → Enclosed a k.SeqClose (after_next ts m i) e j → GivesPart (suc a) m i (Ok (part.Interp e, j))
      by e j (enclosed x c) = read (interp h x c)

  s_if : (b : ℕ) → Below b → Twice b → (m : Bool) (i : ℕ) → NextIs ts m k.DirectiveOpen i → NextIsWord ts true if_word (after_next ts m i)
      → GivesPart b m i (p.if_directive nodes ts b (deeper nodes ts b) (twice nodes ts b) m (next_index ts m i) (after_next ts m i))
  unfolding p.if_directive
  s_if zero z y m i h w = fault
  s_if (suc zero) z y m i h w = fault
  s_if (suc (suc a)) z y m i h w =
      next _ (y.whole true _) (λ e j x. expect_then ts true k.SeqClose j _ (λ c. then_inside _ (s_template (suc a) z _ m _) (λ ps n v. next _ (s_else (suc a) z _ m n) (λ o l u. read (if_directive h w x c v u)))))

  s_for : (b : ℕ) → Below b → Twice b → (m : Bool) (i : ℕ) → NextIs ts m k.DirectiveOpen i
      → GivesPart b m i (p.for_directive nodes ts b (deeper nodes ts b) (twice nodes ts b) m (next_index ts m i) (after_next ts m i))
  unfolding p.for_directive
  s_for zero z y m i h = fault
  s_for (suc zero) z y m i h = fault
  s_for (suc (suc a)) z y m i h =
      next _ (s_intro a y _) (λ x j w. expect_then ts true k.SeqClose j _ (λ c. then_inside _ (s_template (suc a) z _ m _) (λ ps n v. next _ (s_keyword m endfor_word n) (λ _ l e. read (for_directive h w c v e)))))

  s_part : (b : ℕ) → Below b → Twice b → (m : Bool) (i : ℕ) (o : Option Kind) → next_kind ts m i ≡ o
      → Gives (Finds (λ x j. IsPart ts b m x i j) i) (p.part_by nodes ts b (deeper nodes ts b) (twice nodes ts b) m (next_index ts m i) o i)
  unfolding p.directive
  s_part b z y m i None h = read unfound
  s_part b z y m i (Some k.QuoteLit) h = read (found (quote_text h))
  s_part b z y m i (Some k.HereLit) h = read (found (here_text h))
  s_part b z y m i (Some k.InterpOpen) h = next _ (s_interp b z m i h) (λ _ _ x. read (found x))
  s_part b z y m i (Some k.DirectiveOpen) h =
      word_or ts true if_word _ _ _ _ (λ w. next _ (s_if b z y m i h w) (λ _ _ x. read (found x)))
      (λ _. word_or ts true for_word _ _ _ _ (λ w. next _ (s_for b z y m i h) (λ _ _ x. read (found x))) (λ _. read unfound))
  s_part b z y m i (Some _) h = read unfound

  s_parts : (b : ℕ) → Below b → Twice b → (m : Bool) (turns : ℕ) (acc : List Part) (i : ℕ)
      → Gives (Extends (λ xs j. IsParts ts b m xs i j) acc) (p.parts_from nodes ts b (deeper nodes ts b) (twice nodes ts b) m turns acc i)
  unfolding p.parts_from p.part_of
  s_parts b z y m zero acc i = read (no_more acc no_parts)
  s_parts b z y m (suc turns) acc i =
      then_found _ (s_part b z y m i (next_kind ts m i) refl) (λ x j t. one_more acc x (λ _ _ r. parts t r) (s_parts b z y m turns (acc ++ x ∷ []) j)) (read (no_more acc no_parts))

  by_depth : (b : ℕ) → Below b → Twice b → Sound b
  unfolding p.under
  by_depth zero z y = record { whole = s_whole zero z; operand = s_unary zero z; inside = λ m i. whole_list (s_parts zero z y m (length ts) [] i) }
  by_depth (suc zero) z y = record { whole = s_whole (suc zero) z; operand = s_unary (suc zero) z; inside = λ m i. whole_list (s_parts (suc zero) z y m (length ts) [] i) }
  by_depth (suc (suc a)) z y = record { whole = s_whole (suc (suc a)) z; operand = s_unary (suc (suc a)) z; inside = λ m i. whole_list (s_parts (suc (suc a)) z y m (length ts) [] i) }

  pub sound : (a : ℕ) → Sound a
  sound zero = by_depth zero tt tt
  sound (suc zero) = by_depth (suc zero) (sound zero) tt
  sound (suc (suc a)) = by_depth (suc (suc a)) (sound (suc a)) (sound a)
