-- The parser answers each derivation.
use Rattle.std.proofs.Common.{◌≡◌, ℕ, zero, suc, ◌+◌, ◌≤◌, ◌||◌, Bool, true, false, List, [], ◌∷◌, ◌++◌, length, Option, Some, None, Ok, Err, refl, ap, subst, ◌∙◌, append_assoc, append-nil, arith}
use Rattle.hcl_token.specs.declared.kind.Kind.{Kind}
use Rattle.hcl_token.specs.declared.kind.Kind.TheVariants as k
use Rattle.hcl_grammar.specs.declared.fault.TokenFault.TheVariants.{Syntax}
use Rattle.hcl_grammar.specs.declared.goal.Goal.{Goal}
use Rattle.hcl_grammar.specs.declared.goal.Goal.TheVariants.{Whole, Operand}
use Rattle.hcl_grammar.specs.declared.tree.Elem.{Elem}
use Rattle.hcl_grammar.specs.declared.tree.Expr.{Expr}
use Rattle.hcl_grammar.specs.declared.tree.ExprKind.TheVariants as form
use Rattle.hcl_grammar.specs.declared.tree.Intro.{Intro}
use Rattle.hcl_grammar.specs.declared.tree.Operation.{Operation}
use Rattle.hcl_grammar.specs.declared.tree.BinaryOperator.{BinaryOperator}
use Rattle.hcl_grammar.specs.declared.tree.Part.{Part}
use Rattle.hcl_grammar.specs.declared.tree.UnaryOperator.{UnaryOperator}
use Rattle.hcl_grammar.specs.declared.tree.Tail.{Tail}
use Rattle.hcl_grammar.specs.declared.tree.Template.{Template}
use Rattle.hcl_grammar.specs.declared.tree.Term.{Term}
use Rattle.hcl_grammar.specs.Grammar.{IsExpr, plain, conditional, IsLevel, lowest, level, IsOperations, no_operations, operation, IsUnary, with_operator, post, IsTails, no_tails, tails, IsTail, by_name, legacy, attribute_splat, full_splat, index, IsTerm, number, identifier, call, tuple, object, for_tuple, for_object, quoted, heredoc, parens, IsArguments, no_arguments, last_argument, spread_argument, argument, IsItems, no_items, last_item, item, IsElems, no_elems, last_elem, elems, IsElem, by_equals, by_colon, IsIntro, intro, IsFilter, no_filter, filter, IsParts, no_parts, parts, IsPart, quote_text, here_text, interp, if_directive, for_directive, IsElse, no_else, has_else}
use Rattle.hcl_grammar.specs.Lookahead.{NextIs, NextIsWord, IsNewline, line_end, comment, IsSep, comma, lines, IsNameTail, no_names, name, IsSecondName, no_second, second, IsEllipsis, no_ellipsis, ellipsis, IsKeyword, keyword}
use Rattle.hcl_grammar.specs.Nodes as node
use Rattle.hcl_grammar.specs.Operators.{unary_operator, binary_operator, levels}
use Rattle.hcl_grammar.specs.Pure.NodeMakers.{nodes, group}
use Rattle.hcl_grammar.specs.Pure.Parser as p
use Rattle.hcl_grammar.specs.Pure.Parser.{deeper, twice}
use Rattle.hcl_grammar.specs.Pure.Reading.{Outcome, next_is, after_if_next}
use Rattle.hcl_grammar.specs.Pure.Steps as steps
use Rattle.hcl_grammar.specs.Tokens.{Token, next_index, next_kind, after_next, same_kind, for_word, in_word, if_word, else_word, endif_word, endfor_word}
use Rattle.hcl_grammar_laws.proofs.Ahead.{reach, reach_by, Stops, looser, stops_at, no-begin, no-stop, sees-not, sees-other}
use Rattle.hcl_grammar_laws.proofs.Chains.{Chain, no_more, one_more, Flat, FlatLinks, flat_operand, flat_end, flat_link, flat_level, its_level}
use Rattle.hcl_grammar_laws.proofs.Firsts.{first_term, begin_expr, begin_elem, begin_intro}
use Rattle.hcl_grammar_laws.proofs.Lines.{NoInner, no_inner_begins, no_inner_at, lines_all, sep_or_end-yes, sep_or_end-no}
use Rattle.hcl_grammar_laws.proofs.Placed.{placed_unary}
use Rattle.hcl_grammar_laws.proofs.Spans.{span_sep, span_expr, span_level, span_unary, span_tails, span_tail, span_arguments, span_items, span_elems, span_elem, span_names, span_parts, span_part, step}
use Rattle.hcl_grammar_laws.proofs.Steps.{Answers, found, deep, bind, deeper_found, sees-yes, if_next-yes, if_next-no, expect-yes, word_at, word-yes, reads-yes, reads-no, reads-other, reads-another}

module _ (ts : List Token) where
  -- ---- conditionals

  -- an operand, and how it goes on
  whole_by : {d b : ℕ} {head x : Expr} {xs : List Operation} {j n l : ℕ} (m : Bool) (i : ℕ) → Answers d b head j (p.unary nodes ts b (deeper nodes ts b) m i)
      → Answers d b xs n (p.operations_from nodes ts b (deeper nodes ts b) m (length ts) [] j)
      → Answers d b x l (p.conditional nodes ts b (deeper nodes ts b) m (next_index ts m i) (group levels head xs) n)
      → Answers d b x l (p.whole nodes ts b (deeper nodes ts b) m i)
  unfolding p.whole p.chain
  whole_by m i r s t = bind _ r (bind _ (bind _ s found) t)

  choice_none : {d b : ℕ} {c : Expr} {j : ℕ} (m : Bool) (first : ℕ) → Stops 8 ts m j → Answers d b c j (p.conditional nodes ts b (deeper nodes ts b) m first c j)
  unfolding p.conditional
  choice_none {j} m first s = let n = no-stop 8 ts m k.Question j s (omega arith) in rw (n, if_next-no ts m k.Question j n) found

  choice_some : {d : ℕ} {then_branch else_branch : Expr} {n l : ℕ} (m : Bool) (first : ℕ) (c : Expr) (j : ℕ) → NextIs ts m k.Question j → NextIs ts m k.Colon n → (b : ℕ)
      → ((a : ℕ) → Answers d a then_branch n ((p.under nodes ts a).expr m Whole (after_next ts m j)))
      → ((a : ℕ) → Answers d a else_branch l ((p.under nodes ts a).expr m Whole (after_next ts m n)))
      → Answers (suc d) b (node.expr first l (form.Conditional c then_branch else_branch)) l (p.conditional nodes ts b (deeper nodes ts b) m first c j)
  unfolding p.conditional
  choice_some m first c j q s zero x y = rw (sees-yes ts m k.Question j q) (deep (omega arith))
  choice_some {n} m first c j q s (suc a) x y = rw (sees-yes ts m k.Question j q, if_next-yes ts m k.Question j q) (bind _ (deeper_found (x a)) (rw (expect-yes ts m k.Colon n s) (bind _ (deeper_found (y a)) found)))

  -- ---- operators

  operator-yes : (m : Bool) (n : ℕ) (t : Kind) (op : BinaryOperator) (i : ℕ) → NextIs ts m t i → binary_operator t ≡ Some (n, op) → steps.eat_operator ts m i ≡ Ok (Some op, after_next ts m i)
  unfolding steps.eat_operator
  operator-yes m n t op i h e = rw (h, e)

  operator-no : (m : Bool) (i : ℕ) → Stops 7 ts m i → steps.eat_operator ts m i ≡ Ok (None, i)
  unfolding steps.eat_operator
  operator-no m i s = go (next_kind ts m i) refl
    where
      by : (t : Kind) → 7 ≤ reach t → (o : Option (ℕ × BinaryOperator)) → binary_operator t ≡ o → steps.take_operator ts m i o ≡ Ok (None, i)
      by t l None e = refl
      by t l (Some q) e = absurd (omega (arith, ap (reach_by t) e, l, (its_level t q e).1))

      go : (o : Option Kind) → next_kind ts m i ≡ o → steps.operator_by_kind ts m i o ≡ Ok (None, i)
      go None e = refl
      go (Some t) e = by t (s.at_token t e) (binary_operator t) refl

  operators_end : {d b : ℕ} (m : Bool) (turns : ℕ) (xs : List Operation) (i : ℕ) → Stops 7 ts m i → Answers d b xs i (p.operations_from nodes ts b (deeper nodes ts b) m turns xs i)
  unfolding p.operations_from
  operators_end m zero xs i s = found
  operators_end m (suc turns) xs i s = rw (operator-no m i s) found

  operators_more : {d b n : ℕ} {t : Kind} {op : BinaryOperator} {x : Expr} {ys : List Operation} {j l : ℕ} (m : Bool) (turns : ℕ) (xs : List Operation) (i : ℕ) → NextIs ts m t i → binary_operator t ≡ Some (n, op)
      → Answers d b x j (p.unary nodes ts b (deeper nodes ts b) m (after_next ts m i))
      → Answers d b ys l (p.operations_from nodes ts b (deeper nodes ts b) m turns (xs ++ node.operation op x ∷ []) j)
      → Answers d b ys l (p.operations_from nodes ts b (deeper nodes ts b) m (suc turns) xs i)
  unfolding p.operations_from
  operators_more {n} {t} {op} m turns xs i h e r more = rw (operator-yes m n t op i h e) (bind _ r more)

  -- an operand that is derived, and answered
  pub record IsOperand (d : ℕ) (m : Bool) (x : Expr) (i j : ℕ) : Type 0 where
    pub derived : IsUnary ts d m x i j
    pub answers : (b : ℕ) → Answers d b x j (p.unary nodes ts b (deeper nodes ts b) m i)

  chain_forth : {d : ℕ} {m : Bool} {n : ℕ} {xs : List Operation} {i j : ℕ} → Chain ts m (IsOperand d m) n xs i j → i ≤ j
  chain_forth no_more = omega arith
  chain_forth {m} (one_more {t} {i} q o h p y c) = omega (arith, (step ts m t i q).forth, (span_unary y.derived).forth, chain_forth c)

  chain_answers : {d : ℕ} {m : Bool} {xs : List Operation} {i j : ℕ} → Chain ts m (IsOperand d m) levels xs i j → Stops 7 ts m j → (b turns : ℕ) (acc : List Operation) → j ≤ turns + i
      → Answers d b (acc ++ xs) j (p.operations_from nodes ts b (deeper nodes ts b) m turns acc i)
  chain_answers {m} (no_more {i}) s b turns acc l = rw (append-nil acc) (operators_end m turns acc i s)
  chain_answers {m} (one_more {t} {i} q o h p y c) s b zero acc l = absurd (omega (arith, (step ts m t i q).forth, (span_unary y.derived).forth, chain_forth c))
  chain_answers {m} (one_more {t} {op} {x} {xs} {i} q o h p y c) s b (suc turns) acc l =
      rw (← append_assoc acc (node.operation op x ∷ []) xs)
      (operators_more m turns acc i q o (y.answers b) (chain_answers c s b turns (acc ++ node.operation op x ∷ []) (omega (arith, (step ts m t i q).forth, (span_unary y.derived).forth))))

  -- ---- prefixes and tails

  -- a term, after its first token, whatever that is
  unfoldable pub term : ℕ → Bool → ℕ → Option Kind → Outcome Term
  term b m i None = Err (Syntax (next_index ts m i))
  term b m i (Some t) = p.term_by nodes ts b (deeper nodes ts b) m (next_index ts m i) t (after_next ts m i)

  unary_prefixed : {d : ℕ} {t : Kind} {op : UnaryOperator} {e : Expr} {j : ℕ} (m : Bool) (i : ℕ) → NextIs ts m t i → unary_operator t ≡ Some op → (b : ℕ)
      → ((a : ℕ) → Answers d a e j ((p.under nodes ts a).expr m Operand (after_next ts m i)))
      → Answers (suc d) b (node.expr (next_index ts m i) j (form.Unary op e)) j (p.unary nodes ts b (deeper nodes ts b) m i)
  unfolding p.unary
  unary_prefixed m i h e zero x = rw (h, e) (deep (omega arith))
  unary_prefixed m i h e (suc a) x = rw (h, e) (bind _ (deeper_found (x a)) found)

  unary_post : {d b : ℕ} {head : Term} {xs : List Tail} {j l : ℕ} (m : Bool) (i : ℕ) (t : Kind) → NextIs ts m t i → unary_operator t ≡ None → Answers d b head j (term b m i (next_kind ts m i))
      → Answers d b xs l (p.tails_from nodes ts b (deeper nodes ts b) m (length ts) [] j)
      → Answers d b (node.postfix (next_index ts m i) l head xs) l (p.unary nodes ts b (deeper nodes ts b) m i)
  unfolding p.unary p.post_by p.with_tails term
  unary_post m i t h n r more = let q = rw h at r in rw (h, n) (bind _ q (bind _ more found))

  tail-at : (b : ℕ) (m : Bool) (o : Option Kind) (i : ℕ) → next_kind ts m i ≡ o → p.tail_of nodes ts b (deeper nodes ts b) m i ≡ p.tail_by nodes ts b (deeper nodes ts b) m (next_index ts m i) o i
  unfolding p.tail_of
  tail-at b m o i h = ap (λ o. p.tail_by nodes ts b (deeper nodes ts b) m (next_index ts m i) o i) h

  -- a token that does not go on with a term
  no-tail : (t : Kind) (b : ℕ) (m : Bool) (i : ℕ) → 1 ≤ reach t → p.tail_by nodes ts b (deeper nodes ts b) m (next_index ts m i) (Some t) i ≡ Ok (None, i)
  no-tail k.Dot b m i l = absurd (omega (arith, l))
  no-tail k.DotIndex b m i l = absurd (omega (arith, l))
  no-tail k.OpenBracket b m i l = absurd (omega (arith, l))
  no-tail _ b m i l = refl

  tail-no : (b : ℕ) (m : Bool) (i : ℕ) → Stops 1 ts m i → p.tail_of nodes ts b (deeper nodes ts b) m i ≡ Ok (None, i)
  tail-no b m i s = go (next_kind ts m i) refl
    where
      go : (o : Option Kind) → next_kind ts m i ≡ o → p.tail_of nodes ts b (deeper nodes ts b) m i ≡ Ok (None, i)
      go None e = tail-at b m None i e
      go (Some t) e = tail-at b m (Some t) i e ∙ no-tail t b m i (s.at_token t e)

  tails_end : {d b : ℕ} (m : Bool) (turns : ℕ) (xs : List Tail) (i : ℕ) → Stops 1 ts m i → Answers d b xs i (p.tails_from nodes ts b (deeper nodes ts b) m turns xs i)
  unfolding p.tails_from
  tails_end m zero xs i s = found
  tails_end {b} m (suc turns) xs i s = rw (tail-no b m i s) found

  -- ---- terms

  term-at : (b : ℕ) (m : Bool) (t : Kind) (i : ℕ) → NextIs ts m t i → term b m i (next_kind ts m i) ≡ p.term_by nodes ts b (deeper nodes ts b) m (next_index ts m i) t (after_next ts m i)
  unfolding term
  term-at b m t i h = ap (term b m i) h

  names-yes : {m : Bool} {ns : List ℕ} {i j : ℕ} → IsNameTail ts m ns i j → next_is ts m k.DoubleColon j ≡ false → (turns : ℕ) (acc : List ℕ) → j ≤ turns + i → p.names_from nodes ts m turns acc i ≡ Ok (acc ++ ns, j)
  unfolding p.names_from
  names-yes (no_names {i}) s zero acc l = rw (append-nil acc)
  names-yes (no_names {m} {i}) s (suc turns) acc l = rw (s, if_next-no ts m k.DoubleColon i s, append-nil acc)
  names-yes (name {m} {i} q n ns) s zero acc l = absurd (omega (arith, (step ts m k.DoubleColon i q).forth, (step ts m k.Identifier (after_next ts m i) n).forth, (span_names ns).forth))
  names-yes (name {m} {ns = xs} {i} {j} q n ns) s (suc turns) acc l =
      rw (sees-yes ts m k.DoubleColon i q, if_next-yes ts m k.DoubleColon i q, expect-yes ts m k.Identifier (after_next ts m i) n)
      (names-yes ns s turns (acc ++ next_index ts m (after_next ts m i) ∷ []) (omega (arith, (step ts m k.DoubleColon i q).forth, (step ts m k.Identifier (after_next ts m i) n).forth))
      ∙ ap (λ x. Ok (x, j)) (append_assoc acc (next_index ts m (after_next ts m i) ∷ []) xs))

  names_all : {m : Bool} {ns : List ℕ} {i j : ℕ} (first : ℕ) → IsNameTail ts m ns i j → next_is ts m k.DoubleColon j ≡ false → p.names_from nodes ts m (length ts) (first ∷ []) i ≡ Ok (first ∷ ns, j)
  names_all first ns s = names-yes ns s (length ts) (first ∷ []) (omega (arith, (span_names ns).within))

  -- a call goes on with `(` or `::`
  called : {m : Bool} {ns : List ℕ} {i j : ℕ} → IsNameTail ts m ns i j → NextIs ts m k.OpenParen j → (next_is ts m k.OpenParen i || next_is ts m k.DoubleColon i) ≡ true
  called (no_names {m} {i}) h = rw (sees-yes ts m k.OpenParen i h)
  called (name {m} {i} q n ns) h = go (next_is ts m k.OpenParen i)
    where
      go : (b : Bool) → (b || next_is ts m k.DoubleColon i) ≡ true
      go true = refl
      go false = sees-yes ts m k.DoubleColon i q

  enclosed-yes : {d : ℕ} {e : Expr} {j : ℕ} (close : Kind) (first i : ℕ) → NextIs ts true close j → (b : ℕ)
      → ((a : ℕ) → Answers d a e j ((p.under nodes ts a).expr true Whole i))
      → Answers (suc d) b e (after_next ts true j) (p.enclosed nodes ts b (deeper nodes ts b) close first i)
  unfolding p.enclosed
  enclosed-yes close first i c zero x = deep (omega arith)
  enclosed-yes {j} close first i c (suc a) x = bind _ (deeper_found (x a)) (rw (expect-yes ts true close j c) found)

  -- ---- `for`

  second-yes : {o : Option ℕ} {i j : ℕ} → IsSecondName ts o i j → NextIsWord ts true in_word j → steps.second_name ts i ≡ Ok (o, j)
  unfolding steps.second_name same_kind
  second-yes (no_second {i}) w = let n = sees-other ts true k.Identifier k.Comma i (word_at ts true in_word i w) refl in rw (n, if_next-no ts true k.Comma i n)
  second-yes (second {i} q n) w = rw (sees-yes ts true k.Comma i q, if_next-yes ts true k.Comma i q, expect-yes ts true k.Identifier (after_next ts true i) n)

  -- ---- templates

  keyword-yes : {m : Bool} {w : List ℕ} {i j : ℕ} → IsKeyword ts m w i j → steps.keyword_directive ts m w i ≡ Ok (tt, j)
  unfolding steps.keyword_directive
  keyword-yes (keyword {m} {w} {i} h v c) = rw (expect-yes ts m k.DirectiveOpen i h, word-yes ts true w (after_next ts m i) v, expect-yes ts true k.SeqClose (after_next ts true (after_next ts m i)) c)

  pub keyword_word : {m : Bool} {w : List ℕ} {i j : ℕ} → IsKeyword ts m w i j → NextIsWord ts true w (after_next ts m i)
  keyword_word (keyword h w c) = w

  part-at : (b : ℕ) (m : Bool) (o : Option Kind) (i : ℕ) → next_kind ts m i ≡ o → p.part_of nodes ts b (deeper nodes ts b) (twice nodes ts b) m i ≡ p.part_by nodes ts b (deeper nodes ts b) (twice nodes ts b) m (next_index ts m i) o i
  unfolding p.part_of
  part-at b m o i h = ap (λ o. p.part_by nodes ts b (deeper nodes ts b) (twice nodes ts b) m (next_index ts m i) o i) h

  -- no part comes next
  pub record NoPart (m : Bool) (i : ℕ) : Type 0 where
    pub is : (b : ℕ) → p.part_of nodes ts b (deeper nodes ts b) (twice nodes ts b) m i ≡ Ok (None, i)

  no_part_quote : (m : Bool) (i : ℕ) → NextIs ts m k.QuoteClose i → NoPart m i
  no_part_quote m i h = record { is = λ b. part-at b m (Some k.QuoteClose) i h }

  no_part_here : (m : Bool) (i : ℕ) → NextIs ts m k.HereClose i → NoPart m i
  no_part_here m i h = record { is = λ b. part-at b m (Some k.HereClose) i h }

  no_part_else : {m : Bool} {i j : ℕ} → IsKeyword ts m else_word i j → NoPart m i
  unfolding p.directive
  no_part_else (keyword {m} {i} h w c) = record { is = λ b. rw (part-at b m (Some k.DirectiveOpen) i h, reads-another ts true else_word if_word (after_next ts m i) w refl, reads-another ts true else_word for_word (after_next ts m i) w refl) }

  no_part_endif : {m : Bool} {i j : ℕ} → IsKeyword ts m endif_word i j → NoPart m i
  unfolding p.directive
  no_part_endif (keyword {m} {i} h w c) = record { is = λ b. rw (part-at b m (Some k.DirectiveOpen) i h, reads-another ts true endif_word if_word (after_next ts m i) w refl, reads-another ts true endif_word for_word (after_next ts m i) w refl) }

  no_part_endfor : {m : Bool} {i j : ℕ} → IsKeyword ts m endfor_word i j → NoPart m i
  unfolding p.directive
  no_part_endfor (keyword {m} {i} h w c) = record { is = λ b. rw (part-at b m (Some k.DirectiveOpen) i h, reads-another ts true endfor_word if_word (after_next ts m i) w refl, reads-another ts true endfor_word for_word (after_next ts m i) w refl) }

  no_part_other : {d : ℕ} {m : Bool} {o : Option Template} {i j : ℕ} → IsElse ts d m o i j → NoPart m i
  no_part_other (no_else x) = no_part_endif x
  no_part_other (has_else x ps y) = no_part_else x

  parts_end : {d b : ℕ} (m : Bool) (turns : ℕ) (xs : List Part) (i : ℕ) → NoPart m i → Answers d b xs i (p.parts_from nodes ts b (deeper nodes ts b) (twice nodes ts b) m turns xs i)
  unfolding p.parts_from
  parts_end m zero xs i s = found
  parts_end {b} m (suc turns) xs i s = rw (s.is b) found

  -- ---- what is one construct deeper

  pub expr-is : (a : ℕ) (m : Bool) (g : Goal) (i : ℕ) → (p.under nodes ts a).expr m g i ≡ p.goal nodes ts a (deeper nodes ts a) m g i
  unfolding p.under
  expr-is zero m g i = refl
  expr-is (suc zero) m g i = refl
  expr-is (suc (suc a)) m g i = refl

  pub parts-is : (a : ℕ) (m : Bool) (i : ℕ) → (p.under nodes ts a).parts m i ≡ p.parts_from nodes ts a (deeper nodes ts a) (twice nodes ts a) m (length ts) [] i
  unfolding p.under
  parts-is zero m i = refl
  parts-is (suc zero) m i = refl
  parts-is (suc (suc a)) m i = refl

  pub nested : {d : ℕ} {e : Expr} {j : ℕ} (m : Bool) (i a : ℕ) → Answers d a e j (p.whole nodes ts a (deeper nodes ts a) m i) → Answers d a e j ((p.under nodes ts a).expr m Whole i)
  nested m i a r = rw (expr-is a m Whole i) r

  nested_operand : {d : ℕ} {e : Expr} {j : ℕ} (m : Bool) (i a : ℕ) → Answers d a e j (p.unary nodes ts a (deeper nodes ts a) m i) → Answers d a e j ((p.under nodes ts a).expr m Operand i)
  nested_operand m i a r = rw (expr-is a m Operand i) r

  nested_parts : {d : ℕ} {ps : List Part} {j : ℕ} (m : Bool) (i a : ℕ) → Answers d a ps j (p.parts_from nodes ts a (deeper nodes ts a) (twice nodes ts a) m (length ts) [] i) → Answers d a ps j ((p.under nodes ts a).parts m i)
  nested_parts m i a r = rw (parts-is a m i) r

  -- ---- the induction

  links_stop : {d : ℕ} {m : Bool} {n : ℕ} {xs : List Operation} {i j : ℕ} → IsOperations ts d m n xs i j → Stops (suc (suc n)) ts m j → Stops (suc n) ts m i
  links_stop no_operations s = looser (omega arith) s
  links_stop (operation {n} {t} p o x xs) s = stops_at (suc n) t p (omega (arith, ap (reach_by t) o))

  elems_line : {d : ℕ} {xs : List Elem} {i j : ℕ} → IsElems ts d xs i j → NoInner ts i
  elems_line (no_elems {i} q) = no_inner_at ts i q
  elems_line (last_elem x q) = no_inner_begins (begin_elem x)
  elems_line (elems x q xs) = no_inner_begins (begin_elem x)

  line_stop : {i j : ℕ} → IsNewline ts i j → Stops 8 ts false i
  line_stop (line_end q) = stops_at 8 k.LineEnd q (omega arith)
  line_stop (comment q n) = stops_at 8 k.LineComment q (omega arith)

  sep_stop : {i j : ℕ} → IsSep ts i j → Stops 8 ts false i
  sep_stop (comma q t) = stops_at 8 k.Comma q (omega arith)
  sep_stop (lines q t) = line_stop q

  pub record Closes (close : Kind) : Type 0 where
    pub no_name : same_kind k.Identifier close ≡ false
    pub no_dots : same_kind close k.Ellipsis ≡ false
    pub ends : 8 ≤ reach close

  closes_brace : Closes k.CloseBrace
  unfolding same_kind
  closes_brace = record { no_name = refl; no_dots = refl; ends = omega arith }

  closes_bracket : Closes k.CloseBracket
  unfolding same_kind
  closes_bracket = record { no_name = refl; no_dots = refl; ends = omega arith }

  filter_stop : {d : ℕ} {close : Kind} {o : Option Expr} {i j : ℕ} → Closes close → IsFilter ts d close o i j → Stops 8 ts true i
  filter_stop z (no_filter {close} q) = stops_at 8 close q z.ends
  filter_stop z (filter {i} w e q) = stops_at 8 k.Identifier (word_at ts true if_word i w) (omega arith)

  filter_dots : {d : ℕ} {close : Kind} {o : Option Expr} {i j : ℕ} → Closes close → IsFilter ts d close o i j → next_is ts true k.Ellipsis i ≡ false
  unfolding same_kind
  filter_dots z (no_filter {close} {i} q) = sees-other ts true close k.Ellipsis i q z.no_dots
  filter_dots z (filter {i} w e q) = sees-other ts true k.Identifier k.Ellipsis i (word_at ts true if_word i w) refl

  dots_stop : {b : Bool} {i j : ℕ} → IsEllipsis ts b i j → Stops 8 ts true j → Stops 8 ts true i
  dots_stop no_ellipsis s = s
  dots_stop (ellipsis q) s = stops_at 8 k.Ellipsis q (omega arith)

  dots-seen : {b : Bool} {i j : ℕ} → IsEllipsis ts b i j → next_is ts true k.Ellipsis j ≡ false → next_is ts true k.Ellipsis i ≡ b
  dots-seen no_ellipsis s = s
  dots-seen (ellipsis {i} q) s = sees-yes ts true k.Ellipsis i q

  after-ellipsis : {b : Bool} {i j : ℕ} → IsEllipsis ts b i j → next_is ts true k.Ellipsis j ≡ false → after_if_next ts true k.Ellipsis i ≡ j
  after-ellipsis (no_ellipsis {i}) s = if_next-no ts true k.Ellipsis i s
  after-ellipsis (ellipsis {i} q) s = if_next-yes ts true k.Ellipsis i q

  intro_word : {d : ℕ} {x : Intro} {i j : ℕ} → IsIntro ts d x i j → NextIsWord ts true for_word i
  intro_word (intro w q s v e) = w

  -- an expression of all levels, by its chain, and what follows it
  c_whole : {d : ℕ} {m : Bool} {c e : Expr} {i j l : ℕ} → IsLevel ts d m levels c i j → Flat ts m (IsOperand d m) levels c i j → Stops 7 ts m j → (b : ℕ)
      → Answers d b e l (p.conditional nodes ts b (deeper nodes ts b) m (next_index ts m i) c j) → Answers d b e l (p.whole nodes ts b (deeper nodes ts b) m i)
  c_whole {d} {m} {e} {i} {j} {l} q f s b then =
      whole_by m i (f.operand.answers b) (chain_answers f.chain s b (length ts) [] (omega (arith, (span_level q).within, (span_unary f.operand.derived).forth)))
      (subst (λ (c : Expr). Answers d b e l (p.conditional nodes ts b (deeper nodes ts b) m (next_index ts m i) c j)) f.is then)

  mutual
    unfolding p.tails_from p.dot_tail p.bracket_tail same_kind p.identifier_or_call p.call p.tuple_or_for p.tuple p.object_or_for p.object p.for_tuple p.for_object p.for_value p.quoted p.heredoc p.template p.parens p.arguments_from p.tuple_items_from p.elems_from p.elem steps.equals_or_colon p.intro p.filter p.parts_from p.interpolation p.directive p.if_directive p.for_directive p.else_and_endif

    pub c_expr : {d : ℕ} {m : Bool} {e : Expr} {i j : ℕ} → IsExpr ts d m e i j → Stops 8 ts m j → (b : ℕ) → Answers d b e j (p.whole nodes ts b (deeper nodes ts b) m i)
    c_expr (plain {m} {i} q) s b = c_whole q (c_level q (looser (omega arith) s)) (looser (omega arith) s) b (choice_none m (next_index ts m i) s)
    c_expr (conditional {m} {i} {j} {n} c q x s y) t b =
        c_whole c (c_level c (stops_at 7 k.Question q (omega arith))) (stops_at 7 k.Question q (omega arith)) b (choice_some m (next_index ts m i) _ j q s b
        (λ a. nested m (after_next ts m j) a (c_expr x (stops_at 8 k.Colon s (omega arith)) a)) (λ a. nested m (after_next ts m n) a (c_expr y t a)))

    c_level : {d : ℕ} {m : Bool} {n : ℕ} {e : Expr} {i j : ℕ} → IsLevel ts d m n e i j → Stops (suc n) ts m j → Flat ts m (IsOperand d m) n e i j
    c_level (lowest {d} {m} {e} {i} {j} q) s = flat_operand ts m (IsOperand d m) e i j (record { derived = q; answers = c_unary q s }) (placed_unary q).0 (placed_unary q).1
    c_level (level {d} {m} q xs) s = flat_level ts m (IsOperand d m) (c_level q (links_stop xs s)) (c_links xs s)

    c_links : {d : ℕ} {m : Bool} {n : ℕ} {xs : List Operation} {i j : ℕ} → IsOperations ts d m n xs i j → Stops (suc (suc n)) ts m j → FlatLinks ts m (IsOperand d m) n xs i j
    c_links (no_operations {d} {m} {n} {i}) s = flat_end ts m (IsOperand d m) n i
    c_links (operation {d} {m} q o x xs) s = flat_link ts m (IsOperand d m) q o (c_level x (links_stop xs s)) (c_links xs s)

    c_unary : {d : ℕ} {m : Bool} {e : Expr} {i j : ℕ} → IsUnary ts d m e i j → Stops 1 ts m j → (b : ℕ) → Answers d b e j (p.unary nodes ts b (deeper nodes ts b) m i)
    c_unary (with_operator {m} {i} q o x) s b = unary_prefixed m i q o b (λ a. nested_operand m (after_next ts m i) a (c_unary x s a))
    c_unary (post {m} {i} q xs) s b = let t = first_term q in unary_post m i t.token t.is t.no_prefix (c_term q b) (c_tails xs s b (length ts) [] (omega (arith, (span_tails xs).within)))

    c_tails : {d : ℕ} {m : Bool} {xs : List Tail} {i j : ℕ} → IsTails ts d m xs i j → Stops 1 ts m j → (b turns : ℕ) (acc : List Tail) → j ≤ turns + i
        → Answers d b (acc ++ xs) j (p.tails_from nodes ts b (deeper nodes ts b) m turns acc i)
    c_tails (no_tails {m} {i}) s b turns acc l = rw (append-nil acc) (tails_end m turns acc i s)
    c_tails (tails x xs) s b zero acc l = absurd (omega (arith, (span_tail x).forth, (span_tails xs).forth))
    c_tails (tails {m} {x = y} {xs = ys} {i} x xs) s b (suc turns) acc l =
        rw (← append_assoc acc (y ∷ []) ys) (bind _ (c_tail x b) (c_tails xs s b turns (acc ++ y ∷ []) (omega (arith, (span_tail x).forth))))

    c_tail : {d : ℕ} {m : Bool} {x : Tail} {i j : ℕ} → IsTail ts d m x i j → (b : ℕ) → Answers d b (Some x) j (p.tail_of nodes ts b (deeper nodes ts b) m i)
    c_tail (by_name {m} {i} q n) b =
        let star = sees-other ts m k.Identifier k.Star (after_next ts m i) n refl in
        rw (tail-at b m (Some k.Dot) i q, star, if_next-no ts m k.Star (after_next ts m i) star, expect-yes ts m k.Identifier (after_next ts m i) n) found
    c_tail (legacy {m} {i} q) b = rw (tail-at b m (Some k.DotIndex) i q) found
    c_tail (attribute_splat {m} {i} q n) b = rw (tail-at b m (Some k.Dot) i q, sees-yes ts m k.Star (after_next ts m i) n, if_next-yes ts m k.Star (after_next ts m i) n) found
    c_tail (full_splat {m} {i} q s c) zero = rw (tail-at zero m (Some k.OpenBracket) i q) (deep (omega arith))
    c_tail (full_splat {m} {i} q s c) (suc a) =
        rw (tail-at (suc a) m (Some k.OpenBracket) i q, sees-yes ts true k.Star (after_next ts m i) s, if_next-yes ts true k.Star (after_next ts m i) s, expect-yes ts true k.CloseBracket (after_next ts true (after_next ts m i)) c) found
    c_tail (index {m} {i} q x c) zero = rw (tail-at zero m (Some k.OpenBracket) i q) (deep (omega arith))
    c_tail (index {m} {i} {j} q x c) (suc a) =
        let star = no-begin ts true k.Star (after_next ts m i) (begin_expr x) refl in
        rw (tail-at (suc a) m (Some k.OpenBracket) i q, star, if_next-no ts true k.Star (after_next ts m i) star)
        (bind _ (bind _ (deeper_found (nested true (after_next ts m i) a (c_expr x (stops_at 8 k.CloseBracket c (omega arith)) a))) (rw (expect-yes ts true k.CloseBracket j c) found)) found)

    c_term : {d : ℕ} {m : Bool} {e : Term} {i j : ℕ} → IsTerm ts d m e i j → (b : ℕ) → Answers d b e j (term b m i (next_kind ts m i))
    c_term (number {m} {i} q) b = rw (term-at b m k.Number i q) found
    c_term (identifier {m} {i} q n r) b = rw (term-at b m k.Identifier i q, sees-not ts m k.OpenParen (after_next ts m i) n, sees-not ts m k.DoubleColon (after_next ts m i) r) found
    c_term (call {m} {i} {j} q ns n xs) zero =
        rw (term-at zero m k.Identifier i q, called ns n, names_all (next_index ts m i) ns (sees-other ts m k.OpenParen k.DoubleColon j n refl), expect-yes ts m k.OpenParen j n) (deep (omega arith))
    c_term (call {m} {i} {j} q ns n xs) (suc a) =
        rw (term-at (suc a) m k.Identifier i q, called ns n, names_all (next_index ts m i) ns (sees-other ts m k.OpenParen k.DoubleColon j n refl), expect-yes ts m k.OpenParen j n)
        (bind _ (deeper_found (c_arguments xs a (length ts) [] (omega (arith, (span_arguments xs).within)))) found)
    c_term (tuple {m} {i} q n xs) zero = rw (term-at zero m k.OpenBracket i q) (deep (omega arith))
    c_term (tuple {m} {i} q n xs) (suc a) =
        rw (term-at (suc a) m k.OpenBracket i q, reads-no ts true for_word (after_next ts m i) n) (bind _ (deeper_found (c_items xs a (length ts) [] (omega (arith, (span_items xs).within)))) found)
    c_term (object {m} {i} q n l xs) zero = rw (term-at zero m k.OpenBrace i q) (deep (omega arith))
    c_term (object {m} {i} q n l xs) (suc a) =
        rw (term-at (suc a) m k.OpenBrace i q, reads-no ts true for_word (after_next ts m i) n, lines_all l (elems_line xs)) (bind _ (deeper_found (c_elems xs a (length ts) [] (omega (arith, (span_elems xs).within)))) found)
    c_term (for_tuple {m} {i} q x c v o) zero = rw (term-at zero m k.OpenBracket i q) (deep (omega arith))
    c_term (for_tuple {m} {i} {j} q x c v o) (suc a) =
        rw (term-at (suc a) m k.OpenBracket i q, begin_intro x) (bind _ (deeper_found (c_intro x (stops_at 8 k.Colon c (omega arith)) a)) (rw (expect-yes ts true k.Colon j c)
        (bind _ (deeper_found (nested true (after_next ts true j) a (c_expr v (filter_stop closes_bracket o) a))) (bind _ (deeper_found (c_filter closes_bracket o a)) found))))
    c_term (for_object {m} {i} q x c y f v s o) zero = rw (term-at zero m k.OpenBrace i q) (deep (omega arith))
    c_term (for_object {m} {i} {j} {n} q x c y f v s o) (suc a) =
        rw (term-at (suc a) m k.OpenBrace i q, begin_intro x) (bind _ (deeper_found (c_intro x (stops_at 8 k.Colon c (omega arith)) a)) (rw (expect-yes ts true k.Colon j c)
        (bind _ (deeper_found (nested true (after_next ts true j) a (c_expr y (stops_at 8 k.FatArrow f (omega arith)) a))) (rw (expect-yes ts true k.FatArrow n f)
        (bind _ (deeper_found (nested true (after_next ts true n) a (c_expr v (dots_stop s (filter_stop closes_brace o)) a)))
        (rw (dots-seen s (filter_dots closes_brace o), after-ellipsis s (filter_dots closes_brace o)) (bind _ (deeper_found (c_filter closes_brace o a)) found)))))))
    c_term (quoted {m} {i} q ps c) zero = rw (term-at zero m k.QuoteOpen i q) (deep (omega arith))
    c_term (quoted {m} {i} {j} q ps c) (suc a) =
        rw (term-at (suc a) m k.QuoteOpen i q) (bind _ (bind _ (deeper_found (nested_parts m (after_next ts m i) a (c_parts ps (no_part_quote m j c) a (length ts) [] (omega (arith, (span_parts ps).within))))) found)
        (rw (expect-yes ts m k.QuoteClose j c) found))
    c_term (heredoc {m} {i} q ps c) zero = rw (term-at zero m k.HereOpen i q) (deep (omega arith))
    c_term (heredoc {m} {i} {j} q ps c) (suc a) =
        rw (term-at (suc a) m k.HereOpen i q) (bind _ (bind _ (deeper_found (nested_parts m (after_next ts m i) a (c_parts ps (no_part_here m j c) a (length ts) [] (omega (arith, (span_parts ps).within))))) found)
        (rw (expect-yes ts m k.HereClose j c) found))
    c_term (parens {m} {i} q x c) b =
        rw (term-at b m k.OpenParen i q) (bind _ (enclosed-yes k.CloseParen (next_index ts m i) (after_next ts m i) c b (λ a. nested true (after_next ts m i) a (c_expr x (stops_at 8 k.CloseParen c (omega arith)) a))) found)

    c_arguments : {d : ℕ} {xs : List Expr} {s : Bool} {i j : ℕ} → IsArguments ts d xs s i j → (a turns : ℕ) (acc : List Expr) → j ≤ turns + i
        → Answers d a (acc ++ xs, s) j (p.arguments_from nodes ts (p.under nodes ts a).expr turns acc i)
    c_arguments (no_arguments {i} q) a zero acc l = absurd (omega (arith, (step ts true k.CloseParen i q).forth))
    c_arguments (no_arguments {i} q) a (suc turns) acc l = rw (append-nil acc, sees-yes ts true k.CloseParen i q, if_next-yes ts true k.CloseParen i q) found
    c_arguments (last_argument {i} {j} x q) a zero acc l = absurd (omega (arith, (step ts true k.CloseParen j q).forth, (span_expr x).forth))
    c_arguments (last_argument {i} {j} x q) a (suc turns) acc l =
        let n = no-begin ts true k.CloseParen i (begin_expr x) refl in
        let c = sees-other ts true k.CloseParen k.Comma j q refl in
        let s = sees-other ts true k.CloseParen k.Ellipsis j q refl in
        rw (n, if_next-no ts true k.CloseParen i n) (bind _ (nested true i a (c_expr x (stops_at 8 k.CloseParen q (omega arith)) a))
        (rw (c, if_next-no ts true k.Comma j c, s, if_next-no ts true k.Ellipsis j s, expect-yes ts true k.CloseParen j q) found))
    c_arguments (spread_argument {i} {j} x s q) a zero acc l = absurd (omega (arith, (step ts true k.Ellipsis j s).forth, (step ts true k.CloseParen (after_next ts true j) q).forth, (span_expr x).forth))
    c_arguments (spread_argument {i} {j} x s q) a (suc turns) acc l =
        let n = no-begin ts true k.CloseParen i (begin_expr x) refl in
        let c = sees-other ts true k.Ellipsis k.Comma j s refl in
        rw (n, if_next-no ts true k.CloseParen i n) (bind _ (nested true i a (c_expr x (stops_at 8 k.Ellipsis s (omega arith)) a))
        (rw (c, if_next-no ts true k.Comma j c, sees-yes ts true k.Ellipsis j s, if_next-yes ts true k.Ellipsis j s, expect-yes ts true k.CloseParen (after_next ts true j) q) found))
    c_arguments (argument {i} {j} x q xs) a zero acc l = absurd (omega (arith, (step ts true k.Comma j q).forth, (span_expr x).forth, (span_arguments xs).forth))
    c_arguments (argument {e} {es} {i} {j} x q xs) a (suc turns) acc l =
        let n = no-begin ts true k.CloseParen i (begin_expr x) refl in
        rw (← append_assoc acc (e ∷ []) es, n, if_next-no ts true k.CloseParen i n) (bind _ (nested true i a (c_expr x (stops_at 8 k.Comma q (omega arith)) a))
        (rw (sees-yes ts true k.Comma j q, if_next-yes ts true k.Comma j q) (c_arguments xs a turns (acc ++ e ∷ []) (omega (arith, (step ts true k.Comma j q).forth, (span_expr x).forth)))))

    c_items : {d : ℕ} {xs : List Expr} {i j : ℕ} → IsItems ts d xs i j → (a turns : ℕ) (acc : List Expr) → j ≤ turns + i
        → Answers d a (acc ++ xs) j (p.tuple_items_from nodes ts (p.under nodes ts a).expr turns acc i)
    c_items (no_items {i} q) a zero acc l = absurd (omega (arith, (step ts true k.CloseBracket i q).forth))
    c_items (no_items {i} q) a (suc turns) acc l = rw (append-nil acc, sees-yes ts true k.CloseBracket i q, if_next-yes ts true k.CloseBracket i q) found
    c_items (last_item {i} {j} x q) a zero acc l = absurd (omega (arith, (step ts true k.CloseBracket j q).forth, (span_expr x).forth))
    c_items (last_item {i} {j} x q) a (suc turns) acc l =
        let n = no-begin ts true k.CloseBracket i (begin_expr x) refl in
        let c = sees-other ts true k.CloseBracket k.Comma j q refl in
        rw (n, if_next-no ts true k.CloseBracket i n) (bind _ (nested true i a (c_expr x (stops_at 8 k.CloseBracket q (omega arith)) a))
        (rw (c, if_next-no ts true k.Comma j c, expect-yes ts true k.CloseBracket j q) found))
    c_items (item {i} {j} x q xs) a zero acc l = absurd (omega (arith, (step ts true k.Comma j q).forth, (span_expr x).forth, (span_items xs).forth))
    c_items (item {e} {es} {i} {j} x q xs) a (suc turns) acc l =
        let n = no-begin ts true k.CloseBracket i (begin_expr x) refl in
        rw (← append_assoc acc (e ∷ []) es, n, if_next-no ts true k.CloseBracket i n) (bind _ (nested true i a (c_expr x (stops_at 8 k.Comma q (omega arith)) a))
        (rw (sees-yes ts true k.Comma j q, if_next-yes ts true k.Comma j q) (c_items xs a turns (acc ++ e ∷ []) (omega (arith, (step ts true k.Comma j q).forth, (span_expr x).forth)))))

    c_elems : {d : ℕ} {xs : List Elem} {i j : ℕ} → IsElems ts d xs i j → (a turns : ℕ) (acc : List Elem) → j ≤ turns + i
        → Answers d a (acc ++ xs) j (p.elems_from nodes ts (p.under nodes ts a).expr turns acc i)
    c_elems (no_elems {i} q) a zero acc l = absurd (omega (arith, (step ts false k.CloseBrace i q).forth))
    c_elems (no_elems {i} q) a (suc turns) acc l = rw (append-nil acc, sees-yes ts false k.CloseBrace i q, if_next-yes ts false k.CloseBrace i q) found
    c_elems (last_elem {i} {j} x q) a zero acc l = absurd (omega (arith, (step ts false k.CloseBrace j q).forth, (span_elem x).forth))
    c_elems (last_elem {i} {j} x q) a (suc turns) acc l =
        let n = no-begin ts false k.CloseBrace i (begin_elem x) refl in
        rw (n, if_next-no ts false k.CloseBrace i n) (bind _ (c_elem x (stops_at 8 k.CloseBrace q (omega arith)) a acc) (rw (sep_or_end-no ts j q) found))
    c_elems (elems {i} {j} x q xs) a zero acc l = absurd (omega (arith, (span_sep q).forth, (span_elem x).forth, (span_elems xs).forth))
    c_elems (elems {x = y} {xs = ys} {i} {j} x q xs) a (suc turns) acc l =
        let n = no-begin ts false k.CloseBrace i (begin_elem x) refl in
        rw (← append_assoc acc (y ∷ []) ys, n, if_next-no ts false k.CloseBrace i n) (bind _ (c_elem x (sep_stop q) a acc)
        (rw (sep_or_end-yes q (elems_line xs)) (c_elems xs a turns (acc ++ y ∷ []) (omega (arith, (span_sep q).forth, (span_elem x).forth)))))

    c_elem : {d : ℕ} {x : Elem} {i j : ℕ} → IsElem ts d x i j → Stops 8 ts false j → (a : ℕ) (acc : List Elem) → Answers d a (acc ++ x ∷ []) j (p.elem nodes ts (p.under nodes ts a).expr acc i)
    c_elem (by_equals {i} {j} x q y) s a acc =
        bind _ (nested false i a (c_expr x (stops_at 8 k.Equal q (omega arith)) a)) (rw (sees-yes ts false k.Equal j q, if_next-yes ts false k.Equal j q) (bind _ (nested false (after_next ts false j) a (c_expr y s a)) found))
    c_elem (by_colon {i} {j} x q y) s a acc =
        let n = sees-other ts false k.Colon k.Equal j q refl in
        bind _ (nested false i a (c_expr x (stops_at 8 k.Colon q (omega arith)) a)) (rw (n, if_next-no ts false k.Equal j n, expect-yes ts false k.Colon j q) (bind _ (nested false (after_next ts false j) a (c_expr y s a)) found))

    c_intro : {d : ℕ} {x : Intro} {i j : ℕ} → IsIntro ts d x i j → Stops 8 ts true j → (a : ℕ) → Answers d a x j (p.intro nodes ts (p.under nodes ts a).expr i)
    c_intro (intro {i} {j} w n o v x) s a =
        rw (word-yes ts true for_word i w, expect-yes ts true k.Identifier (after_next ts true i) n, second-yes o v, word-yes ts true in_word j v) (bind _ (nested true (after_next ts true j) a (c_expr x s a)) found)

    c_filter : {d : ℕ} {close : Kind} {o : Option Expr} {i j : ℕ} → Closes close → IsFilter ts d close o i j → (a : ℕ) → Answers d a o j (p.filter nodes ts (p.under nodes ts a).expr close i)
    c_filter z (no_filter {close} {i} q) a = rw (reads-other ts true if_word close i q z.no_name, expect-yes ts true close i q) found
    c_filter z (filter {close} {i} {j} w x q) a = rw (reads-yes ts true if_word i w) (bind _ (nested true (after_next ts true i) a (c_expr x (stops_at 8 close q z.ends) a)) (rw (expect-yes ts true close j q) found))

    c_parts : {d : ℕ} {m : Bool} {xs : List Part} {i j : ℕ} → IsParts ts d m xs i j → NoPart m j → (b turns : ℕ) (acc : List Part) → j ≤ turns + i
        → Answers d b (acc ++ xs) j (p.parts_from nodes ts b (deeper nodes ts b) (twice nodes ts b) m turns acc i)
    c_parts (no_parts {m} {i}) s b turns acc l = rw (append-nil acc) (parts_end m turns acc i s)
    c_parts (parts x xs) s b zero acc l = absurd (omega (arith, (span_part x).forth, (span_parts xs).forth))
    c_parts (parts {m} {x = y} {xs = ys} {i} x xs) s b (suc turns) acc l =
        rw (← append_assoc acc (y ∷ []) ys) (bind _ (c_part x b) (c_parts xs s b turns (acc ++ y ∷ []) (omega (arith, (span_part x).forth))))

    c_part : {d : ℕ} {m : Bool} {x : Part} {i j : ℕ} → IsPart ts d m x i j → (b : ℕ) → Answers d b (Some x) j (p.part_of nodes ts b (deeper nodes ts b) (twice nodes ts b) m i)
    c_part (quote_text {m} {i} q) b = rw (part-at b m (Some k.QuoteLit) i q) found
    c_part (here_text {m} {i} q) b = rw (part-at b m (Some k.HereLit) i q) found
    c_part (interp {m} {i} q x c) b =
        rw (part-at b m (Some k.InterpOpen) i q) (bind _ (bind _ (enclosed-yes k.SeqClose (next_index ts m i) (after_next ts m i) c b (λ a. nested true (after_next ts m i) a (c_expr x (stops_at 8 k.SeqClose c (omega arith)) a))) found) found)
    c_part (if_directive {m} {i} q w x c ps o) zero = rw (part-at zero m (Some k.DirectiveOpen) i q, reads-yes ts true if_word (after_next ts m i) w) (deep (omega arith))
    c_part (if_directive {m} {i} q w x c ps o) (suc zero) = rw (part-at (suc zero) m (Some k.DirectiveOpen) i q, reads-yes ts true if_word (after_next ts m i) w) (deep (omega arith))
    c_part (if_directive {m} {i} {j} q w x c ps o) (suc (suc a)) =
        rw (part-at (suc (suc a)) m (Some k.DirectiveOpen) i q, reads-yes ts true if_word (after_next ts m i) w)
        (bind _ (bind _ (deeper_found (deeper_found (nested true (after_next ts true (after_next ts m i)) a (c_expr x (stops_at 8 k.SeqClose c (omega arith)) a)))) (rw (expect-yes ts true k.SeqClose j c)
        (bind _ (bind _ (deeper_found (nested_parts m (after_next ts true j) (suc a) (c_parts ps (no_part_other o) (suc a) (length ts) [] (omega (arith, (span_parts ps).within))))) found)
        (bind _ (deeper_found (c_else o (suc (suc a)) (suc a))) found)))) found)
    c_part (for_directive {m} {i} q x c ps e) zero =
        let w = intro_word x in rw (part-at zero m (Some k.DirectiveOpen) i q, reads-another ts true for_word if_word (after_next ts m i) w refl, reads-yes ts true for_word (after_next ts m i) w) (deep (omega arith))
    c_part (for_directive {m} {i} q x c ps e) (suc zero) =
        let w = intro_word x in rw (part-at (suc zero) m (Some k.DirectiveOpen) i q, reads-another ts true for_word if_word (after_next ts m i) w refl, reads-yes ts true for_word (after_next ts m i) w) (deep (omega arith))
    c_part (for_directive {m} {i} {j} q x c ps e) (suc (suc a)) =
        let w = intro_word x in
        rw (part-at (suc (suc a)) m (Some k.DirectiveOpen) i q, reads-another ts true for_word if_word (after_next ts m i) w refl, reads-yes ts true for_word (after_next ts m i) w)
        (bind _ (bind _ (deeper_found (deeper_found (c_intro x (stops_at 8 k.SeqClose c (omega arith)) a))) (rw (expect-yes ts true k.SeqClose j c)
        (bind _ (bind _ (deeper_found (nested_parts m (after_next ts true j) (suc a) (c_parts ps (no_part_endfor e) (suc a) (length ts) [] (omega (arith, (span_parts ps).within))))) found) (rw (keyword-yes e) found)))) found)

    c_else : {d : ℕ} {m : Bool} {o : Option Template} {i j : ℕ} → IsElse ts d m o i j → (b a : ℕ) → Answers d a o j (p.else_and_endif nodes ts b (p.under nodes ts a) m i)
    c_else (no_else {m} {i} e) b a = rw (reads-another ts true endif_word else_word (after_next ts m i) (keyword_word e) refl, keyword-yes e) found
    c_else (has_else {m} {i} {j} x ps e) b a =
        rw (reads-yes ts true else_word (after_next ts m i) (keyword_word x), keyword-yes x)
        (bind _ (bind _ (nested_parts m j a (c_parts ps (no_part_endif e) a (length ts) [] (omega (arith, (span_parts ps).within)))) found) (rw (keyword-yes e) found))
