-- What is derived from tokens is derived from them elsewhere, as a tree that differs in the numbers of tokens alone: expressions and templates.
use Rattle.std.proofs.Common.{◌≡◌, ℕ, ◌+◌, ◌<◌, ◌≤◌, Bool, true, false, List, ◌∷◌, slice_get, Option, Some, None, refl, ap, arith}
use Rattle.std.specs.Option.{option_map}
use Rattle.hcl_token.specs.declared.kind.Kind.{Kind}
use Rattle.hcl_token.specs.declared.kind.Kind.TheVariants as k
use Rattle.hcl_grammar.specs.declared.tree.Elem.{Elem}
use Rattle.hcl_grammar.specs.declared.tree.Expr.{Expr}
use Rattle.hcl_grammar.specs.declared.tree.Intro.{Intro}
use Rattle.hcl_grammar.specs.declared.tree.Operation.{Operation}
use Rattle.hcl_grammar.specs.declared.tree.Part.{Part}
use Rattle.hcl_grammar.specs.declared.tree.Tail.{Tail}
use Rattle.hcl_grammar.specs.declared.tree.Template.{Template}
use Rattle.hcl_grammar.specs.declared.tree.Term.{Term}
use Rattle.hcl_grammar.specs.Grammar.{IsExpr, plain, conditional, IsLevel, lowest, level, IsOperations, no_operations, operation, IsUnary, with_operator, post, IsTails, no_tails, tails, IsTail, by_name, legacy, attribute_splat, full_splat, index, IsTerm, number, identifier, call, tuple, object, for_tuple, for_object, quoted, heredoc, parens, IsArguments, no_arguments, last_argument, spread_argument, argument, IsItems, no_items, last_item, item, IsElems, no_elems, last_elem, elems, IsElem, by_equals, by_colon, IsIntro, intro, IsFilter, no_filter, filter, IsParts, no_parts, parts, IsPart, quote_text, here_text, interp, if_directive, for_directive, IsElse, no_else, has_else}
use Rattle.hcl_grammar.specs.Lookahead.{NextIs}
use Rattle.hcl_grammar.specs.Nodes as node
use Rattle.hcl_grammar.specs.Tokens.{Token, is_skipped, next_index, next_token, next_kind, after_next}
use Rattle.hcl_grammar_laws.proofs.Spans.{span_lines, span_sep, span_names, span_second, span_dots, span_keyword, span_expr, span_level, span_links, span_unary, span_tails, span_arguments, span_items, span_elems, span_elem, span_intro, span_filter, span_parts}
use Rattle.tf_reuse.proofs.RenumberedNodes as moved
use Rattle.tf_reuse.proofs.MoveLines.{passed, not_before, less, begins_sep, begins_keyword, inside, just, at, no_next, word, no_word, move_lines, move_sep, move_names, move_second, move_dots, move_keyword}
use Rattle.tf_reuse.proofs.Window.{Here, Same, NextIsWithin, starts, starts_here, afters, next_within_end, next_within, before, earlier, earlier_than, firsts}
use Rattle.tf_reuse.specs.SameTokens.{SameTokens}

-- the first token of these ends no later than they do
module _ {ts : List Token} where
  pub begins_term : {d : ℕ} {m : Bool} {x : Term} {i j : ℕ} → IsTerm ts d m x i j → after_next ts m i ≤ j
  begins_term (number p) = omega arith
  begins_term (identifier p q r) = omega arith
  begins_term (call {m} {j} p ns q xs) = omega (arith, (span_names ns).forth, passed ts m j, (span_arguments xs).forth)
  begins_term (tuple p n xs) = omega (arith, (span_items xs).forth)
  begins_term (object p n ls xs) = omega (arith, (span_lines ls).forth, (span_elems xs).forth)
  begins_term (for_tuple {j} p y c v f) = omega (arith, (span_intro y).forth, passed ts true j, (span_expr v).forth, (span_filter f).forth)
  begins_term (for_object {j} {n} p y c v a u s f) =
      omega (arith, (span_intro y).forth, passed ts true j, (span_expr v).forth, passed ts true n, (span_expr u).forth, (span_dots s).forth, (span_filter f).forth)
  begins_term (quoted {m} {j} p ps q) = omega (arith, (span_parts ps).forth, passed ts m j)
  begins_term (heredoc {m} {j} p ps q) = omega (arith, (span_parts ps).forth, passed ts m j)
  begins_term (parens {j} p e q) = omega (arith, (span_expr e).forth, passed ts true j)

  pub begins_unary : {d : ℕ} {m : Bool} {e : Expr} {i j : ℕ} → IsUnary ts d m e i j → after_next ts m i ≤ j
  begins_unary (with_operator p o x) = (span_unary x).forth
  begins_unary (post p xs) = omega (arith, begins_term p, (span_tails xs).forth)

  pub begins_level : {d : ℕ} {m : Bool} {n : ℕ} {e : Expr} {i j : ℕ} → IsLevel ts d m n e i j → after_next ts m i ≤ j
  begins_level (lowest p) = begins_unary p
  begins_level (level p q) = omega (arith, begins_level p, (span_links q).forth)

  pub begins_expr : {d : ℕ} {m : Bool} {e : Expr} {i j : ℕ} → IsExpr ts d m e i j → after_next ts m i ≤ j
  begins_expr (plain p) = begins_level p
  begins_expr (conditional {m} {j} {n} c q x s y) = omega (arith, begins_level c, passed ts m j, (span_expr x).forth, passed ts m n, (span_expr y).forth)

  begins_filter : {d : ℕ} {close : Kind} {o : Option Expr} {i j : ℕ} → IsFilter ts d close o i j → after_next ts true i ≤ j
  begins_filter (no_filter p) = omega arith
  begins_filter (filter {j} v e p) = omega (arith, (span_expr e).forth, passed ts true j)

  begins_else : {d : ℕ} {m : Bool} {o : Option Template} {i j : ℕ} → IsElse ts d m o i j → after_next ts m i ≤ j
  begins_else (no_else e) = begins_keyword e
  begins_else (has_else q ps e) = omega (arith, begins_keyword q, (span_parts ps).forth, (span_keyword e).forth)

module _ {old new : List Token} {from to count : ℕ} (w : SameTokens old new from to count) where
  -- an operand with its operators, a term with its tails
  moved_chain : {i i' l l' : ℕ} {e e' : Expr} {xs xs' : List Operation} → Here w i i' → Here w l l' → i < l → moved.MovedExpr (Here w) (Same w) e e' → moved.MovedLinks (Here w) (Same w) xs xs'
      → moved.MovedExpr (Here w) (Same w) (node.binary i l e xs) (node.binary i' l' e' xs')
  moved_chain h g b v moved.no_links = v
  moved_chain h g b v (moved.links op x xs) = moved.moved_expr h g b (moved.chain v (moved.links op x xs))

  moved_tailed : {i i' l l' : ℕ} {x x' : Term} {xs xs' : List Tail} → Here w i i' → Here w l l' → i < l → moved.MovedTerm (Here w) (Same w) x x' → moved.MovedTails (Here w) (Same w) xs xs'
      → moved.MovedExpr (Here w) (Same w) (node.postfix i l x xs) (node.postfix i' l' x' xs')
  moved_tailed h g b v moved.no_tails = moved.moved_expr h g b (moved.plain v)
  moved_tailed h g b v (moved.tails x xs) = moved.moved_expr h g b (moved.tailed v (moved.tails x xs))

  -- there is a token before the end of a list in brackets or in braces, whatever is dropped
  items_next_within : {d : ℕ} {es : List Expr} {i j : ℕ} → IsItems old d es i j → j ≤ from + count → NextIsWithin w true i
  items_next_within (no_items {i} p) b = next_within w true i b
  items_next_within (last_item {i} {j} e p) b = earlier w true i j (span_expr e).forth (next_within w true j b)
  items_next_within (item {i} {j} {l} e p xs) b = earlier w true i j (span_expr e).forth (inside w true j l (omega (arith, (span_items xs).forth)) b)

  closes : (i : ℕ) → NextIs old false k.CloseBrace i → after_next old false i ≤ from + count → NextIsWithin w true i
  unfolding next_kind next_token after_next
  closes i p b = go (slice_get old (next_index old false i)) refl p
    where
      go : (o : Option Token) → slice_get old (next_index old false i) ≡ o → option_map (λ (t : Token). t.0) o ≡ Some k.CloseBrace → NextIsWithin w true i
      go None e h = let clash : None ≡ Some k.CloseBrace = h in absurd (cc)
      go (Some t) e h =
          let kind : t.0 ≡ k.CloseBrace = cc in
          earlier_than w true i (next_index old false i) t (not_before old false i) e (ap (is_skipped true) kind) (omega (arith, b))

  elems_next_within : {d : ℕ} {xs : List Elem} {i j : ℕ} → IsElems old d xs i j → j ≤ from + count → NextIsWithin w true i
  elems_next_within (no_elems {i} p) b = closes i p b
  elems_next_within (last_elem {i} {j} e p) b = earlier w true i j (span_elem e).forth (closes j p b)
  elems_next_within (elems {i} {n} e s xs) b = earlier w true i n (omega (arith, (span_elem e).forth, (span_sep s).forth)) (elems_next_within xs b)

  mutual
    pub move_expr : {d : ℕ} {m : Bool} {e : Expr} {i i' j : ℕ} → IsExpr old d m e i j → Here w i i' → NextIsWithin w m j
        → (e' : Expr) × (j' : ℕ) × Here w j j' × IsExpr new d m e' i' j' × moved.MovedExpr (Here w) (Same w) e e'
    move_expr (plain p) h c = let (e', j', hj, p', v) = move_level p h c in (e', j', hj, plain p', v)
    move_expr (conditional {m} {i} {j} {n} {l} p a x b y) h c =
        let cn = before w m m n l (span_expr y).forth c in
        let cj = before w m m j n (span_expr x).forth cn in
        let fine : after_next old m i ≤ l = begins_expr (conditional p a x b y) in
        let ci = before w m m i l fine c in
        let (p1, j', hj, p', v) = move_level p h cj in
        let (x1, n', hn, x', u) = move_expr x (afters w m hj cj) cn in
        let (y1, l', hl, y', t) = move_expr y (afters w m hn cn) c in
        (_, l', hl, conditional p' (at w m hj cj a) x' (at w m hn cn b) y', moved.moved_expr (starts_here w m h ci) hl (less old m i l fine) (moved.conditional v u t))

    pub move_level : {d : ℕ} {m : Bool} {n : ℕ} {e : Expr} {i i' j : ℕ} → IsLevel old d m n e i j → Here w i i' → NextIsWithin w m j
        → (e' : Expr) × (j' : ℕ) × Here w j j' × IsLevel new d m n e' i' j' × moved.MovedExpr (Here w) (Same w) e e'
    move_level (lowest p) h c = let (e', j', hj, p', v) = move_unary p h c in (e', j', hj, lowest p', v)
    move_level (level {m} {i} {j} {l} p q) h c =
        let cj = earlier w m j l (span_links q).forth c in
        let fine : after_next old m i ≤ l = omega (arith, begins_level p, (span_links q).forth) in
        let ci = before w m m i l fine c in
        let (e', j', hj, p', v) = move_level p h cj in
        let (xs', l', hl, q', vs) = move_links q hj c in
        (_, l', hl, level p' q', moved_chain (starts_here w m h ci) hl (less old m i l fine) v vs)

    pub move_links : {d : ℕ} {m : Bool} {n : ℕ} {xs : List Operation} {i i' j : ℕ} → IsOperations old d m n xs i j → Here w i i' → NextIsWithin w m j
        → (xs' : List Operation) × (j' : ℕ) × Here w j j' × IsOperations new d m n xs' i' j' × moved.MovedLinks (Here w) (Same w) xs xs'
    move_links no_operations h c = (_, _, h, no_operations, moved.no_links)
    move_links (operation {m} {op} {i} {j} {l} a o p q) h c =
        let cj = earlier w m j l (span_links q).forth c in
        let ci = before w m m i j (span_level p).forth cj in
        let (e', j', hj, p', v) = move_level p (afters w m h ci) cj in
        let (xs', l', hl, q', vs) = move_links q hj c in
        (_, l', hl, operation (at w m h ci a) o p' q', moved.links op v vs)

    pub move_unary : {d : ℕ} {m : Bool} {e : Expr} {i i' j : ℕ} → IsUnary old d m e i j → Here w i i' → NextIsWithin w m j
        → (e' : Expr) × (j' : ℕ) × Here w j j' × IsUnary new d m e' i' j' × moved.MovedExpr (Here w) (Same w) e e'
    move_unary (with_operator {m} {op} {i} {j} a o x) h c =
        let fine = (span_unary x).forth in
        let ci = before w m m i j fine c in
        let (e', j', hj, x', v) = move_unary x (afters w m h ci) c in
        (_, j', hj, with_operator (at w m h ci a) o x', moved.moved_expr (starts_here w m h ci) hj (less old m i j fine) (moved.prefixed op v))
    move_unary (post {m} {i} {j} {l} p q) h c =
        let cj = earlier w m j l (span_tails q).forth c in
        let fine : after_next old m i ≤ l = omega (arith, begins_term p, (span_tails q).forth) in
        let ci = before w m m i l fine c in
        let (x', j', hj, p', v) = move_term p h cj in
        let (xs', l', hl, q', vs) = move_tails q hj (next_within_end w m l c) in
        (_, l', hl, post p' q', moved_tailed (starts_here w m h ci) hl (less old m i l fine) v vs)

    pub move_tails : {d : ℕ} {m : Bool} {xs : List Tail} {i i' j : ℕ} → IsTails old d m xs i j → Here w i i' → j ≤ from + count
        → (xs' : List Tail) × (j' : ℕ) × Here w j j' × IsTails new d m xs' i' j' × moved.MovedTails (Here w) (Same w) xs xs'
    move_tails no_tails h b = (_, _, h, no_tails, moved.no_tails)
    move_tails (tails p q) h b =
        let (x', j', hj, p', v) = move_tail p h (omega (arith, b, (span_tails q).forth)) in
        let (xs', l', hl, q', vs) = move_tails q hj b in
        (_, l', hl, tails p' q', moved.tails v vs)

    pub move_tail : {d : ℕ} {m : Bool} {x : Tail} {i i' j : ℕ} → IsTail old d m x i j → Here w i i' → j ≤ from + count
        → (x' : Tail) × (j' : ℕ) × Here w j j' × IsTail new d m x' i' j' × moved.MovedTail (Here w) (Same w) x x'
    move_tail (by_name {m} {i} p q) h b =
        let c1 = next_within w m (after_next old m i) b in
        let c0 = just w m m i c1 in
        let h1 = afters w m h c0 in
        (_, _, afters w m h1 c1, by_name (at w m h c0 p) (at w m h1 c1 q), moved.by_name (starts w m h1 c1))
    move_tail (legacy {m} {i} p) h b = let c = next_within w m i b in (_, _, afters w m h c, legacy (at w m h c p), moved.legacy (starts w m h c))
    move_tail (attribute_splat {m} {i} p q) h b =
        let c1 = next_within w m (after_next old m i) b in
        let c0 = just w m m i c1 in
        let h1 = afters w m h c0 in
        (_, _, afters w m h1 c1, attribute_splat (at w m h c0 p) (at w m h1 c1 q), moved.attribute_splat)
    move_tail (full_splat {m} {i} p q r) h b =
        let c2 = next_within w true (after_next old true (after_next old m i)) b in
        let c1 = just w true true (after_next old m i) c2 in
        let c0 = just w true m i c1 in
        let h1 = afters w m h c0 in
        let h2 = afters w true h1 c1 in
        (_, _, afters w true h2 c2, full_splat (at w m h c0 p) (at w true h1 c1 q) (at w true h2 c2 r), moved.full_splat)
    move_tail (index {m} {i} {j} p x q) h b =
        let cj = next_within w true j b in
        let ci = before w true m i j (span_expr x).forth cj in
        let (e', j', hj, x', v) = move_expr x (afters w m h ci) cj in
        (_, _, afters w true hj cj, index (at w m h ci p) x' (at w true hj cj q), moved.index v)

    pub move_term : {d : ℕ} {m : Bool} {x : Term} {i i' j : ℕ} → IsTerm old d m x i j → Here w i i' → NextIsWithin w m j
        → (x' : Term) × (j' : ℕ) × Here w j j' × IsTerm new d m x' i' j' × moved.MovedTerm (Here w) (Same w) x x'
    move_term (number {m} {i} p) h c =
        let ci = just w m m i c in
        let h1 = afters w m h ci in
        (_, _, h1, number (at w m h ci p), moved.moved_term (starts_here w m h ci) h1 (less old m i (after_next old m i) (omega arith)) moved.number)
    move_term (identifier {m} {i} p q r) h c =
        let ci = just w m m i c in
        let h1 = afters w m h ci in
        (_, _, h1, identifier (at w m h ci p) (no_next w m h1 c q) (no_next w m h1 c r), moved.moved_term (starts_here w m h ci) h1 (less old m i (after_next old m i) (omega arith)) moved.identifier)
    move_term (call {m} {expand_final} {i} {j} {l} p ns q xs) h c =
        let b = next_within_end w m l c in
        let cj = inside w m j l (omega (arith, (span_arguments xs).forth)) b in
        let fine : after_next old m i ≤ l = begins_term (call p ns q xs) in
        let ci = before w m m i l fine c in
        let (ns1, j', hj, ns', u) = move_names w ns (afters w m h ci) (next_within_end w m j cj) in
        let (es1, l', hl, xs', v) = move_arguments xs (afters w m hj cj) b in
        (_, l', hl, call (at w m h ci p) ns' (at w m hj cj q) xs', moved.moved_term (starts_here w m h ci) hl (less old m i l fine) (moved.call expand_final (moved.numbers (starts w m h ci) u) v))
    move_term (tuple {m} {i} {j} p n xs) h c =
        let b = next_within_end w m j c in
        let fine : after_next old m i ≤ j = begins_term (tuple p n xs) in
        let ci = before w m m i j fine c in
        let h1 = afters w m h ci in
        let (es1, j', hj, xs', v) = move_items xs h1 b in
        (_, j', hj, tuple (at w m h ci p) (no_word w true h1 (items_next_within xs b) n) xs', moved.moved_term (starts_here w m h ci) hj (less old m i j fine) (moved.tuple v))
    move_term (object {m} {i} {j} {l} p n ls xs) h c =
        let b = next_within_end w m l c in
        let fine : after_next old m i ≤ l = begins_term (object p n ls xs) in
        let ci = before w m m i l fine c in
        let h1 = afters w m h ci in
        let cw = earlier w true (after_next old m i) j (span_lines ls).forth (elems_next_within xs b) in
        let (j', hj, ls') = move_lines w ls h1 (omega (arith, b, (span_elems xs).forth)) in
        let (xs1, l', hl, xs', v) = move_elems xs hj b in
        (_, l', hl, object (at w m h ci p) (no_word w true h1 cw n) ls' xs', moved.moved_term (starts_here w m h ci) hl (less old m i l fine) (moved.object v))
    move_term (for_tuple {m} {i} {j} {n} {l} p y a x f) h c =
        let b = next_within_end w m l c in
        let cn = inside w true n l (begins_filter f) b in
        let cj = before w true true j n (span_expr x).forth cn in
        let fine : after_next old m i ≤ l = begins_term (for_tuple p y a x f) in
        let ci = before w m m i l fine c in
        let (y1, j', hj, y', vy) = move_intro y (afters w m h ci) cj in
        let (x1, n', hn, x', vx) = move_expr x (afters w true hj cj) cn in
        let (f1, l', hl, f', vf) = move_filter f hn b in
        (_, l', hl, for_tuple (at w m h ci p) y' (at w true hj cj a) x' f', moved.moved_term (starts_here w m h ci) hl (less old m i l fine) (moved.for_tuple vy vx vf))
    move_term (for_object {m} {grouped} {i} {j} {n} {o} {q} {l} p y a x r u s f) h c =
        let b = next_within_end w m l c in
        let cq = inside w true q l (begins_filter f) b in
        let co = earlier w true o q (span_dots s).forth cq in
        let cn = before w true true n o (span_expr u).forth co in
        let cj = before w true true j n (span_expr x).forth cn in
        let fine : after_next old m i ≤ l = begins_term (for_object p y a x r u s f) in
        let ci = before w m m i l fine c in
        let (y1, j', hj, y', vy) = move_intro y (afters w m h ci) cj in
        let (x1, n', hn, x', vx) = move_expr x (afters w true hj cj) cn in
        let (u1, o', ho, u', vu) = move_expr u (afters w true hn cn) co in
        let (q', hq, s') = move_dots w s ho (next_within_end w true q cq) in
        let (f1, l', hl, f', vf) = move_filter f hq b in (
          _,
          l',
          hl,
          for_object {x = y1} {key = x1} {value = u1} {filter = f1} {j = j'} {n = n'} {o = o'} {q = q'} {l = l'} (at w m h ci p) y' (at w true hj cj a) x' (at w true hn cn r) u' s' f',
          moved.moved_term (starts_here w m h ci) hl (less old m i l fine) (moved.for_object grouped vy vx vu vf),
        )
    move_term (quoted {m} {i} {j} p ps q) h c =
        let cj = just w m m j c in
        let ci = before w m m i j (span_parts ps).forth cj in
        let h1 = afters w m h ci in
        let (ps1, j', hj, ps', v) = move_parts ps h1 (next_within_end w m j cj) in
        let hl = afters w m hj cj in (
          _,
          _,
          hl,
          quoted (at w m h ci p) ps' (at w m hj cj q),
          moved.moved_term (starts_here w m h ci) hl (less old m i (after_next old m j) (begins_term (quoted p ps q))) (moved.quoted (moved.template (firsts w m h1 hj (span_parts ps).forth cj) hj v)),
        )
    move_term (heredoc {m} {i} {j} p ps q) h c =
        let cj = just w m m j c in
        let ci = before w m m i j (span_parts ps).forth cj in
        let h1 = afters w m h ci in
        let (ps1, j', hj, ps', v) = move_parts ps h1 (next_within_end w m j cj) in
        let hl = afters w m hj cj in (
          _,
          _,
          hl,
          heredoc (at w m h ci p) ps' (at w m hj cj q),
          moved.moved_term (starts_here w m h ci) hl (less old m i (after_next old m j) (begins_term (heredoc p ps q))) (moved.heredoc (moved.template (firsts w m h1 hj (span_parts ps).forth cj) hj v)),
        )
    move_term (parens {m} {i} {j} p x q) h c =
        let cj = just w m true j c in
        let ci = before w true m i j (span_expr x).forth cj in
        let (e', j', hj, x', v) = move_expr x (afters w m h ci) cj in
        let hl = afters w true hj cj in
        (_, _, hl, parens (at w m h ci p) x' (at w true hj cj q), moved.moved_term (starts_here w m h ci) hl (less old m i (after_next old true j) (begins_term (parens p x q))) (moved.parens v))

    pub move_arguments : {d : ℕ} {es : List Expr} {s : Bool} {i i' j : ℕ} → IsArguments old d es s i j → Here w i i' → j ≤ from + count
        → (es' : List Expr) × (j' : ℕ) × Here w j j' × IsArguments new d es' s i' j' × moved.MovedExprs (Here w) (Same w) es es'
    move_arguments (no_arguments {i} p) h b = let c = next_within w true i b in (_, _, afters w true h c, no_arguments (at w true h c p), moved.no_exprs)
    move_arguments (last_argument {j} x p) h b =
        let c = next_within w true j b in
        let (e', j', hj, x', v) = move_expr x h c in
        (_, _, afters w true hj c, last_argument x' (at w true hj c p), moved.exprs v moved.no_exprs)
    move_arguments (spread_argument {j} x p q) h b =
        let c1 = next_within w true (after_next old true j) b in
        let c0 = just w true true j c1 in
        let (e', j', hj, x', v) = move_expr x h c0 in
        let h1 = afters w true hj c0 in
        (_, _, afters w true h1 c1, spread_argument x' (at w true hj c0 p) (at w true h1 c1 q), moved.exprs v moved.no_exprs)
    move_arguments (argument {j} {l} x p xs) h b =
        let c = inside w true j l (omega (arith, (span_arguments xs).forth)) b in
        let (e', j', hj, x', v) = move_expr x h c in
        let (es', l', hl, xs', vs) = move_arguments xs (afters w true hj c) b in
        (_, l', hl, argument x' (at w true hj c p) xs', moved.exprs v vs)

    pub move_items : {d : ℕ} {es : List Expr} {i i' j : ℕ} → IsItems old d es i j → Here w i i' → j ≤ from + count
        → (es' : List Expr) × (j' : ℕ) × Here w j j' × IsItems new d es' i' j' × moved.MovedExprs (Here w) (Same w) es es'
    move_items (no_items {i} p) h b = let c = next_within w true i b in (_, _, afters w true h c, no_items (at w true h c p), moved.no_exprs)
    move_items (last_item {j} x p) h b =
        let c = next_within w true j b in
        let (e', j', hj, x', v) = move_expr x h c in
        (_, _, afters w true hj c, last_item x' (at w true hj c p), moved.exprs v moved.no_exprs)
    move_items (item {j} {l} x p xs) h b =
        let c = inside w true j l (omega (arith, (span_items xs).forth)) b in
        let (e', j', hj, x', v) = move_expr x h c in
        let (es', l', hl, xs', vs) = move_items xs (afters w true hj c) b in
        (_, l', hl, item x' (at w true hj c p) xs', moved.exprs v vs)

    pub move_elems : {d : ℕ} {xs : List Elem} {i i' j : ℕ} → IsElems old d xs i j → Here w i i' → j ≤ from + count
        → (xs' : List Elem) × (j' : ℕ) × Here w j j' × IsElems new d xs' i' j' × moved.MovedElems (Here w) (Same w) xs xs'
    move_elems (no_elems {i} p) h b = let c = next_within w false i b in (_, _, afters w false h c, no_elems (at w false h c p), moved.no_elems)
    move_elems (last_elem {j} x p) h b =
        let c = next_within w false j b in
        let (x1, j', hj, x', v) = move_elem x h c in
        (_, _, afters w false hj c, last_elem x' (at w false hj c p), v _ _ moved.no_elems)
    move_elems (elems {j} {n} {l} x s xs) h b =
        let bn : n ≤ from + count = omega (arith, b, (span_elems xs).forth) in
        let c = inside w false j n (begins_sep s) bn in
        let (x1, j', hj, x', v) = move_elem x h c in
        let (n', hn, s') = move_sep w s hj bn in
        let (xs1, l', hl, xs', vs) = move_elems xs hn b in
        (_, l', hl, elems x' s' xs', v _ _ vs)

    -- an element, before others
    pub move_elem : {d : ℕ} {x : Elem} {i i' j : ℕ} → IsElem old d x i j → Here w i i' → NextIsWithin w false j
        → (x' : Elem) × (j' : ℕ) × Here w j j' × IsElem new d x' i' j' × ((xs xs' : List Elem) → moved.MovedElems (Here w) (Same w) xs xs' → moved.MovedElems (Here w) (Same w) (x ∷ xs) (x' ∷ xs'))
    move_elem (by_equals {j} {l} x p y) h c =
        let cj = before w false false j l (span_expr y).forth c in
        let (x1, j', hj, x', v) = move_expr x h cj in
        let (y1, l', hl, y', u) = move_expr y (afters w false hj cj) c in
        (_, l', hl, by_equals x' (at w false hj cj p) y', λ xs xs' vs. moved.elems v u vs)
    move_elem (by_colon {j} {l} x p y) h c =
        let cj = before w false false j l (span_expr y).forth c in
        let (x1, j', hj, x', v) = move_expr x h cj in
        let (y1, l', hl, y', u) = move_expr y (afters w false hj cj) c in
        (_, l', hl, by_colon x' (at w false hj cj p) y', λ xs xs' vs. moved.elems v u vs)

    pub move_intro : {d : ℕ} {x : Intro} {i i' j : ℕ} → IsIntro old d x i j → Here w i i' → NextIsWithin w true j
        → (x' : Intro) × (j' : ℕ) × Here w j j' × IsIntro new d x' i' j' × moved.MovedIntro (Here w) (Same w) x x'
    move_intro (intro {i} {j} {l} p q s r x) h c =
        let cj = before w true true j l (span_expr x).forth c in
        let bj = next_within_end w true j cj in
        let c1 = inside w true (after_next old true i) j (span_second s).forth bj in
        let c0 = just w true true i c1 in
        let h1 = afters w true h c0 in
        let (o', j', hj, s', vs) = move_second w s (afters w true h1 c1) bj in
        let (e', l', hl, x', v) = move_expr x (afters w true hj cj) c in
        (_, l', hl, intro (word w true h c0 p) (at w true h1 c1 q) s' (word w true hj cj r) x', moved.intro (starts_here w true h c0) hl (starts w true h1 c1) vs v)

    pub move_filter : {d : ℕ} {close : Kind} {o : Option Expr} {i i' j : ℕ} → IsFilter old d close o i j → Here w i i' → j ≤ from + count
        → (o' : Option Expr) × (j' : ℕ) × Here w j j' × IsFilter new d close o' i' j' × moved.MovedFilter (Here w) (Same w) o o'
    move_filter (no_filter {i} p) h b = let c = next_within w true i b in (_, _, afters w true h c, no_filter (at w true h c p), moved.no_filter)
    move_filter (filter {i} {j} r x p) h b =
        let cj = next_within w true j b in
        let ci = before w true true i j (span_expr x).forth cj in
        let (e', j', hj, x', v) = move_expr x (afters w true h ci) cj in
        (_, _, afters w true hj cj, filter (word w true h ci r) x' (at w true hj cj p), moved.filter v)

    pub move_parts : {d : ℕ} {m : Bool} {xs : List Part} {i i' j : ℕ} → IsParts old d m xs i j → Here w i i' → j ≤ from + count
        → (xs' : List Part) × (j' : ℕ) × Here w j j' × IsParts new d m xs' i' j' × moved.MovedParts (Here w) (Same w) xs xs'
    move_parts no_parts h b = (_, _, h, no_parts, moved.no_parts)
    move_parts (parts p q) h b =
        let (x', j', hj, p', v) = move_part p h (omega (arith, b, (span_parts q).forth)) in
        let (xs', l', hl, q', vs) = move_parts q hj b in
        (_, l', hl, parts p' q', moved.parts v vs)

    pub move_part : {d : ℕ} {m : Bool} {x : Part} {i i' j : ℕ} → IsPart old d m x i j → Here w i i' → j ≤ from + count
        → (x' : Part) × (j' : ℕ) × Here w j j' × IsPart new d m x' i' j' × moved.MovedPart (Here w) (Same w) x x'
    move_part (quote_text {m} {i} p) h b = let c = next_within w m i b in (_, _, afters w m h c, quote_text (at w m h c p), moved.literal (starts w m h c))
    move_part (here_text {m} {i} p) h b = let c = next_within w m i b in (_, _, afters w m h c, here_text (at w m h c p), moved.literal (starts w m h c))
    move_part (interp {m} {i} {j} p x q) h b =
        let cj = next_within w true j b in
        let ci = before w true m i j (span_expr x).forth cj in
        let (e', j', hj, x', v) = move_expr x (afters w m h ci) cj in
        (_, _, afters w true hj cj, interp (at w m h ci p) x' (at w true hj cj q), moved.interp v)
    move_part (if_directive {m} {i} {j} {n} {l} p r x q ps e) h b =
        let cn = inside w m n l (begins_else e) b in
        let cj = before w m true j n (span_parts ps).forth cn in
        let c1 = before w true true (after_next old m i) j (span_expr x).forth cj in
        let ci = just w true m i c1 in
        let h1 = afters w m h ci in
        let (x1, j', hj, x', v) = move_expr x (afters w true h1 c1) cj in
        let h2 = afters w true hj cj in
        let (ps1, n', hn, ps', vs) = move_parts ps h2 (next_within_end w m n cn) in
        let (e1, l', hl, e', ve) = move_else e hn b in (
          _,
          l',
          hl,
          if_directive (at w m h ci p) (word w true h1 c1 r) x' (at w true hj cj q) ps' e',
          moved.if_directive (starts_here w m h ci) hl v (moved.template (firsts w m h2 hn (span_parts ps).forth cn) hn vs) ve,
        )
    move_part (for_directive {m} {i} {j} {n} {l} p y q ps e) h b =
        let cn = inside w m n l (begins_keyword e) b in
        let cj = before w m true j n (span_parts ps).forth cn in
        let ci = before w true m i j (omega (arith, (span_intro y).forth)) cj in
        let (y1, j', hj, y', v) = move_intro y (afters w m h ci) cj in
        let h2 = afters w true hj cj in
        let (ps1, n', hn, ps', vs) = move_parts ps h2 (next_within_end w m n cn) in
        let (l', hl, e') = move_keyword w e hn b in
        (_, l', hl, for_directive (at w m h ci p) y' (at w true hj cj q) ps' e', moved.for_directive (starts_here w m h ci) hl v (moved.template (firsts w m h2 hn (span_parts ps).forth cn) hn vs))

    pub move_else : {d : ℕ} {m : Bool} {o : Option Template} {i i' j : ℕ} → IsElse old d m o i j → Here w i i' → j ≤ from + count
        → (o' : Option Template) × (j' : ℕ) × Here w j j' × IsElse new d m o' i' j' × moved.MovedElse (Here w) (Same w) o o'
    move_else (no_else e) h b = let (j', hj, e') = move_keyword w e h b in (_, j', hj, no_else e', moved.no_else)
    move_else (has_else {m} {i} {j} {n} {l} p ps e) h b =
        let cn = inside w m n l (begins_keyword e) b in
        let bn = next_within_end w m n cn in
        let (j', hj, p') = move_keyword w p h (omega (arith, bn, (span_parts ps).forth)) in
        let (ps1, n', hn, ps', vs) = move_parts ps hj bn in
        let (l', hl, e') = move_keyword w e hn b in
        (_, l', hl, has_else p' ps' e', moved.has_else (moved.template (firsts w m hj hn (span_parts ps).forth cn) hn vs))
