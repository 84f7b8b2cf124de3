-- What is derived from tokens is derived from others in which the same comes next everywhere: expressions and templates.
use Rattle.std.proofs.Common.{ℕ, suc, Bool, true, false, List, Option, subst}
use Rattle.hcl_token.specs.declared.kind.Kind.{Kind}
use Rattle.hcl_grammar.specs.declared.tree.Elem.{Elem}
use Rattle.hcl_grammar.specs.declared.tree.Expr.{Expr}
use Rattle.hcl_grammar.specs.declared.tree.Intro.{Intro}
use Rattle.hcl_grammar.specs.declared.tree.Operation.{Operation}
use Rattle.hcl_grammar.specs.declared.tree.Part.{Part}
use Rattle.hcl_grammar.specs.declared.tree.Tail.{Tail}
use Rattle.hcl_grammar.specs.declared.tree.Template.{Template}
use Rattle.hcl_grammar.specs.declared.tree.Term.{Term}
use Rattle.hcl_grammar.specs.Grammar.{IsExpr, plain, conditional, IsLevel, lowest, level, IsOperations, no_operations, operation, IsUnary, with_operator, post, IsTails, no_tails, tails, IsTail, by_name, legacy, attribute_splat, full_splat, index, IsTerm, number, identifier, call, tuple, object, for_tuple, for_object, quoted, heredoc, parens, IsArguments, no_arguments, last_argument, spread_argument, argument, IsItems, no_items, last_item, item, IsElems, no_elems, last_elem, elems, IsElem, by_equals, by_colon, IsIntro, intro, IsFilter, no_filter, filter, IsParts, no_parts, parts, IsPart, quote_text, here_text, interp, if_directive, for_directive, IsElse, no_else, has_else}
use Rattle.hcl_grammar.specs.Lookahead.{IsNewline, line_end, comment, IsNewlines, no_lines, line, IsEol, eol_line, eol_end, eol_comment, IsSep, comma, lines, IsNameTail, no_names, name, IsSecondName, no_second, second, IsEllipsis, no_ellipsis, ellipsis, IsKeyword, keyword}
use Rattle.hcl_grammar.specs.Tokens.{Token, after_next}
use Rattle.hcl_grammar_laws.proofs.Alike.{Alike, s0, s1, a1, a2, a3, first0, first1, at0, at1, at2, not1, is0, is1, word1, other1}

module _ {ts us : List Token} (h : Alike ts us) where
  -- from a place after a token
  following : (P : ℕ → Type 0) (m : Bool) (i : ℕ) → P (after_next ts m i) → P (after_next us m i)
  following P m i p = subst P (a1 h m i) p

  holds_after_two : (P : ℕ → Type 0) (m n : Bool) (i : ℕ) → P (after_next ts m (after_next ts n i)) → P (after_next us m (after_next us n i))
  holds_after_two P m n i p = subst P (a2 h m n i) p

  pub same_line : {i j : ℕ} → IsNewline ts i j → IsNewline us i j
  same_line (line_end {i} p) = rw (a1 h false i) (line_end (at0 h _ _ p))
  same_line (comment {i} p q) = rw (a2 h false false i) (comment (at0 h _ _ p) (at1 h _ _ _ q))

  pub same_lines : {i j : ℕ} → IsNewlines ts i j → IsNewlines us i j
  same_lines no_lines = no_lines
  same_lines (line p q) = line (same_line p) (same_lines q)

  pub same_eol : {i j : ℕ} → IsEol ts i j → IsEol us i j
  same_eol (eol_line p) = eol_line (same_line p)
  same_eol (eol_end p) = eol_end (is0 h _ _ p)
  same_eol (eol_comment {i} p q) = rw (a1 h false i) (eol_comment (at0 h _ _ p) (is1 h _ _ _ q))

  same_sep : {i j : ℕ} → IsSep ts i j → IsSep us i j
  same_sep (comma {i} {j} p q) = comma (at0 h _ _ p) (following (λ x. IsNewlines us x j) _ _ (same_lines q))
  same_sep (lines p q) = lines (same_line p) (same_lines q)

  same_names : {m : Bool} {ns : List ℕ} {i j : ℕ} → IsNameTail ts m ns i j → IsNameTail us m ns i j
  same_names no_names = no_names
  same_names (name {m} {ns} {i} {j} p q r) = rw (s1 h m m i) (name (at0 h _ _ p) (at1 h _ _ _ q) (holds_after_two (λ x. IsNameTail us m ns x j) _ _ _ (same_names r)))

  same_second : {o : Option ℕ} {i j : ℕ} → IsSecondName ts o i j → IsSecondName us o i j
  same_second no_second = no_second
  same_second (second {i} p q) = rw (s1 h true true i, a2 h true true i) (second (at0 h _ _ p) (at1 h _ _ _ q))

  same_dots : {b : Bool} {i j : ℕ} → IsEllipsis ts b i j → IsEllipsis us b i j
  same_dots no_ellipsis = no_ellipsis
  same_dots (ellipsis {i} p) = rw (a1 h true i) (ellipsis (at0 h _ _ p))

  same_keyword : {m : Bool} {w : List ℕ} {i j : ℕ} → IsKeyword ts m w i j → IsKeyword us m w i j
  same_keyword (keyword {m} {w} {i} p q r) = rw (a3 h true true m i) (keyword (at0 h _ _ p) (word1 h _ _ _ _ q) (at2 h _ _ _ _ r))

  mutual
    pub same_expr : {d : ℕ} {m : Bool} {e : Expr} {i j : ℕ} → IsExpr ts d m e i j → IsExpr us d m e i j
    same_expr (plain p) = plain (same_level p)
    same_expr (conditional {d} {m} {c} {then_branch} {else_branch} {i} {j} {n} {l} p q x r y) =
        rw (s0 h m i) (conditional (same_level p) (at0 h _ _ q) (following (λ z. IsExpr us d m then_branch z n) _ _ (same_expr x)) (at0 h _ _ r) (following (λ z. IsExpr us d m else_branch z l) _ _ (same_expr y)))

    same_level : {d : ℕ} {m : Bool} {n : ℕ} {e : Expr} {i j : ℕ} → IsLevel ts d m n e i j → IsLevel us d m n e i j
    same_level (lowest p) = lowest (same_unary p)
    same_level (level {m} {i} p q) = rw (s0 h m i) (level (same_level p) (same_links q))

    same_links : {d : ℕ} {m : Bool} {n : ℕ} {xs : List Operation} {i j : ℕ} → IsOperations ts d m n xs i j → IsOperations us d m n xs i j
    same_links no_operations = no_operations
    same_links (operation {d} {m} {n} {t} {op} {x} {links} {i} {j} p o q r) = operation (at0 h _ _ p) o (following (λ z. IsLevel us d m n x z j) _ _ (same_level q)) (same_links r)

    same_unary : {d : ℕ} {m : Bool} {e : Expr} {i j : ℕ} → IsUnary ts d m e i j → IsUnary us d m e i j
    same_unary (with_operator {d} {m} {t} {op} {e} {i} {j} p o q) = rw (s0 h m i) (with_operator (at0 h _ _ p) o (following (λ z. IsUnary us d m e z j) _ _ (same_unary q)))
    same_unary (post {m} {i} p q) = rw (s0 h m i) (post (same_term p) (same_tails q))

    same_tails : {d : ℕ} {m : Bool} {xs : List Tail} {i j : ℕ} → IsTails ts d m xs i j → IsTails us d m xs i j
    same_tails no_tails = no_tails
    same_tails (tails p q) = tails (same_tail p) (same_tails q)

    same_tail : {d : ℕ} {m : Bool} {x : Tail} {i j : ℕ} → IsTail ts d m x i j → IsTail us d m x i j
    same_tail (by_name {m} {i} p q) = rw (s1 h m m i, a2 h m m i) (by_name (at0 h _ _ p) (at1 h _ _ _ q))
    same_tail (legacy {m} {i} p) = rw (s0 h m i, a1 h m i) (legacy (at0 h _ _ p))
    same_tail (attribute_splat {m} {i} p q) = rw (a2 h m m i) (attribute_splat (at0 h _ _ p) (at1 h _ _ _ q))
    same_tail (full_splat {m} {i} p q r) = rw (a3 h true true m i) (full_splat (at0 h _ _ p) (at1 h _ _ _ q) (at2 h _ _ _ _ r))
    same_tail (index {d} {m} {e} {i} {j} p x q) = rw (a1 h true j) (index (at0 h _ _ p) (following (λ z. IsExpr us d true e z j) _ _ (same_expr x)) (at0 h _ _ q))

    same_term : {d : ℕ} {m : Bool} {x : Term} {i j : ℕ} → IsTerm ts d m x i j → IsTerm us d m x i j
    same_term (number {m} {i} p) = rw (s0 h m i, a1 h m i) (number (at0 h _ _ p))
    same_term (identifier {m} {i} p q r) = rw (s0 h m i, a1 h m i) (identifier (at0 h _ _ p) (not1 h _ _ _ q) (not1 h _ _ _ r))
    same_term (call {d} {m} {names} {es} {expand_final} {i} {j} {l} p ns q xs) =
        rw (s0 h m i) (call (at0 h _ _ p) (following (λ z. IsNameTail us m names z j) _ _ (same_names ns)) (at0 h _ _ q) (following (λ z. IsArguments us d es expand_final z l) _ _ (same_arguments xs)))
    same_term (tuple {d} {m} {es} {i} {j} p w xs) = rw (s0 h m i) (tuple (at0 h _ _ p) (other1 h _ _ _ _ w) (following (λ z. IsItems us d es z j) _ _ (same_items xs)))
    same_term (object {m} {i} {j} p w ls xs) = rw (s0 h m i) (object (at0 h _ _ p) (other1 h _ _ _ _ w) (following (λ z. IsNewlines us z j) _ _ (same_lines ls)) (same_elems xs))
    same_term (for_tuple {d} {m} {x} {value} {i} {j} {n} p y c v f) =
        rw (s0 h m i) (for_tuple (at0 h _ _ p) (following (λ z. IsIntro us d x z j) _ _ (same_intro y)) (at0 h _ _ c) (following (λ z. IsExpr us d true value z n) _ _ (same_expr v)) (same_filter f))
    same_term (for_object {d} {m} {x} {key} {value} {i} {j} {n} {o} p y c v a w s f) =
        rw (s0 h m i) (for_object (at0 h _ _ p) (following (λ z. IsIntro us d x z j) _ _ (same_intro y)) (at0 h _ _ c) (following (λ z. IsExpr us d true key z n) _ _ (same_expr v)) (at0 h _ _ a)
        (following (λ z. IsExpr us d true value z o) _ _ (same_expr w)) (same_dots s) (same_filter f))
    same_term (quoted {d} {m} {ps} {i} {j} p xs q) = rw (s0 h m i, first1 h m m i j, a1 h m j) (quoted (at0 h _ _ p) (following (λ z. IsParts us d m ps z j) _ _ (same_parts xs)) (at0 h _ _ q))
    same_term (heredoc {d} {m} {ps} {i} {j} p xs q) = rw (s0 h m i, first1 h m m i j, a1 h m j) (heredoc (at0 h _ _ p) (following (λ z. IsParts us d m ps z j) _ _ (same_parts xs)) (at0 h _ _ q))
    same_term (parens {d} {m} {e} {i} {j} p x q) = rw (s0 h m i, a1 h true j) (parens (at0 h _ _ p) (following (λ z. IsExpr us d true e z j) _ _ (same_expr x)) (at0 h _ _ q))

    same_arguments : {d : ℕ} {es : List Expr} {b : Bool} {i j : ℕ} → IsArguments ts d es b i j → IsArguments us d es b i j
    same_arguments (no_arguments {i} p) = rw (a1 h true i) (no_arguments (at0 h _ _ p))
    same_arguments (last_argument {j} p q) = rw (a1 h true j) (last_argument (same_expr p) (at0 h _ _ q))
    same_arguments (spread_argument {j} p q r) = rw (a2 h true true j) (spread_argument (same_expr p) (at0 h _ _ q) (at1 h _ _ _ r))
    same_arguments (argument {d} {e} {es} {expand_final} {i} {j} {l} p q r) = argument (same_expr p) (at0 h _ _ q) (following (λ z. IsArguments us d es expand_final z l) _ _ (same_arguments r))

    same_items : {d : ℕ} {es : List Expr} {i j : ℕ} → IsItems ts d es i j → IsItems us d es i j
    same_items (no_items {i} p) = rw (a1 h true i) (no_items (at0 h _ _ p))
    same_items (last_item {j} p q) = rw (a1 h true j) (last_item (same_expr p) (at0 h _ _ q))
    same_items (item {d} {e} {es} {i} {j} {l} p q r) = item (same_expr p) (at0 h _ _ q) (following (λ z. IsItems us d es z l) _ _ (same_items r))

    same_elems : {d : ℕ} {xs : List Elem} {i j : ℕ} → IsElems ts d xs i j → IsElems us d xs i j
    same_elems (no_elems {i} p) = rw (a1 h false i) (no_elems (at0 h _ _ p))
    same_elems (last_elem {j} p q) = rw (a1 h false j) (last_elem (same_elem p) (at0 h _ _ q))
    same_elems (elems p q r) = elems (same_elem p) (same_sep q) (same_elems r)

    same_elem : {d : ℕ} {x : Elem} {i j : ℕ} → IsElem ts d x i j → IsElem us d x i j
    same_elem (by_equals {d} {key} {value} {i} {j} {l} p q r) = by_equals (same_expr p) (at0 h _ _ q) (following (λ z. IsExpr us d false value z l) _ _ (same_expr r))
    same_elem (by_colon {d} {key} {value} {i} {j} {l} p q r) = by_colon (same_expr p) (at0 h _ _ q) (following (λ z. IsExpr us d false value z l) _ _ (same_expr r))

    same_intro : {d : ℕ} {x : Intro} {i j : ℕ} → IsIntro ts d x i j → IsIntro us d x i j
    same_intro (intro {d} {o} {e} {i} {j} {l} p q r w x) =
        rw (s0 h true i, s1 h true true i)
        (intro (h.words _ _ i p) (at1 h _ _ _ q) (holds_after_two (λ z. IsSecondName us o z j) _ _ _ (same_second r)) (h.words _ _ j w) (following (λ z. IsExpr us d true e z l) _ _ (same_expr x)))

    same_filter : {d : ℕ} {t : Kind} {o : Option Expr} {i j : ℕ} → IsFilter ts d t o i j → IsFilter us d t o i j
    same_filter (no_filter {i} p) = rw (a1 h true i) (no_filter (at0 h _ _ p))
    same_filter (filter {d} {close} {e} {i} {j} w x q) = rw (a1 h true j) (filter (h.words _ _ i w) (following (λ z. IsExpr us d true e z j) _ _ (same_expr x)) (at0 h _ _ q))

    same_parts : {d : ℕ} {m : Bool} {xs : List Part} {i j : ℕ} → IsParts ts d m xs i j → IsParts us d m xs i j
    same_parts no_parts = no_parts
    same_parts (parts p q) = parts (same_part p) (same_parts q)

    same_part : {d : ℕ} {m : Bool} {x : Part} {i j : ℕ} → IsPart ts d m x i j → IsPart us d m x i j
    same_part (quote_text {m} {i} p) = rw (s0 h m i, a1 h m i) (quote_text (at0 h _ _ p))
    same_part (here_text {m} {i} p) = rw (s0 h m i, a1 h m i) (here_text (at0 h _ _ p))
    same_part (interp {d} {m} {e} {i} {j} p x q) = rw (a1 h true j) (interp (at0 h _ _ p) (following (λ z. IsExpr us d true e z j) _ _ (same_expr x)) (at0 h _ _ q))
    same_part (if_directive {d} {m} {c} {then_branch} {else_branch} {i} {j} {n} {l} p w x q xs y) =
        rw (s0 h m i, first1 h m true j n)
        (if_directive (at0 h _ _ p) (word1 h _ _ _ _ w) (holds_after_two (λ z. IsExpr us d true c z j) _ _ _ (same_expr x)) (at0 h _ _ q) (following (λ z. IsParts us (suc d) m then_branch z n) _ _ (same_parts xs)) (same_else y))
    same_part (for_directive {d} {m} {x} {body} {i} {j} {n} {l} p y q xs w) =
        rw (s0 h m i, first1 h m true j n)
        (for_directive (at0 h _ _ p) (following (λ z. IsIntro us d x z j) _ _ (same_intro y)) (at0 h _ _ q) (following (λ z. IsParts us (suc d) m body z n) _ _ (same_parts xs)) (same_keyword w))

    same_else : {d : ℕ} {m : Bool} {o : Option Template} {i j : ℕ} → IsElse ts d m o i j → IsElse us d m o i j
    same_else (no_else p) = no_else (same_keyword p)
    same_else (has_else {d} {m} {ps} {i} {j} {n} p xs w) = rw (first0 h m j n) (has_else (same_keyword p) (same_parts xs) (same_keyword w))
