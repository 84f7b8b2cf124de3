-- The nodes of the tree of a list of tokens, in order: each is derived by its own tokens, and the
-- legacy indices among the tokens are those among them. One line for each production of the grammar.
use Rattle.std.proofs.Common.{◌≡◌, ℕ, zero, suc, ◌+◌, Bool, true, false, List, [], ◌∷◌, ◌++◌, map, drop, Option, Some, refl, sym, ap, ◌∙◌, subst, arith, append-nil, append_assoc}
use Rattle.std.specs.List.{flat_map, AllByRecursion}
use Rattle.hcl_token.specs.declared.kind.Kind.{Kind}
use Rattle.hcl_token.specs.declared.kind.Kind.TheVariants as k
use Rattle.hcl_grammar.specs.declared.tree.Attribute.{Attribute}
use Rattle.hcl_grammar.specs.declared.tree.BinaryOperator.{BinaryOperator}
use Rattle.hcl_grammar.specs.declared.tree.Content.{Content, out-Content}
use Rattle.hcl_grammar.specs.declared.tree.Content.TheVariants as inner
use Rattle.hcl_grammar.specs.declared.tree.Elem.{Elem}
use Rattle.hcl_grammar.specs.declared.tree.Expr.{Expr}
use Rattle.hcl_grammar.specs.declared.tree.ExprKind.{out-ExprKind}
use Rattle.hcl_grammar.specs.declared.tree.ExprKind.TheOpen.{Tail-F}
use Rattle.hcl_grammar.specs.declared.tree.ExprKind.TheVariants as form
use Rattle.hcl_grammar.specs.declared.tree.Intro.{Intro}
use Rattle.hcl_grammar.specs.declared.tree.Label.{Label}
use Rattle.hcl_grammar.specs.declared.tree.Member.{Member, out-Member}
use Rattle.hcl_grammar.specs.declared.tree.Member.TheVariants as item
use Rattle.hcl_grammar.specs.declared.tree.Operation.{Operation}
use Rattle.hcl_grammar.specs.declared.tree.Part.{Part, out-Part}
use Rattle.hcl_grammar.specs.declared.tree.Part.TheVariants as piece
use Rattle.hcl_grammar.specs.declared.tree.Primary.{out-Primary}
use Rattle.hcl_grammar.specs.declared.tree.Primary.TheVariants as shape
use Rattle.hcl_grammar.specs.declared.tree.Tail.{Tail, out-Tail}
use Rattle.hcl_grammar.specs.declared.tree.Tail.TheVariants as variant
use Rattle.hcl_grammar.specs.declared.tree.Template.{Template}
use Rattle.hcl_grammar.specs.declared.tree.Term.{Term}
use Rattle.hcl_grammar.specs.declared.tree.Tree.{Tree}
use Rattle.hcl_grammar.specs.declared.tree.UnaryOperator.{UnaryOperator}
use Rattle.hcl_grammar.specs.TreeLayers.{TailLayer}
use Rattle.hcl_grammar.specs.Bodies.{IsLabels, IsOneLineBody, nothing, one as just, IsMembers, no_members, blank, attribute, block, line_block, IsOptionalMark, no_mark, mark, IsFileEnd, at_end, at_comment, IsFile, file}
use Rattle.hcl_grammar.specs.Grammar.{IsExpr, plain, conditional, IsLevel, lowest, level, IsOperations, no_operations, operation, IsUnary, with_operator, post, IsTails, no_tails, tails, IsTail, by_name, legacy, attribute_splat, full_splat, index, IsTerm, number, identifier, call, tuple, object, for_tuple, for_object, quoted, heredoc, parens, IsArguments, no_arguments, last_argument, spread_argument, argument, IsItems, no_items, last_item, item as next_item, IsElems, no_elems, last_elem, elems, IsElem, by_equals, by_colon, IsIntro, intro, IsFilter, no_filter, filter, IsParts, no_parts, parts, IsPart, quote_text, here_text, interp, if_directive, for_directive, IsElse, no_else, has_else}
use Rattle.hcl_grammar.specs.Lookahead.{NextIs}
use Rattle.hcl_grammar.specs.Nodes as node
use Rattle.hcl_grammar.specs.Tokens.{Token, next_index, after_next, first_token_in}
use Rattle.hcl_grammar_laws.proofs.Opens.{open_conditional, open_chain, open_prefixed, open_tailed, open_plain, open_number, open_identifier, open_call, open_tuple, open_object, open_for_tuple, open_for_object, open_quoted, open_heredoc, open_parens, open_name, open_legacy, open_attribute_splat, open_full_splat, open_index, open_literal, open_interp, open_if, open_for, open_lines, open_line, open_attribute, open_block, call_arguments, for_tuple_intro, for_tuple_value, for_tuple_filter, for_object_intro, for_object_key, for_object_value, for_object_filter, if_directive_condition, if_directive_met, if_directive_unmet}
use Rattle.tf_rules.specs.declared.role.Role.{Role}
use Rattle.tf_rules.specs.declared.role.Role.TheVariants.{AttributeValue, Element, ObjectKey, ObjectValue, Argument, Parentheses, Index, Interpolation, Elsewhere}
use Rattle.tf_rules.specs.Preorder.{Node, expr, term, tail, part, member, children, splat_after, nodes_of_tails, expr_kind_children, elem_children, filter_children, primary_children, tail_children, else_children, part_children, option_children, content_children, member_children, IsPreorder, no_nodes, visit, PreorderIsUnique}
use Rattle.tf_rules_laws.specs.LegacyIndices.{is_legacy, legacy_tokens, tail_number, node_number, legacy_numbers}
use Rattle.hcl_grammar.specs.Operators.{levels}
use Rattle.tf_rules_laws.proofs.All.{both_all}
use Rattle.tf_rules_laws.proofs.LegacyPasses.{legacy_from, Passes, step, stay, after, pass, word, pass_line, pass_lines, pass_eol, pass_sep, pass_names, pass_second, pass_dots, pass_keyword, pass_labels, binary_other, unary_other, ends}
use Rattle.tf_rules_laws.proofs.NodeTokens.{expr_derived, level_derived, tail_derived, term_derived, part_derived, body_derived, member_derived}
use Rattle.tf_rules_laws.specs.NodeSpans.{DerivesBody, Derives, NodesSpanTheirTokens}

legacy-append : (xs ys : List Node) → legacy_numbers (xs ++ ys) ≡ legacy_numbers xs ++ legacy_numbers ys
legacy-append [] ys = refl
legacy-append (x ∷ xs) ys = ap (λ (ns : List ℕ). node_number x ++ ns) (legacy-append xs ys) ∙ sym (append_assoc (node_number x) (legacy_numbers xs) (legacy_numbers ys))

pub preorder-append : {ns ms xs ys : List Node} → IsPreorder ns xs → IsPreorder ms ys
    → IsPreorder (ns ++ ms) (xs ++ ys)
preorder-append no_nodes b = b
preorder-append {ms = ms} {ys = ys} (visit {n = n} {ns = ns} {inside = inside} {others = others} a c) b =
    subst (λ (l : List Node). IsPreorder (n ∷ (ns ++ ms)) (n ∷ l)) (sym (append_assoc inside others ys)) (visit a (preorder-append c b))

-- From one place to another these nodes are read. They and all that are in them are a list, each is
-- derived by its own tokens, and its legacy indices are those of the tokens there.
record Reads (ts : List Token) (ns : List Node) (i j : ℕ) : Type 0 where
  nodes : List Node
  preorder : IsPreorder ns nodes
  derived : AllByRecursion (Derives ts) nodes
  indices : legacy_from ts i ≡ legacy_numbers nodes ++ legacy_from ts j

module _ {ts : List Token} where
  none_at : (i : ℕ) → Reads ts [] i i
  none_at i = record { nodes = []; preorder = no_nodes; derived = tt; indices = refl }

  following : {ns : List Node} {i j l : ℕ} → Passes ts i j → Reads ts ns j l → Reads ts ns i l
  following p q = record { nodes = q.nodes; preorder = q.preorder; derived = q.derived; indices = p.is ∙ q.indices }

  before : {ns : List Node} {i j l : ℕ} → Reads ts ns i j → Passes ts j l → Reads ts ns i l
  before p q = record { nodes = p.nodes; preorder = p.preorder; derived = p.derived; indices = p.indices ∙ ap (λ (xs : List ℕ). legacy_numbers p.nodes ++ xs) q.is }

  tokens : {i j : ℕ} → Passes ts i j → Reads ts [] i j
  tokens {i} {j} p = following p (none_at j)

  joined : (ns ms : List Node) {i j l : ℕ} → Reads ts ns i j → Reads ts ms j l → Reads ts (ns ++ ms) i l
  joined ns ms {i} {j} {l} p q = record {
    nodes = p.nodes ++ q.nodes;
    preorder = preorder-append p.preorder q.preorder;
    derived = both_all (Derives ts) p.nodes q.nodes p.derived q.derived;
    indices = p.indices ∙ (ap (λ (xs : List ℕ). legacy_numbers p.nodes ++ xs) q.indices
        ∙ (sym (append_assoc (legacy_numbers p.nodes) (legacy_numbers q.nodes) (legacy_from ts l))
        ∙ ap (λ (xs : List ℕ). xs ++ legacy_from ts l) (sym (legacy-append p.nodes q.nodes))));
  }

  cons : {n : Node} {ns : List Node} {i j l : ℕ} → Reads ts (n ∷ []) i j → Reads ts ns j l → Reads ts (n ∷ ns) i l
  cons {n} {ns} p q = joined (n ∷ []) ns p q

  same_nodes : {ns ms : List Node} {i j : ℕ} → ns ≡ ms → Reads ts ms i j → Reads ts ns i j
  same_nodes {i = i} {j = j} e r = subst (λ (xs : List Node). Reads ts xs i j) (sym e) r

  -- a node that is no legacy index
  visited : {i j : ℕ} (n : Node) → Derives ts n → node_number n ≡ [] → Reads ts (children n) i j → Reads ts (n ∷ []) i j
  visited {i} {j} n own none r = record {
    nodes = n ∷ (r.nodes ++ []);
    preorder = visit {inside = r.nodes} {others = []} r.preorder no_nodes;
    derived = (own, both_all (Derives ts) r.nodes [] r.derived tt);
    indices = r.indices ∙ (ap (λ (xs : List Node). legacy_numbers xs ++ legacy_from ts j) (sym (append-nil r.nodes))
        ∙ ap (λ (own : List ℕ). (own ++ legacy_numbers (r.nodes ++ [])) ++ legacy_from ts j) (sym none));
  }

  an_expr : {d : ℕ} {m : Bool} {e : Expr} {i j : ℕ} (role : Role) → IsExpr ts d m e i j → Reads ts (expr_kind_children role (out-ExprKind e.kind)) i j → Reads ts (expr role e ∷ []) i j
  an_expr {e} role w r = visited (expr role e) (expr_derived role w) refl r

  an_operand : {d : ℕ} {m : Bool} {l : ℕ} {e : Expr} {i j : ℕ} (k : ℕ) → k + l ≡ levels → IsLevel ts d m l e i j → Reads ts (expr_kind_children Elsewhere (out-ExprKind e.kind)) i j
      → Reads ts (expr Elsewhere e ∷ []) i j
  an_operand {e} k h w r = visited (expr Elsewhere e) (level_derived Elsewhere k h w) refl r

  a_term : {d : ℕ} {m : Bool} {t : Term} {i j : ℕ} (role : Role) → IsTerm ts d m t i j → Reads ts (primary_children (out-Primary t.kind)) i j → Reads ts (term role t ∷ []) i j
  a_term {t} role w r = visited (term role t) (term_derived role w) refl r

  a_part : {d : ℕ} {m : Bool} {x : Part} {i j : ℕ} → IsPart ts d m x i j → Reads ts (part_children (out-Part x)) i j → Reads ts (part x ∷ []) i j
  a_part {x} w r = visited (part x) (part_derived w) refl r

  a_member : {d : ℕ} {x : Member} {i j n l : ℕ} → IsMembers ts d (x ∷ []) n l → Reads ts (member_children (out-Member x)) i j → Reads ts (member x ∷ []) i j
  a_member {x} w r = visited (member x) (member_derived w) refl r

  a_tail : {d : ℕ} {m : Bool} {x : Tail} {i j : ℕ} (splat : Bool) → IsTail ts d m x i j → (l : TailLayer) → out-Tail x ≡ l → tail_number l ≡ [] → Reads ts (tail_children l) i j
      → Reads ts (tail splat x ∷ []) i j
  a_tail {x} {i} {j} splat w l h none r =
      visited (tail splat x) (tail_derived splat w) (ap tail_number h ∙ none) (subst (λ (z : TailLayer). Reads ts (tail_children z) i j) (sym h) r)

  -- one that is
  a_legacy : (splat : Bool) (d : ℕ) (m : Bool) (i : ℕ) → NextIs ts m k.DotIndex i → Reads ts (tail splat (variant.LegacyIndex (next_index ts m i)) ∷ []) i (after_next ts m i)
  a_legacy splat d m i p =
      let n = next_index ts m i in
      let h = open_legacy n in
      record {
        nodes = tail splat (variant.LegacyIndex n) ∷ [];
        preorder = visit {inside = []} {others = []} (subst (λ (z : TailLayer). IsPreorder (tail_children z) []) (sym h) no_nodes) no_nodes;
        derived = (tail_derived splat (legacy {d = d} p), tt);
        indices = step ts m i k.DotIndex p ∙ ap (λ (z : TailLayer). (tail_number z ++ []) ++ legacy_from ts (after_next ts m i)) (sym h);
      }

-- ---- the parts of nodes whose fields do not compute

pub at_call : (ns : List ℕ) (es : List Expr) (s : Bool)
    → primary_children (out-Primary (node.call ns es s)) ≡ map (expr Argument) es
unfolding node.call
at_call ns es s = simp (open_call) (simp (call_arguments) refl)

pub at_for_tuple : (x : Intro) (v : Expr) (o : Option Expr)
    → primary_children (out-Primary (node.for_tuple x v o))
    ≡ expr Elsewhere x.collection ∷ expr Elsewhere v ∷ filter_children o
unfolding node.for_tuple
at_for_tuple x v o = simp (open_for_tuple) (simp (for_tuple_intro, for_tuple_value, for_tuple_filter) refl)

pub at_for_object : (x : Intro) (key v : Expr) (s : Bool) (o : Option Expr)
    → primary_children (out-Primary (node.for_object x key v s o))
    ≡ expr Elsewhere x.collection ∷ expr Elsewhere key ∷ expr Elsewhere v ∷ filter_children o
unfolding node.for_object
at_for_object x key v s o = simp (open_for_object)
    (simp (for_object_intro, for_object_key, for_object_value, for_object_filter) refl)

pub at_if : (i j : ℕ) (c : Expr) (t : Template) (o : Option Template)
    → part_children (out-Part (node.if_part i j c t o))
    ≡ expr Elsewhere c ∷ (map part t.parts ++ else_children o)
unfolding node.if_part
at_if i j c t o = simp (open_if) (simp (if_directive_condition, if_directive_met, if_directive_unmet) refl)

pub at_for : (i j : ℕ) (x : Intro) (t : Template)
    → part_children (out-Part (node.for_part i j x t)) ≡ expr Elsewhere x.collection ∷ map part t.parts
unfolding node.for_part
at_for i j x t = simp (open_for) refl

-- ---- the grammar

module _ {ts : List Token} where
  mutual
    unfolding node.expr node.operation node.term node.call node.template node.elem node.intro node.for_part

    in_expr : {d : ℕ} {m : Bool} {e : Expr} {i j : ℕ} (role : Role) → IsExpr ts d m e i j → Reads ts (expr_kind_children role (out-ExprKind e.kind)) i j
    in_expr role (plain p) = in_level role zero refl p
    in_expr role (conditional {m} {c} {then_branch} {else_branch} {i} {j} {n} {l} p q x s y) =
        same_nodes (ap (expr_kind_children role) (open_conditional c then_branch else_branch))
        (cons (before (an_operand zero refl p (in_level Elsewhere zero refl p)) (pass m j k.Question refl q))
        (cons (before (an_expr Elsewhere x (in_expr Elsewhere x)) (pass m n k.Colon refl s))
        (an_expr Elsewhere y (in_expr Elsewhere y))))

    in_level : {d : ℕ} {m : Bool} {n : ℕ} {e : Expr} {i j : ℕ} (role : Role) (k : ℕ) → k + n ≡ levels → IsLevel ts d m n e i j → Reads ts (expr_kind_children role (out-ExprKind e.kind)) i j
    in_level role k h (lowest p) = in_unary role p
    in_level role k h (level p no_operations) = in_level role (suc k) (omega (arith, h)) p
    in_level role k h (level {m} {n} {head} {i} {j} {l} p (operation {t} {op} {x} {links} q o y ys)) =
        let lower : suc k + n ≡ levels = omega (arith, h) in
        same_nodes (ap (expr_kind_children role) (open_chain head (node.operation op x ∷ links)))
        (cons (an_operand (suc k) lower p (in_level Elsewhere (suc k) lower p))
        (following (pass m j t (binary_other t n op o) q) (cons (an_operand (suc k) lower y (in_level Elsewhere (suc k) lower y)) (in_links (suc k) lower ys))))

    in_links : {d : ℕ} {m : Bool} {n : ℕ} {links : List Operation} {i j : ℕ} (k : ℕ) → k + n ≡ levels → IsOperations ts d m n links i j → Reads ts (map (λ (l : Operation). expr Elsewhere l.operand) links) i j
    in_links k h (no_operations {i = i}) = none_at i
    in_links k h (operation {m} {n} {t} {op} {x} {links} {i} p o y ys) =
        following (pass m i t (binary_other t n op o) p) (cons (an_operand k h y (in_level Elsewhere k h y)) (in_links k h ys))

    in_unary : {d : ℕ} {m : Bool} {e : Expr} {i j : ℕ} (role : Role) → IsUnary ts d m e i j → Reads ts (expr_kind_children role (out-ExprKind e.kind)) i j
    in_unary role (with_operator {m} {t} {op} {e} {i} {j} p o x) =
        same_nodes (ap (expr_kind_children role) (open_prefixed op e)) (following (pass m i t (unary_other t op o) p) (an_operand levels refl (lowest x) (in_unary Elsewhere x)))
    in_unary role (post {m} {head} {i} {l} p no_tails) = same_nodes (ap (expr_kind_children role) (open_plain head)) (a_term role p (in_term p))
    in_unary role (post {m} {head} {i} {l} p (tails {x} {xs} w ws)) =
        same_nodes (ap (expr_kind_children role) (open_tailed head (x ∷ xs)))
        (cons (a_term Elsewhere p (in_term p)) (cons (in_tail false w) (in_tails (splat_after false (out-Tail x)) ws)))

    in_tails : {d : ℕ} {m : Bool} {xs : List Tail} {i j : ℕ} (splat : Bool) → IsTails ts d m xs i j → Reads ts (nodes_of_tails splat xs) i j
    in_tails splat (no_tails {i = i}) = none_at i
    in_tails splat (tails {x} w ws) = cons (in_tail splat w) (in_tails (splat_after splat (out-Tail x)) ws)

    in_tail : {d : ℕ} {m : Bool} {x : Tail} {i j : ℕ} (splat : Bool) → IsTail ts d m x i j → Reads ts (tail splat x ∷ []) i j
    in_tail splat (by_name {d} {m} {i} p q) =
        let n = next_index ts m (after_next ts m i) in
        a_tail splat (by_name {d = d} p q) (Tail-F.Name n) (open_name n) refl (tokens (after (pass m i k.Dot refl p) (pass m (after_next ts m i) k.Identifier refl q)))
    in_tail splat (legacy {d} {m} {i} p) = a_legacy splat d m i p
    in_tail splat (attribute_splat {d} {m} {i} p q) =
        a_tail splat (attribute_splat {d = d} p q) Tail-F.AttributeSplat open_attribute_splat refl (tokens (after (pass m i k.Dot refl p) (pass m (after_next ts m i) k.Star refl q)))
    in_tail splat (full_splat {d} {m} {i} p q c) =
        a_tail splat (full_splat {d = d} p q c) Tail-F.FullSplat open_full_splat refl
        (tokens (after (pass m i k.OpenBracket refl p) (after (pass true (after_next ts m i) k.Star refl q) (pass true (after_next ts true (after_next ts m i)) k.CloseBracket refl c))))
    in_tail splat (index {m} {e} {i} {j} p x q) =
        a_tail splat (index p x q) (Tail-F.Index e) (open_index e) refl
        (following (pass m i k.OpenBracket refl p) (before (an_expr Index x (in_expr Index x)) (pass true j k.CloseBracket refl q)))

    in_term : {d : ℕ} {m : Bool} {t : Term} {i j : ℕ} → IsTerm ts d m t i j → Reads ts (primary_children (out-Primary t.kind)) i j
    in_term (number {m} {i} p) = same_nodes (ap primary_children open_number) (tokens (pass m i k.Number refl p))
    in_term (identifier {m} {i} p q r) = same_nodes (ap primary_children open_identifier) (tokens (pass m i k.Identifier refl p))
    in_term (call {m} {names} {es} {expand_final} {i} {j} {l} p ns q xs) =
        same_nodes (ap primary_children (open_call _) ∙ ap (map (expr Argument)) (call_arguments (next_index ts m i ∷ names) es expand_final))
        (following (after (pass m i k.Identifier refl p) (after (pass_names ns) (pass m j k.OpenParen refl q))) (in_arguments xs))
    in_term (tuple {m} {es} {i} {j} p w xs) = same_nodes (ap primary_children (open_tuple es)) (following (pass m i k.OpenBracket refl p) (in_items xs))
    in_term (object {m} {xs} {i} {l} p w ls es) =
        same_nodes (ap primary_children (open_object xs)) (following (after (pass m i k.OpenBrace refl p) (pass_lines ls)) (in_elems es))
    in_term (for_tuple {m} {x} {value} {filter = o} {i} {j} {l} p y c v f) =
        same_nodes (at_for_tuple x value o)
        (following (pass m i k.OpenBracket refl p) (cons (before (in_intro y) (pass true j k.Colon refl c)) (cons (an_expr Elsewhere v (in_expr Elsewhere v)) (in_filter refl f))))
    in_term (for_object {m} {x} {key} {value} {grouped} {filter = o} {i} {j} {n} {l} p y c a w v s f) =
        same_nodes (at_for_object x key value grouped o)
        (following (pass m i k.OpenBrace refl p) (cons (before (in_intro y) (pass true j k.Colon refl c))
        (cons (before (an_expr Elsewhere a (in_expr Elsewhere a)) (pass true n k.FatArrow refl w))
        (cons (before (an_expr Elsewhere v (in_expr Elsewhere v)) (pass_dots s)) (in_filter refl f)))))
    in_term (quoted {m} {ps} {i} {j} p xs q) =
        same_nodes (ap primary_children (open_quoted _))
        (following (pass m i k.QuoteOpen refl p) (before (in_parts xs) (pass m j k.QuoteClose refl q)))
    in_term (heredoc {m} {ps} {i} {j} p xs q) =
        same_nodes (ap primary_children (open_heredoc _))
        (following (pass m i k.HereOpen refl p) (before (in_parts xs) (pass m j k.HereClose refl q)))
    in_term (parens {m} {e} {i} {j} p x q) =
        same_nodes (ap primary_children (open_parens e))
        (following (pass m i k.OpenParen refl p) (before (an_expr Parentheses x (in_expr Parentheses x)) (pass true j k.CloseParen refl q)))

    in_arguments : {d : ℕ} {es : List Expr} {s : Bool} {i j : ℕ} → IsArguments ts d es s i j → Reads ts (map (expr Argument) es) i j
    in_arguments (no_arguments {i = i} p) = tokens (pass true i k.CloseParen refl p)
    in_arguments (last_argument {e} {j} x p) = before (an_expr Argument x (in_expr Argument x)) (pass true j k.CloseParen refl p)
    in_arguments (spread_argument {e} {j} x q p) =
        before (an_expr Argument x (in_expr Argument x)) (after (pass true j k.Ellipsis refl q) (pass true (after_next ts true j) k.CloseParen refl p))
    in_arguments (argument {e} {j} x p xs) = cons (before (an_expr Argument x (in_expr Argument x)) (pass true j k.Comma refl p)) (in_arguments xs)

    in_items : {d : ℕ} {es : List Expr} {i j : ℕ} → IsItems ts d es i j → Reads ts (map (expr Element) es) i j
    in_items (no_items {i = i} p) = tokens (pass true i k.CloseBracket refl p)
    in_items (last_item {e} {j} x p) = before (an_expr Element x (in_expr Element x)) (pass true j k.CloseBracket refl p)
    in_items (next_item {e} {j} x p xs) = cons (before (an_expr Element x (in_expr Element x)) (pass true j k.Comma refl p)) (in_items xs)

    in_elems : {d : ℕ} {xs : List Elem} {i j : ℕ} → IsElems ts d xs i j → Reads ts (flat_map elem_children xs) i j
    in_elems (no_elems {i = i} p) = tokens (pass false i k.CloseBrace refl p)
    in_elems (last_elem {j} e p) = before (in_elem e) (pass false j k.CloseBrace refl p)
    in_elems (elems {x} {xs} e s es) = joined (elem_children x) (flat_map elem_children xs) (before (in_elem e) (pass_sep s)) (in_elems es)

    in_elem : {d : ℕ} {x : Elem} {i j : ℕ} → IsElem ts d x i j → Reads ts (elem_children x) i j
    in_elem (by_equals {key} {value} {j} a p b) =
        cons (before (an_expr ObjectKey a (in_expr ObjectKey a)) (pass false j k.Equal refl p)) (an_expr ObjectValue b (in_expr ObjectValue b))
    in_elem (by_colon {key} {value} {j} a p b) =
        cons (before (an_expr ObjectKey a (in_expr ObjectKey a)) (pass false j k.Colon refl p)) (an_expr ObjectValue b (in_expr ObjectValue b))

    in_intro : {d : ℕ} {x : Intro} {i j : ℕ} → IsIntro ts d x i j → Reads ts (expr Elsewhere x.collection ∷ []) i j
    in_intro (intro {o} {e} {i} {j} {l} w p s v x) =
        following (after (word true _ i w) (after (pass true (after_next ts true i) k.Identifier refl p) (after (pass_second s) (word true _ j v)))) (an_expr Elsewhere x (in_expr Elsewhere x))

    in_filter : {d : ℕ} {close : Kind} {o : Option Expr} {i j : ℕ} → is_legacy close ≡ false → IsFilter ts d close o i j → Reads ts (filter_children o) i j
    in_filter c (no_filter {close} {i} p) = tokens (pass true i close c p)
    in_filter c (filter {close} {e} {i} {j} w x p) = following (word true _ i w) (before (an_expr Elsewhere x (in_expr Elsewhere x)) (pass true j close c p))

    in_parts : {d : ℕ} {m : Bool} {ps : List Part} {i j : ℕ} → IsParts ts d m ps i j → Reads ts (map part ps) i j
    in_parts (no_parts {i = i}) = none_at i
    in_parts (parts w ws) = cons (a_part w (in_part w)) (in_parts ws)

    in_part : {d : ℕ} {m : Bool} {x : Part} {i j : ℕ} → IsPart ts d m x i j → Reads ts (part_children (out-Part x)) i j
    in_part (quote_text {m} {i} p) = same_nodes (ap part_children (open_literal _)) (tokens (pass m i k.QuoteLit refl p))
    in_part (here_text {m} {i} p) = same_nodes (ap part_children (open_literal _)) (tokens (pass m i k.HereLit refl p))
    in_part (interp {m} {e} {i} {j} p x q) =
        same_nodes (ap part_children (open_interp e)) (following (pass m i k.InterpOpen refl p) (before (an_expr Interpolation x (in_expr Interpolation x)) (pass true j k.SeqClose refl q)))
    in_part (if_directive {m} {c} {then_branch} {else_branch} {i} {j} {n} {l} p w x q ps o) =
        same_nodes (at_if (next_index ts m i) l c
        (node.template (first_token_in ts m (after_next ts true j) n) n then_branch) else_branch)
        (following (after (pass m i k.DirectiveOpen refl p) (word true _ (after_next ts m i) w))
        (cons (before (an_expr Elsewhere x (in_expr Elsewhere x)) (pass true j k.SeqClose refl q)) (joined (map part then_branch) (else_children else_branch) (in_parts ps) (in_else o))))
    in_part (for_directive {m} {x} {body} {i} {j} {n} {l} p y q ps s) =
        same_nodes (ap part_children (open_for _))
        (following (pass m i k.DirectiveOpen refl p) (cons (before (in_intro y) (pass true j k.SeqClose refl q)) (before (in_parts ps) (pass_keyword s))))

    in_else : {d : ℕ} {m : Bool} {o : Option Template} {i j : ℕ} → IsElse ts d m o i j → Reads ts (else_children o) i j
    in_else (no_else s) = tokens (pass_keyword s)
    in_else (has_else {m} {ps} {j} {n} s w t) =
        following (pass_keyword s) (before (in_parts w) (pass_keyword t))

  -- ---- members

  -- a name and `=`
  pass_name : (i : ℕ) → NextIs ts false k.Identifier i → NextIs ts false k.Equal (after_next ts false i) → Passes ts i (after_next ts false (after_next ts false i))
  pass_name i p q = after (pass false i k.Identifier refl p) (pass false (after_next ts false i) k.Equal refl q)

  -- a block up to its opening brace
  pass_head : {ls : List Label} {i j : ℕ} → NextIs ts false k.Identifier i → IsLabels ts ls (after_next ts false i) j → NextIs ts false k.OpenBrace j → Passes ts i (after_next ts false j)
  pass_head {i = i} {j = j} p ls b = after (pass false i k.Identifier refl p) (after (pass_labels ls) (pass false j k.OpenBrace refl b))

  in_line : {d : ℕ} {o : Option Attribute} {i j : ℕ} → IsOneLineBody ts d o i j → Reads ts (option_children o) i j
  unfolding node.attribute
  in_line (nothing {i = i}) = none_at i
  in_line (just {e} {i} {j} p q x) =
      following (pass_name i p q) (an_expr AttributeValue x (in_expr AttributeValue x))

  in_members : {d : ℕ} {ms : List Member} {i j : ℕ} → IsMembers ts d ms i j → Reads ts (map member ms) i j
  unfolding node.attribute node.block node.body
  in_members (no_members {i = i}) = none_at i
  in_members (blank l r) = following (pass_line l) (in_members r)
  in_members (attribute {e} {i} {n} p q x l r) =
      cons (a_member (attribute p q x l no_members)
      (same_nodes (ap member_children (open_attribute _)) (following (pass_name i p q) (before (an_expr AttributeValue x (in_expr AttributeValue x)) (pass_eol l)))))
      (in_members r)
  in_members (block {ls} {bs} {i} {n} {o} {q} p ns b s w c l r) =
      cons (a_member (block p ns b s w c l no_members)
      (same_nodes (ap member_children (open_block _)) (same_nodes (ap content_children (open_lines _))
      (following (after (pass_head p ns b) (pass_line s)) (before (in_members w) (after (pass false o k.CloseBrace refl c) (pass_eol l)))))))
      (in_members r)
  in_members (line_block {ls} {a} {i} {o} {q} p ns b t c l r) =
      cons (a_member (line_block p ns b t c l no_members)
      (same_nodes (ap member_children (open_block _)) (same_nodes (ap content_children (open_line a))
      (following (pass_head p ns b) (before (in_line t) (after (pass false o k.CloseBrace refl c) (pass_eol l)))))))
      (in_members r)

  -- ---- a text

  pass_mark : {i : ℕ} → IsOptionalMark ts i → Passes ts 0 i
  pass_mark no_mark = stay 0
  pass_mark (mark p) = pass false 0 k.Mark refl p

  at_file_end : {i : ℕ} → IsFileEnd ts i → legacy_from ts i ≡ []
  at_file_end (at_end {i} h) = ends ts i h
  at_file_end (at_comment {i} p h) = (pass false i k.LineComment refl p).is ∙ ends ts (after_next ts false i) h

from_start : (ts : List Token) → drop 0 ts ≡ ts
from_start [] = refl
from_start (t ∷ ts) = refl

-- the nodes of a tree, each derived by its own tokens, and their legacy indices
pub record TreeNodes (ts : List Token) (t : Tree) : Type 0 where
  pub nodes : List Node
  pub preorder : IsPreorder (map member t.body.members) nodes
  pub derived : AllByRecursion (Derives ts) nodes
  pub body : DerivesBody ts t.body
  pub indices : legacy_tokens 0 ts ≡ legacy_numbers nodes

pub tree_nodes : {ts : List Token} {d : ℕ} {t : Tree} → IsFile ts d t → TreeNodes ts t
unfolding node.tree node.body
tree_nodes {ts} (file f w l) =
    let start = pass_mark f in
    let read = in_members w in
    record {
      nodes = read.nodes;
      preorder = read.preorder;
      derived = read.derived;
      body = body_derived w;
      indices = ap (legacy_tokens 0) (sym (from_start ts))
          ∙ (start.is ∙ (read.indices ∙ (ap (λ (xs : List ℕ). legacy_numbers read.nodes ++ xs) (at_file_end l) ∙ append-nil (legacy_numbers read.nodes))));
    }

pub nodes_span : NodesSpanTheirTokens
nodes_span ts d t w = let n = tree_nodes w in (n.body, n.nodes, n.preorder, n.derived)

-- a tree has one list of nodes, so these are derived
pub each_derived : {ts : List Token} {d : ℕ} {t : Tree} {ns : List Node} → PreorderIsUnique → IsFile ts d t → IsPreorder (map member t.body.members) ns → AllByRecursion (Derives ts) ns
each_derived {ts} {t} {ns} unique w p = let n = tree_nodes w in subst (AllByRecursion (Derives ts)) (unique (map member t.body.members) n.nodes ns n.preorder p) n.derived
