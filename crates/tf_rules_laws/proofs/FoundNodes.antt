-- What is in a tree whose tokens are elsewhere too, and what is found there.
use Rattle.std.proofs.Common.{◌≡◌, ℕ, Bool, false, List, [], ◌∷◌, ◌++◌, map, Option, refl, sym, subst, append-nil}
use Rattle.std.specs.List.{flat_map}
use Rattle.std.proofs.lemmas.Grind.{flat_map-append}
use Rattle.hcl_grammar.specs.declared.tree.Attribute.{Attribute}
use Rattle.hcl_grammar.specs.declared.tree.Content.{Content, out-Content}
use Rattle.hcl_grammar.specs.declared.tree.Elem.{Elem}
use Rattle.hcl_grammar.specs.declared.tree.Expr.{Expr}
use Rattle.hcl_grammar.specs.declared.tree.ExprKind.{ExprKind, out-ExprKind}
use Rattle.hcl_grammar.specs.declared.tree.Intro.{Intro}
use Rattle.hcl_grammar.specs.declared.tree.Operation.{Operation}
use Rattle.hcl_grammar.specs.declared.tree.Member.{Member}
use Rattle.hcl_grammar.specs.declared.tree.Member.TheVariants as member_is
use Rattle.hcl_grammar.specs.declared.tree.Part.{Part, out-Part}
use Rattle.hcl_grammar.specs.declared.tree.Primary.{Primary, out-Primary}
use Rattle.hcl_grammar.specs.declared.tree.Tail.{Tail, out-Tail}
use Rattle.hcl_grammar.specs.declared.tree.Template.{Template}
use Rattle.hcl_grammar.specs.declared.tree.Term.{Term}
use Rattle.hcl_grammar.specs.Nodes as node
use Rattle.hcl_grammar_laws.proofs.Opens.{open_conditional, open_chain, open_prefixed, open_tailed, open_plain, open_number, open_identifier, open_tuple, open_object, open_quoted, open_heredoc, open_parens, open_name, open_legacy, open_attribute_splat, open_full_splat, open_index, open_literal, open_interp, open_lines, open_line, open_attribute, open_block}
use Rattle.hcl_scan.specs.Follows.{tokens_of}
use Rattle.hcl_token.specs.Tokens.{Pair}
use Rattle.tf_rules.specs.declared.role.Role.{Role}
use Rattle.tf_rules.specs.declared.role.Role.TheVariants.{AttributeValue, Element, ObjectKey, ObjectValue, Argument, Parentheses, Index, Interpolation, Elsewhere}
use Rattle.tf_rules.specs.Rules.{node_findings}
use Rattle.tf_rules.specs.Preorder as nodes
use Rattle.tf_rules.specs.Preorder.{Node, IsPreorder, expr, term, tail, part, member, children, nodes_of_tails, splat_after, expr_kind_children, elem_children, filter_children, primary_children, tail_children, else_children, part_children, option_children, content_children}
use Rattle.tf_reuse.proofs.RenumberedNodes as moved
use Rattle.tf_reuse.proofs.RenumberedNodes.{MovedExpr, MovedForm, MovedLinks, MovedTails, MovedTail, MovedTerm, MovedShape, MovedExprs, MovedElems, MovedIntro, MovedFilter, MovedTemplate, MovedParts, MovedPart, MovedElse, MovedOnLine, MovedMember, MovedContent, MovedMembers}
use Rattle.tf_reuse.proofs.Renumbering.{Moves, append}
use Rattle.tf_reuse.proofs.Renumbering as moves
use Rattle.tf_rules_laws.proofs.Rules.{expr_moves, term_moves, tail_moves}
use Rattle.tf_rules_laws.proofs.TreeNodes.{preorder-append, at_call, at_for_tuple, at_for_object, at_if, at_for}
use Rattle.tf_reuse.proofs.Window.{Here, Same}
use Rattle.tf_reuse.specs.SameTokens.{SameTokens}
use Rattle.tf_rules.specs.declared.rule_set.RuleSet.{RuleSet}

-- all nodes in each of two lists: what is found in the second is what is found in the first, its
-- numbers moved
pub record SameFound (rules : RuleSet) (old new : List Pair) (from to : ℕ) (ns ns' : List Node) : Type 0 where
  pub nodes : List Node
  pub nodes' : List Node
  pub preorder : IsPreorder ns nodes
  pub is_preorder' : IsPreorder ns' nodes'
  pub found : Moves old new from to (flat_map (node_findings rules old) nodes) (flat_map (node_findings rules new) nodes')

module _ {rules : RuleSet} {old new : List Pair} {from to : ℕ} where
  pub none : SameFound rules old new from to [] []
  none = record { nodes = []; nodes' = []; preorder = nodes.no_nodes; is_preorder' = nodes.no_nodes; found = moves.none }

  pub both : {ns ns' ms ms' : List Node} → SameFound rules old new from to ns ns' → SameFound rules old new from to ms ms'
      → SameFound rules old new from to (ns ++ ms) (ns' ++ ms')
  both a b = record {
    nodes = a.nodes ++ b.nodes;
    nodes' = a.nodes' ++ b.nodes';
    preorder = preorder-append a.preorder b.preorder;
    is_preorder' = preorder-append a.is_preorder' b.is_preorder';
    found = rw (flat_map-append (node_findings rules new) a.nodes' b.nodes', flat_map-append (node_findings rules old) a.nodes b.nodes) (append a.found b.found);
  }

  -- one node, by what is found at it and what is in it
  pub one_node : (n n' : Node) → Moves old new from to (node_findings rules old n) (node_findings rules new n') → SameFound rules old new from to (children n) (children n')
      → SameFound rules old new from to (n ∷ []) (n' ∷ [])
  one_node n n' e a = record {
    nodes = n ∷ (a.nodes ++ []);
    nodes' = n' ∷ (a.nodes' ++ []);
    preorder = nodes.visit a.preorder nodes.no_nodes;
    is_preorder' = nodes.visit a.is_preorder' nodes.no_nodes;
    found = append e (rw (append-nil a.nodes', append-nil a.nodes) a.found);
  }

module _ {R T : ℕ → ℕ → Type 0} where
  splat_after_moved : (splat : Bool) {x x' : Tail} → MovedTail R T x x' → splat_after splat (out-Tail x') ≡ splat_after splat (out-Tail x)
  splat_after_moved splat (moved.by_name t) = simp (open_name) refl
  splat_after_moved splat (moved.legacy t) = simp (open_legacy) refl
  splat_after_moved splat moved.attribute_splat = refl
  splat_after_moved splat moved.full_splat = refl
  splat_after_moved splat (moved.index a) = simp (open_index) refl

module _ (rules : RuleSet) (old new : List Pair) {from to count : ℕ} (w : SameTokens (tokens_of old) (tokens_of new) from to count) where
  tail_found : (splat : Bool) {x x' : Tail} → MovedTail (Here w) (Same w) x x' → SameFound rules old new from to (tail_children (out-Tail x)) (tail_children (out-Tail x'))
      → SameFound rules old new from to (tail splat x ∷ []) (tail splat x' ∷ [])
  tail_found splat {x} {x'} a inside = one_node (tail splat x) (tail splat x') (tail_moves old new w rules splat a) inside

  mutual
    unfolding node.expr node.term node.operation node.elem node.intro node.template

    pub found_expr : (p : Role) {e e' : Expr} → MovedExpr (Here w) (Same w) e e' → SameFound rules old new from to (expr p e ∷ []) (expr p e' ∷ [])
    found_expr p (moved.moved_expr {i} {i'} {j} {j'} {x} {x'} r s l f) =
        one_node (expr p (node.expr i j x)) (expr p (node.expr i' j' x')) (expr_moves old new w rules p (moved.moved_expr r s l f)) (found_form p f)

    found_form : (p : Role) {x x' : ExprKind} → MovedForm (Here w) (Same w) x x' → SameFound rules old new from to (expr_kind_children p (out-ExprKind x)) (expr_kind_children p (out-ExprKind x'))
    found_form p (moved.conditional a b c) = simp (open_conditional) (both (found_expr Elsewhere a) (both (found_expr Elsewhere b) (found_expr Elsewhere c)))
    found_form p (moved.chain a b) = simp (open_chain) (both (found_expr Elsewhere a) (found_links b))
    found_form p (moved.prefixed op a) = simp (open_prefixed) (found_expr Elsewhere a)
    found_form p (moved.tailed a b) = simp (open_tailed) (both (found_term Elsewhere a) (found_tails false b))
    found_form p (moved.plain a) = simp (open_plain) (found_term p a)

    found_links : {xs xs' : List Operation} → MovedLinks (Here w) (Same w) xs xs'
        → SameFound rules old new from to (map (λ (l : Operation). expr Elsewhere l.operand) xs) (map (λ (l : Operation). expr Elsewhere l.operand) xs')
    found_links moved.no_links = none
    found_links (moved.links op a b) = both (found_expr Elsewhere a) (found_links b)

    found_tails : (splat : Bool) {xs xs' : List Tail} → MovedTails (Here w) (Same w) xs xs' → SameFound rules old new from to (nodes_of_tails splat xs) (nodes_of_tails splat xs')
    found_tails splat moved.no_tails = none
    found_tails splat (moved.tails {x} {x'} {xs} {xs'} a b) =
        both (tail_found splat a (found_in_tail a))
        (subst (λ (s : Bool). SameFound rules old new from to (nodes_of_tails (splat_after splat (out-Tail x)) xs) (nodes_of_tails s xs')) (sym (splat_after_moved splat a))
        (found_tails (splat_after splat (out-Tail x)) b))

    found_in_tail : {x x' : Tail} → MovedTail (Here w) (Same w) x x' → SameFound rules old new from to (tail_children (out-Tail x)) (tail_children (out-Tail x'))
    found_in_tail (moved.by_name t) = simp (open_name) none
    found_in_tail (moved.legacy t) = simp (open_legacy) none
    found_in_tail moved.attribute_splat = simp (open_attribute_splat) none
    found_in_tail moved.full_splat = simp (open_full_splat) none
    found_in_tail (moved.index a) = simp (open_index) (found_expr Index a)

    found_term : (p : Role) {t t' : Term} → MovedTerm (Here w) (Same w) t t' → SameFound rules old new from to (term p t ∷ []) (term p t' ∷ [])
    found_term p (moved.moved_term {i} {i'} {j} {j'} {x} {x'} r s l f) =
        one_node (term p (node.term i j x)) (term p (node.term i' j' x')) (term_moves old new w rules p (moved.moved_term r s l f)) (found_shape f)

    found_shape : {x x' : Primary} → MovedShape (Here w) (Same w) x x' → SameFound rules old new from to (primary_children (out-Primary x)) (primary_children (out-Primary x'))
    found_shape moved.number = simp (open_number) none
    found_shape moved.identifier = simp (open_identifier) none
    found_shape (moved.call s a b) = simp (at_call) (found_exprs Argument b)
    found_shape (moved.tuple a) = simp (open_tuple) (found_exprs Element a)
    found_shape (moved.object a) = simp (open_object) (found_elems a)
    found_shape (moved.for_tuple a b c) = simp (at_for_tuple) (both (found_intro a) (both (found_expr Elsewhere b) (found_filter c)))
    found_shape (moved.for_object s a b c d) = simp (at_for_object) (both (found_intro a) (both (found_expr Elsewhere b) (both (found_expr Elsewhere c) (found_filter d))))
    found_shape (moved.quoted a) = simp (open_quoted) (found_template a)
    found_shape (moved.heredoc a) = simp (open_heredoc) (found_template a)
    found_shape (moved.parens a) = simp (open_parens) (found_expr Parentheses a)

    found_exprs : (p : Role) {es es' : List Expr} → MovedExprs (Here w) (Same w) es es' → SameFound rules old new from to (map (expr p) es) (map (expr p) es')
    found_exprs p moved.no_exprs = none
    found_exprs p (moved.exprs a b) = both (found_expr p a) (found_exprs p b)

    found_elems : {xs xs' : List Elem} → MovedElems (Here w) (Same w) xs xs' → SameFound rules old new from to (flat_map elem_children xs) (flat_map elem_children xs')
    found_elems moved.no_elems = none
    found_elems (moved.elems a b c) = both (found_expr ObjectKey a) (both (found_expr ObjectValue b) (found_elems c))

    found_intro : {x x' : Intro} → MovedIntro (Here w) (Same w) x x' → SameFound rules old new from to (expr Elsewhere x.collection ∷ []) (expr Elsewhere x'.collection ∷ [])
    found_intro (moved.intro r s t o a) = found_expr Elsewhere a

    found_filter : {o o' : Option Expr} → MovedFilter (Here w) (Same w) o o' → SameFound rules old new from to (filter_children o) (filter_children o')
    found_filter moved.no_filter = none
    found_filter (moved.filter a) = found_expr Elsewhere a

    found_template : {t t' : Template} → MovedTemplate (Here w) (Same w) t t' → SameFound rules old new from to (map part t.parts) (map part t'.parts)
    found_template (moved.template r s a) = found_parts a

    found_parts : {xs xs' : List Part} → MovedParts (Here w) (Same w) xs xs' → SameFound rules old new from to (map part xs) (map part xs')
    found_parts moved.no_parts = none
    found_parts (moved.parts {x} {x'} a b) = both (one_node (part x) (part x') moves.none (found_part a)) (found_parts b)

    found_part : {x x' : Part} → MovedPart (Here w) (Same w) x x' → SameFound rules old new from to (part_children (out-Part x)) (part_children (out-Part x'))
    found_part (moved.literal t) = simp (open_literal) none
    found_part (moved.interp a) = simp (open_interp) (found_expr Interpolation a)
    found_part (moved.if_directive r s a b c) = simp (at_if) (both (found_expr Elsewhere a) (both (found_template b) (found_else c)))
    found_part (moved.for_directive r s a b) = simp (at_for) (both (found_intro a) (found_template b))

    found_else : {o o' : Option Template} → MovedElse (Here w) (Same w) o o' → SameFound rules old new from to (else_children o) (else_children o')
    found_else moved.no_else = none
    found_else (moved.has_else a) = found_template a

  found_on_line : {o o' : Option Attribute} → MovedOnLine (Here w) (Same w) o o' → SameFound rules old new from to (option_children o) (option_children o')
  unfolding node.attribute
  found_on_line moved.nothing = none
  found_on_line (moved.one r s l a) = found_expr AttributeValue a

  mutual
    unfolding node.attribute node.block node.body

    pub found_member : {m m' : Member} → MovedMember (Here w) (Same w) m m' → SameFound rules old new from to (member m ∷ []) (member m' ∷ [])
    found_member (moved.attribute {i} {i'} {j} {j'} {e} {e'} r s l a) =
        one_node (member (member_is.Attribute (node.attribute i j e))) (member (member_is.Attribute (node.attribute i' j' e'))) moves.none
        (simp (open_attribute) (found_expr AttributeValue a))
    found_member (moved.block {i} {i'} {j} {j'} {ls} {ls'} {x} {x'} r s l a b) =
        one_node (member (node.block i j ls x)) (member (node.block i' j' ls' x')) moves.none (simp (open_block) (found_content b))

    found_content : {x x' : Content} → MovedContent (Here w) (Same w) x x' → SameFound rules old new from to (content_children (out-Content x)) (content_children (out-Content x'))
    found_content (moved.body r s a) = simp (open_lines) (found_members a)
    found_content (moved.on_line a) = simp (open_line) (found_on_line a)

    found_members : {ms ms' : List Member} → MovedMembers (Here w) (Same w) ms ms' → SameFound rules old new from to (map member ms) (map member ms')
    found_members moved.no_members = none
    found_members (moved.members a b) = both (found_member a) (found_members b)
