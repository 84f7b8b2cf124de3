-- What the laws need of each rule, by where it looks: at a node, a block, a comment. Each part has a
-- line for each rule that it is about; the lemma is in the file of the rule.
pub mod CommentSyntax
pub mod Equality
pub mod Index
pub mod Interpolation
pub mod Lookup
pub mod Missing
pub mod Naming
use Rattle.std.specs.List.{AllByRecursion}
use Rattle.std.specs.Prelude.{if◌then◌else◌}
use Rattle.std.proofs.Common.{◌≡◌, ℕ, Bool, true, false, List, [], refl, length, arith, slice_get}
use Rattle.hcl_grammar.specs.Grammar.{IsExpr, IsTerm, IsTail}
use Rattle.hcl_grammar.specs.Nodes as node
use Rattle.hcl_grammar.specs.Tokens.{Token}
use Rattle.hcl_grammar.specs.TreeLayers.{ExprKindLayer, PrimaryLayer, TailLayer, MemberLayer}
use Rattle.hcl_grammar.specs.declared.tree.Block.{Block}
use Rattle.hcl_grammar.specs.declared.tree.Content.TheOpen.{Member-F}
use Rattle.hcl_grammar.specs.declared.tree.Expr.{Expr}
use Rattle.hcl_grammar.specs.declared.tree.Call.{Call, out-Call}
use Rattle.hcl_grammar.specs.declared.tree.ExprKind.{ExprKind, out-ExprKind}
use Rattle.hcl_grammar.specs.declared.tree.ExprKind.TheOpen.{ExprKind-F, Primary-F, Tail-F}
use Rattle.hcl_grammar.specs.declared.tree.Operation.{Operation}
use Rattle.hcl_grammar.specs.declared.tree.Primary.{Primary, out-Primary}
use Rattle.hcl_grammar.specs.declared.tree.Tail.{out-Tail, Tail}
use Rattle.hcl_grammar.specs.declared.tree.Template.{Template}
use Rattle.hcl_grammar.specs.declared.tree.Term.{Term}
use Rattle.hcl_grammar_laws.proofs.Opens.{open_conditional, open_chain, open_prefixed, open_tailed, open_plain, open_number, open_identifier, open_call, open_tuple, open_object, open_for_tuple, open_for_object, open_quoted, open_heredoc, open_parens, open_name, open_legacy, open_attribute_splat, open_full_splat, open_index}
use Rattle.hcl_scan.specs.Follows.{tokens_of}
use Rattle.hcl_token.specs.Tokens.{Pair}
use Rattle.tf_reuse.proofs.MovedParts.{form_of, first_here}
use Rattle.tf_reuse.proofs.RenumberedNodes as moved
use Rattle.tf_reuse.proofs.RenumberedNodes.{MovedExpr, MovedForm, MovedTail, MovedTerm, MovedShape}
use Rattle.tf_reuse.proofs.Renumbering as moves
use Rattle.tf_reuse.proofs.Renumbering.{Moves}
use Rattle.tf_reuse.proofs.Window.{Here, Same}
use Rattle.tf_reuse.specs.SameTokens.{SameTokens}
use Rattle.tf_rules.specs.Preorder.{Node, expr, term, tail, part, member, member_children}
use Rattle.tf_rules.specs.RuleSets.{has_rule}
use Rattle.tf_rules.specs.Rules.CommentSyntax.{comment_findings}
use Rattle.tf_rules.specs.Rules.Interpolation.{sole_part}
use Rattle.tf_rules.specs.Rules.{expr_findings, term_findings, tail_findings, node_findings, top_level_layer_findings, top_level_block_findings}
use Rattle.tf_rules.specs.Rules.{may_find_at_call, may_find_at_quoted, may_find_at_operand}
use Rattle.tf_rules.specs.Arguments.{sole_name}
use Rattle.tf_rules.specs.SingleRule.{only}
use Rattle.tf_rules.specs.Summaries.{count_of, pieces_of, value_of}
use Rattle.tf_rules.specs.declared.finding.Finding.{Finding}
use Rattle.tf_rules.specs.declared.role.Role.{Role}
use Rattle.tf_rules.specs.declared.rule.Rule.TheVariants.{DeprecatedIndex, DeprecatedInterpolation, EmptyListEquality, DeprecatedLookup, NamingConvention}
use Rattle.tf_rules.specs.declared.rule.Rule.{Rule}
use Rattle.tf_rules.specs.declared.rule_set.RuleSet.{RuleSet}
use Rattle.tf_rules_laws.proofs.MovedBlocks.{label_at, SameBlock}
use Rattle.tf_rules_laws.proofs.Nothing as empty
use Rattle.tf_rules_laws.proofs.Nothing.{Nothing}
use Rattle.tf_rules_laws.proofs.Picks.{Picks, nothing, both, chosen}
use Rattle.tf_rules_laws.proofs.Rules.CommentSyntax as comment_syntax
use Rattle.tf_rules_laws.proofs.Rules.Equality as equality
use Rattle.tf_rules_laws.proofs.Rules.Index as index
use Rattle.tf_rules_laws.proofs.Rules.Interpolation as interpolation
use Rattle.tf_rules_laws.proofs.Rules.Lookup as lookup
use Rattle.tf_rules_laws.proofs.Rules.Missing as missing_rule
use Rattle.tf_rules_laws.proofs.Rules.Naming as naming
use Rattle.tf_rules_laws.proofs.Valid as valid
use Rattle.tf_rules_laws.proofs.Valid.{AreValid}
use Rattle.tf_rules_laws.specs.NodeSpans.{DerivesMember, Derives}

-- ---- what is found is of the rule

module _ (rules : RuleSet) (rule : Rule) (has : has_rule rules rule ≡ true) where
  expr_picks : (pairs : List Pair) (first : ℕ) (l : ExprKindLayer) → Picks pairs rule (expr_findings rules pairs first l) (expr_findings (only rule) pairs first l)
  expr_picks pairs first (ExprKind-F.Binary head ls) = chosen rules rule has EmptyListEquality _ (equality.of_rule pairs first head ls)
  expr_picks _ _ _ = nothing

  term_picks : (pairs : List Pair) (role : Role) (first past : ℕ) (l : PrimaryLayer) → Picks pairs rule (term_findings rules pairs role first past l) (term_findings (only rule) pairs role first past l)
  term_picks pairs role first past (Primary-F.Call c) = chosen rules rule has DeprecatedLookup _ (lookup.of_rule pairs first past (out-Call c))
  term_picks pairs role first past (Primary-F.Quoted t) = chosen rules rule has DeprecatedInterpolation _ (interpolation.of_rule pairs role first past (sole_part t.parts))
  term_picks _ _ _ _ _ = nothing

  tail_picks : (pairs : List Pair) (splat : Bool) (l : TailLayer) → Picks pairs rule (tail_findings rules pairs splat l) (tail_findings (only rule) pairs splat l)
  tail_picks pairs splat (Tail-F.LegacyIndex n) = chosen rules rule has DeprecatedIndex _ (index.of_rule pairs splat n)
  tail_picks _ _ _ = nothing

  pub node_picks : (pairs : List Pair) (n : Node) → Picks pairs rule (node_findings rules pairs n) (node_findings (only rule) pairs n)
  node_picks pairs (expr role e) = expr_picks pairs e.first (out-ExprKind e.kind)
  node_picks pairs (term role t) = term_picks pairs role t.first t.past (out-Primary t.kind)
  node_picks pairs (tail splat t) = tail_picks pairs splat (out-Tail t)
  node_picks pairs (part x) = nothing
  node_picks pairs (member m) = nothing

  pub member_picks : (pairs : List Pair) (m : MemberLayer) → Picks pairs rule (top_level_layer_findings rules pairs m) (top_level_layer_findings (only rule) pairs m)
  member_picks pairs (Member-F.Attribute a) = nothing
  member_picks pairs (Member-F.Block b) = both (chosen rules rule has NamingConvention _ (naming.of_rule pairs b)) (missing_rule.missing_picks rules rule has pairs b (slice_get b.labels 0))

  pub comment_picks : (pairs : List Pair) → Picks pairs rule (comment_findings rules pairs) (comment_findings (only rule) pairs)
  comment_picks pairs = chosen rules rule has _ _ (comment_syntax.of_rule pairs)

-- ---- where its tokens are elsewhere too, the same is found

module _ (old new : List Pair) {from to count : ℕ} (w : SameTokens (tokens_of old) (tokens_of new) from to count) where
  -- a rule's findings, if it is in the set
  on : (rules : RuleSet) (rule : Rule) {fs fs' : List Finding} → Moves old new from to fs fs' → Moves old new from to (if has_rule rules rule then fs else []) (if has_rule rules rule then fs' else [])
  on rules rule h = moves.either {b = has_rule rules rule} {b' = has_rule rules rule} refl h moves.none

  form_moves : (rules : RuleSet) {i i' : ℕ} {x x' : ExprKind} → Here w i i' → MovedForm (Here w) (Same w) x x'
      → Moves old new from to (expr_findings rules old i (out-ExprKind x)) (expr_findings rules new i' (out-ExprKind x'))
  form_moves rules h (moved.conditional a b c) = simp (open_conditional) moves.none
  form_moves rules h (moved.chain a b) = simp (open_chain) (on rules EmptyListEquality (equality.chain_moved old new w true h a b))
  form_moves rules h (moved.prefixed op a) = simp (open_prefixed) moves.none
  form_moves rules h (moved.tailed a b) = simp (open_tailed) moves.none
  form_moves rules h (moved.plain a) = simp (open_plain) moves.none

  shape_moves : (rules : RuleSet) (role : Role) {i i' j j' : ℕ} {x x' : Primary} → Here w i i' → Here w j j' → MovedShape (Here w) (Same w) x x'
      → Moves old new from to (term_findings rules old role i j (out-Primary x)) (term_findings rules new role i' j' (out-Primary x'))
  unfolding node.call node.for_tuple node.for_object node.template
  shape_moves rules role h g moved.number = simp (open_number) moves.none
  shape_moves rules role h g moved.identifier = simp (open_identifier) moves.none
  shape_moves rules role h g (moved.call s a b) = simp (open_call) (on rules DeprecatedLookup (lookup.lookup_moved old new w s h g a b))
  shape_moves rules role h g (moved.tuple a) = simp (open_tuple) moves.none
  shape_moves rules role h g (moved.object a) = simp (open_object) moves.none
  shape_moves rules role h g (moved.for_tuple a b c) = simp (open_for_tuple) moves.none
  shape_moves rules role h g (moved.for_object s a b c d) = simp (open_for_object) moves.none
  shape_moves rules role h g (moved.quoted (moved.template r s a)) = simp (open_quoted) (on rules DeprecatedInterpolation (interpolation.interpolation_moved old new w role h g (interpolation.sole_moved a)))
  shape_moves rules role h g (moved.heredoc a) = simp (open_heredoc) moves.none
  shape_moves rules role h g (moved.parens a) = simp (open_parens) moves.none

  pub expr_moves : (rules : RuleSet) (role : Role) {e e' : Expr} → MovedExpr (Here w) (Same w) e e'
      → Moves old new from to (node_findings rules old (expr role e)) (node_findings rules new (expr role e'))
  expr_moves rules role a = form_moves rules (first_here a) (form_of a)

  pub term_moves : (rules : RuleSet) (role : Role) {t t' : Term} → MovedTerm (Here w) (Same w) t t'
      → Moves old new from to (node_findings rules old (term role t)) (node_findings rules new (term role t'))
  unfolding node.term
  term_moves rules role (moved.moved_term r s l f) = shape_moves rules role r s f

  pub tail_moves : (rules : RuleSet) (splat : Bool) {t t' : Tail} → MovedTail (Here w) (Same w) t t'
      → Moves old new from to (node_findings rules old (tail splat t)) (node_findings rules new (tail splat t'))
  tail_moves rules splat (moved.by_name t) = simp (open_name) moves.none
  tail_moves rules splat (moved.legacy t) = simp (open_legacy) (on rules DeprecatedIndex (index.index_moved old new w splat t))
  tail_moves rules splat moved.attribute_splat = simp (open_attribute_splat) moves.none
  tail_moves rules splat moved.full_splat = simp (open_full_splat) moves.none
  tail_moves rules splat (moved.index a) = simp (open_index) moves.none

  pub block_moves : (rules : RuleSet) (b b' : Block) → SameBlock old new w b b' → Moves old new from to (top_level_block_findings rules old b) (top_level_block_findings rules new b')
  block_moves rules b b' s =
      moves.append (on rules NamingConvention (naming.naming_moved old new w b b' s))
      (missing_rule.missing_moved old new w rules b b' s (label_at old new w s.labelled 0))

-- ---- over a text that parses, the numbers are in order

module _ (rules : RuleSet) (pairs : List Pair) (ts : List Token) (count : length ts ≡ length pairs) where
  form_is_valid : {d : ℕ} {m : Bool} (e : Expr) → IsExpr ts d m e e.first e.past → (l : ExprKindLayer) → out-ExprKind e.kind ≡ l → AreValid (length pairs) (expr_findings rules pairs e.first l)
  form_is_valid e w (ExprKind-F.Binary head ls) h = valid.choose (has_rule rules EmptyListEquality) (equality.equality_is_valid pairs ts count e w head ls h) valid.none
  form_is_valid _ _ _ _ = valid.none

  shape_is_valid : {d : ℕ} {m : Bool} (role : Role) (t : Term) → IsTerm ts d m t t.first t.past → (l : PrimaryLayer) → out-Primary t.kind ≡ l
      → AreValid (length pairs) (term_findings rules pairs role t.first t.past l)
  shape_is_valid role t w (Primary-F.Call c) h = valid.choose (has_rule rules DeprecatedLookup) (lookup.lookup_is_valid pairs ts count t w c h) valid.none
  shape_is_valid role t w (Primary-F.Quoted text) h = valid.choose (has_rule rules DeprecatedInterpolation) (interpolation.interpolation_is_valid pairs ts count role t w text h) valid.none
  shape_is_valid _ _ _ _ _ = valid.none

  variant_is_valid : {d : ℕ} {m : Bool} {x : Tail} {i j : ℕ} (splat : Bool) → IsTail ts d m x i j → (l : TailLayer) → out-Tail x ≡ l → AreValid (length pairs) (tail_findings rules pairs splat l)
  variant_is_valid splat w (Tail-F.LegacyIndex n) h = valid.choose (has_rule rules DeprecatedIndex) (index.index_is_valid pairs ts count splat w n h) valid.none
  variant_is_valid _ _ _ _ = valid.none

  pub expr_is_valid : (role : Role) (e : Expr) → Derives ts (expr role e) → AreValid (length pairs) (node_findings rules pairs (expr role e))
  expr_is_valid role e s = form_is_valid e s.2 (out-ExprKind e.kind) refl

  pub term_is_valid : (role : Role) (t : Term) → Derives ts (term role t) → AreValid (length pairs) (node_findings rules pairs (term role t))
  term_is_valid role t s = shape_is_valid role t s.0.2 (out-Primary t.kind) refl

  pub tail_is_valid : (splat : Bool) (x : Tail) → Derives ts (tail splat x) → AreValid (length pairs) (node_findings rules pairs (tail splat x))
  tail_is_valid splat x s = variant_is_valid splat s.4 (out-Tail x) refl

  pub block_is_valid : (b : Block) → DerivesMember ts (Member-F.Block b) → AllByRecursion (Derives ts) (member_children (Member-F.Block b))
      → AreValid (length pairs) (top_level_layer_findings rules pairs (Member-F.Block b))
  block_is_valid b s inside =
      valid.append (valid.choose (has_rule rules NamingConvention) (naming.naming_is_valid pairs ts count b s inside) valid.none) (missing_rule.missing_is_valid rules pairs ts count b s)

  pub comments_are_valid : AreValid (length pairs) (comment_findings rules pairs)
  comments_are_valid = valid.choose _ (comment_syntax.comments_are_valid pairs 0 pairs (omega arith)) valid.none

-- ---- where the summaries of its parts say so, nothing is found at a node

module _ (rules : RuleSet) (pairs : List Pair) where
  chosen_none : (rule : Rule) {fs : List Finding} → Nothing fs → Nothing (if has_rule rules rule then fs else [])
  chosen_none rule h = empty.choose (has_rule rules rule) h empty.none

  pub none_at_call : (role : Role) (i j : ℕ) (c : Call) → may_find_at_call pairs (sole_name (out-Call c).names) (count_of (out-Call c).arguments) (out-Call c).expand_final ≡ false
      → Nothing (term_findings rules pairs role i j (Primary-F.Call c))
  none_at_call role i j c h = chosen_none DeprecatedLookup (lookup.nothing_found pairs i j (out-Call c) h)

  pub none_at_quoted : (role : Role) (i j : ℕ) (t : Template) → may_find_at_quoted (pieces_of t.parts) ≡ false → Nothing (term_findings rules pairs role i j (Primary-F.Quoted t))
  none_at_quoted role i j t h = chosen_none DeprecatedInterpolation (interpolation.nothing_found pairs role i j t.parts h)

  pub none_at_chain : (i : ℕ) (head : Expr) (ls : List Operation) → may_find_at_operand (value_of head) ≡ false
      → AllByRecursion (λ (l : Operation). may_find_at_operand (value_of l.operand) ≡ false) ls → Nothing (expr_findings rules pairs i (ExprKind-F.Binary head ls))
  none_at_chain i head ls h all = chosen_none EmptyListEquality (equality.nothing_found pairs i true head ls h all)
