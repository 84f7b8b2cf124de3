-- In the tree of a text each finding that a rule names is valid, so the test drops none.
use Rattle.std.proofs.Common.{◌≡◌, List, [], ◌∷◌, length, map}
use Rattle.std.proofs.lemmas.List.{length-map}
use Rattle.std.specs.List.{AllByRecursion}
use Rattle.hcl_grammar.specs.Tokens.{Token}
use Rattle.hcl_grammar.specs.TreeLayers.{MemberLayer}
use Rattle.hcl_grammar.specs.declared.tree.Content.TheOpen.{Member-F}
use Rattle.hcl_grammar.specs.declared.tree.Member.{Member, out-Member}
use Rattle.hcl_scan.specs.Follows.{tokens_of}
use Rattle.hcl_token.specs.Tokens.{Pair}
use Rattle.tf_rules.specs.Preorder.{Node, expr, term, tail, part, member, children, member_children, PreorderIsUnique}
use Rattle.tf_rules.specs.Rules.{node_findings, top_level_layer_findings, top_level_member_findings}
use Rattle.tf_rules.specs.declared.rule_set.RuleSet.{RuleSet}
use Rattle.tf_rules_laws.proofs.All.{all_implies, all_roots, all_children}
use Rattle.tf_rules_laws.proofs.Rules.{expr_is_valid, term_is_valid, tail_is_valid, block_is_valid, comments_are_valid}
use Rattle.tf_rules_laws.proofs.TreeNodes.{each_derived}
use Rattle.tf_rules_laws.proofs.Valid as valid
use Rattle.tf_rules_laws.proofs.Valid.{AreValid}
use Rattle.tf_reuse.proofs.RenumberedTrivia.{token_of}
use Rattle.tf_rules_laws.specs.NodeSpans.{DerivesMember, Derives}
use Rattle.tf_rules_laws.specs.NothingDropped.{NoFindingIsDropped}

module _ (rules : RuleSet) (pairs : List Pair) (ts : List Token) (count : length ts ≡ length pairs) where
  member_is_valid : (l : MemberLayer) → DerivesMember ts l → AllByRecursion (Derives ts) (member_children l) → AreValid (length pairs) (top_level_layer_findings rules pairs l)
  member_is_valid (Member-F.Attribute a) s inside = valid.none
  member_is_valid (Member-F.Block b) s inside = block_is_valid rules pairs ts count b s inside

  members_are_valid : (ms : List Member) → AllByRecursion (Derives ts) (map member ms) → AllByRecursion (λ n. AllByRecursion (Derives ts) (children n)) (map member ms)
      → AllByRecursion (λ (m : Member). AreValid (length pairs) (top_level_member_findings rules pairs m)) ms
  members_are_valid [] a b = tt
  members_are_valid (m ∷ ms) a b = (member_is_valid (out-Member m) a.0 b.0, members_are_valid ms a.1 b.1)

  node_is_valid : (n : Node) → Derives ts n → AreValid (length pairs) (node_findings rules pairs n)
  node_is_valid (expr role e) s = expr_is_valid rules pairs ts count role e s
  node_is_valid (term role t) s = term_is_valid rules pairs ts count role t s
  node_is_valid (tail splat x) s = tail_is_valid rules pairs ts count splat x s
  node_is_valid (part x) s = valid.none
  node_is_valid (member m) s = valid.none

pub none_dropped : PreorderIsUnique → NoFindingIsDropped
none_dropped unique text tree parses rules nodes is_in_preorder =
    let pairs = parses.pairs in
    let ts = tokens_of pairs in
    let count = length-map pairs token_of in
    let each = each_derived unique parses.derived is_in_preorder in
    let ms = tree.body.members in
    let at_nodes = valid.mapped (node_findings rules pairs) nodes
    (all_implies (Derives ts) (λ n. AreValid (length pairs) (node_findings rules pairs n)) (node_is_valid rules pairs ts count) nodes each) in
    let at_blocks = valid.mapped (top_level_member_findings rules pairs) ms
    (members_are_valid rules pairs ts count ms (all_roots (Derives ts) is_in_preorder each) (all_children (Derives ts) is_in_preorder each)) in
    (valid.append at_nodes (valid.append at_blocks (comments_are_valid rules pairs ts count))).is
