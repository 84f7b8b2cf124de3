-- What is found in some members, and in one more.
use Rattle.std.proofs.Common.{◌≡◌, ℕ, zero, suc, true, List, [], ◌∷◌, ◌++◌, length, Some, Result, Ok, Err, OnOk, refl, sym, ap, subst, ◌∙◌, append-nil}
use Rattle.std.proofs.lemmas.List.{map-append}
use Rattle.std.proofs.lemmas.Grind.{flat_map-append}
use Rattle.std.proofs.lemmas.List.Elements.{filter-append}
use Rattle.std.specs.List.{flat_map}
use Rattle.hcl_grammar.specs.Pure.BodyParser.{deeper_members, member_of}
use Rattle.hcl_grammar.specs.Pure.NodeMakers.{nodes}
use Rattle.hcl_grammar.specs.declared.tree.Member.{Member}
use Rattle.hcl_grammar.specs.declared.bounds.TheConstants.{MAX_NESTING}
use Rattle.hcl_scan.specs.Follows.{tokens_of}
use Rattle.hcl_token.specs.Tokens.{Pair}
use Rattle.tf_rules.specs.Rules.{node_findings}
use Rattle.tf_rules.specs.Preorder.{Node, member, no_nodes}
use Rattle.tf_findings.specs.TreeFindings.{AreTreeFindings}
use Rattle.tf_lint.specs.Inner.BodyFindings.{AreBodyFindings}
use Rattle.tf_lint.proofs.MemberAnswers.{member_answers}
use Rattle.tf_lint.specs.LintedMembers.{IsLintedMember, AreLintedMembers}
use Rattle.tf_lint.specs.declared.body.BodyFindings.{BodyFindings}
use Rattle.tf_lint.specs.declared.member.LintedMember.{LintedMember}
use Rattle.tf_rules.specs.declared.finding.Finding.{Finding}
use Rattle.tf_rules.specs.Findings.{is_valid, valid_findings}
use Rattle.tf_rules.specs.declared.rule_set.RuleSet.{RuleSet}
use Rattle.tf_rules_laws.proofs.TreeNodes.{preorder-append}
use Rattle.tf_rules.specs.Rules.{top_level_member_findings, top_level_findings}

-- what three clauses say of a value, where there is one
pub all_ok : {T E A B C P : Type 0} (r : Result T E) → (A → B → C → P) → OnOk r A → OnOk r B → OnOk r C → OnOk r P
all_ok (Ok x) f a b c = f a b c
all_ok (Err e) f a b c = tt

some_same : {X : Type 0} (x y : X) → Some x ≡ Some y → x ≡ y
some_same x y e = cc

one_more_block : (rules : RuleSet) (pairs : List Pair) (ms : List Member) (m : Member)
    → top_level_findings rules pairs ms ++ top_level_member_findings rules pairs m ≡ top_level_findings rules pairs (ms ++ m ∷ [])
one_more_block rules pairs ms m = ap (λ l. top_level_findings rules pairs ms ++ l) (sym (append-nil (top_level_member_findings rules pairs m)))
    ∙ sym (flat_map-append (top_level_member_findings rules pairs) ms (m ∷ []))

module _ {rules : RuleSet} {pairs : List Pair} where
  both_trees : {ns ms : List Node} {xs ys : List Finding} → AreTreeFindings rules pairs ns xs → AreTreeFindings rules pairs ms ys → AreTreeFindings rules pairs (ns ++ ms) (xs ++ ys)
  both_trees {ys = ys} a b =
      let f = node_findings rules pairs in
      record {
        nodes = a.nodes ++ b.nodes;
        preorder = preorder-append a.preorder b.preorder;
        are = ap (λ l. l ++ ys) a.are ∙ (ap (λ l. valid_findings (length pairs) (flat_map f a.nodes) ++ l) b.are
            ∙ (sym (filter-append (is_valid (length pairs)) (flat_map f a.nodes) (flat_map f b.nodes))
            ∙ ap (valid_findings (length pairs)) (sym (flat_map-append f a.nodes b.nodes))));
      }

  -- one more member that is seen
  each_more : (xs : List LintedMember) (x : LintedMember) → AreLintedMembers rules pairs xs → IsLintedMember rules pairs x → AreLintedMembers rules pairs (xs ++ x ∷ [])
  each_more [] x seen is zero y e = subst (IsLintedMember rules pairs) (some_same x y e) is
  each_more [] x seen is (suc i) y e = absurd (cc)
  each_more (z ∷ xs) x seen is zero y e = seen zero y e
  each_more (z ∷ xs) x seen is (suc i) y e = each_more xs x (λ i. seen (suc i)) is i y e

  pub none_linted : (g : BodyFindings) → g.members.items ≡ [] → g.node_findings.items ≡ [] → g.block_findings.items ≡ [] → AreBodyFindings rules pairs [] g
  none_linted g ms ns bs = record {
    each = rw ms (λ i x e. absurd (cc));
    at_nodes = rw ns (record { nodes = []; preorder = no_nodes; are = refl });
    at_blocks = bs;
  }

  one_more : {ms : List Member} {x : LintedMember} (g h : BodyFindings) → AreBodyFindings rules pairs ms g → (is : IsLintedMember rules pairs x) → AreLintedMembers rules pairs h.members.items
      → h.node_findings.items ≡ g.node_findings.items ++ x.node_findings.items → h.block_findings.items ≡ g.block_findings.items ++ x.block_findings.items → AreBodyFindings rules pairs (ms ++ is.member ∷ []) h
  one_more {ms} {x} g h seen is each nodes blocks = record {
    each = each;
    at_nodes = rw (map-append member ms (is.member ∷ []), nodes) (both_trees seen.at_nodes is.at_nodes);
    at_blocks = blocks
        ∙ (ap (λ l. l ++ x.block_findings.items) seen.at_blocks ∙ (ap (λ l. valid_findings (length pairs) (top_level_findings rules pairs ms) ++ l) is.at_block
        ∙ (sym (filter-append (is_valid (length pairs)) (top_level_findings rules pairs ms) (top_level_member_findings rules pairs is.member))
        ∙ ap (valid_findings (length pairs)) (one_more_block rules pairs ms is.member))));
  }

  -- one more member, which is kept
  pub one_more_kept : {ms : List Member} {x : LintedMember} (g h : BodyFindings) → AreBodyFindings rules pairs ms g → (is : IsLintedMember rules pairs x) → h.members.items ≡ g.members.items ++ x ∷ []
      → h.node_findings.items ≡ g.node_findings.items ++ x.node_findings.items → h.block_findings.items ≡ g.block_findings.items ++ x.block_findings.items → AreBodyFindings rules pairs (ms ++ is.member ∷ []) h
  one_more_kept {x = x} g h seen is members nodes blocks =
      one_more g h seen is (rw members (each_more g.members.items x seen.each is)) nodes blocks

  -- and one which is given up
  pub one_more_taken : {ms : List Member} {x : LintedMember} (g h : BodyFindings) → AreBodyFindings rules pairs ms g → (is : IsLintedMember rules pairs x) → h.members.items ≡ g.members.items
      → h.node_findings.items ≡ g.node_findings.items ++ x.node_findings.items → h.block_findings.items ≡ g.block_findings.items ++ x.block_findings.items → AreBodyFindings rules pairs (ms ++ is.member ∷ []) h
  one_more_taken g h seen is members nodes blocks = one_more g h seen is (rw members seen.each) nodes blocks

-- the member that comes next, as the parser answers it
pub read_as : {rules : RuleSet} {pairs : List Pair} {from past : ℕ} {x : LintedMember} → (next : (x.from ≡ from) × (x.past ≡ past) × IsLintedMember rules pairs x)
    → member_of nodes (tokens_of pairs) MAX_NESTING (deeper_members nodes (tokens_of pairs) MAX_NESTING) from ≡ Ok (Some next.2.member, past)
read_as {pairs} {past} next =
    subst (λ n. member_of nodes (tokens_of pairs) MAX_NESTING (deeper_members nodes (tokens_of pairs) MAX_NESTING) n ≡ Ok (Some next.2.member, past)) next.0
    (member_answers (tokens_of pairs) next.2.is_member ∙ ap (λ n. Ok (Some next.2.member, n)) next.1)
