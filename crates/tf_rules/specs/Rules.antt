-- The rules, and what they find: at a node of a tree, not at the nodes inside of it, and at blocks
-- at top level.
pub mod CommentSyntax
pub mod Equality
pub mod Index
pub mod Interpolation
pub mod Lookup
pub mod Missing
pub mod Naming
use Rattle.std.specs.Prelude.{ℕ, Bool, true, List, [], ◌++◌, slice_get, Option, if◌then◌else◌}
use Rattle.std.specs.List.{flat_map}
use Rattle.hcl_grammar.specs.TreeLayers.{ExprKindLayer, PrimaryLayer, TailLayer, MemberLayer}
use Rattle.hcl_grammar.specs.declared.tree.Block.{Block}
use Rattle.hcl_grammar.specs.declared.tree.Call.{out-Call}
use Rattle.hcl_grammar.specs.declared.tree.Content.TheOpen.{Member-F}
use Rattle.hcl_grammar.specs.declared.tree.ExprKind.{out-ExprKind}
use Rattle.hcl_grammar.specs.declared.tree.ExprKind.TheOpen.{ExprKind-F, Primary-F, Tail-F}
use Rattle.hcl_grammar.specs.declared.tree.Member.{Member, out-Member}
use Rattle.hcl_grammar.specs.declared.tree.Primary.{out-Primary}
use Rattle.hcl_grammar.specs.declared.tree.Tail.{out-Tail}
use Rattle.hcl_token.specs.Tokens.{Pair}
use Rattle.tf_rules.specs.declared.finding.Finding.{Finding}
use Rattle.tf_rules.specs.declared.rule.Rule.TheVariants.{DeprecatedIndex, DeprecatedInterpolation}
use Rattle.tf_rules.specs.declared.rule.Rule.TheVariants.{EmptyListEquality, DeprecatedLookup}
use Rattle.tf_rules.specs.declared.rule.Rule.TheVariants.{NamingConvention}
use Rattle.tf_rules.specs.declared.rule_set.RuleSet.{RuleSet}
use Rattle.tf_rules.specs.RuleSets.{has_rule}
use Rattle.tf_rules.specs.Rules.Equality as equality
use Rattle.tf_rules.specs.Rules.Index.{index_findings}
use Rattle.tf_rules.specs.Rules.Interpolation as interpolation
use Rattle.tf_rules.specs.Rules.Lookup as lookup
use Rattle.tf_rules.specs.Rules.Missing.{missing_findings}
use Rattle.tf_rules.specs.Rules.Naming.{naming_findings}
use Rattle.tf_rules.specs.Preorder.{Node, expr, term, tail, part, member}
use Rattle.tf_rules.specs.declared.role.Role.{Role}
use Rattle.tf_rules.specs.declared.summary.Count.{Count}
use Rattle.tf_rules.specs.declared.summary.Pieces.{Pieces}
use Rattle.tf_rules.specs.declared.summary.Value.{Value}

-- at an expression of this kind whose first token has this number
abbrev pub expr_findings : RuleSet → List Pair → ℕ → ExprKindLayer → List Finding
expr_findings rules pairs first (ExprKind-F.Binary head operations) =
    if has_rule rules EmptyListEquality then equality.chain_findings pairs first true head operations
    else []
expr_findings rules pairs first _ = []

-- at a term of this kind, from the first token to the second (exclusive)
abbrev pub term_findings : RuleSet → List Pair → Role → ℕ → ℕ → PrimaryLayer → List Finding
term_findings rules pairs role first past (Primary-F.Call c) =
    if has_rule rules DeprecatedLookup then lookup.call_findings pairs first past (out-Call c) else []
term_findings rules pairs role first past (Primary-F.Quoted t) =
    if has_rule rules DeprecatedInterpolation
    then interpolation.quoted_findings pairs role first past t else []
term_findings rules pairs role first past _ = []

abbrev pub tail_findings : RuleSet → List Pair → Bool → TailLayer → List Finding
tail_findings rules pairs splat (Tail-F.LegacyIndex n) =
    if has_rule rules DeprecatedIndex then index_findings pairs splat n else []
tail_findings rules pairs splat _ = []

-- what the rules of the set find at a node, not at the nodes inside of it
abbrev pub node_findings : RuleSet → List Pair → Node → List Finding
node_findings rules pairs (expr role e) = expr_findings rules pairs e.first (out-ExprKind e.kind)
node_findings rules pairs (term role t) = term_findings rules pairs role t.first t.past (out-Primary t.kind)
node_findings rules pairs (tail splat t) = tail_findings rules pairs splat (out-Tail t)
node_findings rules pairs (part x) = []
node_findings rules pairs (member m) = []

-- what the rules on blocks find at a block
abbrev pub top_level_block_findings : RuleSet → List Pair → Block → List Finding
top_level_block_findings rules pairs b =
    (if has_rule rules NamingConvention then naming_findings pairs b else [])
    ++ missing_findings rules pairs b (slice_get b.labels 0)

abbrev pub top_level_layer_findings : RuleSet → List Pair → MemberLayer → List Finding
top_level_layer_findings rules pairs (Member-F.Attribute a) = []
top_level_layer_findings rules pairs (Member-F.Block b) = top_level_block_findings rules pairs b

abbrev pub top_level_member_findings : RuleSet → List Pair → Member → List Finding
top_level_member_findings rules pairs m = top_level_layer_findings rules pairs (out-Member m)

-- those of the members of a text's body, and of no block inside them
abbrev pub top_level_findings : RuleSet → List Pair → List Member → List Finding
top_level_findings rules pairs = flat_map (top_level_member_findings rules pairs)

-- ---- whether a rule may find something at a node, by the summaries of its parts

-- at a call of the function that this token names, if its name is one token
abbrev pub may_find_at_call : List Pair → Option ℕ → Count → Bool → Bool
may_find_at_call pairs name arguments expands = lookup.may_find pairs name arguments expands

abbrev pub may_find_at_quoted : Pieces → Bool
may_find_at_quoted parts = interpolation.may_find parts

-- at an operator one of whose operands has this summary
abbrev pub may_find_at_operand : Value → Bool
may_find_at_operand operand = equality.may_find operand
