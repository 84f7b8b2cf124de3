use Rattle.std.proofs.Common.{◌≡◌, ◌-◌, length, true, List, []}
use Rattle.hcl_grammar.specs.Pure.BodyParser.{deeper_members, members_from}
use Rattle.hcl_grammar.specs.Pure.NodeMakers.{nodes}
use Rattle.hcl_grammar.specs.declared.tree.Member.{Member}
use Rattle.hcl_grammar.specs.declared.bounds.TheConstants.{MAX_NESTING}
use Rattle.hcl_scan.specs.Follows.{tokens_of}
use Rattle.tf_lint.specs.Inner.BodyFindings.{AreBodyFindings}
use Rattle.tf_lint.proofs.body.lint_body.Given as goal

abbrev pub invariant-loop-turn : goal.invariant-loop-turn
invariant-loop-turn l =
    let ts = tokens_of l.search.scanned.now.pairs in
    (ms : List Member)
    × (members_from nodes ts MAX_NESTING (deeper_members nodes ts MAX_NESTING) (length ts) [] l.fn.at ≡ members_from nodes ts MAX_NESTING (deeper_members nodes ts MAX_NESTING) (l._turn-end - l._turn) ms l.at)
    × AreBodyFindings l.search.rules l.search.scanned.now.pairs ms l.found
