-- What the parser returns is derived there.
use Rattle.std.proofs.Common.{◌≡◌, true, Some, Ok, rules}
use Rattle.hcl_grammar.specs.Pure.BodyParser.{deeper_members, member_of}
use Rattle.hcl_grammar.specs.Pure.NodeMakers.{nodes}
use Rattle.hcl_grammar.specs.declared.bounds.TheConstants.{MAX_NESTING}
use Rattle.hcl_scan.specs.Follows.{tokens_of}
use Rattle.tf_lint.proofs.MemberAnswers.{member_derives}
use Rattle.tf_lint.proofs.CleanMemberLemmas.{clean_next}
use Rattle.tf_lint.proofs.member.lint_next_member.Goals as goal

pub returns-clause-next : goal.returns-clause-next
returns-clause-next c =
    let ts = tokens_of c.args.scanned.now.pairs in
    let x = c.in-Some.x in
    let read : member_of nodes ts MAX_NESTING (deeper_members nodes ts MAX_NESTING) c.args.at.now
    ≡ Ok (Some x, c.member.new.at) = search rules in
    let member_is_derived = member_derives ts MAX_NESTING c.args.at.now x c.member.new.at read in
    let seen = c.in_ok-lint_member.ensures in (
      seen.place.0,
      seen.place.1,
      record {
        member = x;
        is_member = rw seen.place.0 (rw seen.place.1 member_is_derived);
        at_nodes = seen.at_nodes;
        at_block = seen.at_block;
      },
    )

pub returns-then-branch-clause-next : goal.returns-then-branch-clause-next
returns-then-branch-clause-next c =
    let passed : c.skip_unlikely_member.result ≡ Ok true = first_of (search rules, cc) in
    let made = c.clean_member.ensures in
    clean_next c.args.rules c.args.scanned.now.pairs c.args.at.now c.skip_unlikely_member.new.at c.clean_member.result (c.skip_unlikely_member.ensures.passed passed) made.from made.past made.nodes made.blocks
