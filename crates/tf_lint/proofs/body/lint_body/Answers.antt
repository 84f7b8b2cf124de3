-- Each turn is one of the pure parser.
use Rattle.std.proofs.Common.{◌≡◌, ◌≢◌, ◌+◌, ◌-◌, ℕ, [], ◌∷◌, ◌++◌, length, true, Err, ap, ◌∙◌, arith}
use Rattle.std.proofs.lemmas.List.{length-map}
use Rattle.hcl_token.specs.Tokens.{Pair}
use Rattle.hcl_reader.proofs.Turns.{one_left, none_left}
use Rattle.hcl_grammar.specs.Pure.BodyParser.{members}
use Rattle.hcl_grammar.specs.Pure.NodeMakers.{nodes}
use Rattle.hcl_grammar.specs.declared.fault.TokenFault.{TokenFault}
use Rattle.hcl_grammar.specs.declared.fault.TokenFault.TheVariants.{Memory}
use Rattle.hcl_grammar.specs.declared.bounds.TheConstants.{MAX_NESTING}
use Rattle.hcl_scan.specs.Follows.{tokens_of}
use Rattle.hcl_tree.proofs.Passing.{left, begins, at_line, at_member, at_none, at_fault, at_end}
use Rattle.tf_lint.proofs.BodyLemmas.{none_linted, read_as}
use Rattle.tf_lint.proofs.FileLemmas.{residual}
use Rattle.tf_lint.proofs.body.lint_body.Goals as goal

pub loop-turn-init : goal.loop-turn-init
loop-turn-init c =
    let ts = tokens_of c.args.search.now.scanned.now.pairs in
    let as_many : length ts ≡ length c.args.search.now.scanned.now.pairs = length-map c.args.search.now.scanned.now.pairs (λ (p : Pair). (p.kind, p.spelling)) in
    let len_is = c.len-turn-end.ensures.value in
    let all : length ts ≡ c.len-turn-end.result - 0 = omega (arith, as_many, len_is) in
    ([], ap (λ (n : ℕ). left ts MAX_NESTING n [] c.args.at.now) all, none_linted _ c.new.ensures.items c.new-2.ensures.items c.new-3.ensures.items)

pub loop-turn-preserved-then-eat_newline : goal.loop-turn-preserved-then-eat_newline
loop-turn-preserved-then-eat_newline c =
    let ts = tokens_of c.args.search.now.scanned.now.pairs in
    let so_far = c.loop-turn.invariant in
    let n = c.len-turn-end.result - (c.loop-turn._turn + 1) in
    let e = one_left (λ k. left ts MAX_NESTING k so_far.0 c.loop-turn.at) c.loop-turn-test.true so_far.1 in
    (so_far.0, e ∙ at_line ts MAX_NESTING n so_far.0 c.loop-turn.at (rw c.new-reader.ensures at c.eat_newline.ensures) c.if-eat_newline.true, so_far.2)

pub returns-in_err-x-clause-fault : goal.returns-in_err-x-clause-fault
returns-in_err-x-clause-fault c =
    let ts = tokens_of c.args.search.now.scanned.now.pairs in
    let so_far = c.loop-turn.invariant in
    let n = c.len-turn-end.result - (c.loop-turn._turn + 1) in
    let e = one_left (λ k. left ts MAX_NESTING k so_far.0 c.loop-turn.at) c.loop-turn-test.true so_far.1 in
    residual c.from_residual.result c.in_err-x.field-0.0 (λ (f : TokenFault). f ≢ Memory → members nodes ts MAX_NESTING c.args.at.now ≡ Err f) c.from_residual.ensures
    (λ other. begins ts MAX_NESTING c.args.at.now ∙ (e ∙ at_fault ts MAX_NESTING n so_far.0 c.loop-turn.at (rw c.new-reader.ensures at c.eat_newline.ensures) c.if-eat_newline.false (c.in_err-x.ensures.fault other)))

pub returns-in_default-clause-members_linted : goal.returns-in_default-clause-members_linted
returns-in_default-clause-members_linted c =
    let ts = tokens_of c.args.search.now.scanned.now.pairs in
    let so_far = c.loop-turn.invariant in
    let n = c.len-turn-end.result - (c.loop-turn._turn + 1) in
    let e = one_left (λ k. left ts MAX_NESTING k so_far.0 c.loop-turn.at) c.loop-turn-test.true so_far.1 in
    let none = rw c.in_default.is at c.in_ok-x.ensures.next in
    (so_far.0, begins ts MAX_NESTING c.args.at.now ∙ (e ∙ at_none ts MAX_NESTING n so_far.0 c.loop-turn.at (rw c.new-reader.ensures at c.eat_newline.ensures) c.if-eat_newline.false none), so_far.2)

pub loop-turn-preserved : goal.loop-turn-preserved
loop-turn-preserved c =
    let ts = tokens_of c.args.search.now.scanned.now.pairs in
    let so_far = c.loop-turn.invariant in
    let n = c.len-turn-end.result - (c.loop-turn._turn + 1) in
    let e = one_left (λ k. left ts MAX_NESTING k so_far.0 c.loop-turn.at) c.loop-turn-test.true so_far.1 in
    let some = rw c.in-Some.is at c.in_ok-x.ensures.next in (
      so_far.0 ++ some.2.member ∷ [],
      e ∙ at_member ts MAX_NESTING n so_far.0 c.loop-turn.at (rw c.new-reader.ensures at c.eat_newline.ensures) c.if-eat_newline.false (read_as some),
      c.in_ok-add_member.ensures c.args.search.now.rules c.args.search.now.scanned.now.pairs so_far.0 so_far.2 some.2,
    )

pub returns-clause-members_linted : goal.returns-clause-members_linted
returns-clause-members_linted c =
    let ts = tokens_of c.args.search.now.scanned.now.pairs in
    let so_far = c.loop-turn.invariant in
    let e = none_left (λ k. left ts MAX_NESTING k so_far.0 c.loop-turn.at) c.loop-turn-test.false so_far.1 in
    (so_far.0, begins ts MAX_NESTING c.args.at.now ∙ (e ∙ at_end ts MAX_NESTING so_far.0 c.loop-turn.at), so_far.2)
