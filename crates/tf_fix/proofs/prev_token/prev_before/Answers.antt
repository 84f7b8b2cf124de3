use Rattle.std.proofs.Common.{◌+◌, ◌*◌, ◌≤◌, length, subst, arith}
use Rattle.tf_fix.specs.Edits.Parts.{boundary_index}
use Rattle.tf_fix.specs.declared.boundary.Boundary.{Boundary}
use Rattle.tf_fix.specs.Inner.Views.{prev_view}
use Rattle.tf_fix.proofs.PrevTokenLemmas.{empty_is, nonempty_is, prev_empty, prev_whitespace, before_gap}
use Rattle.tf_fix.proofs.prev_token.prev_before.Goals as goal

pub returns-then-is_empty : goal.returns-then-is_empty
returns-then-is_empty c =
    let pairs = c.args.scanned.now.pairs in
    let from = boundary_index c.args.from in
    let i = c.in-Token.i in
    let order : from ≤ 2 * i + 1 = subst (λ (e : Boundary). from ≤ boundary_index e) c.in-Token.is c.requires.order in
    let within : 2 * i + 1 ≤ 2 * length pairs = subst (λ (e : Boundary). boundary_index e ≤ 2 * length pairs) c.in-Token.is c.requires.within in
    rw c.in-Token.is (prev_empty pairs c.args.scanned.now.last (prev_view c.args.prev) from i c.gap.result.now (prev_view c.prev_before_gap-then-is_empty.result)
    (before_gap from i c.is_before_token.result order c.is_before_token.ensures c.if-is_before_token.false) (omega (arith, within)) c.gap.ensures.value (empty_is c.gap.result.now c.is_empty.result c.is_empty.ensures c.if-is_empty.true) c.prev_before_gap-then-is_empty.ensures)

pub returns-else-is_empty : goal.returns-else-is_empty
returns-else-is_empty c =
    let pairs = c.args.scanned.now.pairs in
    let from = boundary_index c.args.from in
    let i = c.in-Token.i in
    let order : from ≤ 2 * i + 1 = subst (λ (e : Boundary). from ≤ boundary_index e) c.in-Token.is c.requires.order in
    let within : 2 * i + 1 ≤ 2 * length pairs = subst (λ (e : Boundary). boundary_index e ≤ 2 * length pairs) c.in-Token.is c.requires.within in
    rw c.in-Token.is (prev_whitespace pairs c.args.scanned.now.last (prev_view c.args.prev) from i c.gap.result.now
    (before_gap from i c.is_before_token.result order c.is_before_token.ensures c.if-is_before_token.false) (omega (arith, within)) c.gap.ensures.value (nonempty_is c.gap.result.now c.is_empty.result c.is_empty.ensures c.if-is_empty.false))
