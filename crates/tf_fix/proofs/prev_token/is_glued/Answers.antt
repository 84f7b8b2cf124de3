use Rattle.std.proofs.Common.{◌∙◌, ◌+◌, ◌*◌, ◌≤◌, subst, arith, rules}
use Rattle.tf_fix.specs.Edits.Parts.{boundary_index}
use Rattle.tf_fix.specs.declared.boundary.Boundary.{Boundary}
use Rattle.tf_fix.specs.Inner.Views.{prev_view}
use Rattle.tf_fix.proofs.PrevTokenLemmas.{is_not, empty_is, nonempty_is, glued_after_gap, glued_after_whitespace, glued_short, glued_after_token}
use Rattle.tf_fix.proofs.prev_token.is_glued.Goals as goal

pub returns-then-is_empty : goal.returns-then-is_empty
returns-then-is_empty c =
    let pairs = c.args.scanned.now.pairs in
    let i = c.in-Gap.i in
    let past : 2 * i + 2 ≤ boundary_index c.args.to = search rules in
    rw c.in-Gap.is (c.joins_prev.ensures ∙ glued_after_gap pairs c.args.scanned.now.last (prev_view c.args.prev) i (boundary_index c.args.to) c.gap.result.now c.kind.result c.spelling.result.now
    (omega (arith, past, c.requires.within)) past c.gap.ensures.value (empty_is c.gap.result.now c.is_empty.result c.is_empty.ensures c.if-is_empty.true) c.kind.ensures c.spelling.ensures.value)

pub returns-else-is_empty : goal.returns-else-is_empty
returns-else-is_empty c =
    let pairs = c.args.scanned.now.pairs in
    let i = c.in-Gap.i in
    let past : 2 * i + 2 ≤ boundary_index c.args.to = search rules in
    rw c.in-Gap.is (glued_after_whitespace pairs c.args.scanned.now.last (prev_view c.args.prev) i (boundary_index c.args.to) c.gap.result.now
    (omega (arith, past, c.requires.within)) c.gap.ensures.value (nonempty_is c.gap.result.now c.is_empty.result c.is_empty.ensures c.if-is_empty.false))

pub returns-else-is_after : goal.returns-else-is_after
returns-else-is_after c =
    let pairs = c.args.scanned.now.pairs in
    let i = c.in-Gap.i in
    let order : 2 * i ≤ boundary_index c.args.to = subst (λ (e : Boundary). boundary_index e ≤ boundary_index c.args.to) c.in-Gap.is c.requires.order in
    rw c.in-Gap.is (glued_short pairs c.args.scanned.now.last (prev_view c.args.prev) i (boundary_index c.args.to) (omega (arith, order, c.requires.within))
    (is_not c.is_after.result c.is_after.ensures c.if-is_after.false))

pub returns-then-is_after-2 : goal.returns-then-is_after-2
returns-then-is_after-2 c =
    let pairs = c.args.scanned.now.pairs in
    let i = c.in-Token.i in
    let past : 2 * i + 2 ≤ boundary_index c.args.to = search rules in
    rw c.in-Token.is (c.joins_prev-then-is_after-2.ensures ∙ glued_after_token pairs c.args.scanned.now.last (prev_view c.args.prev) i (boundary_index c.args.to) c.kind-then-is_after-2.result c.spelling-then-is_after-2.result.now
    (omega (arith, past, c.requires.within)) past c.kind-then-is_after-2.ensures c.spelling-then-is_after-2.ensures.value)
