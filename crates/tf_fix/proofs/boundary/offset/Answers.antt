use Rattle.std.proofs.Common.{◌≡◌, ◌+◌, ◌-◌, ◌*◌, ◌≤◌, length, take, ap, subst, ◌∙◌, arith}
use Rattle.tf_fix.specs.Edits.Parts.{parts, text_of_parts, boundary_index}
use Rattle.tf_fix.specs.declared.boundary.Boundary.{Boundary}
use Rattle.tf_fix.proofs.PrevTokenLemmas.{start_at, stop_at}
use Rattle.tf_fix.proofs.boundary.offset.Goals as goal

pub returns-else-i-eq0 : goal.returns-else-i-eq0
returns-else-i-eq0 c =
    let within : 2 * c.in-Gap.i ≤ 2 * length c.args.scanned.now.pairs = subst (λ (e : Boundary). boundary_index e ≤ 2 * length c.args.scanned.now.pairs) c.in-Gap.is c.requires in
    let some = c.if-i-eq0.false in
    let two : 2 * (c.in-Gap.i - 1) + 2 ≡ 2 * c.in-Gap.i = omega (arith, some) in
    rw c.in-Gap.is (stop_at c.args.scanned.now.pairs c.args.scanned.now.last (c.in-Gap.i - 1) c.item.result (omega (arith, within, some)) c.item.ensures
    ∙ ap (λ k. length (text_of_parts (take k (parts c.args.scanned.now)))) two)

pub returns-in-Token : goal.returns-in-Token
returns-in-Token c =
    let within : 2 * c.in-Token.i + 1 ≤ 2 * length c.args.scanned.now.pairs = subst (λ (e : Boundary). boundary_index e ≤ 2 * length c.args.scanned.now.pairs) c.in-Token.is c.requires in
    rw c.in-Token.is (start_at c.args.scanned.now.pairs c.args.scanned.now.last c.in-Token.i c.item-in-Token.result (omega (arith, within)) c.item-in-Token.ensures)
