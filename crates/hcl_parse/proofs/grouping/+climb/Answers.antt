use Rattle.std.proofs.Common.{◌≡◌, ◌-◌, suc, [], refl, sym, ap, ◌∙◌, rules, arith}
use Rattle.hcl_parse.specs.Chains.{before, after, first_level}
use Rattle.hcl_parse.proofs.Chains as chains
use Rattle.hcl_parse.proofs.grouping.+climb.Goals as goal

pub climb-returns-then-next-level-clause-made : goal.climb-returns-then-next-level-clause-made
climb-returns-then-next-level-clause-made t c =
    chains.alone_next c.args.level c.args.head c.args.rest.now (omega (arith, c.if-next-level.true, c.first_level-next.ensures))

pub climb-returns-then-next-level-clause-past : goal.climb-returns-then-next-level-clause-past
climb-returns-then-next-level-clause-past t c =
    rw (chains.before_next c.args.level c.args.rest.now (omega (arith, c.if-next-level.true, c.first_level-next.ensures))) refl

pub climb-returns-then-next-level-clause-left : goal.climb-returns-then-next-level-clause-left
climb-returns-then-next-level-clause-left t c =
    sym (chains.after_next c.args.level c.args.rest.now (omega (arith, c.if-next-level.true, c.first_level-next.ensures)))

pub climb-links-requires : goal.climb-links-requires
climb-links-requires t c =
    let low = c.in_ok-lower.ensures {u = tt} in
    (search (rules, arith), chains.no_lower (c.args.level - 1) c.args.rest.now c.climb.new.rest low.left)

pub climb-returns-clause-made : goal.climb-returns-clause-made
climb-returns-clause-made t c =
    let count : c.args.level ≡ suc (c.args.level - 1) = omega (arith, c.if-next-level.false) in
    let low = c.in_ok-lower.ensures {u = tt} in
    let high = c.in_ok-links.ensures {u = tt} in
    rw count (chains.climbed (c.args.level - 1) c.args.rest.now c.climb.new.rest low.left c.args.head c.in_ok-lower.past c.in_ok-links.past low.past high.past c.in_ok-lower.lower c.in_ok-made.made c.in_ok-links.links low.made high.made (c.in_ok-made.ensures {u = tt}))

pub climb-returns-clause-past : goal.climb-returns-clause-past
climb-returns-clause-past t c =
    let count : c.args.level ≡ suc (c.args.level - 1) = omega (arith, c.if-next-level.false) in
    let low = c.in_ok-lower.ensures {u = tt} in
    let high = c.in_ok-links.ensures {u = tt} in
    rw count (chains.climbed_to (c.args.level - 1) c.args.rest.now c.climb.new.rest low.left c.args.head c.in_ok-lower.past c.in_ok-links.past low.past high.past)

pub climb-returns-clause-left : goal.climb-returns-clause-left
climb-returns-clause-left t c =
    let count : c.args.level ≡ suc (c.args.level - 1) = omega (arith, c.if-next-level.false) in
    let low = c.in_ok-lower.ensures {u = tt} in
    let high = c.in_ok-links.ensures {u = tt} in
    rw count (chains.climbed_left (c.args.level - 1) c.args.rest.now c.climb.new.rest low.left c.links.new.rest high.left)

pub links-each-init : goal.links-each-init
links-each-init t c =
    record { none = c.requires; made = rw c.new-found.ensures refl; ends = refl; left = refl }

pub links-each-smaller : goal.links-each-smaller
links-each-smaller t c =
    let read = c.in_ok-operand-in-Some.ensures {u = tt} in
    chains.fewer c.args.level c.pop.new.self c.climb.new.rest read.left c.in-Some.next c.each.rest c.in-Some.ensures

pub links-each-preserved : goal.links-each-preserved
links-each-preserved t c =
    let read = c.in_ok-operand-in-Some.ensures {u = tt} in
    let here = sym c.first_level.ensures ∙ c.each-test.true in
    record {
      none = chains.no_lower c.args.level c.pop.new.self c.climb.new.rest read.left;
      made = chains.linked c.args.level c.pop.new.self c.climb.new.rest read.left c.in-Some.next c.each.rest c.in-Some.ensures here c.in_ok-operand-in-Some.operand c.operation.result c.each.found c.push.new.self _ read.made c.operation.ensures (c.in_ok-push-in-Some.ensures {u = tt}).ok c.each.invariant.made;
      ends = chains.linked_to c.args.level c.pop.new.self c.climb.new.rest read.left c.in-Some.next c.each.rest c.in-Some.ensures here c.each.end c.in_ok-operand-in-Some.after _ read.past c.each.invariant.ends;
      left = chains.linked_left c.args.level c.pop.new.self c.climb.new.rest read.left c.in-Some.next c.each.rest c.in-Some.ensures here _ c.each.invariant.left;
    }

pub links-returns-in-None-clause-made : goal.links-returns-in-None-clause-made
links-returns-in-None-clause-made t c =
    let none : before (suc c.args.level) c.each.rest ≡ [] = ap (before (suc c.args.level)) c.in-None.ensures.0 in
    chains.ended c.args.level c.each.rest none c.each.found _ c.each.invariant.made

pub links-returns-in-None-clause-past : goal.links-returns-in-None-clause-past
links-returns-in-None-clause-past t c =
    let none : before (suc c.args.level) c.each.rest ≡ [] = ap (before (suc c.args.level)) c.in-None.ensures.0 in
    chains.ended_at c.args.level c.each.rest none c.each.end _ c.each.invariant.ends

pub links-returns-in-None-clause-left : goal.links-returns-in-None-clause-left
links-returns-in-None-clause-left t c =
    c.in-None.ensures.1 ∙ sym (c.each.invariant.left ∙ ap (after (suc c.args.level)) c.in-None.ensures.0)

pub links-returns-clause-made : goal.links-returns-clause-made
links-returns-clause-made t c =
    let other = chains.elsewhere (first_level c.each.rest) c.args.level (λ e. c.each-test.false (c.first_level.ensures ∙ e)) in
    let none = chains.before_upper c.args.level c.each.rest c.each.invariant.none other in
    chains.ended c.args.level c.each.rest none c.each.found _ c.each.invariant.made

pub links-returns-clause-past : goal.links-returns-clause-past
links-returns-clause-past t c =
    let other = chains.elsewhere (first_level c.each.rest) c.args.level (λ e. c.each-test.false (c.first_level.ensures ∙ e)) in
    let none = chains.before_upper c.args.level c.each.rest c.each.invariant.none other in
    chains.ended_at c.args.level c.each.rest none c.each.end _ c.each.invariant.ends

pub links-returns-clause-left : goal.links-returns-clause-left
links-returns-clause-left t c =
    let other = chains.elsewhere (first_level c.each.rest) c.args.level (λ e. c.each-test.false (c.first_level.ensures ∙ e)) in
    sym (c.each.invariant.left ∙ chains.after_upper c.args.level c.each.rest c.each.invariant.none other)
