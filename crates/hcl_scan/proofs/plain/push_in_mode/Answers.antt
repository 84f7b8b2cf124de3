use Rattle.std.proofs.Common.{◌-◌, sym, ap, ◌∙◌, arith}
use Rattle.hcl_scan.specs.Inner.Openings.{modes_of, places_of}
use Rattle.hcl_scan.proofs.plain.push_in_mode.Goals as goal

pub loop-bytes-smaller : goal.loop-bytes-smaller
loop-bytes-smaller c =
    let openings = c.args.openings.now.items in
    let next = c.next_plain_token-is_free.ensures in
    let gap = rw c.requires.mode at next.gap in
    let found = sym (rw c.requires.mode at next.token) ∙ c.in-Some.is in
    let onward = rw c.in-Added.is at c.put_plain.ensures.onward in
    let added = rw c.in-Added.is at c.put_plain.ensures.state in
    let step = rw c.as_bytes-bytes.ensures.value at added in
    let state = step c.loop-bytes.at (modes_of openings) (places_of openings) c.requires.mode gap found c.loop-bytes.invariant.state in
    omega (arith, state.within, gap, onward)

pub loop-bytes-preserved : goal.loop-bytes-preserved
loop-bytes-preserved c =
    let openings = c.args.openings.now.items in
    let next = c.next_plain_token-is_free.ensures in
    let gap = rw c.requires.mode at next.gap in
    let found = sym (rw c.requires.mode at next.token) ∙ c.in-Some.is in
    let onward = rw c.in-Added.is at c.put_plain.ensures.onward in
    let added = rw c.in-Added.is at c.put_plain.ensures.state in
    let step = rw c.as_bytes-bytes.ensures.value at added in
    record {
      state = step c.loop-bytes.at (modes_of openings) (places_of openings) c.requires.mode gap found c.loop-bytes.invariant.state;
      onward = omega (arith, gap, onward, c.loop-bytes.invariant.onward);
      limit_in_capacity = c.loop-bytes.invariant.limit_in_capacity ∙ ap (λ n. n - 2) (sym c.put_plain.ensures.capacity);
    }
