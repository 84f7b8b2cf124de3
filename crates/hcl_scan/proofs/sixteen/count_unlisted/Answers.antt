use Rattle.std.proofs.Common.{ℕ, ◌-◌, ◌<◌, ◌==◌, not, get_or, slice_index, sym, ap, ◌∙◌, arith}
use Rattle.std.proofs.lemmas.Bool.{not-true, not-false}
use Rattle.std.proofs.lemmas.List.Sums.{prefix_len-le-length, prefix_len_passes, prefix_len_stops}
use Rattle.std.proofs.lemmas.Simd.{get_or-chunk}
use Rattle.hcl_scan.specs.Inner.Flags.{difference_at}
use Rattle.hcl_scan.proofs.sixteen.count_unlisted.Goals as goal

pub returns-clause-within : goal.returns-clause-within
returns-clause-within c =
    omega (arith, c.count_nonzero.ensures, c.differences.ensures.0, prefix_len-le-length (λ x. not (x == 0)) c.differences.result)

pub returns-clause-unlisted : goal.returns-clause-unlisted
returns-clause-unlisted c = λ k from to.
    let i : ℕ = k - c.args.at in
    let count = c.count_nonzero.ensures in
    let most = prefix_len-le-length (λ x. not (x == 0)) c.differences.result in
    let within : i < 16 = omega (arith, count, c.differences.ensures.0, most) in
    let passes = prefix_len_passes (λ x. not (x == 0)) c.differences.result i 0 (omega (arith, count)) in
    let byte = get_or-chunk c.args.at 16 c.args.text.now i 0 within ∙ ap (slice_index c.args.text.now) (omega arith) in
    let is = c.differences.ensures.1 i within ∙ ap (difference_at c.args.table) byte in
    ap (λ x. x == 0) (sym is) ∙ not-true _ passes

pub returns-clause-stops : goal.returns-clause-stops
returns-clause-stops c = λ short.
    let i = c.count_nonzero.result in
    let count = c.count_nonzero.ensures in
    let fails = prefix_len_stops (λ x. not (x == 0)) c.differences.result 0 (omega (arith, count, c.differences.ensures.0)) in
    let byte = get_or-chunk c.args.at 16 c.args.text.now i 0 short in
    let is = c.differences.ensures.1 i short ∙ ap (difference_at c.args.table) byte in
    ap (λ x. x == 0) (sym is ∙ ap (λ n. get_or c.differences.result n 0) count) ∙ not-false _ fails
