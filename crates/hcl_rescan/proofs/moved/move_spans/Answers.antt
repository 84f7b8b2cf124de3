use Rattle.std.proofs.Common.{◌≡◌, ◌+◌, List, get_or, slice_set, sym, ap, ap₂, subst, ◌∙◌, arith, suc}
use Rattle.hcl_token.specs.declared.span.Span.{Span}
use Rattle.hcl_rescan.specs.Inner.MovedSpans.{IsMovable, moved_span}
use Rattle.hcl_rescan.proofs.MovedLemmas.{moved_until, until_here, until_next, movable_at}
use Rattle.hcl_rescan.proofs.moved.move_spans.Goals as goal

found : (c : goal.After-index-spans-k) → c.index-spans-k.result ≡ get_or c.args.spans.now c.loop-k.k c.index-spans-k.result
found c =
    c.index-spans-k.is
    ∙ ap (λ (l : List Span). get_or l c.loop-k.k c.index-spans-k.result) c.loop-k.invariant
    ∙ until_here c.args.from c.args.to c.loop-k.k c.args.spans.now c.index-spans-k.result c.loop-k-test.true

known : (c : goal.After-index-spans-k) → IsMovable c.args.from c.args.to c.index-spans-k.result
known c =
    subst (IsMovable c.args.from c.args.to) (sym (found c))
    (movable_at c.args.from c.args.to c.loop-k.k c.args.spans.now c.index-spans-k.result c.requires c.loop-k-test.true)

pub moved-requires-clause-start : goal.moved-requires-clause-start
moved-requires-clause-start c = (known c).start

pub moved-requires-clause-stop : goal.moved-requires-clause-stop
moved-requires-clause-stop c = (known c).stop

pub moved-requires-clause-fits : goal.moved-requires-clause-fits
moved-requires-clause-fits c = (known c).fits

pub moved-requires-clause-short : goal.moved-requires-clause-short
moved-requires-clause-short c = (known c).short

pub loop-k-preserved : goal.loop-k-preserved
loop-k-preserved c =
    let from = c.args.from in
    let to = c.args.to in
    let k = c.loop-k.k in
    let tokens = c.args.spans.now in
    let one = c.index-spans-k.result in
    let here : one ≡ get_or tokens k one =
    c.index-spans-k.is ∙ ap (λ (l : List Span). get_or l k one) c.loop-k.invariant ∙ until_here from to k tokens one c.loop-k-test.true in
    let next : suc k ≡ k + 1 = omega arith in
    ap₂ (λ (l : List Span) (x : Span). slice_set l k x) c.loop-k.invariant (c.moved.ensures ∙ ap (moved_span from to) here)
    ∙ until_next from to k tokens one c.loop-k-test.true
    ∙ ap (λ n. moved_until from to n tokens) next
