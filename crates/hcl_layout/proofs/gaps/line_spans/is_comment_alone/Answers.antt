use Rattle.std.proofs.Common.{◌≡◌, ◌-◌, ◌&&◌, drop, length, slice_range, refl, sym, ap₂, ◌∙◌, arith}
use Rattle.std.proofs.lemmas.List.{length-drop, length-take-le}
use Rattle.hcl_layout.proofs.GapsLemmas.LineSpans.{two_tokens, not_two}
use Rattle.hcl_layout.proofs.gaps.line_spans.is_comment_alone.Goals as goal

pub returns-then-token_count-ne2 : goal.returns-then-token_count-ne2
returns-then-token_count-ne2 c =
    let ps = c.args.scanned.now.pairs in
    let size : length (slice_range ps c.args.at c.args.past) ≡ c.args.past - c.args.at =
    length-take-le (c.args.past - c.args.at) (drop c.args.at ps) (omega (arith, length-drop c.args.at ps, c.requires.ordered, c.requires.within)) in
    sym (not_two (slice_range ps c.args.at c.args.past) (c.args.past - c.args.at) size c.if-token_count-ne2.true)

pub returns : goal.returns
returns c =
    ap₂ (λ x y. x && y) c.is_line_comment.ensures c.is_line_end.ensures
    ∙ sym (two_tokens c.args.scanned.now.pairs c.args.at c.args.past c.kind-a.result c.kind-b.result (omega (arith, c.if-token_count-ne2.false, c.requires.ordered)) c.requires.within c.kind-a.ensures c.kind-b.ensures)
