use Rattle.std.proofs.Common.{◌<◌, ◌≡◌, ◌+◌, true, false, length, sym, subst, ◌∙◌, arith}
use Rattle.hcl_layout.specs.Gaps.Inner.Stages.{SplitsLine}
use Rattle.hcl_layout.proofs.GapsLemmas.LineLemmas.{IsInLine, in_line_begins, in_line_next, line_ends, text_ends}
use Rattle.hcl_layout.proofs.gaps.lines.line_at.Goals as goal

pub loop-i-init : goal.loop-i-init
loop-i-init c = in_line_begins c.args.scanned.now.pairs c.args.at true

pub heredocs_after-open_heredocs-requires : goal.heredocs_after-open_heredocs-requires
heredocs_after-open_heredocs-requires c = omega (arith, c.loop-i.invariant.small, c.loop-i-test.true, c.len-i-end.ensures.value, c.requires.within_limit)

pub returns-then-ends_line : goal.returns-then-ends_line
returns-then-ends_line c =
    let inside : c.loop-i.i < length c.args.scanned.now.pairs = omega (arith, c.loop-i-test.true, c.len-i-end.ensures.value) in
    record {
      split =
          subst (λ b. SplitsLine c.args.scanned.now.pairs c.args.at true (c.loop-i.i + 1) b) (sym c.is_here_open.ensures)
          (line_ends _ _ _ _ _ c.kind-kind.result c.loop-i.invariant c.requires.within inside c.kind-kind.ensures (sym c.ends_line.ensures ∙ c.if-ends_line.true));
      flags = λ h. absurd (cc);
    }

pub loop-i-preserved : goal.loop-i-preserved
loop-i-preserved c =
    let inside : c.loop-i.i < length c.args.scanned.now.pairs = omega (arith, c.loop-i-test.true, c.len-i-end.ensures.value) in
    subst (λ h. IsInLine c.args.scanned.now.pairs c.args.at true (c.loop-i.i + 1) h) (sym c.heredocs_after-open_heredocs.ensures)
    (in_line_next _ _ _ _ _ c.kind-kind.result c.loop-i.invariant inside c.kind-kind.ensures (sym c.ends_line.ensures ∙ c.if-ends_line.false))

pub returns : goal.returns
returns c =
    let top = c.loop-i.auto.i-end (omega (arith, c.requires.within, c.len-i-end.ensures.value)) in
    let end : c.loop-i.i ≡ length c.args.scanned.now.pairs = omega (arith, top, c.loop-i-test.false, c.len-i-end.ensures.value) in
    let whole : c.len.result ≡ length c.args.scanned.now.pairs = c.len.ensures.value in
    record {
      split =
          subst (λ n. SplitsLine c.args.scanned.now.pairs c.args.at true n false) (sym whole)
          (text_ends _ _ _ c.loop-i.i _ c.loop-i.invariant c.requires.within end);
      flags = λ h. absurd (cc);
    }
