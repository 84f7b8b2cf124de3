use Rattle.std.proofs.Common.{◌-◌, [], slice_range, sym, ◌∙◌, arith}
use Rattle.hcl_layout.specs.Gaps.Space.{prev_after_all}
use Rattle.hcl_layout.specs.Gaps.Inner.CodeViews.{prev_kinds}
use Rattle.hcl_layout.proofs.GapsLemmas.RowLemmas.{near_spaced, unasked_spaced}
use Rattle.hcl_layout.proofs.gaps.space.is_spaced_at.Goals as goal

pub returns-then-needs_context : goal.returns-then-needs_context
returns-then-needs_context c =
    near_spaced (prev_after_all (slice_range c.args.scanned.now.pairs c.args.first (c.args.i - 1)) []) (prev_kinds c.prev_kinds_at.result) c.args.scanned.now.pairs c.args.i c.args.a c.spelling-spelling.result.now c.args.b c.is_spaced.result
    (omega (arith, c.requires.after_first)) c.requires.within c.requires.a c.spelling-spelling.ensures.value c.prev_kinds_at.ensures c.is_spaced.ensures

pub returns : goal.returns
returns c =
    unasked_spaced (prev_after_all (slice_range c.args.scanned.now.pairs c.args.first (c.args.i - 1)) []) c.args.scanned.now.pairs c.args.i c.args.a c.spelling-spelling.result.now c.args.b c.is_spaced-2.result
    (omega (arith, c.requires.after_first)) c.requires.within c.requires.a c.spelling-spelling.ensures.value (sym c.needs_context.ensures ∙ c.if-needs_context.false) c.is_spaced-2.ensures
