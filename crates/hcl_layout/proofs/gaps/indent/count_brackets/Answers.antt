use Rattle.std.proofs.Common.{◌≤◌, ◌<◌, length, ap, arith}
use Rattle.hcl_token.specs.Kinds.{is_opening, is_closing}
use Rattle.hcl_layout.specs.Gaps.Indent.{openings, closings}
use Rattle.hcl_layout.proofs.GapsLemmas.LineLemmas.{none_there}
use Rattle.hcl_layout.proofs.GapsLemmas.LinePass.{count_more, one_at_most}
use Rattle.hcl_layout.proofs.gaps.indent.count_brackets.Goals as goal

pub loop-i-init : goal.loop-i-init
loop-i-init c =
    let ps = c.args.scanned.now.pairs in
    let opened = ap openings (none_there ps c.args.from) in
    let closed = ap closings (none_there ps c.args.from) in
    record {
      all = omega (arith, opened, closed);
      few_opened = omega (arith, opened);
      few_closed = omega (arith, closed);
    }

pub loop-i-preserved : goal.loop-i-preserved
loop-i-preserved c =
    let ps = c.args.scanned.now.pairs in
    let kind = c.kind.result in
    let old = c.loop-i.invariant in
    let later : c.args.from ≤ c.loop-i.i = omega (arith, old.few_opened) in
    let inside : c.loop-i.i < length ps = omega (arith, c.loop-i-test.true, c.requires.within) in
    let opens = count_more is_opening ps c.args.from c.loop-i.i kind later inside c.kind.ensures in
    let closes = count_more is_closing ps c.args.from c.loop-i.i kind later inside c.kind.ensures in
    record {
      all = omega (arith, old.all, opens, closes, c.bracket_number-brackets.ensures);
      few_opened = omega (arith, opens, one_at_most (is_opening kind), old.few_opened);
      few_closed = omega (arith, closes, one_at_most (is_closing kind), old.few_closed);
    }
