use Rattle.std.proofs.Common.{◌≡◌, length, ◌==◌, true, false, get_or, refl, arith}
use Rattle.std.proofs.lemmas.Bool.Decides.{nat_tests}
use Rattle.hcl_layout.specs.Gaps.Inner.Stages.{KEEP_GAP}
use Rattle.hcl_layout.proofs.GapsLemmas.WidthLemmas.{kept_length, spaces_length}
use Rattle.hcl_layout.proofs.gaps.gap_numbers.current_gap_len.Goals as goal

pub returns-then-len : goal.returns-then-len
returns-then-len c =
    let test : (get_or c.args.gaps.now c.args.i 0 == KEEP_GAP) ≡ true = grind (arith, nat_tests, c.if-len.true) in
    kept_length c.args.gaps.now c.args.scanned.now.pairs c.args.i (get_or c.args.gaps.now c.args.i 0) (length c.gap.result.now) c.gap.result.now c.requires.same c.requires.within refl test c.gap.ensures.value refl

pub returns : goal.returns
returns c =
    let test : (get_or c.args.gaps.now c.args.i 0 == KEEP_GAP) ≡ false = grind (arith, nat_tests, c.if-len.false) in
    spaces_length c.args.gaps.now c.args.scanned.now.pairs c.args.i (get_or c.args.gaps.now c.args.i 0) c.requires.same c.requires.within refl test
