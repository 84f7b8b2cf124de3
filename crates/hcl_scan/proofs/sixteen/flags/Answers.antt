use Rattle.std.proofs.Common.{◌≡◌, length, bit_and, ap₂, sym, ◌∙◌, arith, w8}
use Rattle.std.proofs.lemmas.Simd.{swz_l, length-zip2, length-swz_l, get_or-zip2}
use Rattle.hcl_scan.proofs.FlagLemmas.{lows, highs, length-lows, length-highs, lows_ok, highs_ok, low_at, high_at}
use Rattle.hcl_scan.proofs.sixteen.flags.Goals as goal

pub swizzle : goal.swizzle
swizzle c = lows_ok c.args.v c.requires.0

pub swizzle-2 : goal.swizzle-2
swizzle-2 c = highs_ok c.args.v c.requires.0 c.fits-v.1

pub returns : goal.returns
returns c =
    let v = c.args.v in
    let long = c.requires.0 in
    let left = swz_l w8 16 c.args.low 0 (lows v long) in
    let right = swz_l w8 16 c.args.high 0 (highs v long) in
    let left_len : length left ≡ 16 = length-swz_l w8 16 c.args.low 0 (lows v long) ∙ length-lows v long in
    let right_len : length right ≡ 16 = length-swz_l w8 16 c.args.high 0 (highs v long) ∙ length-highs v long in (
      length-zip2 bit_and left right (left_len ∙ sym right_len) ∙ left_len,
      λ i lt. get_or-zip2 bit_and left right i 0 0 0 (omega (arith, left_len)) (omega (arith, right_len)) ∙ ap₂ bit_and (low_at v long c.args.low i lt) (high_at v long c.fits-v.1 c.args.high i lt),
    )
