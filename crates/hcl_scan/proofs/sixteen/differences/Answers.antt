use Rattle.std.proofs.Common.{◌≡◌, length, get_or, ap, sym, ◌∙◌, arith, w8}
use Rattle.std.specs.Int.Bits.{bit_xor}
use Rattle.std.proofs.lemmas.Simd.{swz_l, length-zip2, length-swz_l, get_or-zip2}
use Rattle.hcl_scan.proofs.FlagLemmas.{lows, length-lows, lows_ok, low_at}
use Rattle.hcl_scan.proofs.sixteen.differences.Goals as goal

pub swizzle : goal.swizzle
swizzle c = lows_ok c.args.v c.requires.0

pub returns : goal.returns
returns c =
    let v = c.args.v in
    let long = c.requires.0 in
    let entries = swz_l w8 16 c.args.table 0 (lows v long) in
    let size : length entries ≡ 16 = length-swz_l w8 16 c.args.table 0 (lows v long) ∙ length-lows v long in (
      length-zip2 bit_xor v entries (long ∙ sym size) ∙ long,
      λ i lt. get_or-zip2 bit_xor v entries i 0 0 0 (omega (arith, long)) (omega (arith, size)) ∙ ap (bit_xor (get_or v i 0)) (low_at v long c.args.table i lt),
    )
