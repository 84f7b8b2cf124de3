use Rattle.std.proofs.Common.{◌≤◌, ◌<◌, length, arith}
use Rattle.hcl_rescan.proofs.LineLemmas.{apart_one, apart_more, apart_all}
use Rattle.hcl_rescan.proofs.anew.are_apart.Goals as goal

pub loop-i-init : goal.loop-i-init
loop-i-init c = apart_one c.args.scanned.now.pairs

pub loop-i-preserved : goal.loop-i-preserved
loop-i-preserved c =
    let some : 0 < c.loop-i.i = omega arith in
    let within : c.loop-i.i < length c.args.scanned.now.pairs = omega arith in
    apart_more c.args.scanned.now.pairs c.loop-i.i some within c.loop-i.invariant (c.joins_previous.ensures c.if-joins_previous.false)

pub returns : goal.returns
returns c = λ _.
    let all : length c.args.scanned.now.pairs ≤ c.loop-i.i = omega arith in
    apart_all c.args.scanned.now.pairs c.loop-i.i all c.loop-i.invariant
