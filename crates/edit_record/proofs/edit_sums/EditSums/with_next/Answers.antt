use Rattle.std.proofs.Common.{◌≡◌, length, take, drop, arith}
use Rattle.std.proofs.lemmas.List.{length-take-le, length-drop}
use Rattle.edit_record.proofs.EditSums.{one_more}
use Rattle.edit_record.proofs.edit_sums.EditSums.with_next.Goals as goal

pub returns-clause-summed : goal.returns-clause-summed
returns-clause-summed c =
    let at = c.args.at in
    let removed = c.args.removed in
    let added = c.args.added in
    let texts = c.args.texts.now in
    let few = c.requires.few in
    let fewer = c.requires.fewer in
    let near = c.requires.near in
    let later = c.requires.follows.later in
    let small = c.requires.follows.few in
    let split_is : length (take removed texts) ≡ removed = length-take-le removed texts (omega (arith, few, c.told-texts)) in
    let new : length (take added (drop removed texts)) ≡ added = length-take-le added (drop removed texts) (omega (arith, few, length-drop removed texts, c.told-texts)) in
    λ es h. one_more es (record { at = at; removed = take removed texts; added = take added (drop removed texts) }) c.args.self _ h later
    (omega (arith, c.requires.follows.some, split_is, new))
    (omega (arith, split_is, near, few)) (omega (arith, split_is, near, few, fewer, later)) (omega (arith, new, small, few))
