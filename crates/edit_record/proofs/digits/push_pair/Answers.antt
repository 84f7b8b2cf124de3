use Rattle.std.proofs.Common.{◌+◌, ◌*◌, ◌∷◌, [], get_or, refl, sym}
use Rattle.edit_record.specs.Inner.Digits.{two_digits}
use Rattle.edit_record.specs.declared.digits.TheConstants.{PAIRS}
use Rattle.edit_record.proofs.PairTable.{has_pairs, pair_at}
use Rattle.edit_record.proofs.Pushes.{joined}
use Rattle.edit_record.proofs.digits.push_pair.Goals as goal

pub returns-clause-text : goal.returns-clause-text
unfolding has_pairs
returns-clause-text c =
    let n = c.args.number in
    let a = get_or PAIRS (n * 2) 0 in
    let b = get_or PAIRS (n * 2 + 1) 0 in
    let pair = pair_at PAIRS 100 n refl c.requires.small in
    joined c.args.out.now.items c.push_reserved.new.self.items c.push_reserved-2.new.self.items (a ∷ []) (b ∷ []) (two_digits n) c.push_reserved.ensures.items c.push_reserved-2.ensures.items (sym (λ i. pair.0 i ∷ pair.1 i ∷ []))
