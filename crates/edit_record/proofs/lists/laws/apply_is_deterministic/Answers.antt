use Rattle.std.proofs.Common.{◌≡◌, Ok}
use Rattle.edit_record.specs.Lists.Validity.{ApplyIsDeterministic}
use Rattle.edit_record.specs.Lists.Inner.Exact.{forward_exact}
use Rattle.edit_record.specs.Lists.Apply.{apply_edits}
use Rattle.edit_record.specs.declared.lists.direction.Direction.TheVariants.{Forward}
use Rattle.edit_record.proofs.lists.laws.apply_is_deterministic.Goals as goal

-- both are what applying answers
into_one : ApplyIsDeterministic
into_one e t u v p q =
    let a : apply_edits Forward e t ≡ Ok u = (forward_exact e t u).1 p in
    let b : apply_edits Forward e t ≡ Ok v = (forward_exact e t v).1 q in
    cc

pub returns : goal.returns
returns c = into_one
