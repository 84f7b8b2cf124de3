use Rattle.std.proofs.Common.{refl}
use Rattle.tf_lint.proofs.member.next_member.Goals as goal

pub returns-clause-next : goal.returns-clause-next
returns-clause-next c =
    let found = rw c.in-Some.is at (c.in_ok-x.ensures c.args.search.now.rules c.requires) in
    (found.0, refl, found.1)
