use Rattle.std.proofs.Common.{sym}
use Rattle.hcl_token.proofs.JoinLemmas.{ends_with-last}
use Rattle.hcl_token.proofs.join_table.ends_with.Goals as goal

pub returns-in-Some : goal.returns-in-Some
returns-in-Some c = sym (ends_with-last c.args.byte c.args.spelling.now c.in-Some.last.now (sym c.in-Some.ensures.value))
