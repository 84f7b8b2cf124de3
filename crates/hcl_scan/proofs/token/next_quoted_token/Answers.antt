use Rattle.hcl_scan.specs.Modes.Mode.{Quoted}
use Rattle.hcl_scan.proofs.Steps.{token_within}
use Rattle.hcl_scan.proofs.token.next_quoted_token.Goals as goal

pub returns-clause-within : goal.returns-clause-within
returns-clause-within c =
    let found = rw c.as_bytes.ensures.value at c.quoted_token-token.ensures in
    token_within Quoted c.args.text.now c.args.at tt c.requires.within c.requires.utf8 _ found
