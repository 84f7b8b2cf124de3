use Rattle.hcl_scan.specs.Modes.Mode.{Heredoc}
use Rattle.hcl_scan.proofs.Steps.{token_within}
use Rattle.hcl_scan.proofs.token.next_heredoc_token.Goals as goal

pub returns-clause-within : goal.returns-clause-within
returns-clause-within c =
    let found = rw c.as_bytes.ensures.value at c.heredoc_token-token.ensures in
    token_within (Heredoc c.args.marker.now c.args.at_line_start) c.args.text.now c.args.at c.requires.marker c.requires.within c.requires.utf8 _ found
