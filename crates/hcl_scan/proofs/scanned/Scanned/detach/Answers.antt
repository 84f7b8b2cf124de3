use Rattle.hcl_scan.specs.declared.token_list.TokenList.{TokenList}
use Rattle.hcl_scan.proofs.ScannedLemmas.{detached}
use Rattle.hcl_scan.proofs.scanned.Scanned.detach.Goals as goal

pub returns : goal.returns
returns c =
    let list : TokenList = record { tokens = c.self.inside.tokens; last_gap_at = c.self.inside.last_gap_at } in
    detached c.self.inside.text.now list _ c.self.view_is c.self.invariant.0
