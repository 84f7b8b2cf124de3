use Rattle.std.proofs.Common.{sym, subst}
use Rattle.hcl_scan.specs.Inner.Markers.{HasMarker}
use Rattle.hcl_scan.specs.Inner.Openings.{modes_of, places_of}
use Rattle.hcl_scan.proofs.Steps.{marker_tokenized}
use Rattle.hcl_scan.proofs.plain.push_plain_tokens.Goals as goal

pub next_heredoc_token-next-requires-clause-marker : goal.next_heredoc_token-next-requires-clause-marker
next_heredoc_token-next-requires-clause-marker c =
    let openings = c.args.openings.now.items in
    let marked = marker_tokenized c.args.text.now c.args.buffer.items c.args.from (modes_of openings) (places_of openings) c.requires.state in
    rw c.in-Heredoc.is at (subst HasMarker (sym c.mode_in-mode.ensures) marked)
