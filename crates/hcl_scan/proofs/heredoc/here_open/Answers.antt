use Rattle.std.proofs.Common.{sym, ◌∙◌}
use Rattle.hcl_scan.proofs.HeredocPlaces.{utf8_after_intro}
use Rattle.hcl_scan.proofs.heredoc.here_open.Goals as goal

pub open_with_marker-requires-clause-utf8 : goal.open_with_marker-requires-clause-utf8
open_with_marker-requires-clause-utf8 c =
    let intro = rw c.as_bytes-bytes.ensures.value at (sym c.is_at_heredoc_start.ensures ∙ c.if-is_at_heredoc_start.true) in
    let len = rw c.as_bytes-bytes.ensures.value at c.heredoc_start_len.ensures in
    utf8_after_intro c.args.text.now c.args.at c.heredoc_start_len.result intro len c.requires.utf8
