use Rattle.hcl_explain.specs.Sequences.{IsClosedInComment}
use Rattle.hcl_explain.proofs.SequenceLemmas.{decided_of}
use Rattle.hcl_explain.proofs.scan_error.is_hidden.Goals as goal

pub returns : goal.returns
returns c =
    decided_of IsClosedInComment _ _ c.is_closed_in_comment.result c.bytes_from.ensures
    c.is_closed_in_comment.ensures
