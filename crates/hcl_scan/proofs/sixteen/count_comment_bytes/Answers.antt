use Rattle.std.proofs.Common.{slice_index}
use Rattle.hcl_scan.proofs.FlagLemmas.{comment_unlisted}
use Rattle.hcl_scan.proofs.sixteen.count_comment_bytes.Goals as goal

pub returns-clause-ordinary : goal.returns-clause-ordinary
returns-clause-ordinary c = λ k from to. comment_unlisted (slice_index c.args.text.now k) (c.count_unlisted.ensures.unlisted k from to)
