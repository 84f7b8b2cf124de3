use Rattle.std.proofs.Common.{slice_index}
use Rattle.hcl_scan.proofs.UnitLemmas.{heredoc_ordinary}
use Rattle.hcl_scan.proofs.heredoc.HeredocUnitUnit.count_ordinary_of_16.Goals as goal

pub returns-clause-ordinary : goal.returns-clause-ordinary
returns-clause-ordinary c = λ k from to. heredoc_ordinary c.args.self.now.marker.now (slice_index c.args.text.now k) (c.count_heredoc_bytes.ensures.ordinary k from to)
