use Rattle.std.proofs.Common.{slice_index}
use Rattle.hcl_scan.proofs.UnitLemmas.{quote_ordinary}
use Rattle.hcl_scan.proofs.runs.QuoteUnitUnit.count_ordinary_of_16.Goals as goal

pub returns-clause-ordinary : goal.returns-clause-ordinary
returns-clause-ordinary c = λ k from to. quote_ordinary (slice_index c.args.text.now k) (c.count_quoted_bytes.ensures.ordinary k from to)
