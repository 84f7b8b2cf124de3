use Rattle.std.proofs.Common.{◌+◌, not, slice_index, sym, ap, ◌∙◌}
use Rattle.hcl_scan.proofs.FlagLemmas.{id_flags}
use Rattle.hcl_scan.proofs.sixteen.count_id_bytes.Goals as goal

pub returns-clause-id : goal.returns-clause-id
returns-clause-id c = λ k from to.
    sym (id_flags (slice_index c.args.text.now k)) ∙ ap not (c.count_flagged.ensures.flagged k from to)

pub returns-clause-stops : goal.returns-clause-stops
returns-clause-stops c = λ short.
    sym (id_flags (slice_index c.args.text.now (c.args.at + c.count_flagged.result))) ∙ ap not (c.count_flagged.ensures.stops short)
