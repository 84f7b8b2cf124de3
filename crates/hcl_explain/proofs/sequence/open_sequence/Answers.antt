-- A text that has tokens, or another error, ends in no template sequence.
use Rattle.hcl_scan.specs.declared.fault.ScanFault.TheVariants.{OpenTemplate}
use Rattle.hcl_explain.proofs.SequenceLemmas.{none_open}
use Rattle.hcl_explain.proofs.sequence.open_sequence.Goals as goal

pub returns-in-Ok-clause-none : goal.returns-in-Ok-clause-none
returns-in-Ok-clause-none c = λ at opened.
    c.no_tokenization_with_fault.ensures c.args.text.now (OpenTemplate at) c.in-Ok._scanned.pairs
    c.in-Ok._scanned.last opened c.in-Ok.ensures.tokenization

pub returns-in-Err-clause-none : goal.returns-in-Err-clause-none
returns-in-Err-clause-none c =
    none_open c.one_fault.ensures c.args.text.now c.in-Err.fault c.opened_at.result
    c.in-Err.ensures.fault c.opened_at.ensures.none c.opened_at.ensures.memory
