-- Whether a text ends in the sequence, by its one error.
use Rattle.std.proofs.lemmas.Bool.{false≢true}
use Rattle.hcl_scan.specs.declared.fault.ScanFault.TheVariants.{OpenTemplate}
use Rattle.hcl_explain.proofs.WithoutLemmas.{by_fault}
use Rattle.hcl_explain.proofs.without.is_open_at.Goals as goal

pub returns-in-Ok : goal.returns-in-Ok
returns-in-Ok c = (
  (λ yes. absurd (false≢true yes)),
  (λ h. absurd (c.no_tokenization_with_fault.ensures c.args.text.now
      (OpenTemplate c.args.opened) c.in-Ok._scanned.pairs c.in-Ok._scanned.last h
      c.in-Ok.ensures.tokenization)),
)

pub returns-in-Err : goal.returns-in-Err
returns-in-Err c =
    by_fault c.one_fault.ensures c.args.text.now c.in-Err.fault (OpenTemplate c.args.opened)
    c.is_of.result c.in-Err.ensures.fault c.is_of.ensures.is c.is_of.ensures.memory
