-- Whether a sequence makes the error of a text, which has one.
use Rattle.std.proofs.lemmas.Bool.{false≢true}
use Rattle.hcl_explain.proofs.WithoutLemmas.{made_by_fault}
use Rattle.hcl_explain.proofs.without.makes_error.Goals as goal

pub returns-in-Ok : goal.returns-in-Ok
returns-in-Ok c = (
  (λ yes. absurd (false≢true yes)),
  (λ m. absurd (c.no_tokenization_with_fault.ensures c.args.text.now m.0
      c.in-Ok._scanned.pairs c.in-Ok._scanned.last m.1 c.in-Ok.ensures.tokenization)),
)

pub returns-in-Err : goal.returns-in-Err
returns-in-Err c =
    made_by_fault c.one_fault.ensures c.args.text.now c.args.opened c.in-Err.fault
    c.makes.result c.in-Err.ensures.fault c.makes.ensures.made c.makes.ensures.memory
