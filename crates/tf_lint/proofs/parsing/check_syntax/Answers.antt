-- The parser's error is the text's.
use Rattle.std.proofs.Common.{◌≡◌, List, ℕ, sym, subst}
use Rattle.std.specs.Prelude.{Result, IfErr}
use Rattle.hcl_text_laws.specs.Parses.{Parses}
use Rattle.hcl_text_laws.specs.Faults.{IsMemory, IsMemoryOrDeep}
use Rattle.hcl_text_laws.specs.declared.fault.ParseFault.TheVariants as parse
use Rattle.hcl_text_laws.specs.declared.fault.ParseFault.{ParseFault}
use Rattle.hcl_tree.specs.CheckResult.{IsTooDeep}
use Rattle.tf_lint.specs.Faults.{fault_of_parse}
use Rattle.tf_lint.specs.ParseFaults.{IsReadFault}
use Rattle.tf_lint.proofs.DoesNotParse.{not_parsed}
use Rattle.tf_lint.proofs.FileLemmas.{residual}
use Rattle.tf_lint.proofs.parsing.check_syntax.Goals as goal

deep : (f : ParseFault) → IsTooDeep f → IsMemoryOrDeep f
deep (parse.Syntax at) h = h
deep (parse.TooDeep at) h = h
deep parse.Memory h = tt

pub returns-in_err-check-clause-fault : goal.returns-in_err-check-clause-fault
returns-in_err-check-clause-fault c =
    let why = c.in_err-check.field-0.0 in
    residual c.from_residual-in_err-check.result (fault_of_parse why) (IsReadFault c.args.text.now) c.from_residual-in_err-check.ensures
    (not_parsed c.args.text.now c.in_ok-scanned.scanned.pairs c.in_ok-scanned.scanned.last why c.in_ok-scanned.ensures.tokenization
    (λ t p. subst (λ (r : Result (Unit {0}) ParseFault). IfErr r IsMemory) (sym (c.in_err-check.ensures.only t (subst (λ (x : List ℕ). Parses x t) (sym c.in_ok-scanned.ensures.text) p))) tt)
    (λ d t h. deep why (c.in_err-check.ensures.deeper d t h)))
