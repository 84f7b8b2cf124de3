use Rattle.std.proofs.Common.{List, ℕ, refl, subst}
use Rattle.hcl_scan.specs.Tokenization.{IsTokenization}
use Rattle.tf_lint.specs.Faults.{fault_of_parse}
use Rattle.tf_lint.specs.ParseFaults.{IsReadFault}
use Rattle.tf_lint.proofs.LintLemmas.{read_whole, not_whole}
use Rattle.tf_lint.proofs.FileLemmas.{residual}
use Rattle.tf_lint.proofs.relint.relint_scanned.Goals as goal

pub returns-clause-linted : goal.returns-clause-linted
returns-clause-linted c = λ text same.
    read_whole text _ same (subst (λ (t : List ℕ). IsTokenization t c.args.scanned.pairs c.args.scanned.last) same c.requires.tokenization) c.in_ok-members.ensures.found c.in_ok-members.ensures.members c.in_ok-members.ensures.valid

pub returns-in_err-members-clause-fault : goal.returns-in_err-members-clause-fault
returns-in_err-members-clause-fault c = λ text same.
    residual c.from_residual.result (fault_of_parse c.in_err-members.field-0.0) (IsReadFault text) c.from_residual.ensures (not_whole text c.args.scanned c.in_err-members.field-0.0 _ same (subst (λ (t : List ℕ). IsTokenization t c.args.scanned.pairs c.args.scanned.last) same c.requires.tokenization) refl c.in_err-members.ensures.only c.in_err-members.ensures.too_deep)
