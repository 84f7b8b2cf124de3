-- Not all was read of the text, or for the journal; or all was, and decode's clause says why it is
-- refused.
use Rattle.std.proofs.Common.{◌≡◌, Err, refl, rules, inl, inr}
use Rattle.hcl_scan.specs.Tokenization.{MAX_TEXT}
use Rattle.tf_session.specs.Faults.{run_fault_of_record}
use Rattle.tf_session.specs.Inner.Faults.{run_fault_of_read}
use Rattle.tf_session.specs.Journals.{MAX_JOURNAL}
use Rattle.tf_session.proofs.Refusing.{not_all_read}
use Rattle.tf_session.proofs.loader.load.Goals as goal

pub returns-in_err-text-clause-fault : goal.returns-in_err-text-clause-fault
returns-in_err-text-clause-fault g c =
    let fault = c.in_err-text.field-0.0 in
    let answer : c.from_residual.result ≡ Err (run_fault_of_read fault) = search rules in
    rw answer (inl (not_all_read MAX_TEXT fault _ c.in_err-text.ensures.fault, search rules))

pub returns-in_err-bytes-clause-fault : goal.returns-in_err-bytes-clause-fault
returns-in_err-bytes-clause-fault g c =
    let fault = c.in_err-bytes.field-0.0 in
    let answer : c.from_residual-in_err-bytes.result ≡ Err (run_fault_of_read fault) = search rules in
    rw answer (inr (inl (c.in_ok-text.text.items, c.in_ok-text.ensures.reads_all, not_all_read MAX_JOURNAL fault _ c.in_err-bytes.ensures.fault)))

pub returns-in_err-journal-clause-fault : goal.returns-in_err-journal-clause-fault
returns-in_err-journal-clause-fault g c =
    let fault = c.in_err-journal.field-0.0 in
    let answer : c.from_residual-in_err-journal.result ≡ Err (run_fault_of_record fault) = search rules in
    rw answer (inr (inr (c.in_ok-text.text.items, c.in_ok-bytes.bytes.items, c.in_ok-text.ensures.reads_all, c.in_ok-bytes.ensures.reads_all, (fault, refl, c.in_err-journal.ensures))))
