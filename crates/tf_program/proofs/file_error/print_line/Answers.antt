-- The parts up to the one that failed were printed, and the first bytes of that.
use Rattle.std.proofs.Common.{◌≡◌, Err, rules}
use Rattle.std.specs.Prelude.{codes}
use Rattle.tf_program.specs.Printing.{channel_of}
use Rattle.tf_program.proofs.PrintedParts.{ends_in_1, ends_in_2, ends_in_3, ends_in_4, ends_in_5}
use Rattle.tf_program.proofs.file_error.print_line.Goals as goal

pub returns-in_err-print-clause-part : goal.returns-in_err-print-clause-part
returns-in_err-print-clause-part g c =
    let answer : c.from_residual.result ≡ Err c.in_err-print.field-0.0 = search rules in
    rw answer (ends_in_1 (codes "tfk: ") c.args.name.now (codes ": ") c.args.message.now (codes "\n") c.in_err-print.field-0.0 (channel_of g.F.Write.contents c.args.errors.now) (channel_of g.F.Write.contents c.print.new.stream) c.in_err-print.ensures.fault)

pub returns-in_err-print-2-clause-part : goal.returns-in_err-print-2-clause-part
returns-in_err-print-2-clause-part g c =
    let answer : c.from_residual-in_err-print-2.result ≡ Err c.in_err-print-2.field-0.0 = search rules in
    rw answer (ends_in_2 (codes "tfk: ") c.args.name.now (codes ": ") c.args.message.now (codes "\n") _ _ _ _ _ c.as_bytes.ensures.value c.in_ok-print.ensures.done c.in_err-print-2.ensures.fault)

pub returns-in_err-print-3-clause-part : goal.returns-in_err-print-3-clause-part
returns-in_err-print-3-clause-part g c =
    let answer : c.from_residual-in_err-print-3.result ≡ Err c.in_err-print-3.field-0.0 = search rules in
    rw answer (ends_in_3 (codes "tfk: ") c.args.name.now (codes ": ") c.args.message.now (codes "\n") _ _ _ _ _ _ c.as_bytes.ensures.value c.in_ok-print.ensures.done c.in_ok-print-2.ensures.done c.in_err-print-3.ensures.fault)

pub returns-in_err-print-4-clause-part : goal.returns-in_err-print-4-clause-part
returns-in_err-print-4-clause-part g c =
    let answer : c.from_residual-in_err-print-4.result ≡ Err c.in_err-print-4.field-0.0 = search rules in
    rw answer (ends_in_4 (codes "tfk: ") c.args.name.now (codes ": ") c.args.message.now (codes "\n") _ _ _ _ _ _ _ _ c.as_bytes.ensures.value c.as_bytes-2.ensures.value c.in_ok-print.ensures.done c.in_ok-print-2.ensures.done c.in_ok-print-3.ensures.done c.in_err-print-4.ensures.fault)

pub returns-clause-part : goal.returns-clause-part
returns-clause-part g c =
    ends_in_5 (codes "tfk: ") c.args.name.now (codes ": ") c.args.message.now (codes "\n") _ _ c.print-5.result _ _ _ _ _ _ c.as_bytes.ensures.value c.as_bytes-2.ensures.value c.in_ok-print.ensures.done c.in_ok-print-2.ensures.done c.in_ok-print-3.ensures.done c.in_ok-print-4.ensures.done c.print-5.ensures.fault
