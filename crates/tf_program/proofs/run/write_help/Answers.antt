-- The text was printed, or the first bytes of it, and then the end of its last line.
use Rattle.std.proofs.Common.{◌≡◌, Err, rules}
use Rattle.tf_program.specs.Printing.{channel_of}
use Rattle.tf_program.proofs.PrintedParts.{ends_early, ends_whole, ends_part}
use Rattle.tf_program.proofs.run.write_help.Goals as goal

pub returns-in_err-print-clause-part : goal.returns-in_err-print-clause-part
returns-in_err-print-clause-part g c =
    let answer : c.from_residual.result ≡ Err c.in_err-print.field-0.0 = search rules in
    rw answer (ends_early c.args.text.now _ c.in_err-print.field-0.0 (channel_of g.O.Write.contents c.args.output.now) (channel_of g.O.Write.contents c.print.new.stream) c.as_bytes.ensures.value c.in_err-print.ensures.fault)

pub returns-clause-done : goal.returns-clause-done
returns-clause-done g c =
    ends_whole c.args.text.now _ c.line_end.result.now _ c.print-2.result _ _ _ c.as_bytes.ensures.value c.as_bytes-2.ensures.value c.line_end.ensures c.in_ok-print.ensures.done c.print-2.ensures.done

pub returns-clause-part : goal.returns-clause-part
returns-clause-part g c =
    ends_part c.args.text.now _ c.line_end.result.now _ c.print-2.result _ _ _ c.as_bytes.ensures.value c.as_bytes-2.ensures.value c.line_end.ensures c.in_ok-print.ensures.done c.print-2.ensures.fault
