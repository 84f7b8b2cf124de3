-- The lines of the records up to here.
use Rattle.std.proofs.Common.{take}
use Rattle.std.specs.Prelude.{string_bytes}
use Rattle.tf_session.specs.Session.{contents_of}
use Rattle.tf_program.specs.Lines.{AreRecordLines}
use Rattle.tf_program.proofs.record_list.record_lines.Given as goal

abbrev pub invariant-loop-before : goal.invariant-loop-before
invariant-loop-before l =
    AreRecordLines (contents_of l.session) 1 (take l.before l.records) (string_bytes l.lines)
