-- One record more.
use Rattle.std.proofs.Common.{rules}
use Rattle.std.specs.Prelude.{string_bytes}
use Rattle.tf_session.specs.Session.{contents_of}
use Rattle.tf_program.proofs.Listing.{one_more_line}
use Rattle.tf_program.proofs.record_list.record_lines.Goals as goal

pub loop-before-preserved : goal.loop-before-preserved
loop-before-preserved c =
    one_more_line (contents_of c.args.session.now) c.records-records.result.now c.loop-before.before c.index-records-before.result _ (string_bytes c.loop-before.lines) (string_bytes c.push_str.new.self) (string_bytes c.in_ok-line.line)
    (search rules) c.index-records-before.is c.loop-before.invariant
    (c.in_ok-refusal.refusal, c.in_ok-refusal.ensures, string_bytes c.in_ok-suffix.suffix, c.in_ok-suffix.ensures, search rules) (search rules)
