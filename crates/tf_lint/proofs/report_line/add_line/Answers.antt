-- The parts of a line are the line.
use Rattle.std.specs.Prelude.{string_bytes}
use Rattle.tf_lint.proofs.LineWords.{ok_pushed, whole_line}
use Rattle.tf_lint.proofs.report_line.add_line.Goals as goal

pub returns : goal.returns
returns c =
    ok_pushed c.push_str.result (string_bytes c.add_name.new.out) (string_bytes c.push_str.new.self) c.info.result.line_closing.now _ c.push_str.ensures.bytes
    (whole_line c.args.scanned.now.pairs c.args.name.now c.args.finding.now c.args.place c.rule-rule.result c.message-message.result (string_bytes c.args.lines.now) _ _ (string_bytes c.add_name.new.out) c.info.result.line_closing.now
    c.requires c.rule-rule.ensures c.message-message.ensures c.in_ok-add_place.ensures c.in_ok-add_opening.ensures c.in_ok-add_name.ensures c.info.ensures.line_closing)
