-- The first line was printed, and then the second one if there is one, as far as no call failed.
use Rattle.std.proofs.Common.{rules}
use Rattle.tf_program.proofs.PrintedParts.{short_part, short_line, short_lines}
use Rattle.tf_program.proofs.file_error.FileError.print_in_pieces.Goals as goal

pub returns-in_err-print_line : goal.returns-in_err-print_line
returns-in_err-print_line g c = short_part c.args.name.now c.short_message-message.result.bytes _ c.args.self.now _ _ (search rules) c.short_message-message.ensures c.in_err-print_line.ensures.part

pub returns-then-has_second_line : goal.returns-then-has_second_line
returns-then-has_second_line g c =
    short_lines c.args.name.now c.short_message-message.result.bytes _ c.args.self.now c.print_line-then-has_second_line.result _ _ _ (search rules) c.short_message-message.ensures c.in_ok-print_line.ensures.done c.print_line-then-has_second_line.ensures.done c.print_line-then-has_second_line.ensures.part

pub returns : goal.returns
returns g c = short_line c.args.name.now c.short_message-message.result.bytes _ c.args.self.now _ _ (search rules) c.short_message-message.ensures c.in_ok-print_line.ensures.done
