use Rattle.std.proofs.Common.{arith}
use Rattle.edit_record.proofs.Pushes.{edit_pushed}
use Rattle.edit_record.proofs.short_texts.push_edit.Goals as goal

pub returns : goal.returns
returns c =
    edit_pushed c.args.at c.args.removed c.args.added c.args.texts.now c.args.out.now.items c.push_number_text.new.out.items c.push_short.new.out.items c.push_reserved.new.self.items c.push_short-2.new.out.items c.push_reserved-2.new.self.items c.push_first.new.out.items c.push_reserved-3.new.self.items (omega arith) c.push_number_text.ensures.text c.push_short.ensures.text c.push_reserved.ensures.items c.push_short-2.ensures.text c.push_reserved-2.ensures.items c.push_first.ensures.text c.push_reserved-3.ensures.items
