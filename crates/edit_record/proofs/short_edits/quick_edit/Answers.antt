use Rattle.std.proofs.Common.{◌∙◌}
use Rattle.edit_record.proofs.ShortEdits.{head_read}
use Rattle.edit_record.proofs.short_edits.quick_edit.Goals as goal

pub returns-clause-read : goal.returns-clause-read
returns-clause-read c = λ whole at place.
    head_read whole at c.in-Some.removed c.in-Some.added c.args.text.now c.in-Some.rest.now place c.in-Some.ensures.lengths ∙ c.in-Some-short_texts.ensures.read at
