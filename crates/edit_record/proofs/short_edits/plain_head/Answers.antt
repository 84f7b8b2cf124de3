use Rattle.edit_record.proofs.ShortEdits.{head_read}
use Rattle.edit_record.proofs.short_edits.plain_head.Goals as goal

pub returns : goal.returns
returns c =
    head_read c.args.text.now c.in-Some.at c.in-Some-plain_lengths.removed c.in-Some-plain_lengths.added c.in-Some.rest.now c.in-Some-plain_lengths.rest.now c.in-Some.ensures c.in-Some-plain_lengths.ensures
