use Rattle.std.proofs.Common.{refl}
use Rattle.std.proofs.lemmas.List.{drop-take}
use Rattle.edit_record.proofs.lists.edit.Edit.from_adjacent.Goals as goal

pub returns : goal.returns
returns c = rw (drop-take c.args.removed c.args.added c.args.texts) refl
