use Rattle.std.proofs.Common.{Ok, ap, sym}
use Rattle.edit_record.specs.Parsing.{if_valid}
use Rattle.edit_record.proofs.EditSums.{made}
use Rattle.edit_record.proofs.readers.checked_list.Goals as goal

pub returns-in-Some : goal.returns-in-Some
returns-in-Some c = λ rest.
    let edits = c.args.edits.items in
    let valid = c.in-Some.ensures edits c.requires in
    rw (made c.args.old_len c.in-Some.new_len edits valid) (ap (λ e. if_valid c.args.left (Ok e) rest) (sym c.from_valid.ensures))
