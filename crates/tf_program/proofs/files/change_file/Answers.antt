-- What the command makes of the file that was found and read.
use Rattle.std.proofs.Common.{Result, Ok, subst}
use Rattle.tf_files.specs.Stores.{contents_read}
use Rattle.tf_files.specs.declared.cause.Trouble.{Trouble}
use Rattle.tf_program.specs.Inner.Entries.{IsFoundIn}
use Rattle.tf_program.proofs.Making.{made_of_read}
use Rattle.tf_program.proofs.files.change_file.Goals as goal

pub returns-clause-made : goal.returns-clause-made
returns-clause-made g c =
    let found : IsFoundIn g.S.Store.spot (g.S.Store.known c.args.store.now) c.args.work.name.now (Ok c.in_ok-place.place) =
    subst (λ (p : Result g.row.S-Place.Denot Trouble). IsFoundIn g.S.Store.spot (g.S.Store.known c.args.store.now) c.args.work.name.now p) c.in_ok-place.was c.requires in
    made_of_read _ _ _ _ _ c.in_ok-place.place c.read.new.place (contents_read c.in_ok-read.read) c.change_read.result found.0 c.read.ensures.place c.in_ok-read.ensures.contents c.change_read.ensures
