use Rattle.std.specs.Prelude.{codes}
use Rattle.std.proofs.lemmas.Bool.Decides.{Decides-eqb}
use Rattle.std.proofs.lemmas.Slice.Eq.{starts_is}
use Rattle.edit_record.proofs.Journals.{version_is}
use Rattle.edit_record.proofs.version_1.is_version_1.Goals as goal

pub returns : goal.returns
returns c =
    let old = c.starts_with.result in
    let text = c.args.text.now in
    version_is old text (starts_is Decides-eqb text (codes "tfrec 1") old c.starts_with.ensures.value)
