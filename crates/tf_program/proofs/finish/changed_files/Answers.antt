-- The file of one entry more.
use Rattle.std.proofs.Common.{◌∙◌, ◌++◌, List, [], ap, sym, take}
use Rattle.tf_files.specs.declared.store.ChangedFile.{ChangedFile}
use Rattle.tf_program.specs.Inner.Entries.{file_of, files_of, with_file}
use Rattle.tf_program.proofs.Keeping.{taken_entry, files_more}
use Rattle.tf_program.proofs.finish.changed_files.Goals as goal

pub loop-entry-preserved : goal.loop-entry-preserved
loop-entry-preserved g c =
    let i = c.loop-entry.entry-index in
    let entry = c.entry-item.result in
    let taken = taken_entry c.args.entries.now i entry c.loop-entry-test.true c.entry-item.is in
    c.in_ok-push_changed.ensures
    ∙ ap (λ (files : List (ChangedFile g.row.P.Denot)). files ++ with_file (file_of entry.made) []) c.loop-entry.invariant
    ∙ sym (files_more (take i c.args.entries.now) entry) ∙ sym (ap files_of taken)
