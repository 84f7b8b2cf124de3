-- The files of the entries up to here.
use Rattle.std.proofs.Common.{◌≡◌, map, take}
use Rattle.std.specs.Borrow.{Bor}
use Rattle.tf_files.specs.declared.store.ChangedFile.{ChangedFile}
use Rattle.tf_program.specs.Inner.Entries.{files_of}
use Rattle.tf_program.proofs.finish.changed_files.Given as goal

abbrev pub invariant-loop-entry : goal.invariant-loop-entry
invariant-loop-entry g l = map (λ (file : Bor (ChangedFile g.row.P.Denot)). file.now) l.files.items ≡ files_of (take l.entry-index l.entries)
