-- The saves of the files up to here.
use Rattle.std.proofs.Common.{◌≡◌, take, map}
use Rattle.tf_files.proofs.changed_file.new_saves.Given as goal

abbrev pub invariant-loop-file : goal.invariant-loop-file
invariant-loop-file l = record {
  texts : map (λ save. save.text.bytes.now) l.saves.items ≡ map (λ file. file.now.text.items) (take l.file-index l.files);
  journals : map (λ save. save.journal.bytes.now) l.saves.items ≡ map (λ file. file.now.journal.items) (take l.file-index l.files);
  paths : map (λ save. save.text.paths.now) l.saves.items ≡ map (λ file. file.now.place.paths) (take l.file-index l.files);
}
