-- The files up to here are saved.
use Rattle.std.proofs.Common.{take, map, None}
use Rattle.tf_files.specs.Stores.{SavesEach}
use Rattle.tf_files.proofs.changed_file.save_together.Given as goal

abbrev pub invariant-loop-file : goal.invariant-loop-file
invariant-loop-file g l = SavesEach (λ _. record { text = 0; journal = 0 }) (map (λ file. file.now) (take l.file-index l.files)) l.results.items None None
