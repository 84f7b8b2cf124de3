-- The files up to here were saved, and there is capacity for the results of the others.
use Rattle.std.proofs.Common.{◌≡◌, ◌≤◌, length, map, take, Some, vec_len, Result}
use Rattle.std.specs.Borrow.{Bor}
use Rattle.std.specs.Vec.{vec_capacity}
use Rattle.std.proofs.Common.{ℕ}
use Rattle.tf_files.specs.Stores.{SavesEach}
use Rattle.tf_files.specs.declared.store.ChangedFile.{ChangedFile}
use Rattle.test_store.specs.Memory.{files_in, spot_of}
use Rattle.test_store.proofs.memory_files.MemoryFilesStore.save_together.Given as goal

abbrev pub invariant-loop-file : goal.invariant-loop-file
invariant-loop-file l = record {
  len : vec_len l.results ≡ l.file-index;
  capacity : length l.files ≤ vec_capacity l.results;
  saves : SavesEach spot_of (map (λ (file : Bor (ChangedFile ℕ)). file.now) (take l.file-index l.files)) l.results.items (Some (files_in l.fn.self)) (Some (files_in l.self));
}
