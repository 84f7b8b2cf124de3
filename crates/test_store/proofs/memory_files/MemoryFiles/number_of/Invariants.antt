-- None of the names up to here is the one that is looked for.
use Rattle.std.proofs.Common.{◌≡◌, drop, length}
use Rattle.test_store.specs.Memory.{number_of}
use Rattle.test_store.proofs.memory_files.MemoryFiles.number_of.Given as goal

abbrev pub invariant-loop-entry : goal.invariant-loop-entry
invariant-loop-entry l = number_of (drop l.entry-index l.entry-items) (length l.self.files.items) l.name ≡ number_of l.self.names.items (length l.self.files.items) l.name
