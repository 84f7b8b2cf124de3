-- The file has the new bytes, and all others stay.
use Rattle.std.proofs.Common.{◌≡◌, ◌∙◌, ◌<◌, ℕ, List, ap₂, arith, length, refl}
use Rattle.tf_files.specs.Stores.{contents_read, contents_to_save}
use Rattle.test_store.proofs.Files.{has_saved}
use Rattle.test_store.proofs.memory_files.MemoryFilesStore.save.Goals as goal

pub returns-in-Some-clause-saved : goal.returns-in-Some-clause-saved
returns-in-Some-clause-saved c =
    let below : c.args.file.now.place < length c.args.self.now.files.items = omega (arith, c.in-Some.ensures.variant.0 refl, c.args.self.now.files.ok.0) in
    has_saved c.args.self.now c.args.file.now.place _ (contents_to_save c.args.file.now) below
    (ap₂ (λ (t j : List ℕ). record { text = t; journal = j }) (c.in_ok-from_slice.ensures.items ∙ c.deref.ensures.value) (c.in_ok-from_slice-2.ensures.items ∙ c.deref-2.ensures.value))
