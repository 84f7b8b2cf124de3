-- The copy has the bytes of the file.
use Rattle.std.proofs.Common.{◌≡◌, ◌∙◌, ◌<◌, get_or, length, rules}
use Rattle.test_store.proofs.Files.{has_read}
use Rattle.test_store.proofs.memory_files.MemoryFiles.copy_of.Goals as goal

pub returns-in_ok-from_slice-in-Some-2-clause-contents : goal.returns-in_ok-from_slice-in-Some-2-clause-contents
returns-in_ok-from_slice-in-Some-2-clause-contents c =
    let below : c.args.number < length c.args.self.now.files.items = search rules in
    let is : c.in-Some.file.now ≡ get_or c.args.self.now.files.items c.args.number c.in-Some.file.now = search rules in
    has_read c.args.self.now c.args.number c.in-Some.file.now (record { text = c.in_ok-from_slice-in-Some.field-0; journal = c.in_ok-from_slice-in-Some-2.field-0 }) below is
    (c.in_ok-from_slice-in-Some.ensures.items ∙ c.deref-in-Some.ensures.value) (c.in_ok-from_slice-in-Some-2.ensures.items ∙ c.deref-in-Some-2.ensures.value)
