-- One more file was saved.
use Rattle.std.proofs.Common.{◌∙◌, ◌++◌, ◌∷◌, [], ap, arith, sym, take}
use Rattle.std.proofs.lemmas.List.{take_more}
use Rattle.test_store.proofs.Files.{saves_next}
use Rattle.test_store.proofs.memory_files.MemoryFilesStore.save_together.Goals as goal

pub loop-file-preserved : goal.loop-file-preserved
loop-file-preserved c =
    let done = c.loop-file.invariant in
    let i = c.loop-file.file-index in
    let files = c.args.files.now in
    record {
      len = omega (arith, c.in_ok-push.ensures.len, done.len);
      capacity = omega (arith, done.capacity, c.in_ok-push.ensures.capacity);
      saves = saves_next _ (take i files) _ c.loop-file.results.items _ c.file-item.result c.save.result _ _ _ (take_more files i _ c.loop-file-test.true ∙ ap (λ f. take i files ++ f ∷ []) (sym c.file-item.is)) c.in_ok-push.ensures.items done.saves c.save.ensures.saved c.save.ensures.fault;
    }
