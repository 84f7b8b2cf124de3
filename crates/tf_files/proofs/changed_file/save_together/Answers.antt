-- One more file is saved, and its result is kept.
use Rattle.std.proofs.Common.{List, None, ◌++◌, [], ◌∷◌, Result, map, take, subst, sym}
use Rattle.tf_files.specs.Stores.{Spot, SavesEach}
use Rattle.tf_files.specs.declared.cause.Trouble.{Trouble}
use Rattle.tf_files.specs.declared.disk.DiskFile.{DiskFile}
use Rattle.tf_files.specs.declared.store.ChangedFile.{ChangedFile}
use Rattle.tf_files.proofs.Saving.{one_more_saved, taken_file}
use Rattle.tf_files.proofs.changed_file.save_together.Goals as goal

pub loop-file-preserved : goal.loop-file-preserved
loop-file-preserved g c =
    let spot : DiskFile → Spot = λ _. record { text = 0; journal = 0 } in
    let done = map (λ file. file.now) (take c.loop-file.file-index c.args.files.now) in
    let file = c.file-item.result.now in
    let one = one_more_saved spot done c.loop-file.results.items file c.complete.result None None None c.loop-file.invariant tt c.complete.ensures.fault in
    let there = subst (λ (rs : List (Result (Unit {0}) Trouble)). SavesEach spot (done ++ file ∷ []) rs None None) (sym c.in_ok-push.ensures.items) one in
    subst (λ (fs : List (ChangedFile DiskFile)). SavesEach spot fs c.push.new.self.items None None)
    (sym (taken_file c.args.files.now c.loop-file.file-index c.file-item.result c.loop-file-test.true c.file-item.is)) there
