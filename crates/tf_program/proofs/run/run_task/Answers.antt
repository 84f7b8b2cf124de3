-- One more file is done or held; at the end all are done.
use Rattle.std.proofs.Common.{◌∙◌, [], append-nil, arith, rules, take}
use Rattle.std.proofs.lemmas.List.{take_all, take_more}
use Rattle.tf_program.proofs.Running.{ran_more, ran_all, does_here}
use Rattle.tf_program.proofs.run.run_task.Goals as goal

pub loop-name-preserved : goal.loop-name-preserved
loop-name-preserved g c =
    let done = c.loop-name.invariant in
    let more = take_more c.deref-name-items.result.now c.loop-name.name-index _ c.loop-name-test.true in
    record {
      left = omega (arith, c.run_on_file.ensures.reported, done.left);
      waiting = c.run_on_file.ensures.waiting;
      ran = rw more (ran_more _ _ _ _ _ _ _ _ _ done.ran c.run_on_file.ensures.advances);
    }

pub returns-clause-runs : goal.returns-clause-runs
returns-clause-runs g c =
    let done = c.loop-name.invariant in
    let items = c.deref-name-items.result.now in
    let ran = ran_more _ _ _ [] _ _ _ _ _ done.ran c.finish.ensures.step.advances in
    let all = append-nil (take c.loop-name.name-index items) ∙ take_all c.loop-name.name-index items (search rules) ∙ c.deref-name-items.ensures.value in
    does_here _ c.args.task.now.files.items _ _ _ _ all (ran_all _ _ _ _ _ c.finish.new.self c.finish.ensures.none ran)
