-- A write goes on where the writes before it ended.
use Rattle.std.proofs.Common.{◌∙◌, ◌<◌, arith, length-drop, rules}
use Rattle.std.proofs.Math.Seq.{take-add}
use Rattle.std.proofs.lemmas.List.{take_rest}
use Rattle.std.proofs.KnownBytes.{Appends-trans}
use Rattle.std.proofs.lemmas.Grind.{common_steps}
use Rattle.tf_stream.proofs.Failures.{some_taken}
use Rattle.tf_stream.proofs.writing.write_and_flush.Goals as goal

pub loop-sent-preserved : goal.loop-sent-preserved
loop-sent-preserved g c =
    let some : 0 < c.in-Ok.n = omega arith in
    let bytes = simp take_rest at c.in-Ok.ensures.bytes in
    let bound = simp take_rest at c.in-Ok.ensures.bound in
    record {
      within = omega (arith, bound, length-drop c.loop-sent.sent c.args.bytes.now);
      appended = rw take-add (Appends-trans _ _ _ _ _ c.loop-sent.invariant.appended bytes);
      fresh = some_taken _ _ c.in-Ok.n _ c.in-Ok.ensures.failed some ∙ c.loop-sent.invariant.fresh;
    }

-- what the check tries anyway: with an answer here, a mutant is refused without a second search
pub returns-in-Err-clause-fault : goal.returns-in-Err-clause-fault
returns-in-Err-clause-fault g c = first_of (search rules, grind (arith, common_steps))
