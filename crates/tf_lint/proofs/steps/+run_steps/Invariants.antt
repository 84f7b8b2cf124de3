use Rattle.std.proofs.Common.{ℕ, suc, length}
use Rattle.tf_lint.specs.declared.steps.FirstChange.{FirstChange}
use Rattle.tf_lint.specs.declared.steps.FirstChange.TheVariants.{NoChange, Changed}
use Rattle.tf_lint.proofs.steps.+run_steps.Given as goal

-- how many rules may still take a step
abbrev pub left : FirstChange → ℕ
left (NoChange fixed) = 0
left (Changed fixed change by rest) = suc (length rest.now)

abbrev pub decreases-run_steps : goal.decreases-run_steps
decreases-run_steps l = left l.state.found_change
