use Rattle.std.proofs.Common.{◌≡◌, ◌≤◌, ℕ, length}
use Rattle.tf_rules.specs.declared.rule.Rule.{Rule}
use Rattle.tf_findings.specs.Inner.Annotations.{AreLinesIncreasing, is_silenced_by}
use Rattle.tf_findings.proofs.silencing.unsilenced.annotations_from.Given as goal

abbrev pub invariant-loop-annotation : goal.invariant-loop-annotation
invariant-loop-annotation l = record {
  order : (b : ℕ) × AreLinesIncreasing 0 l.rest b;
  same : (rule : Rule) (at : ℕ) → l.fn.line ≤ at → is_silenced_by rule at l.rest ≡ is_silenced_by rule at l.fn.annotations;
}

abbrev pub decreases-loop-annotation : goal.decreases-loop-annotation
decreases-loop-annotation l = length l.rest
