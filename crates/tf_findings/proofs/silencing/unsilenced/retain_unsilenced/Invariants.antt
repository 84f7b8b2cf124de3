use Rattle.std.proofs.Common.{◌≡◌, ◌++◌, ◌≤◌, ℕ, not, length, drop, take}
use Rattle.std.specs.Prelude.{filter}
use Rattle.hcl_token.specs.Place.{line_of}
use Rattle.tf_rules.specs.declared.finding.Finding.{Finding}
use Rattle.tf_rules.specs.declared.rule.Rule.{Rule}
use Rattle.tf_rules.specs.ValidFindings.{AreValidFindings}
use Rattle.tf_findings.specs.Inner.Annotations.{AreLinesIncreasing, is_silenced_by}
use Rattle.tf_findings.proofs.silencing.unsilenced.retain_unsilenced.Given as goal

abbrev pub invariant-loop-i : goal.invariant-loop-i
invariant-loop-i l = record {
  within : l.kept ≤ l.i;
  valid : AreValidFindings (length l.fn.scanned.pairs) (drop l.i l.found);
  order : (b : ℕ) × AreLinesIncreasing 0 l.rest b;
  same : (rule : Rule) (at : ℕ) → l.last_line ≤ at → is_silenced_by rule at l.rest ≡ is_silenced_by rule at l.fn.annotations;
  lines : l.lines ≡ l.fn.scanned.pairs;
  kept : take l.kept l.found ++ filter (λ (f : Finding). not (is_silenced_by f.rule (line_of l.fn.scanned.pairs f.first) l.fn.annotations)) (drop l.i l.found)
      ≡ filter (λ (f : Finding). not (is_silenced_by f.rule (line_of l.fn.scanned.pairs f.first) l.fn.annotations)) l.initial.found;
}
