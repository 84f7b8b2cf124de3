use Rattle.std.proofs.Common.{◌≡◌, ◌++◌, ◌||◌, ◌-◌, ◌≤◌, ℕ, length, drop}
use Rattle.tf_rules.specs.declared.rule.Rule.{Rule}
use Rattle.tf_rules.specs.Findings.{valid_findings}
use Rattle.tf_rules.specs.Rules.CommentSyntax.{comment_findings}
use Rattle.tf_findings.specs.Silencing.{silenced_from, is_silenced_on}
use Rattle.tf_findings.specs.Inner.Annotations.{AreIncreasing, silences_among}
use Rattle.tf_findings.proofs.CommentLemmas.{found_from}
use Rattle.tf_findings.proofs.comments.collect_comments.Given as goal

abbrev pub invariant-loop-i : goal.invariant-loop-i
invariant-loop-i l = record {
  within : l.i ≤ length l.fn.scanned.pairs;
  found : l.found.items ++ valid_findings (length l.fn.scanned.pairs) (found_from l.fn.rules l.i (drop l.i l.fn.scanned.pairs))
      ≡ l.fn.found.items ++ valid_findings (length l.fn.scanned.pairs) (comment_findings l.fn.rules l.fn.scanned.pairs);
  order : AreIncreasing 0 l.silencing_tokens.items l.i;
  silence : (rule : Rule) (line : ℕ)
      → (silences_among l.fn.scanned.pairs rule line l.silencing_tokens.items || silenced_from l.fn.scanned.pairs rule line l.i (drop l.i l.fn.scanned.pairs)) ≡ is_silenced_on l.fn.scanned.pairs rule line;
}

abbrev pub decreases-loop-i : goal.decreases-loop-i
decreases-loop-i l = length l.scanned.pairs - l.i
