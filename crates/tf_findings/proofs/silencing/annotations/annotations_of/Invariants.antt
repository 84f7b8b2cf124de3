use Rattle.std.proofs.Common.{◌≡◌, ◌||◌, ℕ, length, drop}
use Rattle.hcl_token.specs.Place.{line_of}
use Rattle.tf_rules.specs.declared.rule.Rule.{Rule}
use Rattle.tf_findings.specs.Inner.Annotations.{AreLinesIncreasing, AreIncreasing, is_silenced_by, silences_among}
use Rattle.tf_findings.proofs.silencing.annotations.annotations_of.Given as goal

abbrev pub invariant-loop-i : goal.invariant-loop-i
invariant-loop-i l = record {
  lines : l.lines ≡ l.fn.scanned.pairs;
  order : (next : ℕ) × AreIncreasing next (drop l.i-index l.fn.silencing_tokens) (length l.fn.scanned.pairs) × AreLinesIncreasing 0 l.annotations.items (line_of l.fn.scanned.pairs next);
  hit : (rule : Rule) (line : ℕ)
      → (is_silenced_by rule line l.annotations.items || silences_among l.fn.scanned.pairs rule line (drop l.i-index l.fn.silencing_tokens)) ≡ silences_among l.fn.scanned.pairs rule line l.fn.silencing_tokens;
}
