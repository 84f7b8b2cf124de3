-- One rule's step, by what a set of rules found.
use Rattle.std.proofs.Common.{◌≡◌, ◌⊎◌, ◌<◌, ◌≤◌, ℕ, List, length, sym, ap, subst, ◌∙◌, inl, inr}
use Rattle.hcl_scan.specs.Tokenization.{MAX_TEXT}
use Rattle.hcl_token.specs.TokenizedText.{TokenizedText}
use Rattle.edit_record.specs.Lists.Pieces.{EditList, Transforms}
use Rattle.tf_fix.specs.StepText.{fix_step_text}
use Rattle.tf_fix.specs.Edits.StepEdits.{fix_step_edits}
use Rattle.tf_rules.specs.SingleRule.{only}
use Rattle.tf_rules.specs.declared.finding.Finding.{Finding}
use Rattle.tf_rules.specs.declared.rule.Rule.{Rule}
use Rattle.tf_fix.specs.OneStep.{RulesFind, step_count_of, IsTooLong, IsFixStep}
use Rattle.tf_fix.specs.declared.fault.LintFault.{LintFault}
use Rattle.tf_fix.specs.declared.fault.LintFault.TheVariants.{TooLong, Memory}
use Rattle.tf_fix.specs.declared.parsed.Parsed.{Parsed}

pub step_of : (rule : Rule) (p : Parsed) (tokenized : TokenizedText) (found : List Finding) (count : ℕ) (edits : EditList) → p.scanned ≡ tokenized → RulesFind (only rule) p found
    → count ≡ step_count_of found → edits ≡ fix_step_edits rule tokenized found → Transforms edits tokenized.text (fix_step_text tokenized found) → length (fix_step_text tokenized found) ≤ MAX_TEXT
    → IsFixStep rule p count edits
step_of rule p tokenized found count edits same finds counted made turns short = record {
  found = found;
  findings_are = finds;
  edits_are = made ∙ ap (λ (s : TokenizedText). fix_step_edits rule s found) (sym same);
  transforms = subst (λ (s : TokenizedText). Transforms edits s.text (fix_step_text s found)) (sym same) turns;
  short = subst (λ (s : TokenizedText). length (fix_step_text s found) ≤ MAX_TEXT) (sym same) short;
  count_is = counted;
}

pub too_long : (rule : Rule) (p : Parsed) (tokenized : TokenizedText) (found : List Finding) (fault : LintFault) → p.scanned ≡ tokenized → RulesFind (only rule) p found
    → (fault ≡ Memory) ⊎ ((fault ≡ TooLong) × (MAX_TEXT < length (fix_step_text tokenized found)))
    → (fault ≡ Memory) ⊎ ((fault ≡ TooLong) × IsTooLong rule p)
too_long rule p tokenized found fault same finds (inl memory) = inl memory
too_long rule p tokenized found fault same finds (inr (is, long)) =
    inr (is, (found, finds, subst (λ (s : TokenizedText). MAX_TEXT < length (fix_step_text s found)) (sym same) long))
