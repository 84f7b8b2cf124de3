-- For proofs: a text that a step made, and what the rules up to the first that changes it did.
use Rattle.std.specs.Prelude.{ℕ, List, length}
use Rattle.tf_rules.specs.declared.rule.Rule.{Rule}
use Rattle.tf_rules.specs.ValidFindings.{AreValidFindings}
use Rattle.tf_fix.specs.OneStep.{RulesFind}
use Rattle.tf_fix.specs.ParsedTexts.{IsParseOf}
use Rattle.tf_fix.specs.declared.parsed.Parsed.{Parsed}
use Rattle.tf_lint.specs.Inner.FirstChange.{IsFirstChange}
use Rattle.tf_lint.specs.LintedText.{IsPreviousOf}
use Rattle.tf_lint.specs.declared.steps.FixState.{FixState}

-- the text with its tree, what was found in it, and what these rules did to it, if `count` findings
-- were fixed before
pub record IsFixState (order : List Rule) (count : ℕ) (p : Parsed) (turned : FixState) : Type 0 where
  pub reads : IsParseOf turned.text.items p
  pub previous : IsPreviousOf p turned.previous
  pub findings_are : RulesFind turned.previous.rules p turned.found.items
  pub valid : AreValidFindings (length p.scanned.pairs) turned.found.items
  pub passes : IsFirstChange turned.previous.rules order p count turned.found_change
