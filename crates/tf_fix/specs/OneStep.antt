-- The text: StepText, over Selection and Insertions; the edits: Edits/StepEdits, over the files
-- beside it. What a step makes is believed by the first; the edits are proved to make that text.
--
-- One step of a fix: what one rule finds in a text, and what the step makes of it.
use Rattle.std.specs.Prelude.{◌≡◌, ◌≤◌, ◌<◌, ℕ, List, length}
use Rattle.hcl_scan.specs.Tokenization.{MAX_TEXT}
use Rattle.hcl_token.specs.TokenizedText.{TokenizedText}
use Rattle.edit_record.specs.Lists.Pieces.{EditList, Transforms}
use Rattle.tf_rules.specs.declared.finding.Finding.{Finding}
use Rattle.tf_rules.specs.declared.rule.Rule.{Rule}
use Rattle.tf_rules.specs.declared.rule_set.RuleSet.{RuleSet}
use Rattle.tf_fix.specs.StepText.{fix_step_text}
use Rattle.tf_fix.specs.Edits.StepEdits.{fix_step_edits}
use Rattle.tf_fix.specs.Selection.{selected}
use Rattle.tf_findings.specs.Findings.{AreFindings}
use Rattle.tf_fix.specs.ParsedTexts.{IsParseOf}
use Rattle.tf_fix.specs.declared.parsed.Parsed.{Parsed}
use Rattle.tf_rules.specs.SingleRule.{only}

-- what the rules of the set find in the text
abbrev pub RulesFind : RuleSet → Parsed → List Finding → Type 0
RulesFind rules p found = AreFindings rules p.scanned.pairs p.tree.body.members found

-- these are the gaps and tokens of a text that parses, and that is what the rules of the set find
-- in it
abbrev pub AreFindingsOf : RuleSet → Parsed → TokenizedText → List Finding → Type 0
AreFindingsOf rules p tokenized found =
    (p.scanned ≡ tokenized) × IsParseOf p.scanned.text p × RulesFind rules p found

-- the text that the step of a rule makes that found this
abbrev pub step_text_of : Parsed → List Finding → List ℕ
step_text_of p found = fix_step_text p.scanned found

-- the edits of the step
abbrev pub step_edits_of : Rule → Parsed → List Finding → EditList
step_edits_of rule p found = fix_step_edits rule p.scanned found

-- how many findings it fixes
abbrev pub step_count_of : List Finding → ℕ
step_count_of found = length (selected found)

-- the text that the step of the rule makes, over what it alone finds, is over the limit
abbrev pub IsTooLong : Rule → Parsed → Type 0
IsTooLong rule p =
    (found : List Finding) × RulesFind (only rule) p found × (MAX_TEXT < length (step_text_of p found))

-- the step of the rule over a text: these edits, which transform it into the text that the step
-- makes, and `count` findings that they fix
pub record IsFixStep (rule : Rule) (p : Parsed) (count : ℕ) (edits : EditList) : Type 0 where
  pub found : List Finding
  pub findings_are : RulesFind (only rule) p found
  pub edits_are : edits ≡ step_edits_of rule p found
  pub transforms : Transforms edits p.scanned.text (step_text_of p found)
  pub short : length (step_text_of p found) ≤ MAX_TEXT
  pub count_is : count ≡ step_count_of found
