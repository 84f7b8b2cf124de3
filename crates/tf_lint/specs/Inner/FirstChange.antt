-- For proofs: one step, and what is known from some steps on.
use Rattle.std.specs.Prelude.{◌≡◌, ◌≤◌, ◌<◌, ◌+◌, ◌*◌, ◌⊎◌, ◌&&◌, ℕ, Bool, true, List, [], ◌∷◌, length}
use Rattle.std.specs.Prelude.{Option, Some, None, Result, Ok, Err, MatchBool}
use Rattle.hcl_scan.specs.Tokenization.{MAX_TEXT}
use Rattle.edit_record.specs.Lists.Pieces.{EditList, Transforms}
use Rattle.edit_record.specs.Squashes.SquashLists.{SquashAll}
use Rattle.tf_rules.specs.declared.finding.Finding.{Finding}
use Rattle.tf_rules.specs.declared.rule.Rule.{Rule}
use Rattle.tf_rules.specs.declared.rule_set.RuleSet.{RuleSet}
use Rattle.tf_lint.specs.declared.fault.FixFault.{FixFault}
use Rattle.tf_lint.specs.declared.fault.FixFault.TheVariants.{FixBroken, Memory}
use Rattle.tf_fix.specs.declared.parsed.Parsed.{Parsed}
use Rattle.tf_lint.specs.declared.step.NewText.{NewText}
use Rattle.tf_lint.specs.declared.step.StepResult.{StepResult}
use Rattle.tf_lint.specs.declared.steps.EditedText.{EditedText}
use Rattle.tf_lint.specs.declared.steps.FirstChange.{FirstChange}
use Rattle.tf_lint.specs.declared.steps.FirstChange.TheVariants.{NoChange, Changed}
use Rattle.tf_fix.specs.ParsedTexts.{IsParseOf}
use Rattle.tf_lint.specs.ParseFaults.{DoesNotParse}
use Rattle.tf_lint.specs.Remaining.{remaining_count}
use Rattle.tf_rules.specs.SingleRule.{only}
use Rattle.tf_rules.specs.RuleSets.{has_rule}
use Rattle.tf_rules.specs.Table.{has_fix}
use Rattle.tf_fix.specs.OneStep.{RulesFind, step_text_of, step_edits_of, step_count_of}
use Rattle.tf_lint.specs.Steps.{IsRemainingCount, texts_differ, Steps, no_steps, prepend_step, StepBreaks}
use Rattle.tf_lint.specs.Steps.{Rewrite}

-- ---- the steps, by recursion on the rules

-- the step of a rule that found this, and then the others over its text; the first that can't be
-- done ends all
abbrev pub FoundThen : Rule → Parsed → List Finding → (Parsed → Result Steps FixFault → Type 0)
    → Result Steps FixFault → Type 0
FoundThen rule p found Others (Ok steps) =
    (length (step_text_of p found) ≤ MAX_TEXT) × (next : Parsed) × (more : Steps)
    × IsParseOf (step_text_of p found) next
    × Others next (Ok more) × (steps ≡ prepend_step rule p found more)
FoundThen rule p found Others (Err fault) =
    StepBreaks rule p found fault
    ⊎ ((length (step_text_of p found) ≤ MAX_TEXT) × (next : Parsed) × IsParseOf (step_text_of p found) next
    × Others next (Err fault))

-- the step of the rule, over what it alone finds, and then the others
abbrev pub StepThen : Rule → Parsed → (Parsed → Result Steps FixFault → Type 0)
    → Result Steps FixFault → Type 0
StepThen rule p Others answer =
    (found : List Finding) × RulesFind (only rule) p found × FoundThen rule p found Others answer

-- whether a fix by these rules has a step of this one
abbrev pub has_step : RuleSet → Rule → Bool
has_step rules rule = has_fix rule && has_rule rules rule

-- what RunSteps says, of a list that also has rules without a fix
abbrev pub RunFixable : RuleSet → List Rule → Parsed → Result Steps FixFault → Type 0
RunFixable rules [] p answer = answer ≡ Ok (no_steps p.scanned.text)
RunFixable rules (rule ∷ others) p answer =
    MatchBool (has_step rules rule) (StepThen rule p (RunFixable rules others) answer)
    (RunFixable rules others p answer)

-- ---- one step

-- what the step of a rule that found this changes
abbrev pub IsChange : Rule → Parsed → List Finding → Option NewText → Type 0
IsChange rule p found None = step_text_of p found ≡ p.scanned.text
IsChange rule p found (Some change) =
    (texts_differ p.scanned.text (step_text_of p found) ≡ true) × (change.text.items ≡ step_text_of p found)
    × (change.edits ≡ step_edits_of rule p found)
    × Transforms change.edits p.scanned.text change.text.items

pub record IsStep (rule : Rule) (p : Parsed) (step : StepResult) : Type 0 where
  pub found : List Finding
  pub findings_are : RulesFind (only rule) p found
  pub count : step.count ≡ step_count_of found
  pub count_within_limit : step.count ≤ MAX_TEXT
  pub short : length (step_text_of p found) ≤ MAX_TEXT
  pub change : IsChange rule p found step.change

-- ---- the first step that changes the text

-- the most findings that steps of these rules can fix
abbrev pub max_fixes : List Rule → ℕ
max_fixes order = MAX_TEXT * length order

-- what is known of the steps from here on, if `count` findings were fixed before
abbrev pub IsFirstChange : RuleSet → List Rule → Parsed → ℕ → FirstChange → Type 0
IsFirstChange rules order p count (NoChange fixed) =
    (n : ℕ) × (fixed ≡ count + n)
    × RunFixable rules order p (Ok (record { text = p.scanned.text; lists = []; fixed = n }))
IsFirstChange rules order p count (Changed fixed change by rest) =
    (n : ℕ) × (fixed ≡ count + n) × (fixed + max_fixes rest.now ≤ MAX_TEXT * 16)
    × (length rest.now < length order) × Transforms change.edits p.scanned.text change.text.items
    × ((next : Parsed) (more : Steps) → IsParseOf change.text.items next
    → RunFixable rules rest.now next (Ok more)
    → RunFixable rules order p
    (Ok (record {
      text = more.text;
      lists = change.edits ∷ more.lists;
      fixed = n + more.fixed;
    })))
    × ((next : Parsed) (fault : FixFault) → IsParseOf change.text.items next
    → RunFixable rules rest.now next (Err fault) → RunFixable rules order p (Err fault))
    × (DoesNotParse change.text.items → RunFixable rules order p (Err (FixBroken by)))

-- ---- from some steps on

-- what steps make of a text that the edits up to there lead to
pub record FixesFrom (rules : RuleSet) (order : List Rule) (text : List ℕ) (done : EditList)
    (count : ℕ) (made : Rewrite) : Type 0 where
  pub parsed : Parsed
  pub reads : IsParseOf text parsed
  pub steps : Steps
  pub runs : RunFixable rules order parsed (Ok steps)
  pub text_is : made.text ≡ steps.text
  pub edits_are : SquashAll done steps.lists made.edits
  pub fixed_is : made.fixed ≡ count + steps.fixed
  pub new_parsed : Parsed
  pub new_reads : IsParseOf made.text new_parsed
  pub left_is : IsRemainingCount rules new_parsed made.left

-- why they refuse a text that the step of this rule made
abbrev pub RefusesFrom : RuleSet → List Rule → List ℕ → Rule → FixFault → Type 0
RefusesFrom rules order text by fault =
    (fault ≡ Memory) ⊎ (((fault ≡ FixBroken by) × DoesNotParse text)
    ⊎ ((p : Parsed) × IsParseOf text p × RunFixable rules order p (Err fault)))

-- ---- what the last of them answers

-- by these edits
abbrev pub rewrite_by : EditList → EditedText → Rewrite
rewrite_by edits e = record {
  text = e.text.items;
  edits = edits;
  fixed = e.fixed;
  left = remaining_count e.left;
}
