-- What a fix makes of a text: the steps of its rules one after another, each over the text that the
-- one before left.
use Rattle.std.specs.Prelude.{◌≡◌, ◌≤◌, ◌<◌, ◌+◌, ◌⊎◌, ℕ, Bool, true, false, List, [], ◌∷◌, length, Result}
use Rattle.std.specs.Prelude.{Ok, Err, filter, not, if◌then◌else◌}
use Rattle.std.specs.Str.{bytes_eq}
use Rattle.hcl_scan.specs.Tokenization.{MAX_TEXT}
use Rattle.edit_record.specs.Lists.Pieces.{EditList, as_list}
use Rattle.edit_record.specs.Squashes.SquashLists.{SquashAll}
use Rattle.tf_rules.specs.declared.finding.Finding.{Finding}
use Rattle.tf_rules.specs.declared.rule.Rule.{Rule}
use Rattle.tf_rules.specs.declared.rule_set.RuleSet.{RuleSet}
use Rattle.tf_rules.specs.RuleSets.{has_rule}
use Rattle.tf_rules.specs.Table.{all_rules, has_fix}
use Rattle.tf_lint.specs.Issues.{AreReports}
use Rattle.tf_lint.specs.Reports.{Report}
use Rattle.tf_lint.specs.declared.fault.FixFault.{FixFault}
use Rattle.tf_lint.specs.declared.fault.FixFault.TheVariants.{Scan, Parse, FixBroken, TooLong, Memory}
use Rattle.tf_fix.specs.declared.parsed.Parsed.{Parsed}
use Rattle.tf_rules.specs.SingleRule.{only}
use Rattle.tf_fix.specs.OneStep.{RulesFind, step_text_of, step_edits_of, step_count_of}
use Rattle.tf_fix.specs.ParsedTexts.{IsParseOf}
use Rattle.tf_lint.specs.ParseFaults.{DoesNotParse, IsReadFault}

-- how many findings of the set the text has
abbrev pub IsRemainingCount : RuleSet → Parsed → ℕ → Type 0
IsRemainingCount rules p count = (found : List Finding) × RulesFind rules p found × (count ≡ length found)

-- the text parses, and this is what the rules of the set report of it
abbrev pub IsReport : RuleSet → List ℕ → List Report → Type 0
IsReport rules text reported =
    (p : Parsed) × IsParseOf text p × AreReports rules p.scanned.pairs p.tree.body.members reported

-- ---- several steps

abbrev pub texts_differ : List ℕ → List ℕ → Bool
texts_differ t u = not (bytes_eq t u)

-- the rules that fix, in the order of their steps, which is that of the table
abbrev pub fix_order : List Rule
fix_order = filter has_fix all_rules

-- what steps lead to: the text, the edits of each step that changed it, and how many findings were
-- fixed
pub record Steps : Type 0 where
  pub text : List ℕ
  pub lists : List EditList
  pub fixed : ℕ

abbrev pub no_steps : List ℕ → Steps
no_steps text = record { text = text; lists = []; fixed = 0 }

-- the step of a rule that found this, and then others
abbrev pub prepend_step : Rule → Parsed → List Finding → Steps → Steps
prepend_step rule p found more = record {
  text = more.text;
  lists = if texts_differ p.scanned.text (step_text_of p found) then step_edits_of rule p found ∷ more.lists
      else more.lists;
  fixed = step_count_of found + more.fixed;
}

-- The step of a rule that found this can't be done: its text is over the limit, or does not parse.
abbrev pub StepBreaks : Rule → Parsed → List Finding → FixFault → Type 0
StepBreaks rule p found (Scan fault) = ⊥
StepBreaks rule p found (Parse fault) = ⊥
StepBreaks rule p found (FixBroken broken) =
    (broken ≡ rule) × (length (step_text_of p found) ≤ MAX_TEXT) × DoesNotParse (step_text_of p found)
StepBreaks rule p found TooLong = MAX_TEXT < length (step_text_of p found)
StepBreaks rule p found Memory = ⊥

-- the step of the rule, over what it alone finds, can't be done
abbrev pub CannotStep : Rule → Parsed → FixFault → Type 0
CannotStep rule p fault =
    (found : List Finding) × RulesFind (only rule) p found × StepBreaks rule p found fault

-- The steps of these rules, as far as they are in the set, one after another: each is over what its
-- rule alone finds in the text that the one before left. The first that can't be done ends all.
pub data RunSteps (rules : RuleSet) : List Rule → Parsed → Result Steps FixFault → Type 0 where
  none_left : {p : Parsed} → RunSteps rules [] p (Ok (no_steps p.scanned.text))
  not_in_set : {rule : Rule} {others : List Rule} {p : Parsed} {answer : Result Steps FixFault}
      → has_rule rules rule ≡ false → RunSteps rules others p answer
      → RunSteps rules (rule ∷ others) p answer
  breaks : {rule : Rule} {others : List Rule} {p : Parsed} {fault : FixFault} (found : List Finding)
      → has_rule rules rule ≡ true → RulesFind (only rule) p found
      → StepBreaks rule p found fault → RunSteps rules (rule ∷ others) p (Err fault)
  stepped : {rule : Rule} {others : List Rule} {p next : Parsed} {more : Steps} (found : List Finding)
      → has_rule rules rule ≡ true → RulesFind (only rule) p found
      → length (step_text_of p found) ≤ MAX_TEXT → IsParseOf (step_text_of p found) next
      → RunSteps rules others next (Ok more)
      → RunSteps rules (rule ∷ others) p (Ok (prepend_step rule p found more))
  breaks_later : {rule : Rule} {others : List Rule} {p next : Parsed} {fault : FixFault}
      (found : List Finding) → has_rule rules rule ≡ true → RulesFind (only rule) p found
      → length (step_text_of p found) ≤ MAX_TEXT → IsParseOf (step_text_of p found) next
      → RunSteps rules others next (Err fault) → RunSteps rules (rule ∷ others) p (Err fault)

-- ---- the whole fix

-- One list in place of those of all steps, composed from the first on: none changes nothing, and a
-- single one is kept as it is.
abbrev pub IsSquashOfAll : ℕ → List EditList → EditList → Type 0
IsSquashOfAll len [] edits = edits ≡ as_list len []
IsSquashOfAll len (first ∷ more) edits = SquashAll first more edits

-- a new text, the edits that lead to it, how many findings were fixed, and how many findings of the
-- enabled rules the new text has
pub record Rewrite : Type 0 where
  pub text : List ℕ
  pub edits : EditList
  pub fixed : ℕ
  pub left : ℕ

-- what a fix by these rules makes of a text that parses, whatever its edits are
pub record FixesText (rules : RuleSet) (text : List ℕ) (made : Rewrite) : Type 0 where
  pub parsed : Parsed
  pub reads : IsParseOf text parsed
  pub steps : Steps
  pub runs : RunSteps rules fix_order parsed (Ok steps)
  pub text_is : made.text ≡ steps.text
  pub fixed_is : made.fixed ≡ steps.fixed
  pub new_parsed : Parsed
  pub new_reads : IsParseOf made.text new_parsed
  pub left_is : IsRemainingCount rules new_parsed made.left

-- that, and its edits are those of all steps as one list
pub record Fixes (rules : RuleSet) (text : List ℕ) (made : Rewrite) : Type 0 where
  pub fixes_text : FixesText rules text made
  pub edits_are : IsSquashOfAll (length text) fixes_text.steps.lists made.edits

-- Whatever a fix makes of a text, there is a list of edits by which it does. So nothing is said of
-- the text by `Fixes` that is not by `FixesText`.
abbrev pub FixHasEdits : Type 0
FixHasEdits = (rules : RuleSet) (text : List ℕ) (made : Rewrite) → FixesText rules text made
    → (edits : EditList)
    × Fixes rules text
    (record { text = made.text; edits = edits; fixed = made.fixed; left = made.left })

-- a step of the fix can't be done
abbrev pub Breaks : RuleSet → List ℕ → FixFault → Type 0
Breaks rules text fault = (p : Parsed) × IsParseOf text p × RunSteps rules fix_order p (Err fault)

-- why a fix by these rules refuses a text: it is not read, or a step can't be done
abbrev pub Refuses : RuleSet → List ℕ → FixFault → Type 0
Refuses rules text fault = IsReadFault text fault ⊎ Breaks rules text fault

-- A text has at most one fix by these rules, at most one error of a step that can't be done, and
-- never both. That it has one of them is not said.
pub record FixIsUnique (rules : RuleSet) (text : List ℕ) : Type 0 where
  pub made : (a b : Rewrite) → Fixes rules text a → Fixes rules text b → a ≡ b
  pub made_text : (a b : Rewrite) → FixesText rules text a → FixesText rules text b
      → (a.text ≡ b.text) × (a.fixed ≡ b.fixed) × (a.left ≡ b.left)
  pub broken : (f g : FixFault) → Breaks rules text f → Breaks rules text g → f ≡ g
  pub exclusive : (a : Rewrite) (f : FixFault) → FixesText rules text a → Breaks rules text f → ⊥
