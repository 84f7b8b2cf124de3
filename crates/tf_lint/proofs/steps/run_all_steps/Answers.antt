use Rattle.std.proofs.Common.{◌≡◌, ◌⊎◌, ◌∙◌, ℕ, List, Err, Bor, length, sym, subst}
use Rattle.std.specs.Global.{Vec}
use Rattle.edit_record.specs.Lists.Pieces.{Transforms}
use Rattle.tf_fix.specs.OneStep.{RulesFind}
use Rattle.tf_fix.specs.ParsedTexts.{IsParseOf}
use Rattle.tf_fix.specs.declared.parsed.Parsed.{Parsed}
use Rattle.tf_lint.specs.Remaining.{IsRemaining}
use Rattle.tf_lint.specs.LintedText.{IsLintOf}
use Rattle.tf_lint.specs.declared.linted_text.LintedText.{LintedText}
use Rattle.tf_lint.specs.Steps.{Refuses}
use Rattle.tf_rules.specs.declared.finding.Finding.{Finding}
use Rattle.tf_rules.specs.declared.rule.Rule.{Rule}
use Rattle.tf_rules.specs.declared.rule_set.RuleSet.{RuleSet}
use Rattle.tf_rules.specs.ValidFindings.{AreValidFindings}
use Rattle.tf_rules.specs.Table.{all_rules}
use Rattle.tf_lint.specs.Inner.LeadsTo.{LeadsTo}
use Rattle.tf_lint.specs.Inner.FirstChange.{RunFixable, IsFirstChange, FixesFrom, RefusesFrom, rewrite_by}
use Rattle.tf_lint.specs.declared.fault.FixFault.TheVariants.{Memory}
use Rattle.tf_lint.specs.declared.step.NewText.{NewText}
use Rattle.tf_lint.specs.declared.steps.FirstChange.TheVariants.{Changed}
use Rattle.tf_lint.proofs.FileLemmas.{residual}
use Rattle.tf_lint.proofs.RunLemmas.{none_changed, all_fixed, first_refuses, all_refuses}
use Rattle.tf_lint.proofs.steps.run_all_steps.Goals as goal

pub returns-in_err-found_change-clause-fault : goal.returns-in_err-found_change-clause-fault
returns-in_err-found_change-clause-fault c =
    let (p, reads, h) = c.in_ok-linted.ensures.linted in
    let e = c.in_err-found_change.field-0.0 in
    let runs = subst (λ (rules : RuleSet). (e ≡ Memory) ⊎ RunFixable rules all_rules p (Err e)) c.in_ok-linted.ensures.rules (c.in_err-found_change.ensures.fault p h) in
    residual c.from_residual-in_err-found_change.result e (Refuses c.args.rules c.args.text.now) c.from_residual-in_err-found_change.ensures
    (first_refuses c.args.rules c.args.text.now p e reads runs)

-- what was found in a text that was searched, by the rules that were given
finds_here : (s : LintedText) (p : Parsed) (rules : RuleSet) (found : List Finding) → found ≡ s.found.items → s.rules ≡ rules → IsLintOf p s → RulesFind rules p found
finds_here s p rules found same same_rules h = subst (λ (r : RuleSet). RulesFind r p found) same_rules (subst (RulesFind s.rules p) (sym same) h.findings_are)

pub returns-in-NoChange-clause-outcome : goal.returns-in-NoChange-clause-outcome
returns-in-NoChange-clause-outcome c =
    let (p, reads, h) = c.in_ok-linted.ensures.linted in
    let linted = c.in_ok-linted.linted in
    let is_change = subst (λ (rules : RuleSet). IsFirstChange rules all_rules p 0 c.in_ok-found_change.found_change) c.in_ok-linted.ensures.rules (c.in_ok-found_change.ensures.found_change p h) in
    let found = c.into_previous-previous.ensures.found in
    let finds = finds_here linted p c.args.rules _ found c.in_ok-linted.ensures.rules h in (
      none_changed c.args.rules c.args.text.now p c.in-NoChange.fixed c.into_previous-previous.result.1.items reads finds (subst (IsFirstChange c.args.rules all_rules p 0) c.in-NoChange.is is_change),
      (p, reads, (c.into_previous-previous.ensures.before p h).tokens, finds, subst (AreValidFindings (length p.scanned.pairs)) (sym found) h.valid),
    )

pub returns-in_err-first-in-Changed-clause-fault : goal.returns-in_err-first-in-Changed-clause-fault
returns-in_err-first-in-Changed-clause-fault c =
    let (p, reads, h) = c.in_ok-linted.ensures.linted in
    let is_change = subst (λ (rules : RuleSet). IsFirstChange rules all_rules p 0 c.in_ok-found_change.found_change) c.in_ok-linted.ensures.rules (c.in_ok-found_change.ensures.found_change p h) in
    let to = subst (IsFirstChange c.args.rules all_rules p 0) c.in-Changed.is is_change in
    let same_rules = c.into_previous-previous.ensures.rules ∙ c.in_ok-linted.ensures.rules in
    let fault = c.in_err-first-in-Changed.field-0.0 in
    residual c.from_residual-in_err-first-in-Changed.result fault (Refuses c.args.rules c.args.text.now) c.from_residual-in_err-first-in-Changed.ensures
    (all_refuses c.args.rules c.args.text.now p c.in-Changed.fixed c.in-Changed.change c.in-Changed.by c.in-Changed.rest fault reads to
    (subst (λ (rules : RuleSet). RefusesFrom rules c.in-Changed.rest.now c.in-Changed.change.text.items c.in-Changed.by fault) same_rules c.in_err-first-in-Changed.ensures.fault))

pub returns-in_err-ended-in-Changed-clause-fault : goal.returns-in_err-ended-in-Changed-clause-fault
returns-in_err-ended-in-Changed-clause-fault c =
    let (p, reads, h) = c.in_ok-linted.ensures.linted in
    let is_change = subst (λ (rules : RuleSet). IsFirstChange rules all_rules p 0 c.in_ok-found_change.found_change) c.in_ok-linted.ensures.rules (c.in_ok-found_change.ensures.found_change p h) in
    let to = subst (IsFirstChange c.args.rules all_rules p 0) c.in-Changed.is is_change in
    let first = c.in_ok-first-in-Changed.first in
    let (q, turned) = c.in_ok-first-in-Changed.ensures.advanced in
    let same_rules = c.in_ok-first-in-Changed.ensures.rules ∙ c.into_previous-previous.ensures.rules ∙ c.in_ok-linted.ensures.rules in
    let fault = c.in_err-ended-in-Changed.field-0.0 in
    let refuses = subst (λ (rules : RuleSet). RefusesFrom rules c.in-Changed.rest.now first.text.items c.in-Changed.by fault) same_rules (c.in_err-ended-in-Changed.ensures.fault c.in-Changed.rest.now c.in-Changed.fixed q c.in-Changed.by turned) in
    residual c.from_residual-in_err-ended-in-Changed.result fault (Refuses c.args.rules c.args.text.now) c.from_residual-in_err-ended-in-Changed.ensures
    (all_refuses c.args.rules c.args.text.now p c.in-Changed.fixed c.in-Changed.change c.in-Changed.by c.in-Changed.rest fault reads to
    (subst (λ (t : Vec ℕ). RefusesFrom c.args.rules c.in-Changed.rest.now t.items c.in-Changed.by fault) c.in_ok-first-in-Changed.ensures.text refuses))

-- the edits of the first step that changed the text
step_transforms : (rules : RuleSet) (p : Parsed) (text : List ℕ) (fixed : ℕ) (change : NewText) (by : Rule) (rest : Bor (List Rule)) → IsParseOf text p → IsFirstChange rules all_rules p 0 (Changed fixed change by rest)
    → Transforms change.edits text change.text.items
step_transforms rules p text fixed change by rest reads to = subst (λ (t : List ℕ). Transforms change.edits t change.text.items) reads.0 to.4

pub run_steps-requires : goal.run_steps-requires
run_steps-requires c =
    let (p, reads, h) = c.in_ok-linted.ensures.linted in
    let is_change = subst (λ (rules : RuleSet). IsFirstChange rules all_rules p 0 c.in_ok-found_change.found_change) c.in_ok-linted.ensures.rules (c.in_ok-found_change.ensures.found_change p h) in
    let to = subst (IsFirstChange c.args.rules all_rules p 0) c.in-Changed.is is_change in
    let change = c.in-Changed.change in
    let first = c.in_ok-first-in-Changed.first in
    let (q, turned) = c.in_ok-first-in-Changed.ensures.advanced in
    let turns = step_transforms c.args.rules p c.args.text.now c.in-Changed.fixed change c.in-Changed.by c.in-Changed.rest reads to in
    let leads : LeadsTo c.first_edits-edits.result change.edits c.args.text.now change.text.items = record { kept_are = c.first_edits-edits.ensures.edits; valid = c.edits_are_valid.ensures; transforms = turns } in
    record {
      advanced = (c.in-Changed.rest.now, c.in-Changed.fixed, q, turned);
      leads_to = (change.edits, c.args.text.now, subst (λ (t : Vec ℕ). LeadsTo c.first_edits-edits.result change.edits c.args.text.now t.items) (sym c.in_ok-first-in-Changed.ensures.text) leads);
    }

pub returns-in_ok-ended-in-Changed-clause-outcome : goal.returns-in_ok-ended-in-Changed-clause-outcome
returns-in_ok-ended-in-Changed-clause-outcome c =
    let (p, reads, h) = c.in_ok-linted.ensures.linted in
    let is_change = subst (λ (rules : RuleSet). IsFirstChange rules all_rules p 0 c.in_ok-found_change.found_change) c.in_ok-linted.ensures.rules (c.in_ok-found_change.ensures.found_change p h) in
    let to = subst (IsFirstChange c.args.rules all_rules p 0) c.in-Changed.is is_change in
    let text = c.args.text.now in
    let change = c.in-Changed.change in
    let ended = c.in_ok-ended-in-Changed.ended in
    let first = c.in_ok-first-in-Changed.first in
    let rest = c.in-Changed.rest in
    let (q, turned) = c.in_ok-first-in-Changed.ensures.advanced in
    let turns = step_transforms c.args.rules p text c.in-Changed.fixed change c.in-Changed.by rest reads to in
    let leads : LeadsTo c.first_edits-edits.result change.edits text change.text.items = record { kept_are = c.first_edits-edits.ensures.edits; valid = c.edits_are_valid.ensures; transforms = turns } in
    let here = subst (λ (t : Vec ℕ). LeadsTo c.first_edits-edits.result change.edits text t.items) (sym c.in_ok-first-in-Changed.ensures.text) leads in
    let same_rules = c.in_ok-first-in-Changed.ensures.rules ∙ c.into_previous-previous.ensures.rules ∙ c.in_ok-linted.ensures.rules in
    let (all, lead, fixes) = c.in_ok-ended-in-Changed.ensures.made rest.now c.in-Changed.fixed q change.edits text turned here in
    let made = rewrite_by all ended in
    let by_rules = subst (λ (rules : RuleSet). FixesFrom rules rest.now first.text.items change.edits c.in-Changed.fixed made) same_rules fixes in (
      all,
      lead,
      all_fixed c.args.rules text p c.in-Changed.fixed change c.in-Changed.by rest made reads to
          (subst (λ (t : Vec ℕ). FixesFrom c.args.rules rest.now t.items change.edits c.in-Changed.fixed made) c.in_ok-first-in-Changed.ensures.text by_rules),
      subst (λ (rules : RuleSet). IsRemaining rules ended.text.items ended.left) same_rules c.in_ok-ended-in-Changed.ensures.left,
    )

pub returns-in_ok-ended-in-Changed-clause-kept : goal.returns-in_ok-ended-in-Changed-clause-kept
returns-in_ok-ended-in-Changed-clause-kept c = c.in_ok-ended-in-Changed.ensures.kept ∙ c.first_edits-edits.ensures.kept
