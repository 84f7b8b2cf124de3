-- Of what the rules of a set find, what is of one of them is what that finds alone.
use Rattle.std.proofs.Common.{◌≡◌, List, filter, length, true, sym, subst}
use Rattle.std.proofs.lemmas.Result.{err_from_is_err_and}
use Rattle.hcl_scan.specs.Follows.{AreApart}
use Rattle.hcl_token.specs.TokenizedText.{TokenizedText}
use Rattle.tf_findings.specs.RuleFilter.{is_found_by}
use Rattle.tf_rules_laws.specs.OneRule.{FindingsOfOneRule}
use Rattle.tf_findings.proofs.ValidLemmas.{valid_kept}
use Rattle.tf_rules.specs.SingleRule.{only}
use Rattle.tf_rules.specs.RuleSets.{has_rule}
use Rattle.tf_rules.specs.ValidFindings.{AreValidFindings}
use Rattle.tf_rules.specs.declared.finding.Finding.{Finding}
use Rattle.tf_rules.specs.declared.rule.Rule.{Rule}
use Rattle.tf_rules.specs.declared.rule_set.RuleSet.{RuleSet}
use Rattle.tf_fix.specs.OfRule.{AreOfRule}
use Rattle.tf_fix.specs.OneStep.{RulesFind}
use Rattle.tf_fix.specs.declared.parsed.Parsed.{Parsed}
use Rattle.tf_fix.proofs.FoundLemmas.{step_of, too_long}
use Rattle.tf_fix.proofs.FoundByLemmas.{of_all}
use Rattle.tf_fix.proofs.step.fix_step_of_findings.Goals as goal

finds_one : FindingsOfOneRule → (rules : RuleSet) (rule : Rule) (p : Parsed) (found : List Finding) → has_rule rules rule ≡ true → RulesFind rules p found → RulesFind (only rule) p (filter (is_found_by rule) found)
finds_one law rules rule p found = law rules rule p.scanned.pairs p.tree.body.members found

pub fix_step_edits-requires-clause-apart : goal.fix_step_edits-requires-clause-apart
fix_step_edits-requires-clause-apart c =
    let (p, is) = c.requires.found in
    subst (λ (s : TokenizedText). AreApart s.pairs) is.0 (c.parsed_tokens_are_apart.ensures _ _ _ _ _ is.1.1 is.1.2)

pub fix_step_edits-requires-clause-of_rule : goal.fix_step_edits-requires-clause-of_rule
fix_step_edits-requires-clause-of_rule c =
    let (p, is) = c.requires.found in
    let rule = c.args.rule in
    let own = filter (is_found_by rule) c.args.found.now in
    let finds = finds_one c.findings_of_one_rule.ensures c.args.rules rule p c.args.found.now c.requires.rule_in_set is.2 in
    subst (λ (s : TokenizedText). AreOfRule rule s.pairs own) is.0 (of_all rule p.scanned.pairs own (c.findings_match_their_rule.ensures rule p.scanned.pairs p.tree.body.members own finds))

pub fix_step_edits-requires-clause-valid : goal.fix_step_edits-requires-clause-valid
fix_step_edits-requires-clause-valid c = valid_kept (length c.args.scanned.now.pairs) (is_found_by c.args.rule) c.args.found.now c.requires.valid

pub returns-clause-step : goal.returns-clause-step
returns-clause-step c = λ p h.
    let rule = c.args.rule in
    let finds = finds_one c.findings_of_one_rule.ensures c.args.rules rule p c.args.found.now c.requires.rule_in_set h.2 in
    let made = c.in_ok-edits.ensures in
    step_of rule p c.args.scanned.now (filter (is_found_by rule) c.args.found.now) _ _ h.0 finds c.selected_count-count.ensures made.edits made.transforms made.short

pub returns-clause-few : goal.returns-clause-few
returns-clause-few c =
    let (p, is) = c.requires.found in
    let own = filter (is_found_by c.args.rule) c.args.found.now in
    let valid = valid_kept (length c.args.scanned.now.pairs) (is_found_by c.args.rule) c.args.found.now c.requires.valid in
    rw c.selected_count-count.ensures (c.selected_are_within_limit.ensures _ _ _ own is.1.1 (subst (λ (s : TokenizedText). AreValidFindings (length s.pairs) own) (sym is.0) valid))

pub returns-in_err-edits-clause-fault : goal.returns-in_err-edits-clause-fault
returns-in_err-edits-clause-fault c = λ p h.
    let rule = c.args.rule in
    let finds = finds_one c.findings_of_one_rule.ensures c.args.rules rule p c.args.found.now c.requires.rule_in_set h.2 in
    let reason = too_long rule p c.args.scanned.now (filter (is_found_by rule) c.args.found.now) _ h.0 finds c.in_err-edits.ensures.err in
    let e = err_from_is_err_and c.from_residual.result c.from_residual.ensures.1 in
    rw (e.1, e.2) reason
