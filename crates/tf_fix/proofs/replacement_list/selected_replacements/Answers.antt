use Rattle.std.proofs.Common.{◌≡◌, ◌<◌, length, true, sym, subst, ◌∙◌, rules}
use Rattle.std.proofs.lemmas.Bool.{and_parts}
use Rattle.tf_findings.specs.RuleFilter.{is_found_by}
use Rattle.tf_rules.specs.declared.finding.Finding.{Finding}
use Rattle.tf_rules.specs.Findings.{is_fixable}
use Rattle.tf_fix.specs.Inner.Nonempty.{IsFixableWithin}
use Rattle.tf_fix.proofs.SelectionLemmas.{is_valid}
use Rattle.tf_fix.proofs.replacement_list.selected_replacements.Goals as goal

pub push_finding_replacements-requires-clause-fits : goal.push_finding_replacements-requires-clause-fits
push_finding_replacements-requires-clause-fits c =
    let rule = c.args.rule in
    let findings = c.args.findings.now in
    let i = c.loop-one.one-index in
    let n = length c.args.scanned.now.pairs in
    let lt : i < length findings = search rules in
    let fits = (is_valid c.args.scanned.now.pairs rule findings i _ lt c.loop-one.invariant.3).0 in
    subst (λ (f : Finding). is_found_by rule f ≡ true → is_fixable f.fix ≡ true → IsFixableWithin n f) (sym c.one-item.is) fits (sym c.is_found_by.ensures ∙ c.if-is_found_by.true) (and_parts _ _ (sym c.is_selected.ensures ∙ c.if-is_selected.true)).0
