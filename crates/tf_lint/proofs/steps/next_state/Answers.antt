use Rattle.std.proofs.Common.{ℕ, List, ◌∙◌, length, sym, subst, inl, inr}
use Rattle.tf_rules.specs.ValidFindings.{AreValidFindings}
use Rattle.tf_fix.specs.OneStep.{RulesFind}
use Rattle.tf_rules.specs.declared.rule_set.RuleSet.{RuleSet}
use Rattle.tf_fix.specs.ParsedTexts.{IsParseOf}
use Rattle.tf_lint.specs.Inner.FirstChange.{IsFirstChange, RefusesFrom}
use Rattle.tf_lint.specs.ParseFaults.{DoesNotParse}
use Rattle.tf_lint.proofs.FileLemmas.{residual}
use Rattle.tf_lint.proofs.steps.next_state.Goals as goal

pub returns-in_err-made-clause-fault : goal.returns-in_err-made-clause-fault
returns-in_err-made-clause-fault c =
    residual c.from_residual.result c.in_err-made.field-0.0 (RefusesFrom c.args.source.previous.rules c.args.order.now c.args.text.items c.args.by) c.from_residual.ensures
    (elim c.in_err-made.ensures.fault [
      | inl memory ↦ inl memory
      | inr broken ↦ inr (inl (broken.0, subst DoesNotParse c.deref.ensures.value broken.1))
    ])

pub returns-clause-advanced : goal.returns-clause-advanced
returns-clause-advanced c =
    let (p, reads, is) = c.in_ok-made.ensures.linted in
    let made = c.in_ok-made.made in
    let found = c.into_previous-previous.result.1.items in (
      p,
      record {
        reads = subst (λ (t : List ℕ). IsParseOf t p) c.deref.ensures.value reads;
        previous = c.into_previous-previous.ensures.before p is;
        findings_are = subst (λ (r : RuleSet). RulesFind r p found) (sym c.into_previous-previous.ensures.rules) (subst (RulesFind made.linted.rules p) (sym c.into_previous-previous.ensures.found) is.findings_are);
        valid = subst (AreValidFindings (length p.scanned.pairs)) (sym c.into_previous-previous.ensures.found) is.valid;
        passes = subst (λ (r : RuleSet). IsFirstChange r c.args.order.now p c.args.count c.in_ok-found_change.found_change) (sym c.into_previous-previous.ensures.rules) (c.in_ok-found_change.ensures.found_change p is);
      },
    )

pub returns-clause-rules : goal.returns-clause-rules
returns-clause-rules c = c.into_previous-previous.ensures.rules ∙ c.in_ok-made.ensures.rules
