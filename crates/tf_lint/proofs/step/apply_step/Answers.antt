-- What the step's edits make of the text is the stated text.
use Rattle.std.proofs.Common.{◌≡◌, ◌∙◌, List, ℕ, true, rules, ap, subst, sym}
use Rattle.hcl_token.specs.TokenizedText.{TokenizedText}
use Rattle.tf_lint.specs.Steps.{texts_differ}
use Rattle.tf_lint.proofs.StepLemmas.{made_is, kept_is, step_is, differ_is}
use Rattle.tf_lint.proofs.step.apply_step.Goals as goal

pub returns-then-eq-clause-step : goal.returns-then-eq-clause-step
returns-then-eq-clause-step c = λ p h.
    let s = c.in_ok-count.ensures.step p h in
    let text = ap (λ (t : TokenizedText). t.text) (sym h.same) in
    let made = made_is s (c.text.ensures.text ∙ text) c.in_ok-text.ensures.made in
    let same : c.in_ok-text.text.items ≡ c.args.linted.now.scanned.text = search rules in
    record { found = s.found; findings_are = s.findings_are; count = s.count_is; count_within_limit = c.in_ok-count.ensures.count_within_limit; short = s.short; change = sym made ∙ (same ∙ text) }

pub returns-then-is_without_edits-clause-step : goal.returns-then-is_without_edits-clause-step
returns-then-is_without_edits-clause-step c = λ p h.
    let s = c.in_ok-count.ensures.step p h in
    let stays = kept_is s (c.is_without_edits.ensures c.if-is_without_edits.true) in
    record { found = s.found; findings_are = s.findings_are; count = s.count_is; count_within_limit = c.in_ok-count.ensures.count_within_limit; short = s.short; change = stays }

pub returns-clause-step : goal.returns-clause-step
returns-clause-step c = λ p h.
    let s = c.in_ok-count.ensures.step p h in
    let text = ap (λ (t : TokenizedText). t.text) (sym h.same) in
    let made = made_is s (c.text.ensures.text ∙ text) c.in_ok-text.ensures.made in
    let other : texts_differ c.args.linted.now.scanned.text c.in_ok-text.text.items ≡ true = search rules in
    let others : texts_differ p.scanned.text c.in_ok-text.text.items ≡ true = subst (λ (t : List ℕ). texts_differ t c.in_ok-text.text.items ≡ true) text other in
    record { found = s.found; findings_are = s.findings_are; count = s.count_is; count_within_limit = c.in_ok-count.ensures.count_within_limit; short = s.short; change = step_is s made (differ_is p.scanned.text made others) }
