use Rattle.std.proofs.Common.{◌≡◌, ◌≤◌, ℕ, List, length, sym, ap, subst, arith, ◌∙◌, Bor}
use Rattle.std.specs.Global.{Vec}
use Rattle.std.specs.Prelude.{IfOk, IfErr}
use Rattle.edit_record.specs.Lists.Pieces.{EditList, Transforms}
use Rattle.tf_rules.specs.declared.rule.Rule.{Rule}
use Rattle.tf_rules.specs.declared.rule_set.RuleSet.{RuleSet}
use Rattle.tf_fix.specs.declared.parsed.Parsed.{Parsed}
use Rattle.tf_lint.specs.Remaining.{IsRemaining}
use Rattle.tf_lint.specs.Inner.LeadsTo.{LeadsTo}
use Rattle.tf_lint.specs.Inner.FirstChange.{IsFirstChange, FixesFrom, RefusesFrom, rewrite_by}
use Rattle.tf_lint.specs.declared.step.NewText.{NewText}
use Rattle.tf_lint.specs.declared.steps.FirstChange.{FirstChange}
use Rattle.tf_lint.specs.declared.steps.FirstChange.TheVariants.{NoChange, Changed}
use Rattle.tf_lint.proofs.FileLemmas.{if_ok, residual}
use Rattle.tf_lint.proofs.RunLemmas.{no_more, and_more, and_refuses, if_err}
use Rattle.tf_lint.proofs.steps.+run_steps.Invariants.{left}
use Rattle.tf_lint.proofs.steps.+run_steps.Goals as goal

-- a rule that changed the text is none of those that are left
fewer : (rules : RuleSet) (order : List Rule) (p : Parsed) (count : ℕ) (found_change : FirstChange) → IsFirstChange rules order p count found_change → left found_change ≤ length order
fewer rules order p count (NoChange fixed) is_change = omega arith
fewer rules order p count (Changed fixed change by rest) (n, number, few, shorter, turns, on, off, unread_after) = omega (arith, shorter)

-- the edits of the step that changed the text
step_transforms : (rules : RuleSet) (order : List Rule) (p : Parsed) (text : List ℕ) (count fixed : ℕ) (change : NewText) (by : Rule) (rest : Bor (List Rule)) (found_change : FirstChange) → p.scanned.text ≡ text
    → found_change ≡ Changed fixed change by rest → IsFirstChange rules order p count found_change → Transforms change.edits text change.text.items
step_transforms rules order p text count fixed change by rest found_change reads is is_change =
    let to = subst (IsFirstChange rules order p count) is is_change in
    subst (λ (t : List ℕ). Transforms change.edits t change.text.items) reads to.4

pub compose-requires : goal.compose-requires
compose-requires n c =
    let (order, count, p, is) = c.requires.advanced in
    let (all, old, leads) = c.requires.leads_to in
    let turns = step_transforms c.args.state.previous.rules order p c.args.state.text.items count c.in-Changed.fixed c.in-Changed.change c.in-Changed.by c.in-Changed.rest c.args.state.found_change is.reads.0 c.in-Changed.is is.passes in
    (all, old, c.args.state.text.items, c.in-Changed.change.text.items, leads, turns)

pub run_steps-requires : goal.run_steps-requires
run_steps-requires n c =
    let (order, count, p, is) = c.requires.advanced in
    let (all, old, leads) = c.requires.leads_to in
    let text = c.args.state.text.items in
    let change = c.in-Changed.change in
    let next = c.in_ok-next-in-Changed.next in
    let composed = c.in_ok-composed-in-Changed.composed in
    let (q, is_change) = c.in_ok-next-in-Changed.ensures.advanced in
    let turns = step_transforms c.args.state.previous.rules order p text count c.in-Changed.fixed change c.in-Changed.by c.in-Changed.rest c.args.state.found_change is.reads.0 c.in-Changed.is is.passes in
    let (more, joins, on) = c.in_ok-composed-in-Changed.ensures.composed all old text change.text.items leads turns in
    let less = fewer next.previous.rules c.in-Changed.rest.now q c.in-Changed.fixed next.found_change is_change.passes in
    let fuel = ap left c.in-Changed.is in
    (omega (arith, less, fuel), ((c.in-Changed.rest.now, c.in-Changed.fixed, q, is_change), (more, old, subst (λ (t : Vec ℕ). LeadsTo composed more old t.items) (sym c.in_ok-next-in-Changed.ensures.text) on)))

pub returns-in-NoChange-clause-made : goal.returns-in-NoChange-clause-made
returns-in-NoChange-clause-made n c = λ order count p all old is leads.
    let rules = c.args.state.previous.rules in
    (all, leads, no_more rules order c.args.state.text.items p all count c.in-NoChange.fixed c.args.state.found.items is.reads is.findings_are (subst (IsFirstChange rules order p count) c.in-NoChange.is is.passes))

pub returns-in-NoChange-clause-left : goal.returns-in-NoChange-clause-left
returns-in-NoChange-clause-left n c =
    let (order, count, p, is) = c.requires.advanced in (p, is.reads, is.previous.tokens, is.findings_are, is.valid)

pub returns-in_err-next-in-Changed-clause-fault : goal.returns-in_err-next-in-Changed-clause-fault
returns-in_err-next-in-Changed-clause-fault n c = λ order count p by is.
    let rules = c.args.state.previous.rules in
    let text = c.args.state.text.items in
    let fault = c.in_err-next-in-Changed.field-0.0 in
    residual c.from_residual-in_err-next-in-Changed.result fault (RefusesFrom rules order text by) c.from_residual-in_err-next-in-Changed.ensures
    (and_refuses rules order text p count c.in-Changed.fixed c.in-Changed.change by c.in-Changed.by c.in-Changed.rest fault is.reads (subst (IsFirstChange rules order p count) c.in-Changed.is is.passes) c.in_err-next-in-Changed.ensures.fault)

pub returns-in_ok-next-in-Changed-clause-made : goal.returns-in_ok-next-in-Changed-clause-made
returns-in_ok-next-in-Changed-clause-made n c = λ order count p all old is leads.
    let rules = c.args.state.previous.rules in
    let text = c.args.state.text.items in
    let change = c.in-Changed.change in
    let composed = c.in_ok-composed-in-Changed.composed in
    let rest = c.in-Changed.rest in
    let fixed = c.in-Changed.fixed in
    let next = c.in_ok-next-in-Changed.next in
    let (q, is_change) = c.in_ok-next-in-Changed.ensures.advanced in
    let to = subst (IsFirstChange rules order p count) c.in-Changed.is is.passes in
    let turns = step_transforms rules order p text count fixed change c.in-Changed.by rest c.args.state.found_change is.reads.0 c.in-Changed.is is.passes in
    let (more, joins, on) = c.in_ok-composed-in-Changed.ensures.composed all old text change.text.items leads turns in
    let here = subst (λ (t : Vec ℕ). LeadsTo composed more old t.items) (sym c.in_ok-next-in-Changed.ensures.text) on in
    let by_rules = subst (λ (r : RuleSet). IfOk c.run_steps.result (λ e. (last : EditList) × LeadsTo e.edits last old e.text.items × FixesFrom r rest.now next.text.items more fixed (rewrite_by last e))) c.in_ok-next-in-Changed.ensures.rules (c.run_steps.ensures.made rest.now fixed q more old is_change here) in
    let by_text = subst (λ (t : Vec ℕ). IfOk c.run_steps.result (λ e. (last : EditList) × LeadsTo e.edits last old e.text.items × FixesFrom rules rest.now t.items more fixed (rewrite_by last e))) c.in_ok-next-in-Changed.ensures.text by_rules in
    if_ok c.run_steps.result _ (λ e. (last : EditList) × LeadsTo e.edits last old e.text.items × FixesFrom rules order text all count (rewrite_by last e))
    (λ e (last, lead, fixes). (last, lead, and_more rules order text p all more count fixed change c.in-Changed.by rest (rewrite_by last e) is.reads to joins fixes)) by_text

pub returns-in_ok-next-in-Changed-clause-kept : goal.returns-in_ok-next-in-Changed-clause-kept
returns-in_ok-next-in-Changed-clause-kept n c =
    if_ok c.run_steps.result _ _ (λ e kept. kept ∙ c.in_ok-composed-in-Changed.ensures.kept) c.run_steps.ensures.kept

pub returns-in_ok-next-in-Changed-clause-left : goal.returns-in_ok-next-in-Changed-clause-left
returns-in_ok-next-in-Changed-clause-left n c =
    subst (λ (r : RuleSet). IfOk c.run_steps.result (λ e. IsRemaining r e.text.items e.left)) c.in_ok-next-in-Changed.ensures.rules c.run_steps.ensures.left

pub returns-in_ok-next-in-Changed-clause-fault : goal.returns-in_ok-next-in-Changed-clause-fault
returns-in_ok-next-in-Changed-clause-fault n c = λ order count p by is.
    let rules = c.args.state.previous.rules in
    let text = c.args.state.text.items in
    let rest = c.in-Changed.rest in
    let fixed = c.in-Changed.fixed in
    let next = c.in_ok-next-in-Changed.next in
    let (q, is_change) = c.in_ok-next-in-Changed.ensures.advanced in
    let to = subst (IsFirstChange rules order p count) c.in-Changed.is is.passes in
    let by_rules = subst (λ (r : RuleSet). IfErr c.run_steps.result (RefusesFrom r rest.now next.text.items c.in-Changed.by)) c.in_ok-next-in-Changed.ensures.rules (c.run_steps.ensures.fault rest.now fixed q c.in-Changed.by is_change) in
    let by_text = subst (λ (t : Vec ℕ). IfErr c.run_steps.result (RefusesFrom rules rest.now t.items c.in-Changed.by)) c.in_ok-next-in-Changed.ensures.text by_rules in
    if_err c.run_steps.result _ (RefusesFrom rules order text by)
    (λ e refuses. and_refuses rules order text p count fixed c.in-Changed.change by c.in-Changed.by rest e is.reads to refuses) by_text
