use Rattle.std.proofs.Common.{◌≡◌, ◌-◌, ◌⊎◌, ℕ, List, ◌∷◌, None, Err, true, false, length, take, drop, slice_index_or, inl, inr, refl, subst, rules, arith, sym, ap}
use Rattle.tf_rules.specs.declared.rule.Rule.{Rule}
use Rattle.tf_rules.specs.declared.rule.Rule.TheVariants.{CommentSyntax}
use Rattle.tf_rules.specs.declared.rule_set.RuleSet.{RuleSet}
use Rattle.tf_fix.specs.OneStep.{step_text_of}
use Rattle.tf_fix.specs.ParsedTexts.{IsParseOf}
use Rattle.tf_fix.specs.declared.parsed.Parsed.{Parsed}
use Rattle.tf_lint.specs.declared.fault.FixFault.{FixFault}
use Rattle.tf_lint.specs.declared.fault.FixFault.TheVariants.{Memory}
use Rattle.tf_lint.specs.declared.step.StepResult.{StepResult}
use Rattle.tf_lint.specs.Inner.FirstChange.{has_step, IsChange, IsStep, RunFixable, IsFirstChange}
use Rattle.tf_lint.proofs.FileLemmas.{if_ok}
use Rattle.tf_lint.proofs.RunLemmas.{split_first, no_rules, skipped_pass, stayed_pass, changed_pass, changed_transforms, StepsContinue, if_err}
use Rattle.tf_lint.proofs.steps.+find_first_change.Goals as goal

-- a step that changes nothing, before those that can't be done
stayed_fault : (rules : RuleSet) (rule : Rule) (order : List Rule) (p : Parsed) (step : StepResult) (fault : FixFault) → has_step rules rule ≡ true → IsParseOf p.scanned.text p
    → IsStep rule p step → step.change ≡ None → (fault ≡ Memory) ⊎ RunFixable rules order p (Err fault) → (fault ≡ Memory) ⊎ RunFixable rules (rule ∷ order) p (Err fault)
stayed_fault rules rule order p step fault chosen reads s none (inl memory) = inl memory
stayed_fault rules rule order p step fault chosen reads s none (inr runs) =
    let stays : step_text_of p s.found ≡ p.scanned.text = subst (IsChange rule p s.found) none s.change in
    inr (rw chosen (s.found, s.findings_are, inr (s.short, p, subst (λ (t : List ℕ). IsParseOf t p) (sym stays) reads, runs)))

pub returns-then-not-has_step-clause-found_change : goal.returns-then-not-has_step-clause-found_change
returns-then-not-has_step-clause-found_change n c = λ p h.
    let order = c.args.order.now in
    let rule = slice_index_or order 0 CommentSyntax in
    let rest = take (length order - 1) (drop 1 order) in
    let split : order ≡ rule ∷ rest = split_first order CommentSyntax c.in-len1-up.len_at_least in
    let not_in : has_step c.args.linted.now.rules rule ≡ false = search rules in
    if_ok c.find_first_change.result _ (λ q. IsFirstChange c.args.linted.now.rules order p c.args.count q)
    (λ q is_change. subst (λ (rs : List Rule). IsFirstChange c.args.linted.now.rules rs p c.args.count q) (sym split)
    (skipped_pass c.args.linted.now.rules rule rest p c.args.count q not_in is_change)) (c.find_first_change.ensures.found_change p h)

pub returns-in-None-clause-found_change : goal.returns-in-None-clause-found_change
returns-in-None-clause-found_change n c = λ p h.
    let order = c.args.order.now in
    let rule = slice_index_or order 0 CommentSyntax in
    let rest = take (length order - 1) (drop 1 order) in
    let split : order ≡ rule ∷ rest = split_first order CommentSyntax c.in-len1-up.len_at_least in
    let chosen : has_step c.args.linted.now.rules rule ≡ true = search rules in
    if_ok c.find_first_change-in-None.result _ (λ q. IsFirstChange c.args.linted.now.rules order p c.args.count q)
    (λ q is_change. subst (λ (rs : List Rule). IsFirstChange c.args.linted.now.rules rs p c.args.count q) (sym split)
    (stayed_pass c.args.linted.now.rules rule rest p c.args.count q c.in_ok-taken.field-0 chosen h.reads (c.in_ok-taken.ensures.step p h) c.in-None.is is_change)) (c.find_first_change-in-None.ensures.found_change p h)

pub returns-in-Some-clause-found_change : goal.returns-in-Some-clause-found_change
returns-in-Some-clause-found_change n c = λ p h.
    let order = c.args.order.now in
    let rule = slice_index_or order 0 CommentSyntax in
    let rest = take (length order - 1) (drop 1 order) in
    let split : order ≡ rule ∷ rest = split_first order CommentSyntax c.in-len1-up.len_at_least in
    let chosen : has_step c.args.linted.now.rules rule ≡ true = search rules in
    let shorter = ap length split in
    let step = c.in_ok-taken.field-0 in
    let few = (c.in_ok-taken.ensures.step p h).count_within_limit in
    let count_limit = c.requires.count_within_limit in
    let on = subst (λ (rs : List Rule). StepsContinue c.args.linted.now.rules rs rest rule p step.count c.in-Some.change) (sym split)
    (changed_pass c.args.linted.now.rules rule rest p step c.in-Some.change chosen (c.in_ok-taken.ensures.step p h) c.in-Some.is) in
    (step.count, refl, omega (arith, shorter, few, count_limit), omega (arith, shorter), changed_transforms rule p step c.in-Some.change (c.in_ok-taken.ensures.step p h) c.in-Some.is, on.0, on.1, on.2)

pub returns-in_default-clause-found_change : goal.returns-in_default-clause-found_change
returns-in_default-clause-found_change n c = λ p h. (0, omega arith, rw (no_rules c.args.order.now c.in_default.len_below) refl)

pub returns-in-None-clause-fault : goal.returns-in-None-clause-fault
returns-in-None-clause-fault n c = λ p h.
    let order = c.args.order.now in
    let rule = slice_index_or order 0 CommentSyntax in
    let rest = take (length order - 1) (drop 1 order) in
    let split : order ≡ rule ∷ rest = split_first order CommentSyntax c.in-len1-up.len_at_least in
    let chosen : has_step c.args.linted.now.rules rule ≡ true = search rules in
    if_err c.find_first_change-in-None.result _ (λ fault. (fault ≡ Memory) ⊎ RunFixable c.args.linted.now.rules order p (Err fault))
    (λ fault is_change. subst (λ (rs : List Rule). (fault ≡ Memory) ⊎ RunFixable c.args.linted.now.rules rs p (Err fault)) (sym split)
    (stayed_fault c.args.linted.now.rules rule rest p c.in_ok-taken.field-0 fault chosen h.reads (c.in_ok-taken.ensures.step p h) c.in-None.is is_change)) (c.find_first_change-in-None.ensures.fault p h)
