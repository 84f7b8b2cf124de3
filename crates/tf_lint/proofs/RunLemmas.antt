-- The run of several steps, from one step to the next.
use Rattle.std.proofs.Common.{◌≡◌, ℕ, ◌+◌, ◌-◌, ◌≤◌, ◌<◌, ◌⊎◌, ◌&&◌, Bool, MatchBool, cond, filter, true, false, List, [], ◌∷◌, length, take, drop, slice_index_or, Some, None, Result, Ok, Err, Bor, refl, sym, ap, subst, arith, inl, inr}
use Rattle.std.proofs.lemmas.List.{take_all}
use Rattle.std.proofs.lemmas.Slice.Eq.{bytes_eq-Decides}
use Rattle.std.specs.Prelude.{IfErr}
use Rattle.edit_record.specs.Lists.Pieces.{EditList, Transforms}
use Rattle.edit_record.specs.Squashes.Squash.{IsSquash}
use Rattle.tf_rules.specs.declared.finding.Finding.{Finding}
use Rattle.tf_rules.specs.declared.rule.Rule.{Rule}
use Rattle.tf_rules.specs.declared.rule_set.RuleSet.{RuleSet}
use Rattle.tf_rules.specs.RuleSets.{has_rule}
use Rattle.tf_rules.specs.SingleRule.{only}
use Rattle.tf_rules.specs.Table.{all_rules, has_fix}
use Rattle.tf_lint.specs.declared.fault.FixFault.{FixFault}
use Rattle.tf_lint.specs.declared.fault.FixFault.TheVariants.{FixBroken, Memory}
use Rattle.tf_fix.specs.declared.parsed.Parsed.{Parsed}
use Rattle.tf_lint.specs.declared.step.NewText.{NewText}
use Rattle.tf_lint.specs.declared.step.StepResult.{StepResult}
use Rattle.tf_lint.specs.declared.steps.FirstChange.{FirstChange}
use Rattle.tf_lint.specs.declared.steps.FirstChange.TheVariants.{NoChange, Changed}
use Rattle.tf_fix.specs.ParsedTexts.{IsParseOf}
use Rattle.tf_lint.specs.ParseFaults.{DoesNotParse, IsUtf8WithinLimit, IsReadFault}
use Rattle.tf_fix.specs.OneStep.{RulesFind, step_text_of}
use Rattle.tf_lint.specs.Steps.{texts_differ, Steps, RunSteps, none_left, not_in_set, breaks, stepped, breaks_later, Rewrite, FixesText, Fixes, Refuses}
use Rattle.tf_lint.specs.Inner.FirstChange.{FoundThen, StepThen, has_step, RunFixable, IsChange, IsStep, IsFirstChange, FixesFrom, RefusesFrom}

pub split_first : {X : Type 0} (xs : List X) (d : X) → 1 ≤ length xs → xs ≡ slice_index_or xs 0 d ∷ take (length xs - 1) (drop 1 xs)
split_first [] d some = absurd (omega (arith, some))
split_first (x ∷ xs) d some = ap (λ t. x ∷ t) (sym (take_all (length (x ∷ xs) - 1) xs (omega arith)))

pub no_rules : (order : List Rule) → length order < 1 → order ≡ []
no_rules [] lt = refl
no_rules (r ∷ order) lt = absurd (omega (arith, lt))

pub if_err : {T E : Type 0} (r : Result T E) (P Q : E → Type 0) → ((e : E) → P e → Q e) → IfErr r P → IfErr r Q
if_err (Ok x) P Q f p = tt
if_err (Err e) P Q f p = f e p

-- ---- one rule more at the start of the order

same_text : (t u : List ℕ) → t ≡ u → texts_differ t u ≡ false
same_text t u e = rw ((bytes_eq-Decides t u).1 e) refl

pub skipped_pass : (rules : RuleSet) (rule : Rule) (order : List Rule) (p : Parsed) (count : ℕ) (passed : FirstChange) → has_step rules rule ≡ false
    → IsFirstChange rules order p count passed → IsFirstChange rules (rule ∷ order) p count passed
skipped_pass rules rule order p count (NoChange fixed) not_in (n, number, runs) = (n, number, rw not_in runs)
skipped_pass rules rule order p count (Changed fixed change by rest) not_in (n, number, few, shorter, turns, on, off, unread_after) = (
  n,
  number,
  few,
  omega (arith, shorter),
  turns,
  λ next more reads runs. rw not_in (on next more reads runs),
  λ next fault reads runs. rw not_in (off next fault reads runs),
  λ unread. rw not_in (unread_after unread),
)

pub stayed_pass : (rules : RuleSet) (rule : Rule) (order : List Rule) (p : Parsed) (count : ℕ) (passed : FirstChange) (step : StepResult) → has_step rules rule ≡ true → IsParseOf p.scanned.text p
    → IsStep rule p step → step.change ≡ None → IsFirstChange rules order p (count + step.count) passed → IsFirstChange rules (rule ∷ order) p count passed
stayed_pass rules rule order p count (NoChange fixed) step chosen reads s none (n, number, runs) =
    let stays : step_text_of p s.found ≡ p.scanned.text = subst (IsChange rule p s.found) none s.change in
    let same = same_text p.scanned.text (step_text_of p s.found) (sym stays) in
    let taken = s.count in (
      step.count + n,
      omega (arith, number),
      rw chosen (s.found, s.findings_are, (s.short, p, record { text = p.scanned.text; lists = []; fixed = n }, subst (λ (t : List ℕ). IsParseOf t p) (sym stays) reads, runs, rw (same, taken) refl)),
    )
stayed_pass rules rule order p count (Changed fixed change by rest) step chosen reads s none (n, number, few, shorter, turns, on, off, unread_after) =
    let stays : step_text_of p s.found ≡ p.scanned.text = subst (IsChange rule p s.found) none s.change in
    let same = same_text p.scanned.text (step_text_of p s.found) (sym stays) in
    let taken = s.count in
    let again : IsParseOf (step_text_of p s.found) p = subst (λ (t : List ℕ). IsParseOf t p) (sym stays) reads in (
      step.count + n,
      omega (arith, number),
      few,
      omega (arith, shorter),
      turns,
      λ next more read runs. rw chosen (s.found, s.findings_are, (s.short, p, _, again, on next more read runs, rw (same, taken) (ap (λ k. record { text = more.text; lists = change.edits ∷ more.lists; fixed = k }) (omega arith)))),
      λ next fault read runs. rw chosen (s.found, s.findings_are, inr (s.short, p, again, off next fault read runs)),
      λ unread. rw chosen (s.found, s.findings_are, inr (s.short, p, again, unread_after unread)),
    )

-- what steps from here on make, by what those after the change make
abbrev pub StepsContinue : RuleSet → List Rule → List Rule → Rule → Parsed → ℕ → NewText → Type 0
StepsContinue rules order rest by p n change =
    ((next : Parsed) (more : Steps) → IsParseOf change.text.items next → RunFixable rules rest next (Ok more)
    → RunFixable rules order p (Ok (record { text = more.text; lists = change.edits ∷ more.lists; fixed = n + more.fixed })))
    × ((next : Parsed) (fault : FixFault) → IsParseOf change.text.items next → RunFixable rules rest next (Err fault) → RunFixable rules order p (Err fault))
    × (DoesNotParse change.text.items → RunFixable rules order p (Err (FixBroken by)))

pub changed_transforms : (rule : Rule) (p : Parsed) (step : StepResult) (change : NewText) → IsStep rule p step → step.change ≡ Some change → Transforms change.edits p.scanned.text change.text.items
changed_transforms rule p step change s some = let c : IsChange rule p s.found (Some change) = subst (IsChange rule p s.found) some s.change in c.3

pub changed_pass : (rules : RuleSet) (rule : Rule) (order : List Rule) (p : Parsed) (step : StepResult) (change : NewText) → has_step rules rule ≡ true → IsStep rule p step → step.change ≡ Some change
    → StepsContinue rules (rule ∷ order) order rule p step.count change
changed_pass rules rule order p step change chosen s some =
    let c : IsChange rule p s.found (Some change) = subst (IsChange rule p s.found) some s.change in
    let taken = s.count in
    let differs = c.0 in
    let listed = c.2 in (
      λ next more reads runs. rw chosen (s.found, s.findings_are, (s.short, next, more, subst (λ (t : List ℕ). IsParseOf t next) c.1 reads, runs, rw (differs, taken, listed) refl)),
      λ next fault reads runs. rw chosen (s.found, s.findings_are, inr (s.short, next, subst (λ (t : List ℕ). IsParseOf t next) c.1 reads, runs)),
      λ unread. rw chosen (s.found, s.findings_are, inl (refl, s.short, subst DoesNotParse c.1 unread)),
    )

-- ---- from what was passed on

pub no_more : (rules : RuleSet) (order : List Rule) (text : List ℕ) (p : Parsed) (done : EditList) (count fixed : ℕ) (found : List Finding) → IsParseOf text p → RulesFind rules p found → IsFirstChange rules order p count (NoChange fixed)
    → FixesFrom rules order text done count (record { text = text; edits = done; fixed = fixed; left = length found })
no_more rules order text p done count fixed found reads finds (n, number, runs) = record {
  parsed = p;
  reads = reads;
  steps = record { text = p.scanned.text; lists = []; fixed = n };
  runs = runs;
  text_is = sym reads.0;
  edits_are = refl;
  fixed_is = number;
  new_parsed = p;
  new_reads = reads;
  left_is = (found, finds, refl);
}

pub and_more : (rules : RuleSet) (order : List Rule) (text : List ℕ) (p : Parsed) (done both : EditList) (count fixed : ℕ) (change : NewText) (by : Rule) (rest : Bor (List Rule)) (made : Rewrite)
    → IsParseOf text p → IsFirstChange rules order p count (Changed fixed change by rest) → IsSquash done change.edits both
    → FixesFrom rules rest.now change.text.items both fixed made → FixesFrom rules order text done count made
and_more rules order text p done both count fixed change by rest made reads (n, number, few, shorter, turns, on, off, unread_after) joins f =
    let more = f.fixed_is in
    record {
      parsed = p;
      reads = reads;
      steps = record { text = f.steps.text; lists = change.edits ∷ f.steps.lists; fixed = n + f.steps.fixed };
      runs = on f.parsed f.steps f.reads f.runs;
      text_is = f.text_is;
      edits_are = (both, joins, f.edits_are);
      fixed_is = omega (arith, number, more);
      new_parsed = f.new_parsed;
      new_reads = f.new_reads;
      left_is = f.left_is;
    }

pub and_refuses : (rules : RuleSet) (order : List Rule) (text : List ℕ) (p : Parsed) (count fixed : ℕ) (change : NewText) (made_by by : Rule) (rest : Bor (List Rule)) (fault : FixFault)
    → IsParseOf text p → IsFirstChange rules order p count (Changed fixed change by rest)
    → RefusesFrom rules rest.now change.text.items by fault → RefusesFrom rules order text made_by fault
and_refuses rules order text p count fixed change made_by by rest fault reads to (inl memory) = inl memory
and_refuses rules order text p count fixed change made_by by rest fault reads (n, number, few, shorter, turns, on, off, unread_after) (inr (inl unread)) =
    inr (inr (p, reads, rw unread.0 (unread_after unread.1)))
and_refuses rules order text p count fixed change made_by by rest fault reads (n, number, few, shorter, turns, on, off, unread_after) (inr (inr (next, read, runs))) =
    inr (inr (p, reads, off next fault read runs))

-- ---- from the first step on

module _ (rules : RuleSet) (rule : Rule) (order : List Rule) (p : Parsed)
    (go : (c : Parsed) (r : Result Steps FixFault) → RunFixable rules order c r
    → RunSteps rules (filter has_fix order) c r) where
  at_step : has_rule rules rule ≡ true → (found : List Finding) → RulesFind (only rule) p found
      → (answer : Result Steps FixFault) → FoundThen rule p found (RunFixable rules order) answer
      → RunSteps rules (rule ∷ filter has_fix order) p answer
  at_step has found finds (Ok steps) (short, next, more, reads, runs, is) =
      subst (λ (s : Steps). RunSteps rules (rule ∷ filter has_fix order) p (Ok s)) (sym is)
      (stepped found has finds short reads (go next (Ok more) runs))
  at_step has found finds (Err fault) (inl broken) = breaks found has finds broken
  at_step has found finds (Err fault) (inr (short, next, reads, runs)) =
      breaks_later found has finds short reads (go next (Err fault) runs)

  -- b whether a fix has a step for the rule, d whether the set has the rule
  at_rule : (answer : Result Steps FixFault) (b d : Bool) → has_rule rules rule ≡ d
      → MatchBool (b && d) (StepThen rule p (RunFixable rules order) answer) (RunFixable rules order p answer)
      → RunSteps rules (cond b (rule ∷ filter has_fix order) (filter has_fix order)) p answer
  at_rule answer true true has h = at_step has h.0 h.1 answer h.2
  at_rule answer true false absent h = not_in_set absent (go p answer h)
  at_rule answer false d has h = go p answer h

-- the steps that a list of rules has are those of its rules that are fixed
run_is : (rules : RuleSet) (order : List Rule) (p : Parsed) (answer : Result Steps FixFault)
    → RunFixable rules order p answer → RunSteps rules (filter has_fix order) p answer
run_is rules [] p answer h = subst (λ (r : Result Steps FixFault). RunSteps rules [] p r) (sym h) none_left
run_is rules (rule ∷ order) p answer h =
    at_rule rules rule order p (run_is rules order) answer (has_fix rule) (has_rule rules rule) refl h

pub none_changed : (rules : RuleSet) (text : List ℕ) (p : Parsed) (fixed : ℕ) (found : List Finding) → IsParseOf text p → RulesFind rules p found → IsFirstChange rules all_rules p 0 (NoChange fixed)
    → Fixes rules text (record { text = text; edits = record { old_len = length text; entries = [] }; fixed = fixed; left = length found })
none_changed rules text p fixed found reads finds (n, number, runs) =
    let steps : Steps = record { text = p.scanned.text; lists = []; fixed = n } in
    let made : Rewrite = record { text = text; edits = record { old_len = length text; entries = [] }; fixed = fixed; left = length found } in
    let of_text : FixesText rules text made = record {
      parsed = p;
      reads = reads;
      steps = steps;
      runs = run_is rules all_rules p (Ok steps) runs;
      text_is = sym reads.0;
      fixed_is = omega (arith, number);
      new_parsed = p;
      new_reads = reads;
      left_is = (found, finds, refl);
    } in
    record { fixes_text = of_text; edits_are = refl }

pub all_fixed : (rules : RuleSet) (text : List ℕ) (p : Parsed) (fixed : ℕ) (change : NewText) (by : Rule) (rest : Bor (List Rule)) (made : Rewrite)
    → IsParseOf text p → IsFirstChange rules all_rules p 0 (Changed fixed change by rest) → FixesFrom rules rest.now change.text.items change.edits fixed made → Fixes rules text made
all_fixed rules text p fixed change by rest made reads (n, number, few, shorter, turns, on, off, unread_after) f =
    let more = f.fixed_is in
    let steps : Steps = record { text = f.steps.text; lists = change.edits ∷ f.steps.lists; fixed = n + f.steps.fixed } in
    let of_text : FixesText rules text made = record {
      parsed = p;
      reads = reads;
      steps = steps;
      runs = run_is rules all_rules p (Ok steps) (on f.parsed f.steps f.reads f.runs);
      text_is = f.text_is;
      fixed_is = omega (arith, number, more);
      new_parsed = f.new_parsed;
      new_reads = f.new_reads;
      left_is = f.left_is;
    } in
    record { fixes_text = of_text; edits_are = f.edits_are }

-- a text that is read was looked into
memory_at : (text : List ℕ) (p : Parsed) (fault : FixFault) → IsParseOf text p → fault ≡ Memory → IsReadFault text fault
memory_at text p fault reads is = rw is (subst IsUtf8WithinLimit reads.0 (reads.1.short, reads.1.utf8))

pub first_refuses : (rules : RuleSet) (text : List ℕ) (p : Parsed) (fault : FixFault) → IsParseOf text p → (fault ≡ Memory) ⊎ RunFixable rules all_rules p (Err fault) → Refuses rules text fault
first_refuses rules text p fault reads (inl is) = inl (memory_at text p fault reads is)
first_refuses rules text p fault reads (inr runs) = inr (p, reads, run_is rules all_rules p (Err fault) runs)

pub all_refuses : (rules : RuleSet) (text : List ℕ) (p : Parsed) (fixed : ℕ) (change : NewText) (by : Rule) (rest : Bor (List Rule)) (fault : FixFault)
    → IsParseOf text p → IsFirstChange rules all_rules p 0 (Changed fixed change by rest) → RefusesFrom rules rest.now change.text.items by fault → Refuses rules text fault
all_refuses rules text p fixed change by rest fault reads to (inl is) = inl (memory_at text p fault reads is)
all_refuses rules text p fixed change by rest fault reads (n, number, few, shorter, turns, on, off, unread_after) (inr (inl unread)) = inr (p, reads, run_is rules all_rules p (Err fault) (rw unread.0 (unread_after unread.1)))
all_refuses rules text p fixed change by rest fault reads (n, number, few, shorter, turns, on, off, unread_after) (inr (inr (next, read, runs))) = inr (p, reads, run_is rules all_rules p (Err fault) (off next fault read runs))
