-- A text has one tree and one list of findings, so each step of a fix has one text, and the fix makes one.
use Rattle.std.proofs.Common.{◌≡◌, ◌∙◌, ◌≤◌, ◌<◌, ◌⊎◌, ℕ, List, [], ◌∷◌, length, Result, Ok, Err, refl, sym, ap, subst, inl, inr, arith}
use Rattle.hcl_token.specs.TokenizedText.{TokenizedText}
use Rattle.hcl_scan.specs.Tokenization.{MAX_TEXT}
use Rattle.hcl_grammar.specs.declared.tree.Tree.{Tree}
use Rattle.hcl_text_laws.specs.Parses.{OneParse}
use Rattle.edit_record.specs.Lists.Pieces.{EditList}
use Rattle.edit_record.specs.Squashes.SquashLists.{SquashAllIsUnique}
use Rattle.tf_rules.specs.declared.finding.Finding.{Finding}
use Rattle.tf_rules.specs.declared.rule.Rule.{Rule}
use Rattle.tf_rules.specs.declared.rule_set.RuleSet.{RuleSet}
use Rattle.tf_findings.specs.Findings.{FindingsAreUnique}
use Rattle.tf_lint.specs.declared.fault.FixFault.{FixFault}
use Rattle.tf_lint.specs.declared.fault.FixFault.TheVariants.{Scan, Parse, FixBroken, TooLong, Memory}
use Rattle.tf_fix.specs.declared.parsed.Parsed.{Parsed}
use Rattle.tf_rules.specs.SingleRule.{only}
use Rattle.tf_fix.specs.ParsedTexts.{IsParseOf}
use Rattle.tf_fix.specs.OneStep.{RulesFind, step_text_of}
use Rattle.tf_lint.specs.Steps.{IsRemainingCount, Steps, prepend_step, StepBreaks, RunSteps, none_left, not_in_set, breaks, stepped, breaks_later, fix_order, IsSquashOfAll, Rewrite, FixesText, Fixes, Breaks, FixIsUnique}
use Rattle.tf_lint.proofs.DoesNotParse.{TokensAreUnique, parses_of, same_scanned}

-- what is made, by its parts
one_made : (a b : Rewrite) → a.text ≡ b.text → a.edits ≡ b.edits → a.fixed ≡ b.fixed → a.left ≡ b.left → a ≡ b
one_made a b texts edits fixed left = λ i.
    record { text = texts i; edits = edits i; fixed = fixed i; left = left i }

-- the two ways in which a step can't be done
broken_how : (rule : Rule) (p : Parsed) (found : List Finding) (f : FixFault) → StepBreaks rule p found f
    → ((f ≡ TooLong) × (MAX_TEXT < length (step_text_of p found))) ⊎ ((f ≡ FixBroken rule) × (length (step_text_of p found) ≤ MAX_TEXT))
broken_how rule p found (Scan fault) w = absurd w
broken_how rule p found (Parse fault) w = absurd w
broken_how rule p found (FixBroken broken) w = inr (ap (λ (r : Rule). FixBroken r) w.0, w.1)
broken_how rule p found TooLong w = inl (refl, w)
broken_how rule p found Memory w = absurd w

same_break : (rule : Rule) (p : Parsed) (found : List Finding) (f g : FixFault) → StepBreaks rule p found f → StepBreaks rule p found g → f ≡ g
same_break rule p found f g v w =
    elim (broken_how rule p found f v) [
      | inl a ↦ elim (broken_how rule p found g w) [ inl b ↦ a.0 ∙ sym b.0 | inr b ↦ absurd (omega (arith, a.1, b.1)) ]
      | inr a ↦ elim (broken_how rule p found g w) [ inl b ↦ absurd (omega (arith, a.1, b.1)) | inr b ↦ a.0 ∙ sym b.0 ]
    ]

not_broken : (rule : Rule) (p next : Parsed) (found : List Finding) (f : FixFault) → length (step_text_of p found) ≤ MAX_TEXT → IsParseOf (step_text_of p found) next → StepBreaks rule p found f → ⊥
not_broken rule p next found (Scan fault) short reads w = w
not_broken rule p next found (Parse fault) short reads w = w
not_broken rule p next found (FixBroken broken) short reads w = w.2 next.tree (parses_of (step_text_of p found) next reads)
not_broken rule p next found TooLong short reads w = omega (arith, short, w)
not_broken rule p next found Memory short reads w = w

module _ (unique_tokens : TokensAreUnique) (one_parse : OneParse) (one_found : FindingsAreUnique) (one_squash : (first : EditList) (others : List EditList) → SquashAllIsUnique first others) where
  same_read : (text : List ℕ) (a b : Parsed) → IsParseOf text a → IsParseOf text b → a ≡ b
  same_read text a b p q = λ i. record {
    scanned = same_scanned unique_tokens text a b p q i;
    tree = one_parse text a.tree b.tree (parses_of text a p) (parses_of text b q) i;
  }

  same_found : (rule : Rule) (p : Parsed) (fs gs : List Finding) → RulesFind (only rule) p fs
      → RulesFind (only rule) p gs → fs ≡ gs
  same_found rule p fs gs x y = one_found (only rule) p.scanned.pairs p.tree.body.members fs gs x y

  -- a step of which the text is read is none that can't be done
  not_both : (rule : Rule) (p next : Parsed) (fs gs : List Finding) (fault : FixFault)
      → RulesFind (only rule) p fs → RulesFind (only rule) p gs → StepBreaks rule p fs fault
      → length (step_text_of p gs) ≤ MAX_TEXT → IsParseOf (step_text_of p gs) next → ⊥
  not_both rule p next fs gs fault x y broken short reads =
      not_broken rule p next gs fault short reads
      (subst (λ (l : List Finding). StepBreaks rule p l fault) (same_found rule p fs gs x y) broken)

  -- what runs on the text of a step runs on it, however it was found and read
  runs_again : {rules : RuleSet} {others : List Rule} {answer : Result Steps FixFault} (rule : Rule)
      (p next other : Parsed) (fs gs : List Finding) → RulesFind (only rule) p fs
      → RulesFind (only rule) p gs → IsParseOf (step_text_of p fs) next → IsParseOf (step_text_of p gs) other
      → RunSteps rules others next answer → RunSteps rules others other answer
  runs_again {rules} {others} {answer} rule p next other fs gs x y reads read =
      let found = same_found rule p fs gs x y in
      let here = subst (λ (l : List Finding). IsParseOf (step_text_of p l) next) found reads in
      subst (λ (c : Parsed). RunSteps rules others c answer)
      (same_read (step_text_of p gs) next other here read)

  same_steps : {rules : RuleSet} {order : List Rule} {p : Parsed} {a b : Result Steps FixFault}
      → RunSteps rules order p a → RunSteps rules order p b → a ≡ b
  same_steps none_left none_left = refl
  same_steps (not_in_set _ v) (not_in_set _ w) = same_steps v w
  same_steps (breaks {rule} {p = p} {fault = f} fs _ x v) (breaks {fault = g} gs _ y w) =
      let found = same_found rule p fs gs x y in
      let here = subst (λ (l : List Finding). StepBreaks rule p l f) found v in
      ap (λ (fault : FixFault). Err fault) (same_break rule p gs f g here w)
  same_steps (breaks {rule} {p = p} {fault = f} fs _ x v) (stepped {next = d} gs _ y short reads w) =
      absurd (not_both rule p d fs gs f x y v short reads)
  same_steps (breaks {rule} {p = p} {fault = f} fs _ x v) (breaks_later {next = d} gs _ y short reads w) =
      absurd (not_both rule p d fs gs f x y v short reads)
  same_steps (stepped {rule} {p = p} {next = c} fs _ x short reads v) (breaks {fault = g} gs _ y w) =
      absurd (not_both rule p c gs fs g y x w short reads)
  same_steps (breaks_later {rule} {p = p} {next = c} fs _ x short reads v) (breaks {fault = g} gs _ y w) =
      absurd (not_both rule p c gs fs g y x w short reads)
  same_steps (stepped {rule} {p = p} {next = c} {more} fs _ x _ reads v)
      (stepped {next = d} {more = then} gs _ y _ read w) =
      let again = same_steps v (runs_again rule p d c gs fs y x read reads w) in
      let e : ◌≡◌ {A = Result Steps FixFault} (Ok more) (Ok then) = again in
      let later : more ≡ then = cc in
      ap (λ (l : List Finding). Ok (prepend_step rule p l more)) (same_found rule p fs gs x y)
      ∙ ap (λ (s : Steps). Ok (prepend_step rule p gs s)) later
  same_steps (stepped {rule} {p = p} {next = c} {more} fs _ x _ reads v)
      (breaks_later {next = d} {fault = g} gs _ y _ read w) =
      let e : Ok more ≡ Err g = same_steps v (runs_again rule p d c gs fs y x read reads w) in absurd (cc)
  same_steps (breaks_later {rule} {p = p} {next = c} {fault = f} fs _ x _ reads v)
      (stepped {next = d} {more} gs _ y _ read w) =
      let e : Err f ≡ Ok more = same_steps v (runs_again rule p d c gs fs y x read reads w) in absurd (cc)
  same_steps (breaks_later {rule} {p = p} {next = c} fs _ x _ reads v)
      (breaks_later {next = d} gs _ y _ read w) = same_steps v (runs_again rule p d c gs fs y x read reads w)
  same_steps (not_in_set absent v) (breaks _ has _ _) = absurd (cc)
  same_steps (not_in_set absent v) (stepped _ has _ _ _ _) = absurd (cc)
  same_steps (not_in_set absent v) (breaks_later _ has _ _ _ _) = absurd (cc)
  same_steps (breaks _ has _ _) (not_in_set absent w) = absurd (cc)
  same_steps (stepped _ has _ _ _ _) (not_in_set absent w) = absurd (cc)
  same_steps (breaks_later _ has _ _ _ _) (not_in_set absent w) = absurd (cc)

  same_runs : (rules : RuleSet) (text : List ℕ) (c d : Parsed) (a b : Result Steps FixFault) → IsParseOf text c → IsParseOf text d → RunSteps rules fix_order c a → RunSteps rules fix_order d b → a ≡ b
  same_runs rules text c d a b p q runs other =
      same_steps runs (subst (λ (x : Parsed). RunSteps rules fix_order x b) (same_read text d c q p) other)

  one_list : (len : ℕ) (lists : List EditList) (e f : EditList) → IsSquashOfAll len lists e → IsSquashOfAll len lists f → e ≡ f
  one_list len [] e f p q = p ∙ sym q
  one_list len (first ∷ more) e f p q = (one_squash first more).one e f p q

  same_left : (rules : RuleSet) (p : Parsed) (m n : ℕ) → IsRemainingCount rules p m → IsRemainingCount rules p n → m ≡ n
  same_left rules p m n v w = v.2 ∙ ap (λ (fs : List Finding). length fs) (one_found rules p.scanned.pairs p.tree.body.members v.0 w.0 v.1 w.1) ∙ sym w.2

  same_all_steps : (rules : RuleSet) (text : List ℕ) (a b : Rewrite) (p : FixesText rules text a) (q : FixesText rules text b) → p.steps ≡ q.steps
  same_all_steps rules text a b p q =
      let e : ◌≡◌ {A = Result Steps FixFault} (Ok p.steps) (Ok q.steps) = same_runs rules text p.parsed q.parsed (Ok p.steps) (Ok q.steps) p.reads q.reads p.runs q.runs in
      cc

  same_text_made : (rules : RuleSet) (text : List ℕ) (a b : Rewrite) → FixesText rules text a → FixesText rules text b → (a.text ≡ b.text) × (a.fixed ≡ b.fixed) × (a.left ≡ b.left)
  same_text_made rules text a b p q =
      let steps = same_all_steps rules text a b p q in
      let texts : a.text ≡ b.text = p.text_is ∙ ap (λ (s : Steps). s.text) steps ∙ sym q.text_is in
      let fixed : a.fixed ≡ b.fixed = p.fixed_is ∙ ap (λ (s : Steps). s.fixed) steps ∙ sym q.fixed_is in
      let read = same_read a.text q.new_parsed p.new_parsed (subst (λ (t : List ℕ). IsParseOf t q.new_parsed) (sym texts) q.new_reads) p.new_reads in
      let left : a.left ≡ b.left = same_left rules p.new_parsed a.left b.left p.left_is (subst (λ (c : Parsed). IsRemainingCount rules c b.left) read q.left_is) in
      (texts, fixed, left)

  same_made : (rules : RuleSet) (text : List ℕ) (a b : Rewrite) → Fixes rules text a → Fixes rules text b → a ≡ b
  same_made rules text a b p q =
      let lists_of : Steps → Type 0 = λ s. IsSquashOfAll (length text) s.lists b.edits in
      let lists : lists_of p.fixes_text.steps = subst lists_of (sym (same_all_steps rules text a b p.fixes_text q.fixes_text)) q.edits_are in
      let edits : a.edits ≡ b.edits = one_list (length text) p.fixes_text.steps.lists a.edits b.edits p.edits_are lists in
      let (texts, fixed, left) = same_text_made rules text a b p.fixes_text q.fixes_text in
      one_made a b texts edits fixed left

  same_fault : (rules : RuleSet) (text : List ℕ) (f g : FixFault) → Breaks rules text f → Breaks rules text g → f ≡ g
  same_fault rules text f g v w =
      let e : ◌≡◌ {A = Result Steps FixFault} (Err f) (Err g) = same_runs rules text v.0 w.0 (Err f) (Err g) v.1 w.1 v.2 w.2 in
      cc

  made_or_broken : (rules : RuleSet) (text : List ℕ) (made : Rewrite) (f : FixFault) → FixesText rules text made → Breaks rules text f → ⊥
  made_or_broken rules text made f p w =
      let e : Ok p.steps ≡ Err f = same_runs rules text p.parsed w.0 (Ok p.steps) (Err f) p.reads w.1 p.runs w.2 in
      cc

  pub one_fix : (rules : RuleSet) (text : List ℕ) → FixIsUnique rules text
  one_fix rules text = record { made = same_made rules text; made_text = same_text_made rules text; broken = same_fault rules text; exclusive = made_or_broken rules text }
