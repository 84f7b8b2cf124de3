-- The issues are those of the text that was searched. The error of the steps is the command's.
use Rattle.std.proofs.Common.{◌≡◌, ◌∙◌, List, Err, length, map, sym, ap, subst, rules}
use Rattle.std.specs.Prelude.{string_bytes}
use Rattle.std.proofs.lemmas.List.{length-map}
use Rattle.hcl_token.specs.TokenizedText.{TokenizedText}
use Rattle.tf_lint.specs.Reports.{report_of, report_lines}
use Rattle.tf_rules.specs.declared.finding.Finding.{Finding}
use Rattle.tf_rules.specs.declared.rule_set.RuleSet.{RuleSet}
use Rattle.tf_fix.specs.OneStep.{RulesFind}
use Rattle.tf_session.specs.Inner.Faults.{fault_of_fix}
use Rattle.tf_session.proofs.ReadTexts.{not_read}
use Rattle.tf_session.proofs.linting.issue_lines.Goals as goal

pub returns-in-Ok-clause-lines : goal.returns-in-Ok-clause-lines
returns-in-Ok-clause-lines c =
    let (p, reads, h) = c.in_ok-searched.ensures.linted in
    let s = c.in_ok-searched.searched in
    let fs = s.found.items in
    let finds = subst (λ (rules : RuleSet). RulesFind rules p fs) c.in_ok-searched.ensures.rules h.findings_are in
    let found = c.as_slice-found.ensures.value in
    let lines = c.in-Ok.ensures.lines ∙ ap (λ (xs : List Finding). report_lines c.args.name.now (map (report_of s.scanned.pairs) xs)) found in
    let bytes : c.into_bytes.result.items ≡ string_bytes c.in-Ok.lines = search rules in
    let of_text = ap (λ (t : TokenizedText). map (report_of t.pairs) fs) (sym h.same) in
    let counted = ap (λ (xs : List Finding). length xs) found in (
      map (report_of s.scanned.pairs) fs,
      (p, reads, (fs, finds, of_text)),
      bytes ∙ lines,
      counted ∙ sym (length-map fs (report_of s.scanned.pairs)),
    )

pub returns-in_err-searched-clause-fault : goal.returns-in_err-searched-clause-fault
returns-in_err-searched-clause-fault c =
    let why = c.in_err-searched.field-0.0 in
    let answer : c.from_residual.result ≡ Err (fault_of_fix why) = search rules in
    rw answer (not_read c.args.text.now why c.in_err-searched.ensures.fault)
