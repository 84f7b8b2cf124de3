use Rattle.std.proofs.Common.{filter, sym, inr, refl, subst}
use Rattle.edit_record.specs.Lists.Pieces.{EditList, Transforms}
use Rattle.tf_findings.specs.RuleFilter.{is_found_by}
use Rattle.tf_fix.specs.StepText.{fix_step_text}
use Rattle.tf_fix.specs.Edits.StepEdits.{fix_step_entries}
use Rattle.tf_fix.proofs.NonemptyLemmas.{tokens_nonempty}
use Rattle.tf_fix.proofs.StepLemmas.{step_pieces, step_turns, step_same, step_fits, step_too_long, read_made, handed_on}
use Rattle.tf_fix.proofs.rule_edits.fix_step_edits.Goals as goal

pub fix_step_entries-requires-clause-nonempty : goal.fix_step_entries-requires-clause-nonempty
fix_step_entries-requires-clause-nonempty c = tokens_nonempty c.args.scanned.now.text c.args.scanned.now.pairs c.args.scanned.now.last c.text-text.ensures.tokenization

pub returns-clause-edits : goal.returns-clause-edits
returns-clause-edits c =
    let tokenized = c.args.scanned.now in
    let findings = filter (is_found_by c.args.rule) c.args.findings.now in
    step_same c.pieces_make_valid_edits.ensures tokenized (fix_step_text tokenized findings) (fix_step_entries c.args.rule tokenized findings) _ c.text-text.ensures.tokenization
    (step_pieces c.args.rule tokenized findings c.text-text.ensures.tokenization c.requires.apart c.requires.of_rule c.requires.valid)
    (read_made _ _ _ _ _ _ refl c.text-text.ensures.text c.in_ok-edits.ensures.ok c.in_ok-list.ensures.ok)

pub returns-clause-transforms : goal.returns-clause-transforms
returns-clause-transforms c =
    let tokenized = c.args.scanned.now in
    let findings = filter (is_found_by c.args.rule) c.args.findings.now in
    let p = step_pieces c.args.rule tokenized findings c.text-text.ensures.tokenization c.requires.apart c.requires.of_rule c.requires.valid in
    let same = step_same c.pieces_make_valid_edits.ensures tokenized (fix_step_text tokenized findings) (fix_step_entries c.args.rule tokenized findings) _ c.text-text.ensures.tokenization p
    (read_made _ _ _ _ _ _ refl c.text-text.ensures.text c.in_ok-edits.ensures.ok c.in_ok-list.ensures.ok) in
    let P : EditList → Type 0 = λ list. Transforms list tokenized.text (fix_step_text tokenized findings) in
    subst P (sym same) (step_turns c.pieces_transform.ensures tokenized (fix_step_text tokenized findings) _ c.text-text.ensures.tokenization p)

pub returns-clause-short : goal.returns-clause-short
returns-clause-short c =
    let tokenized = c.args.scanned.now in
    let findings = filter (is_found_by c.args.rule) c.args.findings.now in
    step_fits c.pieces_make_valid_edits.ensures tokenized (fix_step_text tokenized findings) (fix_step_entries c.args.rule tokenized findings) _ c.text-text.ensures.tokenization
    (step_pieces c.args.rule tokenized findings c.text-text.ensures.tokenization c.requires.apart c.requires.of_rule c.requires.valid)
    (read_made _ _ _ _ _ _ refl c.text-text.ensures.text c.in_ok-edits.ensures.ok c.in_ok-list.ensures.ok)

pub returns-in_err-list-clause-err : goal.returns-in_err-list-clause-err
returns-in_err-list-clause-err c =
    let tokenized = c.args.scanned.now in
    let findings = filter (is_found_by c.args.rule) c.args.findings.now in
    handed_on _ c.in_err-list.field-0.0 _ c.from_residual-in_err-list.ensures (inr (
      c.in_err-list.ensures.err.0,
      step_too_long c.pieces_make_valid_edits.ensures tokenized (fix_step_text tokenized findings) (fix_step_entries c.args.rule tokenized findings) _ c.text-text.ensures.tokenization
          (step_pieces c.args.rule tokenized findings c.text-text.ensures.tokenization c.requires.apart c.requires.of_rule c.requires.valid)
          (read_made _ _ _ _ _ _ refl c.text-text.ensures.text c.in_ok-edits.ensures.ok c.in_err-list.ensures.err.2),
    ))
