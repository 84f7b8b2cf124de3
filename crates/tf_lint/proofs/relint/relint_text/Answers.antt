use Rattle.std.proofs.Common.{sym, subst}
use Rattle.hcl_grammar.specs.declared.bounds.TheConstants.{MAX_NESTING}
use Rattle.hcl_scan.specs.Follows.{AreApart}
use Rattle.hcl_token.specs.TokenizedText.{TokenizedText}
use Rattle.tf_lint.specs.Faults.{fault_of_scan}
use Rattle.tf_lint.specs.ParseFaults.{IsReadFault}
use Rattle.tf_lint.proofs.FileLemmas.{residual}
use Rattle.tf_lint.proofs.LintLemmas.{not_tokenized}
use Rattle.tf_lint.proofs.relint.relint_text.Goals as goal

-- the tokens of a text that parses don't join
pub rescan-requires : goal.rescan-requires
rescan-requires c =
    let (p, text, previous) = c.requires in
    let tokenized = p.scanned in
    subst (λ (x : TokenizedText). AreApart x.pairs) (sym (c.attach-old.ensures tokenized text previous.tokens)) (c.parsed_tokens_are_apart.ensures tokenized.text tokenized.pairs tokenized.last MAX_NESTING p.tree previous.reads.1 previous.reads.2)

pub returns-in_err-scanned-clause-fault : goal.returns-in_err-scanned-clause-fault
returns-in_err-scanned-clause-fault c =
    let why = c.in_err-scanned.field-0.0 in
    residual c.from_residual.result (fault_of_scan why) (IsReadFault c.args.text.now) c.from_residual.ensures (not_tokenized c.args.text.now why c.in_err-scanned.ensures.fault)

pub returns-in_err-linted-clause-fault : goal.returns-in_err-linted-clause-fault
returns-in_err-linted-clause-fault c =
    residual c.from_residual-in_err-linted.result c.in_err-linted.field-0.0 (IsReadFault c.args.text.now) c.from_residual-in_err-linted.ensures (c.in_err-linted.ensures.fault c.args.text.now c.in_ok-scanned.ensures.text)

pub returns-in_err-linted-2-clause-fault : goal.returns-in_err-linted-2-clause-fault
returns-in_err-linted-2-clause-fault c =
    residual c.from_residual-in_err-linted-2.result c.in_err-linted-2.field-0.0 (IsReadFault c.args.text.now) c.from_residual-in_err-linted-2.ensures (c.in_err-linted-2.ensures.fault c.args.text.now c.in_ok-scanned.ensures.text)
