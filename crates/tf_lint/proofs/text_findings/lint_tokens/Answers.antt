use Rattle.std.proofs.Common.{◌≡◌, ◌≢◌, ℕ, List, Result, Ok, Err, sym, subst}
use Rattle.std.specs.Prelude.{IfOk, IfErr}
use Rattle.hcl_grammar.specs.Pure.BodyParser as spec
use Rattle.hcl_grammar.specs.Pure.NodeMakers.{nodes}
use Rattle.hcl_grammar.specs.declared.bounds.TheConstants.{MAX_NESTING}
use Rattle.hcl_grammar.specs.declared.fault.TokenFault.{TokenFault}
use Rattle.hcl_grammar.specs.declared.fault.TokenFault.TheVariants as token
use Rattle.hcl_grammar.specs.declared.tree.Tree.{Tree}
use Rattle.hcl_scan.specs.Follows.{tokens_of}
use Rattle.hcl_text_laws.proofs.OwnTokens.{own_tokens}
use Rattle.hcl_text_laws.specs.Faults.{IsMemory, IsMemoryOrDeep, to_parse_fault}
use Rattle.hcl_text_laws.specs.declared.fault.ParseFault.{ParseFault}
use Rattle.hcl_token.specs.TokenizedText.{TokenizedText}
use Rattle.hcl_token.specs.Tokens.{Pair}
use Rattle.hcl_tree.proofs.FaultLemmas.{memory_to_parse_fault, deep_to_parse_fault}
use Rattle.tf_findings.specs.Findings.{AreFindings}
use Rattle.tf_rules.specs.declared.rule_set.RuleSet.{RuleSet}
use Rattle.tf_lint.specs.Inner.BodyFindings.{AreBodyFindings}
use Rattle.tf_lint.specs.declared.body.BodyFindings.{BodyFindings}
use Rattle.tf_lint.specs.declared.text_findings.TextFindings.{TextFindings}
use Rattle.tf_lint.proofs.FileLemmas.{residual, if_ok}
use Rattle.tf_lint.proofs.text_findings.lint_tokens.Goals as goal

-- the file is read up to a place, and this is found in its members
abbrev IsRead : RuleSet → List Pair → ℕ → BodyFindings → Type 0
IsRead rules pairs new found =
    (t : Tree) × (spec.file nodes (tokens_of pairs) MAX_NESTING 0 ≡ Ok (t, new)) × AreBodyFindings rules pairs t.body.members found

was_read : (rules : RuleSet) (pairs : List Pair) (new : ℕ) (outcome : Result BodyFindings TokenFault) (found : BodyFindings) → outcome ≡ Ok found → IfOk outcome (IsRead rules pairs new)
    → IsRead rules pairs new found
was_read rules pairs new outcome found is h = subst (λ (r : Result BodyFindings TokenFault). IfOk r (IsRead rules pairs new)) is h

-- what is known of an error by the number of its token, of the same by its byte
by_byte : (s : TokenizedText) (P : TokenFault → Type 0) (Q : ParseFault → Type 0) → ((why : TokenFault) → P why → Q (to_parse_fault s why))
    → (outcome : Result BodyFindings TokenFault) (f : ParseFault) → (why : TokenFault) × (outcome ≡ Err why) × (f ≡ to_parse_fault s why) → IfErr outcome P → Q f
by_byte s P Q go outcome f (why, is, at_byte) h = subst Q (sym at_byte) (go why (subst (λ (r : Result BodyFindings TokenFault). IfErr r P) is h))

pub finish_body-requires : goal.finish_body-requires
finish_body-requires c =
    let s = c.args.search.now.scanned.now in
    let read = was_read c.args.search.now.rules s.pairs c.lint_file-outcome.new.at c.lint_file-outcome.result c.in_ok-read.read c.in_ok-read.ensures.ok c.lint_file-outcome.ensures.found in
    (read.0.body.members, read.2)

pub returns-clause-found : goal.returns-clause-found
returns-clause-found c =
    let s = c.args.search.now.scanned.now in
    let read = was_read c.args.search.now.rules s.pairs c.lint_file-outcome.new.at c.lint_file-outcome.result c.in_ok-read.read c.in_ok-read.ensures.ok c.lint_file-outcome.ensures.found in
    let derived = (c.file_parser_is_exact.ensures (tokens_of s.pairs) MAX_NESTING (Ok read.0) _ read.1).derived in
    if_ok c.finish_body.result (λ (linted : TextFindings). AreFindings c.args.search.now.rules s.pairs read.0.body.members linted.found.items) _
    (λ linted are. (read.0, derived, are)) (c.finish_body.ensures.are read.0.body.members read.2)

pub returns-clause-members : goal.returns-clause-members
returns-clause-members c =
    let s = c.args.search.now.scanned.now in
    let read = was_read c.args.search.now.rules s.pairs c.lint_file-outcome.new.at c.lint_file-outcome.result c.in_ok-read.read c.in_ok-read.ensures.ok c.lint_file-outcome.ensures.found in
    if_ok c.finish_body.result (λ (linted : TextFindings). linted.members ≡ c.in_ok-read.read.members) _
    (λ linted same. rw same read.2.each) c.finish_body.ensures.members

pub returns-in_err-read-clause-only : goal.returns-in_err-read-clause-only
returns-in_err-read-clause-only c = λ t p.
    let s = c.args.search.now.scanned.now in
    let ts = tokens_of s.pairs in
    let own = own_tokens s t p (c.one_tokenization.ensures _ _ _ _ _ c.len-count.ensures.tokenization p.tokenization).0 in
    residual c.from_residual.result c.in_err-read.field-0.0 IsMemory c.from_residual.ensures
    (by_byte s (λ e. e ≢ token.Memory → spec.file nodes ts MAX_NESTING 0 ≡ Err e) IsMemory
    (λ why h. memory_to_parse_fault s why ((c.file_parser_is_exact.ensures ts MAX_NESTING (Err why) c.lint_file-outcome.new.at h).only t own))
    c.lint_file-outcome.result c.in_err-read.field-0.0 c.in_err-read.ensures.fault c.lint_file-outcome.ensures.fault)

pub returns-in_err-read-clause-too_deep : goal.returns-in_err-read-clause-too_deep
returns-in_err-read-clause-too_deep c = λ d t w.
    let s = c.args.search.now.scanned.now in
    let ts = tokens_of s.pairs in
    residual c.from_residual.result c.in_err-read.field-0.0 IsMemoryOrDeep c.from_residual.ensures
    (by_byte s (λ e. e ≢ token.Memory → spec.file nodes ts MAX_NESTING 0 ≡ Err e) IsMemoryOrDeep
    (λ why h. deep_to_parse_fault s why ((c.file_parser_is_exact.ensures ts MAX_NESTING (Err why) c.lint_file-outcome.new.at h).deeper d t w))
    c.lint_file-outcome.result c.in_err-read.field-0.0 c.in_err-read.ensures.fault c.lint_file-outcome.ensures.fault)
