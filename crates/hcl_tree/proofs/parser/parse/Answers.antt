use Rattle.std.proofs.Common.{◌≡◌, refl}
use Rattle.hcl_grammar.specs.Bodies.{IsFile}
use Rattle.hcl_grammar.specs.Faults as pure
use Rattle.hcl_grammar.specs.declared.bounds.TheConstants.{MAX_NESTING}
use Rattle.hcl_scan.specs.Follows.{tokens_of}
use Rattle.hcl_text_laws.proofs.OwnTokens.{own_tokens}
use Rattle.hcl_text_laws.specs.Faults.{IsMemory, IsMemoryOrDeep}
use Rattle.hcl_text_laws.specs.Parses.{Parses}
use Rattle.hcl_tree.proofs.FaultLemmas.{its_answer, memory_to_parse_fault, deep_to_parse_fault, ok_by_bytes, match_by_bytes, place_by_bytes, first_by_bytes, its_reading}
use Rattle.hcl_tree.proofs.parser.parse.Goals as goal

pub returns-clause-parses : goal.returns-clause-parses
returns-clause-parses c =
    let s = c.args.scanned.now in
    let h = its_answer (tokens_of s.pairs) _ c.file_parser_is_exact.ensures c.new.ensures refl c.parse-read.ensures in
    ok_by_bytes s (λ t. IsFile (tokens_of s.pairs) MAX_NESTING t) (λ t. Parses s.text t)
    (λ t w. record { pairs = s.pairs; last = s.last; tokenization = c.len-count.ensures.tokenization; derived = w })
    _ _ c.to_parse_result.ensures.tree c.to_parse_result.ensures.fault h.derived

pub returns-clause-derived : goal.returns-clause-derived
returns-clause-derived c =
    let s = c.args.scanned.now in
    let h = its_answer (tokens_of s.pairs) _ c.file_parser_is_exact.ensures c.new.ensures refl c.parse-read.ensures in
    ok_by_bytes s (λ t. IsFile (tokens_of s.pairs) MAX_NESTING t) (λ t. IsFile (tokens_of s.pairs) MAX_NESTING t) (λ t w. w) _ _ c.to_parse_result.ensures.tree c.to_parse_result.ensures.fault h.derived

pub returns-clause-only : goal.returns-clause-only
returns-clause-only c = λ t p.
    let s = c.args.scanned.now in
    let h = its_answer (tokens_of s.pairs) _ c.file_parser_is_exact.ensures c.new.ensures refl c.parse-read.ensures in
    let same = (c.one_tokenization.ensures _ _ _ _ _ c.len-count.ensures.tokenization p.tokenization).0 in
    match_by_bytes s (λ x. x ≡ t) pure.IsMemory IsMemory (memory_to_parse_fault s) _ _ c.to_parse_result.ensures.tree c.to_parse_result.ensures.fault (h.only t (own_tokens s t p same))

pub returns-clause-deeper : goal.returns-clause-deeper
returns-clause-deeper c = λ d t w.
    let s = c.args.scanned.now in
    let h = its_answer (tokens_of s.pairs) _ c.file_parser_is_exact.ensures c.new.ensures refl c.parse-read.ensures in
    match_by_bytes s (λ x. x ≡ t) pure.IsMemoryOrDeep IsMemoryOrDeep (deep_to_parse_fault s) _ _ c.to_parse_result.ensures.tree c.to_parse_result.ensures.fault (h.deeper d t w)

pub returns-clause-place : goal.returns-clause-place
returns-clause-place c = place_by_bytes c.args.scanned.now _ _ c.to_parse_result.ensures.tree c.to_parse_result.ensures.fault

pub returns-clause-fault : goal.returns-clause-fault
returns-clause-fault c =
    first_by_bytes c.args.scanned.now _ _ _ c.to_parse_result.ensures.tree c.to_parse_result.ensures.fault (its_reading (tokens_of c.args.scanned.now.pairs) _ c.new.ensures refl c.parse-read.ensures)
