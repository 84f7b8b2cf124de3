-- Which error a text has that does not parse.
use Rattle.std.specs.Prelude.{◌≡◌, Err}
use Rattle.hcl_token.specs.TokenizedText.{TokenizedText}
use Rattle.hcl_scan.specs.Follows.{tokens_of}
use Rattle.hcl_grammar.specs.Pure.BodyParser.{file}
use Rattle.hcl_grammar.specs.Pure.NodeMakers.{nodes}
use Rattle.hcl_grammar.specs.declared.bounds.TheConstants.{MAX_NESTING}
use Rattle.hcl_grammar.specs.declared.fault.TokenFault.{TokenFault}
use Rattle.hcl_text_laws.specs.Faults.{to_parse_fault}
use Rattle.hcl_text_laws.specs.declared.fault.ParseFault.{ParseFault}

-- The error at which the grammar's parser, which reads from left to right, gives up, by its byte.
pub record IsFirstError (s : TokenizedText) (e : ParseFault) : Type 0 where
  pub fault : TokenFault
  pub found : file nodes (tokens_of s.pairs) MAX_NESTING 0 ≡ Err fault
  pub is : e ≡ to_parse_fault s fault
