-- The places of errors, in bytes.
use Rattle.std.proofs.Common.{refl}
use Rattle.hcl_token.specs.TokenizedText.{TokenizedText}
use Rattle.hcl_grammar.specs.declared.fault.TokenFault.{TokenFault}
use Rattle.hcl_grammar.specs.declared.fault.TokenFault.TheVariants as token
use Rattle.hcl_text_laws.specs.Faults.{IsAtToken, to_parse_fault}

-- an error by the number of its token is at a token, or at the end
pub at_token : (s : TokenizedText) (f : TokenFault) → IsAtToken s (to_parse_fault s f)
at_token s (token.Syntax number) = (number, refl)
at_token s (token.TooDeep number) = (number, refl)
at_token s token.Memory = tt
