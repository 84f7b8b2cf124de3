-- What scanning a text returns. The errors are this project's own.
use Rattle.std.specs.Prelude.{◌≡◌, ℕ, ◌≤◌, ◌⊎◌, List, [], length, IsUtf8, Result, IfOk, IfErr, IsOk}
use Rattle.hcl_token.specs.TokenizedText.{TokenizedText}
use Rattle.hcl_scan.specs.declared.fault.ScanFault.{ScanFault}
use Rattle.hcl_scan.specs.declared.fault.ScanFault.TheVariants.{Memory}
use Rattle.hcl_scan.specs.Tokenization.{IsTokenization, MAX_TEXT}
use Rattle.hcl_scan.specs.Fault.{IsFault}

-- the text's own error; or memory ran out, and then the text is UTF-8 and not too long
abbrev pub IsScanFault : List ℕ → ScanFault → Type 0
IsScanFault text fault = ((fault ≡ Memory) × (length text ≤ MAX_TEXT) × IsUtf8 text) ⊎ IsFault text fault

-- the tokens of the text, or an error
pub record IsScanResult (source : List ℕ) (result : Result TokenizedText ScanFault) : Type 0 where
  pub text : IfOk result (λ (s : TokenizedText). s.text ≡ source)
  pub tokenization : IfOk result (λ (s : TokenizedText). IsTokenization source s.pairs s.last)
  pub fault : IfErr result (λ (e : ScanFault). IsScanFault source e)
  -- nothing is allocated for the empty text
  pub empty : source ≡ [] → IsOk result
