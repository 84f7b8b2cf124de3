-- At which byte of a text what is said of its error is printed.
use Rattle.std.specs.Prelude.{◌≡◌, ℕ, List, Some}
use Rattle.hcl_token.specs.TokenizedText.{TokenizedText}
use Rattle.hcl_scan.specs.Tokenization.{IsTokenization}
use Rattle.hcl_scan.specs.declared.fault.ScanFault.{ScanFault}
use Rattle.hcl_text_laws.specs.Faults.{byte_offset}
use Rattle.hcl_text_laws.specs.declared.fault.ParseFault.{ParseFault}
use Rattle.hcl_explain.specs.Explanations.{IsExplanation, IsAtNoToken}
use Rattle.hcl_explain.specs.ScanExplanations.{IsScanExplanation}
use Rattle.hcl_explain.specs.declared.explanation.Explanation.{Explanation}
use Rattle.hcl_explain.specs.declared.scan_error.ScanExplanation.{ScanExplanation}

-- at that of an explanation of the error
abbrev pub IsSaidOfScan : List ℕ → ScanFault → ℕ → Type 0
IsSaidOfScan text fault at =
    (e : ScanExplanation) × IsScanExplanation text fault (Some e) × (at ≡ e.at)

-- where the token of an explanation of the error begins, or at the end of the text
abbrev pub IsSaidOfParse : List ℕ → ParseFault → ℕ → Type 0
IsSaidOfParse text fault at =
    (t : TokenizedText) × (t.text ≡ text) × IsTokenization text t.pairs t.last
    × (e : Explanation) × IsExplanation t fault e × (at ≡ byte_offset t e.token)

-- the error is at no token of the text, and not at its end
abbrev pub IsAtNoTokenOf : List ℕ → ParseFault → Type 0
IsAtNoTokenOf text fault =
    (t : TokenizedText) → t.text ≡ text → IsTokenization text t.pairs t.last → IsAtNoToken t fault
