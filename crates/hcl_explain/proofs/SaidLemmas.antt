-- What is said of a text by its tokens, of which it has one list at most.
use Rattle.std.proofs.Common.{◌≡◌, ℕ, List, Option, Some, None, Result, Ok, Err, inl, inr, subst}
use Rattle.std.proofs.lemmas.Bool.{false≢true}
use Rattle.std.specs.Prelude.{IfOk, IfNone, IsErr}
use Rattle.hcl_token.specs.TokenizedText.{TokenizedText}
use Rattle.hcl_token.specs.Tokens.{Pair}
use Rattle.hcl_scan.specs.Tokenization.{IsTokenization}
use Rattle.hcl_scan.specs.Fault.{IsFault}
use Rattle.hcl_scan.specs.ScanResult.{IsScanFault}
use Rattle.hcl_scan.specs.declared.fault.ScanFault.{ScanFault}
use Rattle.hcl_scan.specs.declared.fault.ScanFault.TheVariants.{Memory}
use Rattle.hcl_text_laws.specs.declared.fault.ParseFault.{ParseFault}
use Rattle.hcl_explain.specs.Explanations.{IsAtNoToken}
use Rattle.hcl_explain.specs.Said.{IsAtNoTokenOf}

abbrev pub OneTokenization : Type 0
OneTokenization = (text : List ℕ) (pairs others : List Pair) (last other : List ℕ)
    → IsTokenization text pairs last → IsTokenization text others other
    → (pairs ≡ others) × (last ≡ other)

abbrev pub NoTokenizationWithFault : Type 0
NoTokenizationWithFault = (text : List ℕ) (fault : ScanFault) (pairs : List Pair) (last : List ℕ)
    → IsFault text fault → IsTokenization text pairs last → ⊥

abbrev tokenized : List ℕ → List Pair → List ℕ → TokenizedText
tokenized text pairs last = record { text = text; pairs = pairs; last = last }

nowhere_in : (a b : List ℕ) (p q : List Pair) (l m : List ℕ) (fault : ParseFault)
    → a ≡ b → p ≡ q → l ≡ m
    → IsAtNoToken (tokenized a p l) fault → IsAtNoToken (tokenized b q m) fault
nowhere_in a b p q l m fault text pairs last h =
    subst (λ (x : List ℕ). IsAtNoToken (tokenized x q m) fault) text
    (subst (λ (x : List Pair). IsAtNoToken (tokenized a x m) fault) pairs
    (subst (λ (x : List ℕ). IsAtNoToken (tokenized a p x) fault) last h))

-- an error at no token of the tokens that were found is at no token of the text
at_none_of : OneTokenization → (s : TokenizedText) (text : List ℕ) (fault : ParseFault)
    → s.text ≡ text
    → IsTokenization text s.pairs s.last → IsAtNoToken s fault → IsAtNoTokenOf text fault
at_none_of one s text fault is tokens nowhere t same others =
    let equal = one text s.pairs t.pairs s.last t.last tokens others in
    let text_is : s.text ≡ t.text = cc in
    nowhere_in s.text t.text s.pairs t.pairs s.last t.last fault text_is equal.0 equal.1 nowhere

pub none_of_tokens : {X E : Type 0} → OneTokenization → (s : TokenizedText) (text : List ℕ)
    (fault : ParseFault) (result : Result (Option X) E) → s.text ≡ text
    → IsTokenization text s.pairs s.last
    → IfOk result (λ o. IfNone o (IsAtNoToken s fault))
    → IfOk result (λ o. IfNone o (IsAtNoTokenOf text fault))
none_of_tokens one s text fault (Err e) is tokens h = h
none_of_tokens one s text fault (Ok (Some x)) is tokens h = h
none_of_tokens one s text fault (Ok None) is tokens h = at_none_of one s text fault is tokens h

-- a text with an error has no tokens
pub none_of_fault : {X E : Type 0} → NoTokenizationWithFault → (text : List ℕ) (scan : ScanFault)
    (fault : ParseFault) (result : Result (Option X) E) → IsScanFault text scan
    → (scan ≡ Memory → IsErr result)
    → IfOk result (λ o. IfNone o (IsAtNoTokenOf text fault))
none_of_fault never text scan fault (Err e) why memory = tt
none_of_fault never text scan fault (Ok (Some x)) why memory = tt
none_of_fault never text scan fault (Ok None) (inl out) memory = absurd (false≢true (memory out.0))
none_of_fault never text scan fault (Ok None) (inr is) memory =
    λ t same tokens. absurd (never text scan t.pairs t.last is tokens)
