-- The last `<` for a value of a text, which has one list of tokens.
use Rattle.std.proofs.Common.{◌≡◌, ℕ, List, Option, Some, None, Result, Ok, Err, inl, inr, true}
use Rattle.std.proofs.Common.{sym, subst, ap, ◌∙◌, take, drop, length, false}
use Rattle.std.proofs.Common.{suc, refl}
use Rattle.std.proofs.lemmas.Bool.{false≢true}
use Rattle.std.proofs.lemmas.Option.{none-some, same_Some}
use Rattle.std.specs.Prelude.{IfOk, IfSome, IfNone, IsErr}
use Rattle.hcl_token.specs.TokenizedText.{TokenizedText}
use Rattle.hcl_token.specs.Tokens.{Pair}
use Rattle.hcl_scan.specs.Tokenization.{IsTokenization}
use Rattle.hcl_scan.specs.ScanResult.{IsScanFault}
use Rattle.hcl_scan.specs.declared.fault.ScanFault.{ScanFault}
use Rattle.hcl_scan.specs.declared.fault.ScanFault.TheVariants.{Memory}
use Rattle.hcl_text_laws.specs.Faults.{byte_offset}
use Rattle.hcl_explain.specs.Heredocs.{is_less_for_value, less_before, IsLastLess, IsOpeningBefore, is_opening_text}
use Rattle.hcl_explain.specs.Lines.{line_start}
use Rattle.hcl_explain.proofs.SaidLemmas.{OneTokenization, NoTokenizationWithFault}

-- token i, which is before token j, is passed if it is no such `<`
pub passed : (pairs : List Pair) (j i : ℕ) → j ≡ suc i → is_less_for_value pairs i ≡ false
    → less_before pairs i ≡ less_before pairs j
passed pairs j i follows not = rw (follows, not) refl

abbrev last_of : List Pair → Option ℕ
last_of pairs = less_before pairs (length pairs)

-- the place of the last `<` of these tokens
abbrev pub IsPlaceOfLess : TokenizedText → ℕ → Type 0
IsPlaceOfLess s at = (i : ℕ) × (last_of s.pairs ≡ Some i) × (byte_offset s i ≡ at)

abbrev tokenized : List ℕ → List Pair → List ℕ → TokenizedText
tokenized text pairs last = record { text = text; pairs = pairs; last = last }

same_place : (a b : List ℕ) (p q : List Pair) (l m : List ℕ) (i : ℕ) → a ≡ b → p ≡ q
    → byte_offset (tokenized a p l) i ≡ byte_offset (tokenized b q m) i
same_place a b p q l m i text pairs =
    ap (λ (x : List ℕ). byte_offset (tokenized x p l) i) text
    ∙ ap (λ (x : List Pair). byte_offset (tokenized b x l) i) pairs

-- that of the tokens that were found is that of the text
pub some_of_tokens : (s : TokenizedText) (text : List ℕ) (o : Option ℕ) → s.text ≡ text
    → IsTokenization text s.pairs s.last → IfSome o (λ at. IsPlaceOfLess s at)
    → IfSome o (λ at. IsLastLess text at)
some_of_tokens s text None same tokens h = h
some_of_tokens s text (Some at) same tokens h = (s, same, tokens, h.0, h.1, h.2)

-- and there is no other
pub only_of_tokens : OneTokenization → (s : TokenizedText) (text : List ℕ) (o : Option ℕ)
    → s.text ≡ text
    → IsTokenization text s.pairs s.last → IfSome o (λ at. IsPlaceOfLess s at)
    → IfSome o (λ at. (other : ℕ) → IsLastLess text other → other ≡ at)
only_of_tokens one s text None same tokens h = h
only_of_tokens one s text (Some at) same tokens h = λ other less.
    let t : TokenizedText = less.0 in
    let pairs = (one text t.pairs s.pairs t.last s.last less.2 tokens).0 in
    let i : ℕ = less.3 in
    let number : i ≡ h.0 =
    same_Some i h.0 (sym less.4 ∙ ap (λ (x : List Pair). last_of x) pairs ∙ h.1) in
    sym less.5 ∙ same_place t.text s.text t.pairs s.pairs t.last s.last i (less.1 ∙ sym same) pairs
    ∙ ap (λ n. byte_offset s n) number ∙ h.2

pub none_of_tokens : OneTokenization → (s : TokenizedText) (text : List ℕ) (o : Option ℕ)
    → IsTokenization text s.pairs s.last → IfNone o (last_of s.pairs ≡ None)
    → IfNone o ((at : ℕ) → IsLastLess text at → ⊥)
none_of_tokens one s text (Some at) tokens h = tt
none_of_tokens one s text None tokens h = λ at less.
    let t : TokenizedText = less.0 in
    let pairs = (one text t.pairs s.pairs t.last s.last less.2 tokens).0 in
    none-some less.3 (sym h ∙ ap (λ (x : List Pair). last_of x) (sym pairs) ∙ less.4)

-- a text with an error has no tokens
pub none_of_fault : {E : Type 0} → NoTokenizationWithFault → (text : List ℕ) (scan : ScanFault)
    (result : Result (Option ℕ) E) → IsScanFault text scan → (scan ≡ Memory → IsErr result)
    → IfOk result (λ o. IfNone o ((at : ℕ) → IsLastLess text at → ⊥))
none_of_fault never text scan (Err e) why memory = tt
none_of_fault never text scan (Ok (Some at)) why memory = tt
none_of_fault never text scan (Ok None) (inl out) memory = absurd (false≢true (memory out.0))
none_of_fault never text scan (Ok None) (inr is) memory = λ at less.
    let t : TokenizedText = less.0 in absurd (never text scan t.pairs t.last is less.2)

-- ---- the text of an opening at that place

abbrev pub IsOpening : List ℕ → ℕ → Type 0
IsOpening text opened = is_opening_text (drop opened text) ≡ true

pub opening_none : (text before : List ℕ) (at opened : ℕ) (less o : Option ℕ)
    → before ≡ take (line_start text at) text → less ≡ Some opened
    → IfSome less (λ i. (other : ℕ) → IsLastLess before other → other ≡ i)
    → IfNone o (IsOpening text opened → ⊥)
    → IfNone o ((i : ℕ) → IsOpeningBefore text at i → ⊥)
opening_none text before at opened less (Some i) same is only h = tt
opening_none text before at opened less None same is only h = λ i opening.
    let only_in : (other : ℕ) → IsLastLess before other → other ≡ opened =
    subst (λ (x : Option ℕ). IfSome x (λ j. (other : ℕ) → IsLastLess before other → other ≡ j))
    is only in
    let last : IsLastLess before i = subst (λ (x : List ℕ). IsLastLess x i) (sym same) opening.0 in
    h (subst (λ n. IsOpening text n) (only_in i last) opening.1)

pub nothing_opens : (text before : List ℕ) (at : ℕ) (less : Option ℕ)
    → before ≡ take (line_start text at) text → less ≡ None
    → IfNone less ((i : ℕ) → IsLastLess before i → ⊥)
    → (i : ℕ) → IsOpeningBefore text at i → ⊥
nothing_opens text before at less same is none = λ i opening.
    let none_in : (j : ℕ) → IsLastLess before j → ⊥ =
    subst (λ (x : Option ℕ). IfNone x ((j : ℕ) → IsLastLess before j → ⊥)) is none in
    none_in i (subst (λ (x : List ℕ). IsLastLess x i) (sym same) opening.0)
