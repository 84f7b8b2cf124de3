-- Each text has a tokenization or an error.
use Rattle.std.proofs.Common.{◌≡◌, ℕ, zero, suc, ◌+◌, ◌<◌, ◌≤◌, ◌⊎◌, List, [], ◌∷◌, ◌++◌, length, drop, slice_range, IsUtf8, Some, None, refl, ap, inl, inr, ⊎_elim, arith}
use Rattle.std.proofs.lemmas.Bool.{cases_lt, cases_eq}
use Rattle.std.specs.Str.Lossy.{utf8_valid_len}
use Rattle.bstr.proofs.lemmas.LossyLemmas.{utf8_valid_len-cases}
use Rattle.hcl_token.specs.declared.span.Span.{Span}
use Rattle.hcl_token.specs.Pairs.{pairs_of}
use Rattle.hcl_token.specs.Tokens.{Pair}
use Rattle.hcl_scan.specs.declared.fault.ScanFault.{ScanFault}
use Rattle.hcl_scan.specs.declared.fault.ScanFault.TheVariants.{TooLong, NotUtf8}
use Rattle.hcl_scan.specs.Modes.{Mode, mode_of, modes_after}
use Rattle.hcl_scan.specs.Tokenization.{IsTokenization, MAX_TEXT}
use Rattle.hcl_scan.specs.Fault.{IsFault}
use Rattle.hcl_scan.specs.Inner.OpeningPlaces.{opening_places_after}
use Rattle.hcl_scan.specs.Inner.NextToken.{token, gap_length}
use Rattle.hcl_scan.specs.Inner.MarkToken.{mark_tokens, mark_length}
use Rattle.hcl_scan.specs.Inner.TokenizedTo.{IsTokenizedTo}
use Rattle.hcl_scan.proofs.MarkLemmas.{started}
use Rattle.hcl_scan.proofs.Steps.{one_more, finished, stopped}

-- a text has a tokenization, or it has an error
abbrev HasTokenization : List ℕ → Type 0
HasTokenization text = (pairs : List Pair) × (last : List ℕ) × IsTokenization text pairs last

abbrev HasFault : List ℕ → Type 0
HasFault text = (fault : ScanFault) × IsFault text fault

-- where no token is found the text ends, or stops at an error
at_end : (text : List ℕ) (tokens : List Span) (at start : ℕ) (modes : List Mode) (places : List ℕ) → length text ≤ MAX_TEXT → IsUtf8 text
    → IsTokenizedTo text tokens at modes places → start ≡ at + gap_length (mode_of modes) (drop at text) → token (mode_of modes) (drop start text) ≡ None
    → HasTokenization text ⊎ HasFault text
at_end text tokens at start [] places short u c start_is none =
    ⊎_elim
    (λ (end : start ≡ length text). inl (pairs_of text tokens, drop at text, finished text tokens at start places short u c start_is end))
    (λ (more : start ≡ length text → ⊥). inr (_, inr (inr (short, u, stopped text tokens at start [] places c start_is none (λ _. more)))))
    (cases_eq start (length text))
at_end text tokens at start (m ∷ modes) places short u c start_is none =
    inr (_, inr (inr (short, u, stopped text tokens at start (m ∷ modes) places c start_is none (λ e. absurd (no_modes e)))))
  where
    no_modes : (m ∷ modes) ≡ [] → ⊥
    no_modes e = omega (arith, ap length e)

-- the tokenization continues up to there
tokenization_continues : (fuel : ℕ) (text : List ℕ) (tokens : List Span) (at : ℕ) (modes : List Mode) (places : List ℕ) → length text ≤ MAX_TEXT → IsUtf8 text
    → IsTokenizedTo text tokens at modes places → length text < at + fuel → HasTokenization text ⊎ HasFault text
tokenization_continues zero text tokens at modes places short u c enough = absurd (omega (arith, enough, c.within))
tokenization_continues (suc fuel) text tokens at modes places short u c enough =
    let start : ℕ = at + gap_length (mode_of modes) (drop at text) in
    elim (token (mode_of modes) (drop start text)) as (λ x. token (mode_of modes) (drop start text) ≡ x → HasTokenization text ⊎ HasFault text) [
      | None ↦ λ none. at_end text tokens at start modes places short u c refl none
      | Some f ↦ λ found.
          let more = one_more text tokens at modes places start f.0 f.1 c refl found in
          tokenization_continues fuel text (tokens ++ record { start = start; stop = start + f.1; kind = f.0 } ∷ []) (start + f.1)
          (modes_after f.0 (slice_range text start (start + f.1)) modes) (opening_places_after f.0 start modes places) short u more.1 (omega (arith, more.0, enough))
    ] refl

pub tokens_or_fault : (text : List ℕ) → HasTokenization text ⊎ HasFault text
tokens_or_fault text =
    ⊎_elim
    (λ (long : MAX_TEXT < length text). inr (TooLong, inl (refl, long)))
    (λ (short : length text ≤ MAX_TEXT). ⊎_elim
    (λ u. tokenization_continues (suc (length text)) text (mark_tokens text) (mark_length text) [] [] short u (started text u) (omega arith))
    (λ v. inr (NotUtf8 (utf8_valid_len text), inr (inl (utf8_valid_len text, refl, short, v))))
    (utf8_valid_len-cases text))
    (cases_lt MAX_TEXT (length text))
