-- Quoted text in quotes is three tokens, after which the openings are as before.
use Rattle.std.proofs.Common.{◌≡◌, ℕ, zero, suc, ◌+◌, ◌<◌, true, false, ◌||◌, ◌==◌, List, [], ◌∷◌, ◌++◌, drop, slice_index, slice_range, Some, refl, sym, ap, subst, subst₂, ◌∙◌, arith, get_or-drop, drop-drop}
use Rattle.std.proofs.lemmas.Bool.{ne_eqb, false≢true}
use Rattle.hcl_token.specs.declared.kind.Kind.{Kind}
use Rattle.hcl_token.specs.declared.kind.Kind.TheVariants.{QuoteOpen, QuoteLit, QuoteClose}
use Rattle.hcl_token.specs.declared.span.Span.{Span}
use Rattle.hcl_scan.specs.Lexeme.{quote_unit}
use Rattle.hcl_scan.specs.Modes.{Mode, mode_of}
use Rattle.hcl_scan.specs.Modes.Mode.{Quoted}
use Rattle.hcl_scan.specs.Inner.RunLength.{run_length}
use Rattle.hcl_scan.specs.Inner.NextToken.{is_at_opening, quoted_token, token, gap_length}
use Rattle.hcl_scan.specs.Inner.MarkToken.{token_at}
use Rattle.hcl_scan.specs.Inner.OpeningPlaces.{LeavesOpenings}
use Rattle.hcl_scan.specs.Inner.TokenizedTo.{IsTokenizedTo}
use Rattle.hcl_scan.proofs.RunLemmas.{run_length-none}
use Rattle.hcl_scan.proofs.Beats.{unit_begins}
use Rattle.hcl_scan.proofs.Steps.{one_more}

some_unit : (t : List ℕ) → 0 < run_length quote_unit false t → 0 < quote_unit false t
some_unit t some = by_size (quote_unit false t) refl
  where
    by_size : (n : ℕ) → quote_unit false t ≡ n → 0 < quote_unit false t
    by_size zero e = absurd (omega (arith, some, run_length-none quote_unit false t e))
    by_size (suc n) e = omega (arith, e)

-- text that a quote closes is a token, and so is the quote
text_tokens : (t : List ℕ) (n : ℕ) → n ≡ run_length quote_unit false t → slice_index t n ≡ 34 → 0 < n → (quoted_token t ≡ Some (QuoteLit, n)) × (quoted_token (drop n t) ≡ Some (QuoteClose, 1))
text_tokens t n is ends some =
    let begins = unit_begins t (some_unit t (omega (arith, is, some))) in
    let filled : (run_length quote_unit false t == 0) ≡ false = ne_eqb (run_length quote_unit false t) 0 (λ z. absurd (omega (arith, is, some, z))) in
    let quote : slice_index (drop n t) 0 ≡ 34 = get_or-drop n t 0 0 ∙ ap (slice_index t) (omega arith) ∙ ends in
    (rw (begins.0, begins.1, filled) (ap (λ m. Some (QuoteLit, m)) (sym is)), rw quote refl)

-- a quote after a place of a text
quote_at : (text : List ℕ) (from n : ℕ) → slice_index text (from + n) ≡ 34 → slice_index (drop from text) n ≡ 34
quote_at text from n is = get_or-drop from text n 0 ∙ is

-- the tokenization continues with a quote, text, and the quote that closes it
pub text_more : (text : List ℕ) (tokens : List Span) (at : ℕ) (modes : List Mode) (places : List ℕ) (start first len : ℕ)
    → IsTokenizedTo text tokens at modes places
    → start ≡ at + gap_length (mode_of modes) (drop at text)
    → token (mode_of modes) (drop start text) ≡ Some (QuoteOpen, first)
    → len ≡ run_length quote_unit false (drop (start + first) text)
    → slice_index text (start + first + len) ≡ 34
    → 0 < len
    → IsTokenizedTo text (((tokens ++ token_at start (start + first) QuoteOpen ∷ []) ++ token_at (start + first) (start + first + len) QuoteLit ∷ []) ++ token_at (start + first + len) (start + first + len + 1) QuoteClose ∷ []) (start + first + len + 1) modes places
text_more text tokens at modes places start first len state start_is found is ends some =
    let from : ℕ = start + first in
    let both = text_tokens (drop from text) len is (quote_at text from len ends) some in
    let opened = (one_more text tokens at modes places start QuoteOpen first state start_is found).1 in
    let one : List Span = tokens ++ token_at start from QuoteOpen ∷ [] in
    let lit = (one_more text one from (Quoted ∷ modes) (start ∷ places) from QuoteLit len opened (omega arith) both.0).1 in
    let two : List Span = one ++ token_at from (from + len) QuoteLit ∷ [] in
    let rest : drop len (drop from text) ≡ drop (from + len) text = drop-drop len from text ∙ ap (λ n. drop n text) (omega arith) in
    let closes : quoted_token (drop (from + len) text) ≡ Some (QuoteClose, 1) = ap quoted_token (sym rest) ∙ both.1 in
    (one_more text two (from + len) (Quoted ∷ modes) (start ∷ places) (from + len) QuoteClose 1 lit (omega arith) closes).1

-- the tokenization continues with a quote and the quote that closes it
pub empty_more : (text : List ℕ) (tokens : List Span) (at : ℕ) (modes : List Mode) (places : List ℕ) (start first : ℕ)
    → IsTokenizedTo text tokens at modes places
    → start ≡ at + gap_length (mode_of modes) (drop at text)
    → token (mode_of modes) (drop start text) ≡ Some (QuoteOpen, first)
    → slice_index text (start + first) ≡ 34
    → IsTokenizedTo text ((tokens ++ token_at start (start + first) QuoteOpen ∷ []) ++ token_at (start + first) (start + first + 1) QuoteClose ∷ []) (start + first + 1) modes places
empty_more text tokens at modes places start first state start_is found ends =
    let from : ℕ = start + first in
    let none : from + 0 ≡ from = omega arith in
    let quote : slice_index (drop from text) 0 ≡ 34 = quote_at text from 0 (ap (slice_index text) none ∙ ends) in
    let closes : quoted_token (drop from text) ≡ Some (QuoteClose, 1) = rw quote refl in
    let opened = (one_more text tokens at modes places start QuoteOpen first state start_is found).1 in
    let one : List Span = tokens ++ token_at start from QuoteOpen ∷ [] in
    (one_more text one from (Quoted ∷ modes) (start ∷ places) from QuoteClose 1 opened (omega arith) closes).1

-- where text in quotes ends no unit begins
pub no_unit : (t : List ℕ) → ((slice_index t 0 == 34) || is_at_opening t) ≡ true → quote_unit false t ≡ 0
no_unit t ends = by_size (quote_unit false t) refl
  where
    by_size : (n : ℕ) → quote_unit false t ≡ n → quote_unit false t ≡ 0
    by_size zero e = e
    by_size (suc n) e =
        let begins = unit_begins t (omega (arith, e)) in
        let none : ((slice_index t 0 == 34) || is_at_opening t) ≡ false = rw (begins.0, begins.1) refl in
        absurd (false≢true (sym none ∙ ends))

-- the tokenization continues with quoted text
pub literal_more : (text : List ℕ) (tokens : List Span) (at : ℕ) (modes : List Mode) (places : List ℕ) (len : ℕ)
    → Quoted ≡ mode_of modes
    → IsTokenizedTo text tokens at modes places
    → len ≡ run_length quote_unit false (drop at text)
    → 0 < len
    → IsTokenizedTo text (tokens ++ token_at at (at + len) QuoteLit ∷ []) (at + len) modes places
literal_more text tokens at [] places len mode state is some = absurd (cc)
literal_more text tokens at (m ∷ ms) places len mode state is some =
    let t : List ℕ = drop at text in
    let begins = unit_begins t (some_unit t (omega (arith, is, some))) in
    let filled : (run_length quote_unit false t == 0) ≡ false = ne_eqb (run_length quote_unit false t) 0 (λ z. absurd (omega (arith, is, some, z))) in
    let found : quoted_token t ≡ Some (QuoteLit, len) = rw (begins.0, begins.1, filled) (ap (λ n. Some (QuoteLit, n)) (sym is)) in
    let there : IsTokenizedTo text tokens at (Quoted ∷ ms) places = subst (λ (x : Mode). IsTokenizedTo text tokens at (x ∷ ms) places) (sym mode) state in
    let more = (one_more text tokens at (Quoted ∷ ms) places at QuoteLit len there (omega arith) found).1 in
    subst (λ (x : Mode). IsTokenizedTo text (tokens ++ token_at at (at + len) QuoteLit ∷ []) (at + len) (x ∷ ms) places) mode more

-- the tokenization continues with a token that leaves the openings as they are
pub free_more : (text : List ℕ) (tokens : List Span) (at : ℕ) (modes : List Mode) (places : List ℕ) (start : ℕ) (kind : Kind) (len : ℕ)
    → IsTokenizedTo text tokens at modes places
    → start ≡ at + gap_length (mode_of modes) (drop at text)
    → token (mode_of modes) (drop start text) ≡ Some (kind, len)
    → LeavesOpenings kind
    → IsTokenizedTo text (tokens ++ token_at start (start + len) kind ∷ []) (start + len) modes places
free_more text tokens at modes places start kind len state start_is found leaves =
    let more = one_more text tokens at modes places start kind len state start_is found in
    let longer : List Span = tokens ++ token_at start (start + len) kind ∷ [] in
    let spelling : List ℕ = slice_range text start (start + len) in
    subst₂ (λ (m : List Mode) (o : List ℕ). IsTokenizedTo text longer (start + len) m o) (leaves.0 spelling modes) (leaves.1 start modes places) more.1
