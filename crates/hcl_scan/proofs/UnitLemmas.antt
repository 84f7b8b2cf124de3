-- Units: each fits into its text, and none begins only at the end or at an ASCII byte.
use Rattle.std.proofs.Common.{rules, ◌≡◌, ℕ, suc, ◌+◌, ◌-◌, ◌<◌, ◌≤◌, Bool, true, false, not, ◌&&◌, ◌==◌, if◌then◌else◌, List, [], ◌∷◌, length, drop, slice_index, refl, sym, ap, ◌∙◌, arith, length-drop, drop-drop, get_or-drop}
use Rattle.std.proofs.lemmas.Bool.{cond_both, eqb-true, and_parts}
use Rattle.std.proofs.lemmas.Bool.Decides.{nat_tests}
use Rattle.std.proofs.lemmas.List.{at_drop_more}
use Rattle.std.specs.Char.{is_ascii_hexdigit}
use Rattle.hcl_scan.specs.Runs.{byte_unit}
use Rattle.hcl_scan.specs.Characters.{is_at_line_end, is_sigil, sigil_length}
use Rattle.hcl_scan.specs.Closing.{is_closing_line, heredoc_unit}
use Rattle.hcl_scan.specs.Lexeme.{comment_unit, inline_unit, quote_unit, is_simple_escape, has_four_hex, escape_length}
use Rattle.hcl_scan.specs.Inner.Openings.{is_not_line_break}
use Rattle.hcl_scan.specs.Inner.RunLength.{run_length, is_ordinary_inline, is_ordinary_quoted, is_ordinary_heredoc, IsOrdinary}
use Rattle.hcl_scan.proofs.TextLemmas.{in_text}

-- ---- a unit fits into its text

pub byte_unit_fits : (passes : ℕ → List ℕ → Bool) (at_line_start : Bool) (t : List ℕ) → byte_unit passes at_line_start t ≤ length t
byte_unit_fits passes at_line_start [] = omega arith
byte_unit_fits passes at_line_start (b ∷ t) = cond_both (passes b t) 1 0 (λ n. n ≤ suc (length t)) (λ _. omega arith) (λ _. omega arith)

hex_in_text : (t : List ℕ) (i : ℕ) → is_ascii_hexdigit (slice_index t i) ≡ true → i < length t
hex_in_text t i h = in_text t i (grind (arith, nat_tests))

simple_in_text : (b : ℕ) → is_simple_escape b ≡ true → 0 < b
simple_in_text b h = grind (arith, nat_tests)

-- four hexadecimal digits after the first n bytes
pub four_hex_fit : (t : List ℕ) (n : ℕ) → has_four_hex (drop n t) ≡ true → n + 4 ≤ length t
four_hex_fit t n h =
    let digit : ℕ → Bool = λ i. is_ascii_hexdigit (slice_index (drop n t) i) in
    let fourth = and_parts (digit 0 && digit 1 && digit 2) (digit 3) h in
    let size : length (drop n t) ≡ length t - n = length-drop {A = ℕ} n t in
    let within : 3 < length (drop n t) = hex_in_text (drop n t) 3 fourth.1 in
    omega (arith, within, size)

pub escape_fits : (t : List ℕ) → escape_length t ≤ length t
escape_fits t =
    cond_both (is_simple_escape (slice_index t 0)) 1 _ (λ n. n ≤ length t)
    (λ h. omega (arith, in_text t 0 (simple_in_text (slice_index t 0) h)))
    (λ _. cond_both (slice_index t 0 == 117 && has_four_hex (drop 1 t)) 5 _ (λ n. n ≤ length t)
    (λ h. omega (arith, four_hex_fit t 1 (and_parts (slice_index t 0 == 117) (has_four_hex (drop 1 t)) h).1))
    (λ _. cond_both (slice_index t 0 == 85 && (has_four_hex (drop 1 t) && has_four_hex (drop 5 t))) 9 0 (λ n. n ≤ length t)
    (λ h. let hex = and_parts (slice_index t 0 == 85) (has_four_hex (drop 1 t) && has_four_hex (drop 5 t)) h in
    omega (arith, four_hex_fit t 5 (and_parts (has_four_hex (drop 1 t)) (has_four_hex (drop 5 t)) hex.1).1))
    (λ _. omega arith)))

pub sigil_fits : (sigil : ℕ) (rest : List ℕ) → sigil_length sigil rest ≤ suc (length rest)
sigil_fits sigil rest =
    cond_both (slice_index rest 0 == sigil && slice_index rest 1 == 123) 3 _ (λ n. n ≤ suc (length rest))
    (λ h. let second : slice_index rest 1 ≡ 123 = eqb-true (slice_index rest 1) 123 (and_parts (slice_index rest 0 == sigil) (slice_index rest 1 == 123) h).1 in
    omega (arith, in_text rest 1 (omega arith)))
    (λ _. cond_both (slice_index rest 0 == 123) 0 1 (λ n. n ≤ suc (length rest)) (λ _. omega arith) (λ _. omega arith))

pub quote_unit_fits : (at_line_start : Bool) (t : List ℕ) → quote_unit at_line_start t ≤ length t
quote_unit_fits at_line_start [] = omega arith
quote_unit_fits at_line_start (b ∷ rest) =
    let P : ℕ → Type 0 = λ n. n ≤ suc (length rest) in
    cond_both (b == 92) _ _ P
    (λ _. cond_both (escape_length rest == 0) 0 _ P (λ _. omega arith) (λ _. omega (arith, escape_fits rest)))
    (λ _. cond_both (is_sigil b) _ _ P (λ _. sigil_fits b rest)
    (λ _. cond_both (b == 34) 0 _ P (λ _. omega arith)
    (λ _. cond_both (is_at_line_end (b ∷ rest)) 0 1 P (λ _. omega arith) (λ _. omega arith))))

pub heredoc_unit_fits : (name : List ℕ) (at_line_start : Bool) (t : List ℕ) → heredoc_unit name at_line_start t ≤ length t
heredoc_unit_fits name at_line_start [] = omega arith
heredoc_unit_fits name at_line_start (b ∷ rest) =
    let P : ℕ → Type 0 = λ n. n ≤ suc (length rest) in
    cond_both (at_line_start && is_closing_line name (b ∷ rest)) 0 _ P (λ _. omega arith)
    (λ _. cond_both (is_sigil b) _ 1 P (λ _. sigil_fits b rest) (λ _. omega arith))

-- ---- what is where no unit begins

abbrev EndsInFault : List ℕ → ℕ → Type 0
EndsInFault t n = n ≡ 0 → slice_index t 0 < 128

pub comment_stops : (at_line_start : Bool) (t : List ℕ) → comment_unit at_line_start t ≡ 0 → slice_index t 0 < 128
comment_stops at_line_start [] = λ _. omega arith
comment_stops at_line_start (b ∷ rest) =
    cond_both (not (is_at_line_end (b ∷ rest))) 1 0 (EndsInFault (b ∷ rest)) (λ _ h. absurd (omega arith)) (λ ends _. grind (arith, nat_tests))

pub quote_stops : (at_line_start : Bool) (t : List ℕ) → quote_unit at_line_start t ≡ 0 → slice_index t 0 < 128
quote_stops at_line_start [] = λ _. omega arith
quote_stops at_line_start (b ∷ rest) =
    cond_both (b == 92) _ _ (EndsInFault (b ∷ rest)) (λ is _. grind (arith, nat_tests))
    (λ _. cond_both (is_sigil b) _ _ (EndsInFault (b ∷ rest)) (λ is _. grind (arith, nat_tests))
    (λ _. cond_both (b == 34) 0 _ (EndsInFault (b ∷ rest)) (λ is _. grind (arith, nat_tests))
    (λ _. cond_both (is_at_line_end (b ∷ rest)) 0 1 (EndsInFault (b ∷ rest)) (λ is _. grind (arith, nat_tests)) (λ _ h. absurd (omega arith)))))

-- where the run of an inline comment's body ends before the text does, there is a `*/`
pub inline_stops : (at_line_start : Bool) (t : List ℕ) → inline_unit at_line_start t ≡ 0 → 0 < length t → (slice_index t 0 ≡ 42) × (slice_index t 1 ≡ 47)
inline_stops at_line_start [] = λ _ some. absurd (omega arith)
inline_stops at_line_start (b ∷ rest) =
    cond_both (not (b == 42 && slice_index rest 0 == 47)) 1 0 (λ n. n ≡ 0 → 0 < suc (length rest) → (b ≡ 42) × (slice_index rest 0 ≡ 47))
    (λ _ h _. absurd (omega arith)) (λ ends _ _. grind (arith, nat_tests))

-- ---- the flag, which comments and quoted text ignore

pub byte_unit_any : (passes : ℕ → List ℕ → Bool) (at_line_start : Bool) (t : List ℕ) → byte_unit passes at_line_start t ≡ byte_unit passes false t
byte_unit_any passes at_line_start [] = refl
byte_unit_any passes at_line_start (b ∷ t) = refl

pub quote_unit_any : (at_line_start : Bool) (t : List ℕ) → quote_unit at_line_start t ≡ quote_unit false t
quote_unit_any at_line_start [] = refl
quote_unit_any at_line_start (b ∷ t) = refl

pub quote_run_any : (at_line_start : Bool) (t : List ℕ) → run_length quote_unit at_line_start t ≡ run_length quote_unit false t
quote_run_any at_line_start [] = refl
quote_run_any at_line_start (b ∷ t) = refl

-- ---- the unit of quoted text at a place

pub escape_length_at : (text : List ℕ) (at : ℕ)
    → escape_length (drop at text) ≡ (
    if is_simple_escape (slice_index text at) then 1
    else (if slice_index text at == 117 && has_four_hex (drop (at + 1) text) then 5
    else (if slice_index text at == 85 && (has_four_hex (drop (at + 1) text) && has_four_hex (drop (at + 1 + 4) text)) then 9 else 0))
    )
escape_length_at text at =
    let leading : slice_index (drop at text) 0 ≡ slice_index text at = get_or-drop at text 0 0 ∙ ap (slice_index text) (omega arith) in
    let one : drop 1 (drop at text) ≡ drop (at + 1) text = drop-drop 1 at text in
    let five : drop 5 (drop at text) ≡ drop (at + 1 + 4) text = drop-drop 5 at text ∙ ap (λ n. drop n text) (omega arith) in
    rw (leading, one, five) refl

pub quote_unit_at : (text : List ℕ) (at : ℕ) (at_line_start : Bool) → at < length text
    → quote_unit at_line_start (drop at text) ≡ (
    if slice_index text at == 92 then (if escape_length (drop (at + 1) text) == 0 then 0 else suc (escape_length (drop (at + 1) text)))
    else (if is_sigil (slice_index text at) then sigil_length (slice_index text at) (drop (at + 1) text)
    else (if slice_index text at == 34 then 0
    else (if is_at_line_end (drop at text) then 0 else 1)))
    )
quote_unit_at text at at_line_start h =
    at_drop_more (quote_unit at_line_start) text at 0 h
    ∙ ap (λ (t : List ℕ). if slice_index text at == 92 then (if escape_length (drop (at + 1) text) == 0 then 0 else suc (escape_length (drop (at + 1) text)))
    else (if is_sigil (slice_index text at) then sigil_length (slice_index text at) (drop (at + 1) text)
    else (if slice_index text at == 34 then 0
    else (if is_at_line_end t then 0 else 1)))) (sym (at_drop_more (λ t. t) text at 0 h))

-- an escape
pub quote_unit_escape : (text : List ℕ) (at n : ℕ) (at_line_start : Bool) → at < length text → slice_index text at ≡ 92 → n ≡ escape_length (drop (at + 1) text) → 0 < n
    → n + 1 ≡ quote_unit at_line_start (drop at text)
quote_unit_escape text at n at_line_start h is len some =
    let test : (n == 0) ≡ false = grind (arith, nat_tests) in
    rw (quote_unit_at text at at_line_start h, is, ← len, test) (omega arith)

-- ---- bytes that are a unit whatever follows them, and end no line

pub comment_ordinary : (b : ℕ) → is_not_line_break b ≡ true → IsOrdinary comment_unit b
comment_ordinary b is = (λ t. search rules, grind (arith, nat_tests))

pub inline_ordinary : (b : ℕ) → is_ordinary_inline b ≡ true → IsOrdinary inline_unit b
inline_ordinary b is = (λ t. search rules, grind (arith, nat_tests))

pub quote_ordinary : (b : ℕ) → is_ordinary_quoted b ≡ true → IsOrdinary quote_unit b
quote_ordinary b is = (λ t. search rules, grind (arith, nat_tests))

pub heredoc_ordinary : (marker : List ℕ) (b : ℕ) → is_ordinary_heredoc b ≡ true → IsOrdinary (heredoc_unit marker) b
heredoc_ordinary marker b is = (λ t. search rules, grind (arith, nat_tests))
