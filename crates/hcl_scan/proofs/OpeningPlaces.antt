-- The places that the scanner keeps next to its modes are those of the openings, so the innermost
-- template begins where the definition of an error says.
use Rattle.std.proofs.Common.{◌≡◌, ℕ, suc, ◌+◌, ◌-◌, true, false, List, [], ◌∷◌, length, map, drop, if◌then◌else◌, refl, sym, ap, ap₂, ◌∙◌, arith}
use Rattle.std.specs.Prelude.{zip}
use Rattle.hcl_token.specs.declared.kind.Kind.{Kind}
use Rattle.hcl_token.specs.declared.kind.Kind.TheVariants.{OpenBrace, CloseBrace, QuoteOpen, QuoteClose, HereOpen, HereClose, HereLit, InterpOpen, DirectiveOpen, SeqClose}
use Rattle.hcl_token.specs.Tokens.{Pair}
use Rattle.hcl_scan.specs.Modes.{Mode, mode_of, is_braces, is_in_sequence, marker_of, after_literal, clear_line_start, modes_after}
use Rattle.hcl_scan.specs.Modes.Mode.{Sequence, Braces, Quoted, Heredoc}
use Rattle.hcl_scan.specs.Tokenization.{TokenizesPrefix}
use Rattle.hcl_scan.specs.Fault.{innermost_template, openings_after, openings_after_pairs}
use Rattle.hcl_scan.specs.Inner.OpeningPlaces.{innermost_place, opening_places_after, opening_places_after_pairs}
use Rattle.hcl_scan.proofs.PairLemmas.{modes_after_pairs, modes_tokenized}

abbrev open_modes : List (Mode × ℕ) → List Mode
open_modes openings = map (λ (o : Mode × ℕ). o.0) openings

abbrev open_places : List (Mode × ℕ) → List ℕ
open_places openings = map (λ (o : Mode × ℕ). o.1) openings

-- n modes before a token and these after it leave these places
abbrev Leaves : ℕ → List Mode → ℕ → List ℕ → List ℕ → Type 0
Leaves n modes at places left = (length modes ≡ length left) × (drop (suc n - length modes) (at ∷ places) ≡ left)

opened : (n : ℕ) (modes : List Mode) (at : ℕ) (places : List ℕ) → n ≡ length places → length modes ≡ suc n → Leaves n modes at places (at ∷ places)
opened n modes at places e more =
    let none : suc n - length modes ≡ 0 = omega (arith, more) in
    (more ∙ ap suc e, ap (λ k. drop k (at ∷ places)) none)

kept : (n : ℕ) (modes : List Mode) (at : ℕ) (places : List ℕ) → n ≡ length places → length modes ≡ n → Leaves n modes at places places
kept n modes at places e same =
    let one : suc n - length modes ≡ 1 = omega (arith, same) in
    (same ∙ e, ap (λ k. drop k (at ∷ places)) one)

closed : (modes : List Mode) (at : ℕ) (places : List ℕ) → length modes ≡ length places → Leaves (length modes) (drop 1 modes) at places (drop 1 places)
closed [] at [] e = (refl, refl)
closed (m ∷ modes) at (p ∷ places) e =
    let fewer : length modes ≡ length places = omega (arith, e) in
    let two : suc (suc (length modes)) - length modes ≡ 2 = omega arith in
    (fewer, ap (λ k. drop k (at ∷ p ∷ places)) two)
closed [] at (p ∷ places) e = absurd (omega (arith, e))
closed (m ∷ modes) at [] e = absurd (omega (arith, e))

-- a template sequence changes no number of modes below it
cleared : (modes : List Mode) → length (clear_line_start modes) ≡ length modes
cleared [] = refl
cleared (Heredoc name at_line_start ∷ modes) = refl
cleared (mode ∷ modes) = refl

-- of each kind: as many places are left as modes, and they are those that the scanner keeps
leaves : (kind : Kind) (s : List ℕ) (at : ℕ) (modes : List Mode) (places : List ℕ) → length modes ≡ length places
    → Leaves (length modes) (modes_after kind s modes) at places (opening_places_after kind at modes places)
leaves QuoteOpen s at modes places e = opened (length modes) (Quoted ∷ modes) at places e refl
leaves HereOpen s at modes places e = opened (length modes) (Heredoc (marker_of s) true ∷ modes) at places e refl
leaves InterpOpen s at modes places e = opened (length modes) (Sequence ∷ clear_line_start modes) at places e (ap suc (cleared modes))
leaves DirectiveOpen s at modes places e = opened (length modes) (Sequence ∷ clear_line_start modes) at places e (ap suc (cleared modes))
leaves QuoteClose s at modes places e = closed modes at places e
leaves HereClose s at modes places e = closed modes at places e
leaves SeqClose s at modes places e = closed modes at places e
leaves OpenBrace s at modes places e =
    elim (is_in_sequence (mode_of modes)) as (λ b. Leaves (length modes) (if b then Braces ∷ modes else modes) at places (if b then at ∷ places else places)) [
      | true ↦ opened (length modes) (Braces ∷ modes) at places e refl
      | false ↦ kept (length modes) modes at places e refl
    ]
leaves CloseBrace s at modes places e =
    elim (is_braces (mode_of modes)) as (λ b. Leaves (length modes) (if b then drop 1 modes else modes) at places (if b then drop 1 places else places)) [
      | true ↦ closed modes at places e
      | false ↦ kept (length modes) modes at places e refl
    ]
leaves HereLit s at [] places e = kept 0 [] at places e refl
leaves HereLit s at (mode ∷ modes) places e = kept (suc (length modes)) (after_literal s mode ∷ modes) at places e refl
leaves kind s at modes places e = kept (length modes) modes at places e refl

-- lists of one length are the two parts of their pairs
zip_parts : (modes : List Mode) (places : List ℕ) → length modes ≡ length places
    → (open_modes (zip modes places) ≡ modes) × (open_places (zip modes places) ≡ places)
zip_parts [] [] e = (refl, refl)
zip_parts (m ∷ modes) (p ∷ places) e =
    let fewer : length modes ≡ length places = omega (arith, e) in
    let rest = zip_parts modes places fewer in
    (ap (λ (x : List Mode). m ∷ x) rest.0, ap (λ (x : List ℕ). p ∷ x) rest.1)
zip_parts [] (p ∷ places) e = absurd (omega (arith, e))
zip_parts (m ∷ modes) [] e = absurd (omega (arith, e))

same_number : (openings : List (Mode × ℕ)) → length (open_modes openings) ≡ length (open_places openings)
same_number [] = refl
same_number (o ∷ openings) = ap suc (same_number openings)

-- after a token
token_opens : (kind : Kind) (s : List ℕ) (at : ℕ) (openings : List (Mode × ℕ))
    → (open_modes (openings_after kind s at openings) ≡ modes_after kind s (open_modes openings))
    × (open_places (openings_after kind s at openings) ≡ opening_places_after kind at (open_modes openings) (open_places openings))
token_opens kind s at openings =
    let modes : List Mode = open_modes openings in
    let places : List ℕ = open_places openings in
    let after : List Mode = modes_after kind s modes in
    let left = leaves kind s at modes places (same_number openings) in
    let parts = zip_parts after (drop (suc (length modes) - length after) (at ∷ places)) (left.0 ∙ sym (ap length left.1)) in
    (parts.0, parts.1 ∙ left.1)

-- after pairs
pairs_open : (ps : List Pair) (at : ℕ) (openings : List (Mode × ℕ))
    → (open_modes (openings_after_pairs at openings ps) ≡ modes_after_pairs (open_modes openings) ps)
    × (open_places (openings_after_pairs at openings ps) ≡ opening_places_after_pairs at (open_modes openings) (open_places openings) ps)
pairs_open [] at openings = (refl, refl)
pairs_open (p ∷ ps) at openings =
    let next : ℕ = at + length p.gap + length p.spelling in
    let one = token_opens p.kind p.spelling (at + length p.gap) openings in
    let rest = pairs_open ps next (openings_after p.kind p.spelling (at + length p.gap) openings) in (
      rest.0 ∙ ap (λ (x : List Mode). modes_after_pairs x ps) one.0,
      rest.1 ∙ ap₂ (λ (x : List Mode) (y : List ℕ). opening_places_after_pairs next x y ps) one.0 one.1,
    )

innermost : (openings : List (Mode × ℕ)) → innermost_template openings ≡ innermost_place (open_modes openings) (open_places openings)
innermost [] = refl
innermost (o ∷ openings) = ap (λ n. if is_braces o.0 then n else o.1) (innermost openings)

-- where the innermost template begins, by the places that the scanner keeps
pub template_place : (text : List ℕ) (pairs : List Pair) (rest : List ℕ) (left : List Mode) → TokenizesPrefix text pairs rest left
    → innermost_template (openings_after_pairs 0 [] pairs) ≡ innermost_place left (opening_places_after_pairs 0 [] [] pairs)
template_place text pairs rest left c =
    let both = pairs_open pairs 0 [] in
    innermost (openings_after_pairs 0 [] pairs)
    ∙ ap₂ innermost_place both.0 both.1
    ∙ ap (λ (x : List Mode). innermost_place x (opening_places_after_pairs 0 [] [] pairs)) (modes_tokenized text pairs rest left c)
