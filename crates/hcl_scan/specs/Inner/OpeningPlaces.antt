-- The places of the openings that are not closed, innermost first, one for each mode, as the
-- scanner keeps them. `OpeningPlaces` of proofs/ shows that they are those of
-- `openings_after_pairs`.
use Rattle.std.specs.Prelude.{◌≡◌, ℕ, ◌+◌, List, [], ◌∷◌, length, drop, if◌then◌else◌}
use Rattle.hcl_token.specs.declared.kind.Kind.{Kind}
use Rattle.hcl_token.specs.declared.kind.Kind.TheVariants.{OpenBrace, CloseBrace, QuoteOpen, QuoteClose}
use Rattle.hcl_token.specs.declared.kind.Kind.TheVariants.{HereOpen, HereClose, InterpOpen, DirectiveOpen}
use Rattle.hcl_token.specs.declared.kind.Kind.TheVariants.{SeqClose}
use Rattle.hcl_token.specs.Tokens.{Pair}
use Rattle.hcl_scan.specs.Modes.{Mode, mode_of, is_braces, is_in_sequence, modes_after}

-- after a token that begins at this place
abbrev pub opening_places_after : Kind → ℕ → List Mode → List ℕ → List ℕ
opening_places_after QuoteOpen at modes places = at ∷ places
opening_places_after HereOpen at modes places = at ∷ places
opening_places_after InterpOpen at modes places = at ∷ places
opening_places_after DirectiveOpen at modes places = at ∷ places
opening_places_after QuoteClose at modes places = drop 1 places
opening_places_after HereClose at modes places = drop 1 places
opening_places_after SeqClose at modes places = drop 1 places
opening_places_after OpenBrace at modes places =
    if is_in_sequence (mode_of modes) then at ∷ places else places
opening_places_after CloseBrace at modes places =
    if is_braces (mode_of modes) then drop 1 places else places
opening_places_after _ at modes places = places

-- after these pairs, of which the first gap begins at this place
abbrev pub opening_places_after_pairs : ℕ → List Mode → List ℕ → List Pair → List ℕ
opening_places_after_pairs at modes places [] = places
opening_places_after_pairs at modes places (p ∷ ps) =
    opening_places_after_pairs (at + length p.gap + length p.spelling) (modes_after p.kind p.spelling modes)
    (opening_places_after p.kind (at + length p.gap) modes places) ps

-- where the innermost template, or template sequence, begins: a `{` is none
abbrev pub innermost_place : List Mode → List ℕ → ℕ
innermost_place [] places = 0
innermost_place (mode ∷ modes) [] = 0
innermost_place (mode ∷ modes) (at ∷ places) = if is_braces mode then innermost_place modes places else at

-- a token of the kind leaves the openings as they are, whatever they are
abbrev pub LeavesOpenings : Kind → Type 0
LeavesOpenings kind = ((spelling : List ℕ) (modes : List Mode) → modes_after kind spelling modes ≡ modes)
    × ((at : ℕ) (modes : List Mode) (places : List ℕ) → opening_places_after kind at modes places ≡ places)
