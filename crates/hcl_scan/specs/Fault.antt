-- The error of a text that has no tokens, and its place. The errors, their order and their places
-- are this project's own; the tokens are those of the HCL native syntax specification, Lexical
-- Elements.
use Rattle.std.specs.Prelude.{◌≡◌, ◌≢◌, ℕ, suc, ◌+◌, ◌-◌, ◌<◌, ◌≤◌, false, ◌&&◌, if◌then◌else◌, List, [], ◌∷◌}
use Rattle.std.specs.Prelude.{◌++◌, length, map, zip, drop, slice_index, IsUtf8, ◌==◌, ◌⊎◌, Option, Some, None}
use Rattle.std.specs.Str.{IsValidUpTo}
use Rattle.hcl_token.specs.Bytes.{star, slash, backslash}
use Rattle.hcl_token.specs.declared.kind.Kind.{Kind}
use Rattle.hcl_token.specs.Tokens.{Pair, whole_text}
use Rattle.hcl_scan.specs.declared.fault.ScanFault.{ScanFault}
use Rattle.hcl_scan.specs.declared.fault.ScanFault.TheVariants.{TooLong, NotUtf8, BadCharacter, BadEscape}
use Rattle.hcl_scan.specs.declared.fault.ScanFault.TheVariants.{OpenString, OpenTemplate, OpenHeredoc}
use Rattle.hcl_scan.specs.declared.fault.ScanFault.TheVariants.{OpenComment, Memory}
use Rattle.hcl_scan.specs.Characters.{is_whitespace}
use Rattle.hcl_scan.specs.Modes.{Mode, mode_of, is_literal, is_braces, modes_after}
use Rattle.hcl_scan.specs.Modes.Mode.{Expression, Sequence, Braces, Quoted, Heredoc}
use Rattle.hcl_scan.specs.Lexeme.{IsLexeme}
use Rattle.hcl_scan.specs.Tokenization.{IsGap, TokenizesPrefix, MAX_TEXT}

-- the byte of an error, if it is at one
abbrev pub byte_of_fault : ScanFault → Option ℕ
byte_of_fault TooLong = None
byte_of_fault Memory = None
byte_of_fault (NotUtf8 at) = Some at
byte_of_fault (BadCharacter at) = Some at
byte_of_fault (BadEscape at) = Some at
byte_of_fault (OpenString at) = Some at
byte_of_fault (OpenTemplate at) = Some at
byte_of_fault (OpenHeredoc at) = Some at
byte_of_fault (OpenComment at) = Some at

-- this text does not begin with a gap and a token of the mode
abbrev pub HasNoToken : Mode → List ℕ → Type 0
HasNoToken mode rest = (gap s more : List ℕ) (kind : Kind) → IsGap mode gap → IsLexeme mode kind s more
    → rest ≢ gap ++ (s ++ more)

-- The openings that are not closed, innermost first: each by the mode of the text after it and the
-- place where it begins. After a token that begins at this place there are as many as there are
-- modes then: an opening more is the token, and each other one keeps its place.
abbrev pub openings_after : Kind → List ℕ → ℕ → List (Mode × ℕ) → List (Mode × ℕ)
openings_after kind spelling at openings =
    let before : List Mode = map (λ (o : Mode × ℕ). o.0) openings in
    let after : List Mode = modes_after kind spelling before in
    let places : List ℕ = map (λ (o : Mode × ℕ). o.1) openings in
    zip after (drop (suc (length before) - length after) (at ∷ places))

-- after these pairs, of which the first gap begins at this place
abbrev pub openings_after_pairs : ℕ → List (Mode × ℕ) → List Pair → List (Mode × ℕ)
openings_after_pairs at openings [] = openings
openings_after_pairs at openings (p ∷ ps) =
    openings_after_pairs (at + length p.gap + length p.spelling)
    (openings_after p.kind p.spelling (at + length p.gap) openings) ps

-- where the innermost template, or template sequence, begins: a `{` is none
abbrev pub innermost_template : List (Mode × ℕ) → ℕ
innermost_template [] = 0
innermost_template (o ∷ openings) = if is_braces o.0 then innermost_template openings else o.1

-- outside of literal text
abbrev pub token_fault : ℕ → List ℕ → ScanFault
token_fault at rest =
    if slice_index rest 0 == slash && slice_index rest 1 == star then OpenComment at
    else BadCharacter at

-- the error where no token begins: in this mode, whose innermost template begins at `opened`, at
-- this place, with this text from there on
abbrev pub fault_at : Mode → ℕ → ℕ → List ℕ → ScanFault
fault_at Expression opened at rest = token_fault at rest
fault_at Sequence opened at [] = OpenTemplate opened
fault_at Sequence opened at (b ∷ rest) = token_fault at (b ∷ rest)
fault_at Braces opened at [] = OpenTemplate opened
fault_at Braces opened at (b ∷ rest) = token_fault at (b ∷ rest)
-- no escape after a `\`, a line end, or the end of the text
fault_at Quoted opened at rest =
    if slice_index rest 0 == backslash then BadEscape at else OpenString opened
-- the end of the text
fault_at (Heredoc name at_line_start) opened at rest = OpenHeredoc opened

-- the error is at the end of the longest prefix of the text that has tokens; openings may be left
-- open in it
pub record EndsInFault (text : List ℕ) (fault : ScanFault) : Type 0 where
  pub pairs : List Pair
  pub gap : List ℕ
  pub rest : List ℕ
  pub left : List Mode
  pub tokenizes : TokenizesPrefix text pairs (gap ++ rest) left
  pub ends : HasNoToken (mode_of left) (gap ++ rest)
  -- after whitespace
  pub whitespace : IsGap (mode_of left) gap
  pub past : is_literal (mode_of left) ≡ false → is_whitespace (slice_index rest 0) ≡ false
  -- the tokens are not those of the whole text
  pub unfinished : left ≡ [] → rest ≢ []
  pub fault_is : fault
      ≡ fault_at (mode_of left) (innermost_template (openings_after_pairs 0 [] pairs))
      (length (whole_text pairs gap)) rest

-- the error of a text: it has too many bytes; else it is not UTF-8 at the first byte of the first
-- sequence that is ill-formed; else as above
abbrev pub IsFault : List ℕ → ScanFault → Type 0
IsFault text fault =
    ((fault ≡ TooLong) × (MAX_TEXT < length text))
    ⊎ (((at : ℕ) × (fault ≡ NotUtf8 at) × (length text ≤ MAX_TEXT) × IsValidUpTo text at)
    ⊎ ((length text ≤ MAX_TEXT) × IsUtf8 text × EndsInFault text fault))
