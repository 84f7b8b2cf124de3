-- The gaps and tokens of a text. HCL native syntax specification, Lexical Elements.
use Rattle.std.specs.Prelude.{◌≡◌, ℕ, ◌≤◌, true, List, [], ◌∷◌, ◌++◌, length, IsUtf8, if◌then◌else◌}
use Rattle.std.specs.List.{list_all}
use Rattle.hcl_token.specs.declared.kind.Kind.TheVariants.{Mark}
use Rattle.hcl_token.specs.Tokens.{Pair, whole_text}
-- the greatest number of bytes of a text
pub use Rattle.hcl_token.specs.declared.limit.TheConstants.{MAX_TEXT}
use Rattle.hcl_scan.specs.Characters.{is_whitespace, is_prefix_of}
use Rattle.hcl_scan.specs.Modes.{Mode, mode_of, is_literal, modes_after}
use Rattle.hcl_scan.specs.Lexeme.{IsLongest}

-- U+FEFF in UTF-8
abbrev pub byte_order_mark : List ℕ
byte_order_mark = 0xef ∷ 0xbb ∷ 0xbf ∷ []

-- the byte order mark at the start of a text is a token; nothing where there is none
abbrev pub mark_prefix : List ℕ → List Pair
mark_prefix text = if is_prefix_of byte_order_mark text
    then record { gap = []; kind = Mark; spelling = byte_order_mark } ∷ [] else []

-- whitespace; in literal text there are no gaps
abbrev pub IsGap : Mode → List ℕ → Type 0
IsGap mode gap = (list_all is_whitespace gap ≡ true) × (is_literal mode ≡ true → gap ≡ [])

-- The pairs from these modes on: each token is the longest lexeme of its mode, given all that
-- follows it. The pairs are followed by rest, in the modes that are left.
abbrev pub TokenizesFrom : List Mode → List Pair → List ℕ → List Mode → Type 0
TokenizesFrom modes [] rest left = modes ≡ left
TokenizesFrom modes (p ∷ ps) rest left =
    IsGap (mode_of modes) p.gap
    × IsLongest (mode_of modes) p.kind p.spelling (whole_text ps rest)
    × TokenizesFrom (modes_after p.kind p.spelling modes) ps rest left

-- a text begins with these pairs, and rest is left, in these modes
pub record TokenizesPrefix (text : List ℕ) (pairs : List Pair) (rest : List ℕ)
    (left : List Mode) : Type 0 where
  pub text_is : text ≡ whole_text pairs rest
  pub body : List Pair
  pub prefix : pairs ≡ mark_prefix text ++ body
  pub tokenizes : TokenizesFrom [] body rest left

-- the pairs and the last gap are those of the text
pub record IsTokenization (text : List ℕ) (pairs : List Pair) (last : List ℕ) : Type 0 where
  pub short : length text ≤ MAX_TEXT
  pub utf8 : IsUtf8 text
  -- every opening is closed at the end
  pub tokenizes : TokenizesPrefix text pairs last []
  pub whitespace : list_all is_whitespace last ≡ true
