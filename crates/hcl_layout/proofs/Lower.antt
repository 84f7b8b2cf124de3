-- What lower crates say of texts, as their laws have it.
use Rattle.std.proofs.Common.{◌≡◌, ℕ, ◌≤◌, false, List, [], length}
use Rattle.hcl_token.specs.Tokens.{Pair, whole_text}
use Rattle.hcl_scan.specs.Tokenization.{MAX_TEXT, IsTokenization}
use Rattle.hcl_scan.specs.Follows.{Follows, AreApart, AreAllowedGaps, tokens_of}
use Rattle.hcl_layout.specs.Gaps.Lines.{lines_of, pairs_in}
use Rattle.hcl_layout.specs.Gaps.Layout.{layout_pairs}

abbrev pub OneTokenization : Type 0
OneTokenization = (text : List ℕ) (pairs others : List Pair) (last other : List ℕ) → IsTokenization text pairs last → IsTokenization text others other → (pairs ≡ others) × (last ≡ other)

abbrev pub TokenizationFollows : Type 0
TokenizationFollows = (text : List ℕ) (pairs : List Pair) (last : List ℕ) → IsTokenization text pairs last → Follows pairs last []

abbrev pub GapsOf : Type 0
GapsOf = (pairs : List Pair) (last : List ℕ) → Follows pairs last [] → AreAllowedGaps false pairs last

abbrev pub OtherGaps : Type 0
OtherGaps = (pairs others : List Pair) (last other : List ℕ) → Follows pairs last [] → tokens_of others ≡ tokens_of pairs → AreAllowedGaps false others other → AreApart others → Follows others other []

abbrev pub WritesBack : Type 0
WritesBack = (pairs : List Pair) (last : List ℕ) → Follows pairs last [] → AreApart pairs → length (whole_text pairs last) ≤ MAX_TEXT → IsTokenization (whole_text pairs last) pairs last

abbrev pub LinesHaveAll : Type 0
LinesHaveAll = (pairs : List Pair) → pairs_in (lines_of pairs) ≡ pairs

abbrev pub KeepsTokens : Type 0
KeepsTokens = (pairs : List Pair) → tokens_of (layout_pairs pairs) ≡ tokens_of pairs

abbrev pub OwnLayout : Type 0
OwnLayout = (pairs : List Pair) → layout_pairs (layout_pairs pairs) ≡ layout_pairs pairs
