-- What holds of the layouts of texts.
use Rattle.std.specs.Prelude.{◌≡◌, ◌↔◌, ℕ, ◌≤◌, false, List, [], length}
use Rattle.hcl_token.specs.TokenizedText.{TokenizedText}
use Rattle.hcl_token.specs.Tokens.{Pair, whole_text}
use Rattle.hcl_scan.specs.Tokenization.{MAX_TEXT, IsTokenization}
use Rattle.hcl_scan.specs.Follows.{AreApart, AreAllowedGaps}
use Rattle.hcl_layout.specs.Gaps.Layout.{layout_pairs, layout_text, IsLaidOut}
use Rattle.hcl_grammar.specs.declared.tree.Tree.{Tree}
use Rattle.hcl_text_laws.specs.Parses.{Parses}
use Rattle.hcl_layout.specs.Layouts.{IsLayout, HaveSameTokens}

-- ---- on tokens and gaps

-- If no gap is empty between two tokens that join, the gaps of the layout are allowed between the
-- tokens, and none is empty between two that join.
abbrev pub LayoutFits : Type 0
LayoutFits =
    (text : List ℕ) (pairs : List Pair) (last : List ℕ) → IsTokenization text pairs last → AreApart pairs
    → AreAllowedGaps false (layout_pairs pairs) [] × AreApart (layout_pairs pairs)

-- Then the layout, if it is within the limit, is tokenized into the same tokens, with the gaps of
-- the layout.
abbrev pub LayoutTokenizes : Type 0
LayoutTokenizes =
    (text : List ℕ) (pairs : List Pair) (last : List ℕ) → IsTokenization text pairs last → AreApart pairs
    → length (whole_text (layout_pairs pairs) []) ≤ MAX_TEXT
    → IsTokenization (whole_text (layout_pairs pairs) []) (layout_pairs pairs) []

-- Then the gaps are those of the layout if and only if the layout is the text.
abbrev pub LaidOutIsText : Type 0
LaidOutIsText = (t : TokenizedText) → IsTokenization t.text t.pairs t.last → AreApart t.pairs
    → IsLaidOut t ↔ (layout_text t ≡ t.text)

-- ---- on texts

-- a text has one layout at most
abbrev pub OneLayout : Type 0
OneLayout = (text new other : List ℕ) → IsLayout text new → IsLayout text other → new ≡ other

-- the layout of a text that parses, if it is within the limit, parses to the same tree
abbrev pub LayoutParses : Type 0
LayoutParses = (text new : List ℕ) (t : Tree) → Parses text t → IsLayout text new
    → length new ≤ MAX_TEXT → Parses new t

-- it has the same tokens
abbrev pub LayoutKeepsTokens : Type 0
LayoutKeepsTokens = (text new : List ℕ) (t : Tree) → Parses text t → IsLayout text new
    → length new ≤ MAX_TEXT → HaveSameTokens text new

-- it is its own layout
abbrev pub LayoutIsLaidOut : Type 0
LayoutIsLaidOut = (text new : List ℕ) (t : Tree) → Parses text t → IsLayout text new
    → length new ≤ MAX_TEXT → IsLayout new new

-- and to format it again changes nothing
abbrev pub LayoutOfLayout : Type 0
LayoutOfLayout = (text new other : List ℕ) (t : Tree) → Parses text t → IsLayout text new
    → IsLayout new other → other ≡ new
