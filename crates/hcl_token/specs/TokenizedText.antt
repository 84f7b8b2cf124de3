-- A text with its tokens, as callers see it.
use Rattle.std.specs.Prelude.{ℕ, Bool, List, [], ◌∷◌, ◌++◌, length, take, drop, slice_get, Option, IsUtf8, ⊤}
use Rattle.std.specs.Option.{option_map, option_and_then}
use Rattle.hcl_token.specs.declared.item.Item.{Item}
use Rattle.hcl_token.specs.declared.kind.Kind.{Kind}
use Rattle.hcl_token.specs.Tokens.{Pair, whole_text}
use Rattle.hcl_token.specs.Joins.{joins_with}
use Rattle.hcl_token.specs.Place.{clusters}

-- a text, its tokens with the gaps before them, and the gap after the last token
pub record TokenizedText : Type 0 where
  pub text : List ℕ
  pub pairs : List Pair
  pub last : List ℕ

-- each gap and each spelling is UTF-8
abbrev pub AreUtf8 : List Pair → Type 0
AreUtf8 [] = ⊤
AreUtf8 (p ∷ ps) = IsUtf8 p.gap × IsUtf8 p.spelling × AreUtf8 ps

abbrev pub kind_of : List Pair → ℕ → Option Kind
kind_of pairs i = option_map (λ (p : Pair). p.kind) (slice_get pairs i)

abbrev pub spelling_of : List Pair → ℕ → Option (List ℕ)
spelling_of pairs i = option_map (λ (p : Pair). p.spelling) (slice_get pairs i)

abbrev pub gap_of : List Pair → ℕ → Option (List ℕ)
gap_of pairs i = option_map (λ (p : Pair). p.gap) (slice_get pairs i)

abbrev pub clusters_of : List Pair → ℕ → Option ℕ
clusters_of pairs i = option_map (λ (p : Pair). clusters p.spelling) (slice_get pairs i)

-- the places of a pair that follows others: each is the length of what precedes it
abbrev pub item_after : List Pair → Pair → Item
item_after before p = record {
  gap_at = length (whole_text before []);
  start = length (whole_text before p.gap);
  stop = length (whole_text before (p.gap ++ p.spelling));
  kind = p.kind;
}

abbrev pub item_of : List Pair → ℕ → Option Item
item_of pairs i = option_map (λ (p : Pair). item_after (take i pairs) p) (slice_get pairs i)

-- token i, directly followed by token j, joins
abbrev pub joins_of : List Pair → ℕ → ℕ → Option Bool
joins_of pairs i j =
    option_and_then (λ (p : Pair). option_map
    (λ (q : Pair). joins_with p.kind p.spelling q.kind q.spelling) (slice_get pairs j))
    (slice_get pairs i)

-- ---- the same tokens in another text

abbrev pub without_first_gap : List Pair → List Pair
without_first_gap [] = []
without_first_gap (p ∷ ps) = record { gap = []; kind = p.kind; spelling = p.spelling } ∷ ps

-- `count` tokens from number `from` on, with the gaps between them
abbrev pub pairs_in_range : List Pair → ℕ → ℕ → List Pair
pairs_in_range pairs from count = without_first_gap (take count (drop from pairs))
