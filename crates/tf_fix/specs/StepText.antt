-- What one step of a fix makes of the gaps and tokens of a text: the pairs of each finding that it
-- selects are replaced by others, and then each empty gap between two tokens that join becomes one
-- space.
use Rattle.std.specs.Prelude.{ℕ, ◌&&◌, Bool, true, false, List, [], ◌∷◌, ◌++◌, drop, map, slice_range}
use Rattle.std.specs.Prelude.{unwrap_or, Option, Some, None, if◌then◌else◌}
use Rattle.hcl_token.specs.TokenizedText.{TokenizedText, gap_of}
use Rattle.hcl_token.specs.Tokens.{Pair, whole_text}
use Rattle.tf_rules.specs.declared.finding.Finding.{Finding}
use Rattle.tf_rules.specs.declared.fix.Fix.{Fix}
use Rattle.tf_rules.specs.declared.fix.Fix.TheVariants.{CommentMarker, Tokens}
use Rattle.tf_rules.specs.declared.fix.Insertion.{Insertion}
use Rattle.tf_rules.specs.declared.fix.KeptTokens.{KeptTokens}
use Rattle.tf_fix.specs.Comments.{fixed_comment}
use Rattle.tf_fix.specs.Insertions.{inserted}
use Rattle.tf_fix.specs.JoinedTokens.{Prev, joins_prev, one_space}
use Rattle.tf_fix.specs.Selection.{selected}

-- the gap before the token of this number
abbrev pub gap_at : List Pair → ℕ → List ℕ
gap_at pairs i = unwrap_or (gap_of pairs i) []

-- the pairs, with another gap before the first of them
abbrev pub with_first_gap : List ℕ → List Pair → List Pair
with_first_gap gap [] = []
with_first_gap gap (p ∷ ps) = record p { gap = gap } ∷ ps

-- what is written, and then the tokens that are kept, the first without a gap
abbrev pub inserted_and_kept_pairs : List Pair → ℕ → Insertion → List (Option KeptTokens) → List Pair
inserted_and_kept_pairs pairs first written [] = inserted pairs first written
inserted_and_kept_pairs pairs first written (None ∷ kept) = inserted_and_kept_pairs pairs first written kept
inserted_and_kept_pairs pairs first written (Some k ∷ kept) =
    inserted pairs first written
    ++ (with_first_gap [] (slice_range pairs k.from k.to) ++ inserted_and_kept_pairs pairs first k.after kept)

-- What replaces the tokens from number `first` to number `past` (exclusive); the first takes the
-- gap of the first of these. Without a fix they are kept.
abbrev pub fixed_pairs : List Pair → ℕ → ℕ → Option Fix → List Pair
fixed_pairs pairs first past None = slice_range pairs first past
-- the comment with `#` in place of its `//`
fixed_pairs pairs first past (Some CommentMarker) = map fixed_comment (slice_range pairs first past)
fixed_pairs pairs first past (Some (Tokens before kept)) =
    with_first_gap (gap_at pairs first) (inserted_and_kept_pairs pairs first before kept)

-- the pairs from this number on, with those of each finding replaced
abbrev pub fixed_pairs_from : ℕ → List Pair → List Finding → List Pair
fixed_pairs_from at pairs [] = drop at pairs
fixed_pairs_from at pairs (finding ∷ findings) =
    slice_range pairs at finding.first
    ++ (fixed_pairs pairs finding.first finding.past finding.fix
    ++ fixed_pairs_from finding.past pairs findings)

abbrev pub is_empty : List ℕ → Bool
is_empty [] = true
is_empty (b ∷ bytes) = false

-- one space in place of an empty gap, if the token after it joins with its neighbor
abbrev pub settled_pair : Prev → Pair → Pair
settled_pair prev p =
    if is_empty p.gap && joins_prev prev p.kind p.spelling then record p { gap = one_space } else p

abbrev pub settled_pairs : Prev → List Pair → List Pair
settled_pairs prev [] = []
settled_pairs prev (p ∷ ps) = settled_pair prev p ∷ settled_pairs (Some (p.kind, p.spelling)) ps

-- the text that the step makes which selects from these findings
abbrev pub fix_step_text : TokenizedText → List Finding → List ℕ
fix_step_text tokenized findings =
    whole_text (settled_pairs None (fixed_pairs_from 0 tokenized.pairs (selected findings))) tokenized.last
