-- What a fix does with the tokens of a finding, and whether it can.
use Rattle.std.specs.Prelude.{ℕ, ◌+◌, nat_lt, nat_le, ◌==◌, ◌&&◌, Bool, true, false, List, [], ◌∷◌, Option}
use Rattle.std.specs.Prelude.{Some, None, if◌then◌else◌}
use Rattle.tf_rules.specs.declared.fix.Fix.{Fix}
use Rattle.tf_rules.specs.declared.fix.Fix.TheVariants.{CommentMarker, Tokens}
use Rattle.tf_rules.specs.declared.fix.Insertion.{Insertion}
use Rattle.tf_rules.specs.declared.fix.Insertion.TheVariants.{Nothing}
use Rattle.tf_rules.specs.declared.fix.KeptTokens.{KeptTokens}

-- a fix that keeps no token
abbrev pub insert_only : Insertion → Fix
insert_only before = Tokens before (None ∷ None ∷ [])

-- tokens that are kept, and what is written after them
abbrev pub kept : ℕ → ℕ → Insertion → KeptTokens
kept from to after = record { from = from; to = to; after = after }

-- fixes that keep tokens
abbrev pub keep_one : Insertion → KeptTokens → Fix
keep_one before k = Tokens before (Some k ∷ None ∷ [])

abbrev pub keep_two : Insertion → KeptTokens → KeptTokens → Fix
keep_two before k l = Tokens before (Some k ∷ Some l ∷ [])

-- the fix, where there is one
abbrev pub when : Bool → Fix → Option Fix
when fixable fix = if fixable then Some fix else None

-- whether the fix is an edit inside a comment
abbrev pub is_comment_fix : Option Fix → Bool
is_comment_fix (Some CommentMarker) = true
is_comment_fix _ = false

-- tokens are removed from number `at` to number `to` (exclusive), or something is inserted there
abbrev pub changes_something : Insertion → ℕ → ℕ → Bool
changes_something Nothing at to = nat_lt at to
changes_something _ at to = nat_le at to

-- At the end of the finding, tokens are removed from number `at` to number `past` (exclusive), and
-- some before them are kept; or something is inserted.
abbrev pub changes_end : ℕ → Insertion → ℕ → ℕ → Bool
changes_end first Nothing at past = nat_lt first at && nat_lt at past
changes_end first _ at past = nat_le at past

-- the kept ranges are in order after number `at`, where `written` is inserted
abbrev pub are_in_order : ℕ → ℕ → ℕ → Insertion → List (Option KeptTokens) → Bool
are_in_order first past at written [] = changes_end first written at past
are_in_order first past at written (None ∷ kept) = are_in_order first past at written kept
are_in_order first past at written (Some k ∷ kept) =
    changes_something written at k.from
    && (nat_lt k.from k.to && are_in_order first past k.to k.after kept)

-- what a fix keeps is in order in the tokens from number `first` to number `past` (exclusive)
abbrev pub is_in_order : ℕ → ℕ → Fix → Bool
is_in_order first past CommentMarker = past == first + 1
is_in_order first past (Tokens before kept) = are_in_order first past first before kept
