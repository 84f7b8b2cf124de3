-- The replacements that fix a finding.
use Rattle.std.specs.Prelude.{ℕ, List, [], ◌∷◌, ◌++◌, drop, Option, Some, None}
use Rattle.std.specs.List.{flat_map}
use Rattle.hcl_token.specs.Tokens.{Pair}
use Rattle.tf_rules.specs.declared.finding.Finding.{Finding}
use Rattle.tf_rules.specs.declared.fix.Fix.{Fix}
use Rattle.tf_rules.specs.declared.fix.Fix.TheVariants.{CommentMarker, Tokens}
use Rattle.tf_rules.specs.declared.fix.Insertion.{Insertion}
use Rattle.tf_rules.specs.declared.fix.KeptTokens.{KeptTokens}
use Rattle.tf_fix.specs.Insertions.{inserted}
use Rattle.tf_fix.specs.Edits.Parts.{TextPart, boundary_index}
use Rattle.tf_fix.specs.Edits.Parts.TextPart.{Gap, Token}
use Rattle.tf_fix.specs.Edits.Replacements.{Replacement}
use Rattle.tf_fix.specs.declared.boundary.Boundary.{Boundary}
use Rattle.tf_fix.specs.declared.boundary.Boundary.TheVariants.{Gap as BeforeGap, Token as BeforeToken}
use Rattle.tf_fix.specs.Selection.{selected}

-- the parts of pairs alone
abbrev pub pairs_parts : List Pair → List TextPart
pairs_parts [] = []
pairs_parts (p ∷ ps) = Gap p.gap ∷ Token p.kind p.spelling ∷ pairs_parts ps

-- the parts from a place on: directly before a token its gap stays, so their first gap goes
abbrev pub after_gap : Boundary → List TextPart → List TextPart
after_gap (BeforeGap i) parts = parts
after_gap (BeforeToken i) parts = drop 1 parts

-- the last of the parts up to a place: directly before a token an empty gap, since its gap is gone
abbrev pub before_token : Boundary → List TextPart
before_token (BeforeGap i) = []
before_token (BeforeToken i) = Gap [] ∷ []

-- the parts of tokens that are inserted from one place to another
abbrev pub inserted_parts : Boundary → Boundary → List Pair → List TextPart
inserted_parts from to ps = after_gap from (pairs_parts ps ++ before_token to)

-- the replacement from one place to another; first is the number of the finding's first token
abbrev pub replacement_at : List Pair → ℕ → Boundary → Boundary → Insertion → Replacement
replacement_at pairs first from to written =
    record {
      from = boundary_index from;
      to = boundary_index to;
      inserted_parts = inserted_parts from to (inserted pairs first written);
    }

-- The replacements from a place on: `written` is inserted there, and then the ranges of `kept`
-- stay, each with what is inserted after it.
abbrev pub replacements_from : List Pair → ℕ → Boundary → Insertion → List (Option KeptTokens)
    → ℕ → List Replacement
replacements_from pairs first from written [] past =
    replacement_at pairs first from (BeforeGap past) written ∷ []
replacements_from pairs first from written (None ∷ kept) past =
    replacements_from pairs first from written kept past
replacements_from pairs first from written (Some k ∷ kept) past =
    replacement_at pairs first from (BeforeToken k.from) written
    ∷ replacements_from pairs first (BeforeGap k.to) k.after kept past

-- The replacements that fix the tokens from number `first` to number `past` (exclusive): whole
-- tokens and gaps. Comments are fixed by an edit inside the token.
abbrev pub fix_replacements : List Pair → ℕ → ℕ → Option Fix → List Replacement
fix_replacements pairs first past None = []
fix_replacements pairs first past (Some CommentMarker) = []
fix_replacements pairs first past (Some (Tokens before kept)) =
    replacements_from pairs first (BeforeToken first) before kept past

abbrev pub finding_replacements : List Pair → Finding → List Replacement
finding_replacements pairs finding = fix_replacements pairs finding.first finding.past finding.fix

-- what a step replaces: for each finding that it takes
abbrev pub step_replacements : List Pair → List Finding → List Replacement
step_replacements pairs findings = flat_map (finding_replacements pairs) (selected findings)
