-- For proofs: what the values of the code represent.
use Rattle.std.specs.Prelude.{ℕ, ◌<◌, ◌≤◌, List, [], ◌∷◌, length, map, Some, None, ⊤}
use Rattle.hcl_token.specs.Tokens.{Pair}
use Rattle.tf_fix.specs.Insertions.{spelling_at, inserted}
use Rattle.tf_fix.specs.Edits.FindingReplacements.{inserted_parts, replacement_at}
use Rattle.tf_fix.specs.Edits.Parts.{TextPart}
use Rattle.tf_fix.specs.JoinedTokens.{Prev}
use Rattle.tf_fix.specs.Edits.Replacements.{Replacement}
use Rattle.tf_fix.specs.declared.boundary.Boundary.{Boundary}
use Rattle.tf_fix.specs.declared.prev_token.PrevToken.{PrevToken}
use Rattle.tf_fix.specs.declared.prev_token.PrevToken.TheVariants.{Nothing as NothingNear, Token as TokenNear}
use Rattle.tf_rules.specs.declared.fix.Insertion.{Insertion}
use Rattle.tf_fix.specs.declared.splice.Replacement.{Replacement as Replacing}

abbrev pub prev_view : PrevToken → Prev
prev_view NothingNear = None
prev_view (TokenNear kind spelling) = Some (kind, spelling.now)

abbrev pub prev_at : Pair → Prev
prev_at p = Some (p.kind, p.spelling)

abbrev pub replacement_parts : List Pair → Boundary → Boundary → ℕ → Insertion → List TextPart
replacement_parts pairs from to first written =
    inserted_parts from to (inserted pairs first written)

-- the token of this number is there, and has a byte
abbrev pub HasByte : List Pair → ℕ → Type 0
HasByte pairs i = (i < length pairs) × (1 ≤ length (spelling_at pairs i))

abbrev pub replacement : List Pair → Replacing → Replacement
replacement pairs r = replacement_at pairs r.first r.from r.to r.insertion

abbrev pub replacements : List Pair → List Replacing → List Replacement
replacements pairs rs = map (replacement pairs) rs

-- where the next replacement begins, or the end
abbrev pub next_index : ℕ → List Replacement → ℕ
next_index end [] = end
next_index end (r ∷ rs) = r.from

-- the first token of each finding has a byte
abbrev pub HaveBytes : List Pair → List Replacing → Type 0
HaveBytes pairs [] = ⊤
HaveBytes pairs (r ∷ rs) = HasByte pairs r.first × HaveBytes pairs rs
