-- Lines token by token, where each adds to the line after it, are lines that are split first.
use Rattle.std.proofs.Common.{◌≡◌, ℕ, true, false, nat_lt, List, [], ◌∷◌, if◌then◌else◌, refl, ap, ◌∙◌}
use Rattle.hcl_token.specs.Tokens.{Pair}
use Rattle.hcl_layout.specs.Gaps.Lines.{Line, heredocs_after, ends_line, prepend, split_lines, with_frozen, lines_of, pairs_in}
use Rattle.hcl_layout.specs.Gaps.Inner.Stages.{prepend_to_first, lines_from}
use Rattle.hcl_layout.proofs.GapsLemmas.GapLaw.{pairs_of_lines}

frozen_first : (n : ℕ) (p : Pair) (lines : List (List Pair)) → with_frozen n (prepend p lines) ≡ prepend_to_first (nat_lt 0 n) p (with_frozen (heredocs_after n p.kind) lines)
frozen_first n p [] = refl
frozen_first n p (line ∷ lines) = refl

split_from : (n : ℕ) (ps : List Pair) → with_frozen n (split_lines n ps) ≡ lines_from n ps
split_from n [] = refl
split_from n (p ∷ ps) = elim (ends_line n p.kind) as (λ v. with_frozen n (if v then (p ∷ []) ∷ split_lines (heredocs_after n p.kind) ps else prepend p (split_lines (heredocs_after n p.kind) ps)) ≡ (if v then record { frozen = nat_lt 0 n; pairs = p ∷ [] } ∷ lines_from (heredocs_after n p.kind) ps else prepend_to_first (nat_lt 0 n) p (lines_from (heredocs_after n p.kind) ps))) [
  | true ↦ ap (λ (ls : List Line). record { frozen = nat_lt 0 n; pairs = p ∷ [] } ∷ ls) (split_from (heredocs_after n p.kind) ps)
  | false ↦ frozen_first n p (split_lines (heredocs_after n p.kind) ps) ∙ ap (prepend_to_first (nat_lt 0 n) p) (split_from (heredocs_after n p.kind) ps)
]

pub lines_are : (ps : List Pair) → lines_of ps ≡ lines_from 0 ps
lines_are ps = split_from 0 ps

-- the lines of tokens have these tokens
pub pairs_of_text : (ps : List Pair) → pairs_in (lines_of ps) ≡ ps
pairs_of_text ps = ap pairs_in (lines_are ps) ∙ pairs_of_lines 0 ps
