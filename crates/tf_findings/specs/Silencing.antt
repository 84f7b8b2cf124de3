-- What is silenced in a text. TFLint, Annotations.
use Rattle.std.specs.Prelude.{ℕ, ◌+◌, ◌==◌, ◌&&◌, ◌||◌, Bool, false, List, [], ◌∷◌}
use Rattle.hcl_token.specs.Place.{line_of}
use Rattle.hcl_token.specs.Tokens.{Pair}
use Rattle.tf_rules.specs.declared.finding.Finding.{Finding}
use Rattle.tf_rules.specs.declared.rule.Rule.{Rule}
use Rattle.tf_findings.specs.Comments.{silences}

-- the line itself, or the next
abbrev pub covers_line : ℕ → ℕ → Bool
covers_line line comment = line == comment || line == comment + 1

-- a comment that silences the rule begins on this line, or on the line before; the first of the
-- tokens looked at has number i
abbrev pub silenced_from : List Pair → Rule → ℕ → ℕ → List Pair → Bool
silenced_from pairs rule line i [] = false
silenced_from pairs rule line i (p ∷ ps) =
    (silences p.kind p.spelling rule && covers_line line (line_of pairs i))
    || silenced_from pairs rule line (i + 1) ps

-- whether a comment of the text silences what the rule finds on this line
abbrev pub is_silenced_on : List Pair → Rule → ℕ → Bool
is_silenced_on pairs rule line = silenced_from pairs rule line 0 pairs

-- whether a finding is silenced: its line is that of its first token
abbrev pub is_silenced : List Pair → Finding → Bool
is_silenced pairs f = is_silenced_on pairs f.rule (line_of pairs f.first)
