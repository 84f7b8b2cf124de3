-- How far a line is indented: one level for each earlier line that is still open at it, however
-- many brackets that one opens.
-- Terraform style conventions (two spaces for each level of nesting); which lines count is this
-- project's own profile.
use Rattle.std.specs.Prelude.{ℕ, ◌+◌, Bool, true, ◌&&◌, nat_lt, List, [], ◌∷◌, ◌++◌, count_by, if◌then◌else◌}
use Rattle.hcl_token.specs.Kinds.{is_opening, is_closing}
use Rattle.hcl_token.specs.Tokens.{Pair}
use Rattle.hcl_layout.specs.Gaps.Lines.{Line}

-- how many of the tokens open
abbrev pub openings : List Pair → ℕ
openings pairs = count_by (λ (p : Pair). is_opening p.kind) pairs

-- how many of them close
abbrev pub closings : List Pair → ℕ
closings pairs = count_by (λ (p : Pair). is_closing p.kind) pairs

-- The first of these lines is open at each of them: up to the end of each, more tokens open than
-- close. `opened` and `closed` count those before the lines.
abbrev pub stays_open : ℕ → ℕ → List Line → Bool
stays_open opened closed [] = true
stays_open opened closed (line ∷ lines) =
    nat_lt (closed + closings line.pairs) (opened + openings line.pairs)
    && stays_open (opened + openings line.pairs) (closed + closings line.pairs) lines

-- The level of a line: how many of the earlier lines stay open up to and with this one, counted one
-- by one, each from itself on.
abbrev pub level : List Line → Line → ℕ
level [] line = 0
level (first ∷ earlier) line =
    (if stays_open 0 0 (first ∷ earlier ++ line ∷ []) then 1 else 0) + level earlier line
