-- The gaps inside a line: no space or one, by a table. The first row that fits two neighbors on a
-- line says which.
-- Terraform style conventions and their examples; the rows and their order are this project's own
-- profile.
use Rattle.std.specs.Prelude.{ℕ, Bool, true, false, not, ◌&&◌, ◌||◌, List, [], ◌∷◌, replicate, codes}
use Rattle.std.specs.Prelude.{if◌then◌else◌}
use Rattle.std.specs.Str.{bytes_eq}
use Rattle.hcl_token.specs.declared.kind.Kind.{Kind}
use Rattle.hcl_token.specs.declared.kind.Kind.TheVariants.{Identifier, Number, DotIndex, Minus, Star, Bang}
use Rattle.hcl_token.specs.declared.kind.Kind.TheVariants.{DoubleColon, OpenBrace, CloseBrace, OpenBracket}
use Rattle.hcl_token.specs.declared.kind.Kind.TheVariants.{CloseBracket, OpenParen, CloseParen, Comma, Dot}
use Rattle.hcl_token.specs.declared.kind.Kind.TheVariants.{Ellipsis, SeqClose, QuoteClose, InterpOpen}
use Rattle.hcl_token.specs.declared.kind.Kind.TheVariants.{DirectiveOpen}
use Rattle.hcl_token.specs.Bytes.{space}
use Rattle.hcl_token.specs.Tokens.{Pair}
use Rattle.hcl_token.specs.Joins.{joins_with}
use Rattle.hcl_token.specs.Kinds.{is_line_end, is_line_comment}
use Rattle.hcl_scan.specs.Follows.{has_no_gap_before}
use Rattle.hcl_layout.specs.Gaps.Kinds.{among, is_identifier, ends_operand, is_skipped_by_spacing}

-- The kinds of the tokens before a place, the nearest first, without comments, line ends and the
-- byte order mark: after one more token,
abbrev pub prev_after : Pair → List Kind → List Kind
prev_after p before = if is_skipped_by_spacing p.kind then before else p.kind ∷ before

-- and after several
abbrev pub prev_after_all : List Pair → List Kind → List Kind
prev_after_all [] before = before
prev_after_all (p ∷ ps) before = prev_after_all ps (prev_after p before)

-- the nearest token before is an identifier
abbrev pub is_after_identifier : List Kind → Bool
is_after_identifier [] = false
is_after_identifier (p ∷ before) = is_identifier p

-- a splat's star: a `*` of which the nearest token before is `.`
abbrev pub is_splat_star : List Kind → Kind → Bool
is_splat_star (Dot ∷ before) Star = true
is_splat_star before kind = false

-- the nearest token before ends an operand
abbrev pub is_after_operand : List Kind → Bool
is_after_operand [] = false
is_after_operand (p ∷ before) = ends_operand p || is_splat_star before p

-- the identifier `in`
abbrev pub is_in_keyword : Pair → Bool
is_in_keyword a = is_identifier a.kind && bytes_eq a.spelling (codes "in")

-- ---- the table

-- a row: whether it fits two neighbors, and whether there is a space between two that it fits
pub record Row : Type 0 where
  pub fits : Bool
  pub spaced : Bool

abbrev pub no_space : Bool → Row
no_space fits = record { fits = fits; spaced = false }

abbrev pub one_space : Bool → Row
one_space fits = record { fits = fits; spaced = true }

-- the rows of the table for a and b, with these kinds before a
abbrev pub rows : List Kind → Pair → Pair → List Row
rows before a b =
    -- at the end of a line
    no_space (is_line_end b.kind)
    -- before a line comment
    ∷ one_space (is_line_comment b.kind)
    -- `f(`
    ∷ no_space (is_identifier a.kind && among (OpenParen ∷ []) b.kind)
    -- round `::`
    ∷ no_space (among (DoubleColon ∷ []) a.kind || among (DoubleColon ∷ []) b.kind)
    -- `a.b`, `a.0`
    ∷ no_space (among (Dot ∷ []) a.kind || among (Dot ∷ DotIndex ∷ []) b.kind)
    -- before `,` and `...`
    ∷ no_space (among (Comma ∷ Ellipsis ∷ []) b.kind)
    -- after `,`
    ∷ one_space (among (Comma ∷ []) a.kind)
    -- after the `in` of a `for`
    ∷ one_space (is_in_keyword a && is_after_identifier before)
    -- `a[`
    ∷ no_space (among (OpenBracket ∷ []) b.kind
    && (among (Identifier ∷ Number ∷ DotIndex ∷ QuoteClose ∷ CloseParen ∷ CloseBracket ∷ CloseBrace ∷ [])
    a.kind
    || is_splat_star before a.kind))
    -- `!a`
    ∷ no_space (among (Bang ∷ []) a.kind)
    -- `-a`, with no operand before the `-`
    ∷ no_space (among (Minus ∷ []) a.kind && not (is_after_operand before))
    -- `{}`
    ∷ no_space (among (OpenBrace ∷ []) a.kind && among (CloseBrace ∷ []) b.kind)
    -- inside other braces
    ∷ one_space (among (OpenBrace ∷ []) a.kind || among (CloseBrace ∷ []) b.kind)
    -- `${ {` and `} }`
    ∷ one_space ((among (InterpOpen ∷ DirectiveOpen ∷ []) a.kind && among (OpenBrace ∷ []) b.kind)
    || (among (CloseBrace ∷ []) a.kind && among (SeqClose ∷ []) b.kind))
    -- inside parentheses, brackets and template sequences
    ∷ no_space (among (OpenParen ∷ OpenBracket ∷ InterpOpen ∷ DirectiveOpen ∷ []) a.kind
    || among (CloseParen ∷ CloseBracket ∷ SeqClose ∷ []) b.kind)
    ∷ []

-- what the first row that fits says; if none fits, there is a space
abbrev pub apply_rows : List Row → Bool
apply_rows [] = true
apply_rows (row ∷ others) = if row.fits then row.spaced else apply_rows others

-- whether there is a space between a and b, with these kinds before a
abbrev pub is_spaced : List Kind → Pair → Pair → Bool
is_spaced before a b = apply_rows (rows before a b)

-- ---- gaps

-- a gap of n spaces
abbrev pub spaces : ℕ → List ℕ
spaces n = replicate n space

-- The gap between neighbors: none in literal text; else one space if the table says so, or if the
-- two, with none between them, could be read as other tokens (`1 .0` is no number).
abbrev pub gap_between : List Kind → Pair → Pair → List ℕ
gap_between before a b =
    if has_no_gap_before b.kind then []
    else (if is_spaced before a b || joins_with a.kind a.spelling b.kind b.spelling then spaces 1
    else [])
