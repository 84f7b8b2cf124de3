-- What the openings that the scanner keeps, the innermost last, represent.
use Rattle.std.specs.Prelude.{ℕ, Bool, not, ◌||◌, ◌==◌, List, [], ◌∷◌, map, reverse}
use Rattle.hcl_scan.specs.declared.mode.Mode.{Mode as Reading}
use Rattle.hcl_scan.specs.declared.mode.Mode.TheVariants.{Expression as InExpression, Sequence as InSequence}
use Rattle.hcl_scan.specs.declared.mode.Mode.TheVariants.{Braces as InBraces, Quoted as InQuoted}
use Rattle.hcl_scan.specs.declared.mode.Mode.TheVariants.{Heredoc as InHeredoc}
use Rattle.hcl_scan.specs.declared.mode.Region.{Region}
use Rattle.hcl_scan.specs.declared.mode.Region.TheVariants.{Expression as ExpressionRegion}
use Rattle.hcl_scan.specs.declared.mode.Region.TheVariants.{Sequence as SequenceRegion}
use Rattle.hcl_scan.specs.declared.mode.Region.TheVariants.{Braces as BracesRegion, Quoted as QuotedRegion}
use Rattle.hcl_scan.specs.declared.mode.Region.TheVariants.{Heredoc as HeredocRegion}
use Rattle.hcl_scan.specs.declared.mode.Opening.{Opening}
use Rattle.hcl_scan.specs.Modes.{Mode}
use Rattle.hcl_scan.specs.Modes.Mode.{Expression, Sequence, Braces, Quoted, Heredoc}

abbrev pub mode_view : Reading → Mode
mode_view InExpression = Expression
mode_view InSequence = Sequence
mode_view InBraces = Braces
mode_view InQuoted = Quoted
mode_view (InHeredoc name at_line_start) = Heredoc name.now at_line_start

-- the mode without its marker
abbrev pub region_of : Mode → Region
region_of Expression = ExpressionRegion
region_of Sequence = SequenceRegion
region_of Braces = BracesRegion
region_of Quoted = QuotedRegion
region_of (Heredoc name at_line_start) = HeredocRegion

-- innermost first
abbrev pub modes_of : List Opening → List Mode
modes_of openings = map (λ (o : Opening). mode_view o.mode) (reverse openings)

abbrev pub places_of : List Opening → List ℕ
places_of openings = map (λ (o : Opening). o.at) (reverse openings)

-- the heredoc goes on where a line begins, or does not
abbrev pub with_line_start : Bool → Mode → Mode
with_line_start at_line_start (Heredoc name before) = Heredoc name at_line_start
with_line_start at_line_start mode = mode

abbrev pub with_line_start_in : Bool → List Mode → List Mode
with_line_start_in at_line_start [] = []
with_line_start_in at_line_start (mode ∷ modes) = with_line_start at_line_start mode ∷ modes

-- neither LF nor CR
abbrev pub is_not_line_break : ℕ → Bool
is_not_line_break b = not (b == 10 || b == 13)
