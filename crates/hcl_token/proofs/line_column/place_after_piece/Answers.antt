use Rattle.std.proofs.Common.{ap, ◌∙◌, sym, subst, arith, IsUtf8}
use Rattle.hcl_token.specs.Place.{clusters}
use Rattle.hcl_token.proofs.ClusterLemmas.{clusters-le}
use Rattle.hcl_token.proofs.LineLemmas.{utf8_last_line}
use Rattle.hcl_token.proofs.LineColumnLemmas.{last_column}
use Rattle.hcl_token.proofs.line_column.place_after_piece.Goals as goal
use Rattle.hcl_token.proofs.line_column.place_after_piece.Goals.{then-count-eq0, else-count-eq0}

pub overflow_add-column : goal.overflow_add-column
overflow_add-column c = omega (arith, clusters-le c.args.piece.now c.requires.utf8, c.requires.column, c.clusters.ensures)

pub clusters-requires-else-count-eq0 : goal.clusters-requires-else-count-eq0
clusters-requires-else-count-eq0 c = subst IsUtf8 (sym c.last_line.ensures) (utf8_last_line c.args.piece.now c.requires.utf8)

pub overflow_add-column-else-count-eq0 : goal.overflow_add-column-else-count-eq0
overflow_add-column-else-count-eq0 c =
    omega (
      arith,
      c.requires.column,
      c.clusters-else-count-eq0.ensures ∙ ap clusters c.last_line.ensures,
      last_column c.args.piece.now c.requires.utf8 (omega (arith, c.count_line_feeds-count.ensures.value)),
    )

pub returns-clause-column : goal.returns-clause-column
returns-clause-column c =
    elim c.if-count-eq0.branch [
      | then-count-eq0 w ↦ omega (arith, clusters-le c.args.piece.now c.requires.utf8, w.clusters.ensures, w.column-is)
      | else-count-eq0 w ↦
          omega (
            arith,
            w.column-is,
            w.clusters-else-count-eq0.ensures ∙ ap clusters w.last_line.ensures,
            last_column c.args.piece.now c.requires.utf8 (omega (arith, c.count_line_feeds-count.ensures.value, w.if-count-eq0.false)),
          )
    ]
