use Rattle.std.proofs.Common.{List, sym, subst}
use Rattle.hcl_token.specs.declared.span.Span.{Span}
use Rattle.hcl_token.specs.Pairs.{IsWellFormed, pairs_of}
use Rattle.hcl_token.specs.Place.{MarksHaveNoLf}
use Rattle.hcl_scan.proofs.MarkLfs.{marks_have_no_lf}
use Rattle.hcl_scan.proofs.scanned.Scanned.lines.Goals as goal

pub new-requires-clause-order : goal.new-requires-clause-order
new-requires-clause-order c = (
  c.self.inside.last_gap_at,
  subst (λ (l : List Span). IsWellFormed c.self.inside.text.now l c.self.inside.last_gap_at) (sym c.deref.ensures.value) c.self.invariant.0,
)

pub new-requires-clause-marks : goal.new-requires-clause-marks
new-requires-clause-marks c =
    subst (λ (l : List Span). MarksHaveNoLf (pairs_of c.self.inside.text.now l)) (sym c.deref.ensures.value)
    (marks_have_no_lf _ _ _ c.self.invariant.1)
