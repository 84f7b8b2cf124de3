use Rattle.std.proofs.Common.{List, sym, subst}
use Rattle.hcl_token.specs.declared.span.Span.{Span}
use Rattle.hcl_token.specs.Pairs.{IsWellFormed}
use Rattle.hcl_scan.proofs.scanned.Scanned.places.Goals as goal

pub new-requires : goal.new-requires
new-requires c = (
  c.self.inside.last_gap_at,
  subst (λ (l : List Span). IsWellFormed c.self.inside.text.now l c.self.inside.last_gap_at) (sym c.deref.ensures.value) c.self.invariant.0,
)
