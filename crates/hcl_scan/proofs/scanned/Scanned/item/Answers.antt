use Rattle.std.proofs.Common.{List, ap, ◌∙◌, arith}
use Rattle.hcl_token.specs.declared.span.Span.{Span}
use Rattle.hcl_token.specs.Pairs.{gap_at}
use Rattle.hcl_token.proofs.TokensLemmas.{known_token, known_place, number_is}
use Rattle.hcl_scan.proofs.scanned.Scanned.item.Goals as goal

pub index-token-requires : goal.index-token-requires
index-token-requires c = omega (arith, c.requires, number_is _ _ _ _ (record { view = c.self.view_is; ordered = c.self.invariant.0 }))

pub gap_at-requires : goal.gap_at-requires
gap_at-requires c = omega (arith, c.requires, number_is _ _ _ _ (record { view = c.self.view_is; ordered = c.self.invariant.0 }))

pub returns : goal.returns
returns c =
    let known = known_token _ _ _ _ _ _ (record { view = c.self.view_is; ordered = c.self.invariant.0 }) c.requires c.index-token.ensures in
    rw (c.start.ensures, c.stop.ensures, c.kind.ensures)
    (known_place _ _ _ _ _ _ _ (record { view = c.self.view_is; ordered = c.self.invariant.0 }) (c.gap_at.ensures ∙ ap (λ (l : List Span). gap_at l c.args.i) c.deref.ensures.value) known)
