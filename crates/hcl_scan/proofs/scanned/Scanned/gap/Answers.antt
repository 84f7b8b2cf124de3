use Rattle.std.proofs.Common.{List, Some, sym, ap, ap₂, subst, ◌∙◌, arith, IsUtf8, slice_range}
use Rattle.std.specs.Option.{option_map}
use Rattle.hcl_token.specs.declared.span.Span.{Span}
use Rattle.hcl_token.specs.Tokens.{Pair}
use Rattle.hcl_token.specs.Pairs.{gap_at}
use Rattle.hcl_token.proofs.TokensLemmas.{known_token, known_pair, number_is}
use Rattle.hcl_scan.proofs.scanned.Scanned.gap.Goals as goal

pub index-token-requires : goal.index-token-requires
index-token-requires c = omega (arith, c.requires, number_is _ _ _ _ (record { view = c.self.view_is; ordered = c.self.invariant.0 }))

pub gap_at-requires : goal.gap_at-requires
gap_at-requires c = omega (arith, c.requires, number_is _ _ _ _ (record { view = c.self.view_is; ordered = c.self.invariant.0 }))

pub slice-requires-clause-ordered : goal.slice-requires-clause-ordered
slice-requires-clause-ordered c =
    let known = known_token _ _ _ _ _ _ (record { view = c.self.view_is; ordered = c.self.invariant.0 }) c.requires c.index-token.ensures in
    omega (arith, known.gap, c.gap_at.ensures ∙ ap (λ (l : List Span). gap_at l c.args.i) c.deref.ensures.value)

pub slice-requires-clause-within : goal.slice-requires-clause-within
slice-requires-clause-within c =
    let known = known_token _ _ _ _ _ _ (record { view = c.self.view_is; ordered = c.self.invariant.0 }) c.requires c.index-token.ensures in
    omega (arith, known.spelling, known.within)

pub returns-clause-value : goal.returns-clause-value
returns-clause-value c =
    let known = known_token _ _ _ _ _ _ (record { view = c.self.view_is; ordered = c.self.invariant.0 }) c.requires c.index-token.ensures in
    let begins = c.gap_at.ensures ∙ ap (λ (l : List Span). gap_at l c.args.i) c.deref.ensures.value in
    ap (λ x. Some x) (c.slice.ensures ∙ ap₂ (slice_range c.self.inside.text.now) begins c.start.ensures)
    ∙ sym (ap (option_map (λ (p : Pair). p.gap)) (known_pair _ _ _ _ _ _ (record { view = c.self.view_is; ordered = c.self.invariant.0 }) known))

pub returns-clause-utf8 : goal.returns-clause-utf8
returns-clause-utf8 c =
    let known = known_token _ _ _ _ _ _ (record { view = c.self.view_is; ordered = c.self.invariant.0 }) c.requires c.index-token.ensures in
    let begins = c.gap_at.ensures ∙ ap (λ (l : List Span). gap_at l c.args.i) c.deref.ensures.value in
    subst IsUtf8 (sym (c.slice.ensures ∙ ap₂ (slice_range c.self.inside.text.now) begins c.start.ensures)) known.gap_utf8
