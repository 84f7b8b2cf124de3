use Rattle.std.proofs.Common.{ℕ, ◌+◌, List, length, slice_range, sym, ap, ◌∙◌, arith}
use Rattle.hcl_token.specs.declared.span.Span.{Span}
use Rattle.hcl_token.proofs.TokensLemmas.{number_is}
use Rattle.hcl_token.proofs.SameTokensLemmas.{is_run, run_length, range_run}
use Rattle.hcl_scan.proofs.scanned.Scanned.has_same_tokens.Goals as goal

-- the tokens of a stretch, of a list that is another's
abbrev part_of : ℕ → ℕ → List Span → List Span
part_of from count l = slice_range l from (from + count)

pub overflow_add-from : goal.overflow_add-from
overflow_add-from c = omega (arith, c.requires.self_range, c.self.told, number_is _ _ _ _ (record { view = c.self.view_is; ordered = c.self.invariant.0 }))

pub overflow_add-to : goal.overflow_add-to
overflow_add-to c = omega (arith, c.requires.other_range, c.other.told, number_is _ _ _ _ (record { view = c.other.view_is; ordered = c.other.invariant.0 }))

pub token_range-tokens-requires-clause-within : goal.token_range-tokens-requires-clause-within
token_range-tokens-requires-clause-within c =
    omega (arith, c.requires.self_range, ap length c.deref.ensures.value, number_is _ _ _ _ (record { view = c.self.view_is; ordered = c.self.invariant.0 }))

pub token_range-others-requires-clause-within : goal.token_range-others-requires-clause-within
token_range-others-requires-clause-within c =
    omega (arith, c.requires.other_range, ap length c.deref-2.ensures.value, number_is _ _ _ _ (record { view = c.other.view_is; ordered = c.other.invariant.0 }))

pub are_same_tokens-requires-clause-self_run : goal.are_same_tokens-requires-clause-self_run
are_same_tokens-requires-clause-self_run c =
    is_run _ c.self.inside.tokens.items _ _ c.args.from c.args.count c.self.invariant.0 (c.token_range-tokens.ensures ∙ ap (part_of c.args.from c.args.count) c.deref.ensures.value)
    (omega (arith, c.requires.self_range, number_is _ _ _ _ (record { view = c.self.view_is; ordered = c.self.invariant.0 }))) (omega (arith, c.if-count-eq0.false))

pub are_same_tokens-requires-clause-other_run : goal.are_same_tokens-requires-clause-other_run
are_same_tokens-requires-clause-other_run c =
    is_run _ c.other.inside.tokens.items _ _ c.args.to c.args.count c.other.invariant.0 (c.token_range-others.ensures ∙ ap (part_of c.args.to c.args.count) c.deref-2.ensures.value)
    (omega (arith, c.requires.other_range, number_is _ _ _ _ (record { view = c.other.view_is; ordered = c.other.invariant.0 }))) (omega (arith, c.if-count-eq0.false))

pub are_same_tokens-requires-clause-number : goal.are_same_tokens-requires-clause-number
are_same_tokens-requires-clause-number c =
    run_length c.self.inside.tokens.items _ c.args.from c.args.count (c.token_range-tokens.ensures ∙ ap (part_of c.args.from c.args.count) c.deref.ensures.value)
    (omega (arith, c.requires.self_range, number_is _ _ _ _ (record { view = c.self.view_is; ordered = c.self.invariant.0 })))
    ∙ sym (
    run_length c.other.inside.tokens.items _ c.args.to c.args.count (c.token_range-others.ensures ∙ ap (part_of c.args.to c.args.count) c.deref-2.ensures.value)
    (omega (arith, c.requires.other_range, number_is _ _ _ _ (record { view = c.other.view_is; ordered = c.other.invariant.0 })))
    )

pub returns : goal.returns
returns c =
    let here = range_run _ _ _ _ c.args.from c.args.count _ (record { view = c.self.view_is; ordered = c.self.invariant.0 }) (c.token_range-tokens.ensures ∙ ap (part_of c.args.from c.args.count) c.deref.ensures.value) in
    let there = range_run _ _ _ _ c.args.to c.args.count _ (record { view = c.other.view_is; ordered = c.other.invariant.0 }) (c.token_range-others.ensures ∙ ap (part_of c.args.to c.args.count) c.deref-2.ensures.value) in
    (λ h. here ∙ c.are_same_tokens.ensures.0 h ∙ sym there, λ e. c.are_same_tokens.ensures.1 (sym here ∙ e ∙ there))
