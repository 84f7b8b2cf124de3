use Rattle.std.proofs.Common.{◌≡◌, ap₂, sym, ◌∙◌, arith, slice_range}
use Rattle.hcl_token.proofs.SameTokensLemmas.{begin_of, end_of, begins_at, ends_at, run_within, run_text}
use Rattle.hcl_token.proofs.same_tokens.token_bytes.Goals as goal

begins : (c : goal.After-stop) → c.start.result ≡ begin_of c.args.tokens.now
begins c = begins_at c.args.tokens.now _ _ c.start.ensures c.index-tokens-0.is c.requires.some

ends : (c : goal.After-stop) → c.stop.result ≡ end_of c.args.tokens.now
ends c = ends_at c.args.tokens.now _ _ c.stop.ensures c.index-tokens-tokens.is c.requires.some

pub slice-requires-clause-ordered : goal.slice-requires-clause-ordered
slice-requires-clause-ordered c = omega (arith, begins c, ends c, (run_within _ _ c.requires).0)

pub slice-requires-clause-within : goal.slice-requires-clause-within
slice-requires-clause-within c = omega (arith, ends c, (run_within _ _ c.requires).1)

pub returns : goal.returns
returns c =
    let begins = begins_at c.args.tokens.now _ _ c.start.ensures c.index-tokens-0.is c.requires.some in
    let ends = ends_at c.args.tokens.now _ _ c.stop.ensures c.index-tokens-tokens.is c.requires.some in
    c.slice.ensures ∙ ap₂ (slice_range c.args.text.now) begins ends ∙ sym (run_text _ _ c.requires)
