use Rattle.std.proofs.Common.{◌≡◌, true, List, [], sym, ap, ap₂, subst, ◌∙◌, arith}
use Rattle.hcl_token.specs.Tokens.{Pair, whole_text}
use Rattle.hcl_token.specs.Pairs.{token_run}
use Rattle.hcl_token.specs.Inner.SameTokens.{AreWordsShiftedBy}
use Rattle.hcl_token.proofs.SameTokensLemmas.{begin_of, begins_at, run_within, same_pairs, same_places, shift_between}
use Rattle.hcl_token.proofs.same_tokens.are_same_tokens.Goals as goal

pub shift_of-requires-clause-to : goal.shift_of-requires-clause-to
shift_of-requires-clause-to c =
    let begins = begins_at c.args.tokens.now _ _ c.start.ensures c.index-tokens-0.is c.requires.self_run.some in
    omega (arith, begins, run_within _ _ c.requires.self_run, c.requires.self_run.short)

pub shift_of-requires-clause-from : goal.shift_of-requires-clause-from
shift_of-requires-clause-from c =
    let begins = begins_at c.args.others.now _ _ c.start-2.ensures c.index-others-0.is c.requires.other_run.some in
    omega (arith, begins, run_within _ _ c.requires.other_run, c.requires.other_run.short)

pub returns-then-not-same_bytes : goal.returns-then-not-same_bytes
returns-then-not-same_bytes c = (
  λ h. absurd (cc),
  λ e. let same : c.same_bytes.result ≡ true =
      c.same_bytes.ensures.1 (c.token_bytes.ensures ∙ ap (λ (ps : List Pair). whole_text ps []) e ∙ sym c.token_bytes-2.ensures) in
      absurd (cc (same, c.if-not-same_bytes.true)),
)

pub returns : goal.returns
returns c =
    let xs = c.args.tokens.now in
    let ys = c.args.others.now in
    let begins = begins_at xs _ _ c.start.ensures c.index-tokens-0.is c.requires.self_run.some in
    let other = begins_at ys _ _ c.start-2.ensures c.index-others-0.is c.requires.other_run.some in
    let shift : c.shift_of.result ≡ shift_between (begin_of xs) (begin_of ys) = c.shift_of.ensures ∙ ap₂ shift_between begins other in
    let same : whole_text (token_run c.args.text.now xs) [] ≡ whole_text (token_run c.args.other.now ys) [] =
    sym c.token_bytes.ensures ∙ c.same_bytes.ensures.0 c.if-not-same_bytes.false ∙ c.token_bytes-2.ensures in (
      λ h. same_pairs _ _ _ _ c.requires.self_run c.requires.other_run c.requires.number same (subst (λ n. AreWordsShiftedBy n xs ys) shift (c.are_shifted_by.ensures.0 h)),
      λ e. c.are_shifted_by.ensures.1 (subst (λ n. AreWordsShiftedBy n xs ys) (sym shift) (same_places _ _ _ _ c.requires.self_run c.requires.other_run c.requires.number e)),
    )
