use Rattle.std.proofs.Common.{◌≡◌, ◌+◌, List, [], ◌∷◌, ◌++◌, slice_index, sym, ap, subst, ◌∙◌, arith}
use Rattle.hcl_token.specs.declared.kind.Kind.TheVariants.{QuoteOpen, QuoteClose}
use Rattle.hcl_token.specs.declared.span.Span.{Span}
use Rattle.hcl_scan.specs.Inner.MarkToken.{token_at}
use Rattle.hcl_scan.specs.Inner.TokenizedTo.{IsTokenizedTo}
use Rattle.hcl_scan.proofs.PlainLemmas.{text_more, empty_more}
use Rattle.hcl_scan.proofs.plain.put_string.Goals as goal

pub returns-then-len-eq0-clause-state : goal.returns-then-len-eq0-clause-state
returns-then-len-eq0-clause-state c = λ at modes places start_is found state.
    let text = c.args.text.now in
    let start = c.args.start in
    let from = start + c.args.first in
    let none : from + c.args.len ≡ from = omega (arith, c.if-len-eq0.true) in
    let ends = ap (slice_index text) (sym none) ∙ c.requires.quote in
    let more = empty_more text c.args.tokens.now.items at modes places start c.args.first state start_is found ends in
    let there = subst (λ n. IsTokenizedTo text ((c.args.tokens.now.items ++ token_at start from QuoteOpen ∷ []) ++ token_at from (from + 1) QuoteClose ∷ []) (n + 1) modes places) (sym none) more in
    subst (λ (x : List Span). IsTokenizedTo text x (from + c.args.len + 1) modes places) (sym c.put_empty.ensures.items) there

pub returns-clause-state : goal.returns-clause-state
returns-clause-state c = λ at modes places start_is found state.
    let text = c.args.text.now in
    let start = c.args.start in
    let to = start + c.args.first + c.args.len in
    let more = text_more text c.args.tokens.now.items at modes places start c.args.first c.args.len state start_is found c.requires.len c.requires.quote (omega arith) in
    subst (λ (x : List Span). IsTokenizedTo text x (to + 1) modes places) (sym c.put_text.ensures.items) more
