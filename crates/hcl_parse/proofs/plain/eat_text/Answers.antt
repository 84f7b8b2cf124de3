use Rattle.std.proofs.Common.{◌≡◌, ◌+◌, Some, rules, arith}
use Rattle.std.proofs.lemmas.Grind.{common_steps}
use Rattle.hcl_token.specs.declared.kind.Kind.TheVariants as k
use Rattle.hcl_reader.specs.ReaderRules as tokens
use Rattle.hcl_parse.proofs.Ends.{empty_text, some_text}
use Rattle.hcl_parse.proofs.plain.eat_text.Goals as goal

pub returns-in_ok-head-in-Some-QuoteClose-clause-read : goal.returns-in_ok-head-in-Some-QuoteClose-clause-read
returns-in_ok-head-in-Some-QuoteClose-clause-read g c =
    let here = c.args.reader.now in
    let token = c.next_token-next in
    let close : tokens.next_kind here c.args.at.now ≡ Some k.QuoteClose = first_of (search rules, cc) in
    let e = empty_text (g.S.Builder.make c.args.builder.now) here.tokens here.skip_newlines c.in-Ok._inner.depth here.depth c.args.first c.args.at.now token.result.0 c.in-Ok.ensures.1.opened.depth token.ensures.number close in
    first_of (search rules, cc, grind (arith, common_steps))

pub returns-in_ok-head-in-Some-QuoteClose-close-clause-read : goal.returns-in_ok-head-in-Some-QuoteClose-close-clause-read
returns-in_ok-head-in-Some-QuoteClose-close-clause-read g c =
    let here = c.args.reader.now in
    let token = c.next_token-next in
    let second = c.next_token-second in
    let text : tokens.next_kind here c.args.at.now ≡ Some k.QuoteLit = first_of (search rules, cc) in
    let close : tokens.next_kind here (token.result.0 + 1) ≡ Some k.QuoteClose = first_of (search rules, cc) in
    let e = some_text (g.S.Builder.make c.args.builder.now) here.tokens here.skip_newlines c.in-Ok._inner.depth here.depth c.args.first c.args.at.now token.result.0 second.result.0 c.in-Ok.ensures.1.opened.depth token.ensures.number (rw c.in-Some-QuoteLit.is at token.ensures.within) text second.ensures.number close in
    first_of (search rules, cc, grind (arith, common_steps))
