use Rattle.std.proofs.Common.{◌+◌, List, sym, subst, arith}
use Rattle.hcl_token.specs.declared.span.Span.{Span}
use Rattle.hcl_scan.specs.Inner.TokenizedTo.{IsTokenizedTo}
use Rattle.hcl_scan.proofs.PlainLemmas.{literal_more}
use Rattle.hcl_scan.proofs.plain.put_quoted.Goals as goal

pub returns-clause-state : goal.returns-clause-state
returns-clause-state c = λ modes places mode state.
    let text = c.args.text.now in
    let more = literal_more text c.args.tokens.now.items c.args.from modes places c.quoted_len-len.result mode state c.quoted_len-len.ensures.value (omega arith) in
    subst (λ (x : List Span). IsTokenizedTo text x (c.args.from + c.quoted_len-len.result) modes places) (sym c.put.ensures.items) more
