use Rattle.std.proofs.Common.{◌+◌, ℕ, List, [], ◌∷◌, ◌++◌, slice_range, Some, sym, ap, subst, subst₂, ◌∙◌}
use Rattle.hcl_token.specs.declared.span.Span.{Span}
use Rattle.hcl_scan.specs.Modes.{Mode}
use Rattle.hcl_scan.specs.Inner.MarkToken.{token_at}
use Rattle.hcl_scan.specs.Inner.TokenizedTo.{IsTokenizedTo}
use Rattle.hcl_scan.proofs.PlainLemmas.{free_more}
use Rattle.hcl_scan.proofs.Steps.{one_more}
use Rattle.hcl_scan.proofs.plain.put_plain.Goals as goal

pub returns-then-is_free-clause-state : goal.returns-then-is_free-clause-state
returns-then-is_free-clause-state c = λ at modes places mode start_is found state.
    let stop = c.args.start + c.args.len in
    let more = free_more c.args.text.now c.args.tokens.now.items at modes places c.args.start c.args.kind c.args.len state start_is found (c.requires.free c.if-is_free.true) in
    subst (λ (x : List Span). IsTokenizedTo c.args.text.now x stop modes places) (sym c.put.ensures.items) more

pub returns-then-byte_at-eq34-clause-state : goal.returns-then-byte_at-eq34-clause-state
returns-then-byte_at-eq34-clause-state c = λ at modes places mode start_is found state.
    let quote = found ∙ ap (λ k. Some (k, c.args.len)) c.in-QuoteOpen.is in
    c.put_string.ensures.state at modes places start_is quote state

pub returns-else-can_change_openings_in-clause-state : goal.returns-else-can_change_openings_in-clause-state
returns-else-can_change_openings_in-clause-state c = λ at modes places mode start_is found state.
    let text = c.args.text.now in
    let start = c.args.start in
    let kind = c.args.kind in
    let stop = start + c.args.len in
    let more = one_more text c.args.tokens.now.items at modes places start kind c.args.len state start_is found in
    let shifted = c.can_change_openings_in.ensures.modes (slice_range text start stop) modes mode c.if-can_change_openings_in.false in
    let placed = c.can_change_openings_in.ensures.places start modes places mode c.if-can_change_openings_in.false in
    let tokens = c.args.tokens.now.items ++ token_at start stop kind ∷ [] in
    let next = subst₂ (λ (m : List Mode) (o : List ℕ). IsTokenizedTo text tokens stop m o) shifted placed more.1 in
    subst (λ (x : List Span). IsTokenizedTo text x stop modes places) (sym c.put-else-can_change_openings_in.ensures.items) next
