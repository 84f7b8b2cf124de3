use Rattle.std.proofs.Common.{◌≡◌, ℕ, ◌-◌, take, reverse, List, [], sym, ap, ◌∙◌, arith}
use Rattle.std.proofs.lemmas.Bool.Decides.{nat_tests}
use Rattle.hcl_layout.specs.Gaps.Inner.Stages.{close_brackets}
use Rattle.hcl_layout.proofs.GapsLemmas.LineLemmas.{close_ends, close_next, no_items}
use Rattle.hcl_layout.proofs.gaps.indent.close_brackets.Goals as goal

pub returns-then-remaining-top-clause-remaining : goal.returns-then-remaining-top-clause-remaining
returns-then-remaining-top-clause-remaining c =
    let filled = c.loop-surplus-test.true in
    sym (close_ends c.loop-surplus.surplus.items (c.len-end.result - 1) c.loop-surplus.remaining c.index-top.result.now (grind (arith, nat_tests, c.len-end.ensures, c.is_empty.ensures, filled)) c.index-top.ensures c.if-remaining-top.true)
    ∙ c.loop-surplus.invariant.rest

pub loop-surplus-preserved : goal.loop-surplus-preserved
loop-surplus-preserved c =
    let filled = c.loop-surplus-test.true in
    let continues_line = close_next c.loop-surplus.surplus.items (c.len-end.result - 1) c.loop-surplus.remaining c.index-top.result.now (grind (arith, nat_tests, c.len-end.ensures, c.is_empty.ensures, filled)) c.index-top.ensures c.if-remaining-top.false in
    let leading = c.pop.ensures.rest ∙ ap (λ n. take (n - 1) c.loop-surplus.surplus.items) (sym c.len-end.ensures) in
    record {
      rest = ap (λ (xs : List ℕ). close_brackets (c.loop-surplus.remaining - c.index-top.result.now) (reverse xs)) leading ∙ sym continues_line ∙ c.loop-surplus.invariant.rest;
      shorter = omega (arith, c.pop.ensures.len, c.loop-surplus.invariant.shorter);
    }

pub returns-clause-remaining : goal.returns-clause-remaining
returns-clause-remaining c =
    let none : c.loop-surplus.surplus.items ≡ [] = no_items c.loop-surplus.surplus.items (grind (arith, nat_tests, c.is_empty.ensures, c.loop-surplus-test.false)) in
    ap (λ (xs : List ℕ). reverse xs) none ∙ sym (ap (λ (xs : List ℕ). close_brackets c.loop-surplus.remaining (reverse xs)) none) ∙ c.loop-surplus.invariant.rest
