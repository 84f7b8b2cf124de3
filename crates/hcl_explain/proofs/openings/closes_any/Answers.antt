-- A token closes one of the openings: the innermost, or one of those around it.
use Rattle.std.proofs.Common.{◌≡◌, Some, None, refl, sym, ◌∙◌, arith}
use Rattle.std.proofs.lemmas.Bool.{false≢true}
use Rattle.hcl_explain.specs.Openings.{innermost_open}
use Rattle.hcl_explain.proofs.OpeningsLemmas.{closes_first, closes_rest, of_rest, closes_none}
use Rattle.hcl_explain.proofs.openings.closes_any.Goals as goal

pub loop-at-preserved : goal.loop-at-preserved
loop-at-preserved c =
    let pairs = c.args.scanned.now.pairs in
    let opening = c.in-Some.opening in
    let is : innermost_open pairs c.loop-at.at ≡ Some opening = cc in
    record {
      within = omega (arith, c.in-Some.ensures.within);
      found = λ h. c.loop-at.invariant.found
          (closes_rest pairs c.args.closing c.loop-at.at opening is h);
      left = λ h. of_rest pairs c.args.closing c.loop-at.at opening is
          (λ x. false≢true (sym c.if-is_closed_by.false ∙ c.is_closed_by.ensures.1 x))
          (c.loop-at.invariant.left h);
    }

pub returns-in-None : goal.returns-in-None
returns-in-None c =
    let is : innermost_open c.args.scanned.now.pairs c.loop-at.at ≡ None = cc in (
      (λ h. absurd (false≢true h)),
      (λ h. absurd (closes_none c.args.scanned.now.pairs c.args.closing c.loop-at.at is
          (c.loop-at.invariant.left h))),
    )

pub returns-then-is_closed_by : goal.returns-then-is_closed_by
returns-then-is_closed_by c =
    let pairs = c.args.scanned.now.pairs in
    let opening = c.in-Some.opening in
    let is : innermost_open pairs c.loop-at.at ≡ Some opening = cc in (
      (λ h. c.loop-at.invariant.found (closes_first pairs c.args.closing c.loop-at.at opening is
          (c.is_closed_by.ensures.0 c.if-is_closed_by.true))),
      (λ h. refl),
    )
