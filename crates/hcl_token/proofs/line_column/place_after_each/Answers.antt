use Rattle.std.proofs.Common.{refl}
use Rattle.hcl_token.proofs.TokenRangeLemmas.{along_first, along_step, along_end}
use Rattle.hcl_token.proofs.line_column.place_after_each.Goals as goal

pub loop-token-init : goal.loop-token-init
loop-token-init c = record { rest = c.requires; value = refl }

pub place_after_token-place-requires : goal.place_after_token-place-requires
place_after_token-place-requires c = along_first _ _ _ _ _ _ _ _ c.loop-token-test.true c.token-item.is c.loop-token.invariant

pub loop-token-preserved : goal.loop-token-preserved
loop-token-preserved c =
    rw c.stop-gap_at.ensures (along_step _ _ _ _ _ _ _ c.token-item.result _ c.loop-token-test.true c.token-item.is c.loop-token.invariant c.place_after_token-place.ensures.value c.place_after_token-place.ensures.bounded)

pub returns : goal.returns
returns c = along_end _ _ _ _ _ _ _ c.loop-token-test.false c.loop-token.invariant
