use Rattle.std.proofs.Common.{◌≡◌, ◌==◌, length, ap, ◌∙◌, arith}
use Rattle.std.specs.Vec.{vec_len}
use Rattle.hcl_token.proofs.TokensLemmas.{empty_is}
use Rattle.hcl_scan.proofs.scanned.Scanned.is_empty.Goals as goal

pub returns : goal.returns
returns c =
    let size : vec_len c.self.inside.tokens ≡ length c.self.inside.tokens.items = omega arith in
    empty_is _ _ _ _ _ (record { view = c.self.view_is; ordered = c.self.invariant.0 }) (c.is_empty.ensures ∙ ap (λ n. n == 0) size)
