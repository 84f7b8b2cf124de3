use Rattle.std.proofs.Common.{Some, sym, ap, ◌∙◌, arith}
use Rattle.std.specs.Option.{option_map}
use Rattle.hcl_token.specs.Tokens.{Pair}
use Rattle.hcl_token.proofs.TokensLemmas.{known_token, known_pair, number_is}
use Rattle.hcl_scan.proofs.scanned.Scanned.kind.Goals as goal

pub index-token-requires : goal.index-token-requires
index-token-requires c = omega (arith, c.requires, number_is _ _ _ _ (record { view = c.self.view_is; ordered = c.self.invariant.0 }))

pub returns : goal.returns
returns c =
    let known = known_token _ _ _ _ _ _ (record { view = c.self.view_is; ordered = c.self.invariant.0 }) c.requires c.index-token.ensures in
    ap (λ x. Some x) c.kind.ensures
    ∙ sym (ap (option_map (λ (p : Pair). p.kind)) (known_pair _ _ _ _ _ _ (record { view = c.self.view_is; ordered = c.self.invariant.0 }) known))
