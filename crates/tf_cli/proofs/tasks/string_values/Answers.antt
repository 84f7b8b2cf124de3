-- The values that clap has are copied; or it has none.
use Rattle.std.proofs.Common.{◌≡◌, ◌∙◌, ℕ, List, [], Bor, IfOk, map, ap, subst, rules}
use Rattle.clap.specs.Words.{found_of}
use Rattle.clap.proofs.WalkLemmas.{raw_values-rows}
use Rattle.tf_cli.proofs.Values.{given_values, missing_values}
use Rattle.tf_cli.proofs.tasks.string_values.Goals as goal

pub returns-in-Some : goal.returns-in-Some
returns-in-Some c =
    let is = given_values _ _ (c.in-Some.ensures ∙ raw_values-rows (found_of c.args.matches.now) c.args.id.now) in
    subst (λ (wanted : List (List ℕ)). IfOk c.copy_values.result (λ values. map (λ value. value.now) values.items ≡ wanted)) is c.copy_values.ensures

pub returns-in-None : goal.returns-in-None
returns-in-None c =
    let empty : c.new.result.items ≡ [] = search rules in
    ap (map (λ (value : Bor (List ℕ)). value.now)) empty ∙ missing_values _ (c.in-None.ensures ∙ raw_values-rows (found_of c.args.matches.now) c.args.id.now)
