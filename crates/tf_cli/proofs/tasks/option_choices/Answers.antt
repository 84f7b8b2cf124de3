-- Memory ran out for the names; or the names that are read are the option's values.
use Rattle.std.proofs.Common.{◌≡◌, ◌∙◌, ℕ, List, Bor, Err, IfOk, IfErr, map, ap, subst, refl, inl, inr, rules}
use Rattle.std.proofs.lemmas.Result.{IfErr-weaker}
use Rattle.tf_cli.specs.declared.exits.Exit.TheVariants.{Memory}
use Rattle.tf_cli.specs.Choices.{AreNames, HasUnknownRule}
use Rattle.tf_cli.specs.Tasks.{values_of}
use Rattle.tf_cli.specs.Inner.ClapValues.{rows_in}
use Rattle.tf_cli.proofs.tasks.option_choices.Goals as goal

pub returns-in_err-names-clause-unknown : goal.returns-in_err-names-clause-unknown
returns-in_err-names-clause-unknown c =
    let answer : c.from_residual.result ≡ Err Memory = search rules in
    rw answer (inl refl)

pub returns-clause-known : goal.returns-clause-known
returns-clause-known c =
    let names = ap (map (λ (name : Bor (List ℕ)). name.now)) c.deref.ensures.value ∙ (c.in_ok-names.ensures ∙ ap (values_of (rows_in c.args.matches.now)) c.name.ensures) in
    subst (λ (values : List (List ℕ)). IfOk c.parse_choices.result (λ choices. AreNames choices.items values)) names c.parse_choices.ensures.known

pub returns-clause-unknown : goal.returns-clause-unknown
returns-clause-unknown c =
    let names = ap (map (λ (name : Bor (List ℕ)). name.now)) c.deref.ensures.value ∙ (c.in_ok-names.ensures ∙ ap (values_of (rows_in c.args.matches.now)) c.name.ensures) in
    let unknown = subst (λ (values : List (List ℕ)). IfErr c.parse_choices.result (λ exit. HasUnknownRule values exit)) names c.parse_choices.ensures.unknown in
    IfErr-weaker c.parse_choices.result _ _ (λ exit has. inr has) unknown
