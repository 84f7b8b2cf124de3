-- Whether a sequence makes an error, by its kind.
use Rattle.std.proofs.Common.{rules, ◌≡◌, IfOk, subst}
use Rattle.std.specs.Bool.{Decides}
use Rattle.hcl_scan.specs.declared.fault.ScanFault.{ScanFault}
use Rattle.hcl_scan.specs.declared.fault.ScanFault.TheVariants.{OpenString, OpenHeredoc}
use Rattle.hcl_scan.specs.declared.fault.ScanFault.TheVariants.{BadCharacter}
use Rattle.hcl_explain.specs.Sequences.{IsMadeBy}
use Rattle.hcl_explain.proofs.without.makes.Goals as goal

pub returns-in-OpenString-clause-made : goal.returns-in-OpenString-clause-made
returns-in-OpenString-clause-made c =
    let is : OpenString c.in-OpenString.at ≡ c.args.fault = first_of (cc, search rules) in
    subst (λ (x : ScanFault). IfOk c.makes_string.result
    (λ b. Decides b (IsMadeBy c.args.text.now c.args.opened x))) is c.makes_string.ensures

pub returns-in-OpenHeredoc-clause-made : goal.returns-in-OpenHeredoc-clause-made
returns-in-OpenHeredoc-clause-made c =
    let is : OpenHeredoc c.in-OpenHeredoc.at ≡ c.args.fault = first_of (cc, search rules) in
    subst (λ (x : ScanFault). IfOk c.makes_heredoc.result
    (λ b. Decides b (IsMadeBy c.args.text.now c.args.opened x))) is c.makes_heredoc.ensures

pub returns-in-BadCharacter-clause-made : goal.returns-in-BadCharacter-clause-made
returns-in-BadCharacter-clause-made c =
    let is : BadCharacter c.in-BadCharacter.at ≡ c.args.fault = first_of (cc, search rules) in
    subst (λ (x : ScanFault). IfOk c.makes_character.result
    (λ b. Decides b (IsMadeBy c.args.text.now c.args.opened x))) is c.makes_character.ensures
