use Rattle.std.proofs.Common.{rules, ◌≡◌, false}
use Rattle.hcl_explain.specs.ScanExplanations.{IsByDollars, of}
use Rattle.hcl_explain.specs.Sequences.{IsEnded}
use Rattle.hcl_explain.specs.declared.scan_error.ScanReason.TheVariants as reason
use Rattle.hcl_explain.proofs.WithoutLemmas.{in_second, is_not}
use Rattle.hcl_explain.proofs.scan_character.nested.Goals as goal

pub returns-else-branch : goal.returns-else-branch
returns-else-branch c =
    let refuted : c.in_ok-is_ended.field-0 ≡ false = first_of (cc, search rules) in
    in_second (λ e. IsByDollars c.args.text.now c.args.opened c.args.at e)
    (λ e. IsEnded c.args.text.now c.args.opened c.args.at
    × (e ≡ of c.args.opened reason.Sequence))
    c.by_dollars.result (is_not c.in_ok-is_ended.field-0 refuted c.in_ok-is_ended.ensures)
    c.by_dollars.ensures
