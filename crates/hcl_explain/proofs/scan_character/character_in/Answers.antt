use Rattle.std.proofs.Common.{rules, ◌≡◌, false, drop}
use Rattle.hcl_explain.specs.ScanExplanations.{IsCharacterIn, of}
use Rattle.hcl_explain.specs.Sequences.{IsClosedInComment}
use Rattle.hcl_explain.specs.declared.scan_error.ScanReason.TheVariants as reason
use Rattle.hcl_explain.proofs.WithoutLemmas.{in_second, is_not}
use Rattle.hcl_explain.proofs.scan_character.character_in.Goals as goal

pub returns-else-branch : goal.returns-else-branch
returns-else-branch c =
    let text = c.args.text.now in
    let refuted : c.in_ok-is_hidden.field-0 ≡ false = first_of (cc, search rules) in
    in_second (λ e. IsCharacterIn text c.args.opened c.args.at e)
    (λ e. IsClosedInComment (drop c.args.opened text)
    × (e ≡ of c.args.opened reason.Foreign))
    c.other_character_in.result (is_not c.in_ok-is_hidden.field-0 refuted c.in_ok-is_hidden.ensures)
    c.other_character_in.ensures
