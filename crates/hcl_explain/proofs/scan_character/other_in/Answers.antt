use Rattle.std.proofs.Common.{rules, ◌≡◌, true, false}
use Rattle.hcl_explain.specs.ScanExplanations.{IsByUnclosed, IsByLine}
use Rattle.hcl_explain.specs.Sequences.{IsEnded}
use Rattle.hcl_explain.proofs.SequenceLemmas.{in_first}
use Rattle.hcl_explain.proofs.WithoutLemmas.{in_second, is_not}
use Rattle.hcl_explain.proofs.scan_character.other_in.Goals as goal

pub returns-then-branch : goal.returns-then-branch
returns-then-branch c =
    let is : c.in_ok-is_ended.field-0 ≡ true = first_of (cc, search rules) in
    in_first (λ e. IsByUnclosed c.args.text.now c.args.opened c.args.at e)
    (λ e. (IsEnded c.args.text.now c.args.opened c.args.at → ⊥)
    × IsByLine c.args.text.now c.args.opened c.args.at e)
    c.by_unclosed.result (c.in_ok-is_ended.ensures.0 is) c.by_unclosed.ensures

pub returns-else-branch : goal.returns-else-branch
returns-else-branch c =
    let refuted : c.in_ok-is_ended.field-0 ≡ false = first_of (cc, search rules) in
    in_second (λ e. IsByLine c.args.text.now c.args.opened c.args.at e)
    (λ e. IsEnded c.args.text.now c.args.opened c.args.at
    × IsByUnclosed c.args.text.now c.args.opened c.args.at e)
    c.by_line.result (is_not c.in_ok-is_ended.field-0 refuted c.in_ok-is_ended.ensures)
    c.by_line.ensures
