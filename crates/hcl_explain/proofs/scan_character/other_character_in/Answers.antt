use Rattle.std.proofs.Common.{rules, ◌≡◌, true, false, drop, ap}
use Rattle.hcl_explain.specs.ScanExplanations.{IsNestedIn, IsOtherIn}
use Rattle.hcl_explain.specs.Sequences.{is_interpolation}
use Rattle.hcl_explain.proofs.SequenceLemmas.{in_first}
use Rattle.hcl_explain.proofs.WithoutLemmas.{in_second}
use Rattle.hcl_explain.proofs.scan_character.other_character_in.Goals as goal

pub returns-then-starts_with : goal.returns-then-starts_with
returns-then-starts_with c =
    let text = c.args.text.now in
    let same = ap is_interpolation c.bytes_from.ensures in
    let is : is_interpolation (drop c.args.at text) ≡ true = first_of (cc, search rules) in
    in_second (λ e. IsNestedIn text c.args.opened c.args.at e)
    (λ e. (is_interpolation (drop c.args.at text) ≡ false)
    × IsOtherIn text c.args.opened c.args.at e)
    c.nested.result is c.nested.ensures

pub returns-else-starts_with : goal.returns-else-starts_with
returns-else-starts_with c =
    let text = c.args.text.now in
    let same = ap is_interpolation c.bytes_from.ensures in
    let refuted : is_interpolation (drop c.args.at text) ≡ false = first_of (cc, search rules) in
    in_first (λ e. IsOtherIn text c.args.opened c.args.at e)
    (λ e. (is_interpolation (drop c.args.at text) ≡ true)
    × IsNestedIn text c.args.opened c.args.at e)
    c.other_in.result refuted c.other_in.ensures
