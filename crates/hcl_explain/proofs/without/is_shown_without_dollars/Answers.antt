use Rattle.std.proofs.Common.{rules, ◌≡◌, List, ℕ}
use Rattle.hcl_explain.specs.Sequences.{IsShownOpen, without_dollars}
use Rattle.hcl_explain.proofs.SequenceLemmas.{decided_of}
use Rattle.hcl_explain.proofs.without.is_shown_without_dollars.Goals as goal

pub returns : goal.returns
returns c =
    let same : c.as_slice.result.now ≡ without_dollars c.args.text.now c.args.at =
    first_of (cc, search rules) in
    decided_of (λ (x : List ℕ). IsShownOpen x c.args.opened) _ _ c.is_shown_open.result same
    c.is_shown_open.ensures
