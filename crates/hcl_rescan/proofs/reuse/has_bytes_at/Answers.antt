use Rattle.std.proofs.Common.{◌++◌, List, ℕ, ◌+◌, length, drop, ap, ◌∙◌, sym, arith, ◌≤◌}
use Rattle.std.proofs.lemmas.List.Folds.{drop_split}
use Rattle.hcl_rescan.proofs.reuse.has_bytes_at.Goals as goal

pub returns : goal.returns
returns c = λ same.
    let text = c.args.text.now in
    let at = c.args.at in
    let end = at + length c.args.bytes.now in
    let ordered : at ≤ end = omega arith in
    drop_split text at end ordered ∙ ap (λ (x : List ℕ). x ++ drop end text) (sym c.slice.ensures ∙ c.same_bytes.ensures same)
