use Rattle.std.proofs.Common.{drop, ap, ◌∙◌, ◌==◌}
use Rattle.std.specs.List.{starts_with}
use Rattle.hcl_scan.proofs.HeredocPlaces.{starts_with_bytes, part_to_end}
use Rattle.hcl_scan.proofs.heredoc.has_marker_at.Goals as goal

pub returns-clause-value : goal.returns-clause-value
returns-clause-value c =
    let rest = c.slice.ensures ∙ part_to_end c.args.text.now c.args.at in
    c.starts_with.ensures.value ∙ ap (λ t. starts_with (λ a b. a == b) t c.args.marker.now) rest ∙ starts_with_bytes c.args.marker.now (drop c.args.at c.args.text.now)
