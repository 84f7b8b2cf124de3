-- Whether a text begins with the marker, as std states it and as the scanner does.
use Rattle.std.proofs.Common.{◌∙◌}
use Rattle.hcl_explain.proofs.LineLemmas.{starts_with_bytes}
use Rattle.hcl_explain.proofs.lines.has_marker.Goals as goal

pub returns : goal.returns
returns c =
    c.starts_with.ensures.value ∙ starts_with_bytes c.args.marker.now c.args.text.now
