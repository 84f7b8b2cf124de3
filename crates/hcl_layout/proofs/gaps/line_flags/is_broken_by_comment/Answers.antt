use Rattle.std.proofs.Common.{slice_range, sym, ◌∙◌}
use Rattle.std.proofs.lemmas.Bool.{not-true}
use Rattle.hcl_layout.proofs.GapsLemmas.LineFlagLemmas.{quiet_breaks}
use Rattle.hcl_layout.proofs.gaps.line_flags.is_broken_by_comment.Goals as goal

pub returns-then-not-line : goal.returns-then-not-line
returns-then-not-line c =
    quiet_breaks (slice_range c.args.scanned.now.pairs c.args.at c.args.line.past) (sym c.requires.flags.has_comment ∙ not-true c.args.line.has_comment c.if-not-line.true)
