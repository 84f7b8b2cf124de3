use Rattle.std.proofs.Common.{sym, ◌∙◌}
use Rattle.hcl_layout.proofs.GapsLemmas.EditLemmas.{stays_spaced, stays_if_kept}
use Rattle.hcl_layout.proofs.gaps.edits.is_unchanged.Goals as goal

pub returns-then-is_spaces : goal.returns-then-is_spaces
returns-then-is_spaces c = sym (stays_spaced c.args.gap.now c.args.new (sym c.is_spaces.ensures ∙ c.if-is_spaces.true))

pub returns : goal.returns
returns c = sym (stays_if_kept c.args.gap.now c.args.new (sym c.is_spaces.ensures ∙ c.if-is_spaces.false))
