use Rattle.std.proofs.Common.{sym, ◌∙◌}
use Rattle.hcl_layout.proofs.GapsLemmas.EditLemmas.{pushed, gap_unchanged}
use Rattle.hcl_layout.proofs.gaps.edits.push_gap.Goals as goal

pub returns-then-is_unchanged : goal.returns-then-is_unchanged
returns-then-is_unchanged c = gap_unchanged c.args.edits.now.items c.args.at c.args.gap.now c.args.new (sym c.is_unchanged.ensures ∙ c.if-is_unchanged.true)

pub returns : goal.returns
returns c =
    let text = c.deref.ensures.value ∙ c.in_ok-spaces.ensures in
    let edit = rw text at c.in_ok-new.ensures.edit in
    pushed c.args.edits.now.items c.push.new.self.items c.args.at c.args.gap.now c.args.new (rw edit at c.in_ok-push.ensures.items) (sym c.is_unchanged.ensures ∙ c.if-is_unchanged.false)
