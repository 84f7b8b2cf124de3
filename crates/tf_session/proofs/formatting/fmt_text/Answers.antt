-- What was made is the layout.
use Rattle.std.proofs.Common.{List, ℕ, IfSome, subst}
use Rattle.edit_record.specs.Lists.Pieces.{Transforms}
use Rattle.tf_lint.specs.declared.step.NewText.{NewText}
use Rattle.tf_session.proofs.LayoutLemmas.{formats}
use Rattle.tf_session.proofs.formatting.fmt_text.Goals as goal

pub returns-clause-rewrites : goal.returns-clause-rewrites
returns-clause-rewrites c =
    formats c.args.text.now c.in_ok-change.change (record { scanned = c.in_ok-scanned.scanned; tree = c.in_ok-scanned.ensures.reads.0 })
    c.in_ok-scanned.ensures.reads.1 c.in_ok-change.ensures.layout c.in_ok-change.ensures.short c.in_ok-change.ensures.edits

pub returns-clause-change : goal.returns-clause-change
returns-clause-change c =
    subst (λ (x : List ℕ). IfSome c.in_ok-change.change (λ (made : NewText). Transforms made.edits x made.text.items)) c.in_ok-scanned.ensures.text c.in_ok-change.ensures.transforms
