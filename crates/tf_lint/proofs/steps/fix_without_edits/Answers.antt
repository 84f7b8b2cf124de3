-- Steps of which no edits were kept.
use Rattle.std.proofs.Common.{List, [], ◌∷◌, ℕ, length, refl, subst}
use Rattle.std.proofs.lemmas.List.{append-nil}
use Rattle.edit_record.specs.Lists.Pieces.{Transforms, as_list}
use Rattle.edit_record.specs.Lists.Pieces.Piece.{Kept}
use Rattle.tf_lint.specs.Inner.LeadsTo.{IsFixOutcome}
use Rattle.tf_lint.proofs.steps.fix_without_edits.Goals as goal

-- no edits leave a text as it is
stays : (text : List ℕ) → Transforms (as_list (length text) []) text text
stays text = record { len = refl; pieces = Kept text ∷ []; old_is = append-nil text; new_is = append-nil text; edits_are = refl }

pub returns-in-Unchanged-clause-made : goal.returns-in-Unchanged-clause-made
returns-in-Unchanged-clause-made c =
    let (fixes, left) = subst (IsFixOutcome c.args.rules c.args.text.now) c.in-Unchanged.is c.in_ok-fixed.ensures.outcome in
    (as_list (length c.args.text.now) [], stays c.args.text.now, fixes)

pub returns-in-Unchanged-clause-left : goal.returns-in-Unchanged-clause-left
returns-in-Unchanged-clause-left c =
    let (fixes, left) = subst (IsFixOutcome c.args.rules c.args.text.now) c.in-Unchanged.is c.in_ok-fixed.ensures.outcome in left

pub returns-in-Edited-clause-made : goal.returns-in-Edited-clause-made
returns-in-Edited-clause-made c =
    let (all, leads, fixes, left) = subst (IsFixOutcome c.args.rules c.args.text.now) c.in-Edited.is c.in_ok-fixed.ensures.outcome in (all, leads.transforms, fixes)

pub returns-in-Edited-clause-left : goal.returns-in-Edited-clause-left
returns-in-Edited-clause-left c =
    let (all, leads, fixes, left) = subst (IsFixOutcome c.args.rules c.args.text.now) c.in-Edited.is c.in_ok-fixed.ensures.outcome in left
