use Rattle.std.proofs.Common.{◌≡◌, ◌++◌, length, drop, filter, map}
use Rattle.tf_findings.specs.RuleFilter.{is_found_by}
use Rattle.tf_fix.specs.Edits.CommentEdits.{comment_edit}
use Rattle.tf_rules.specs.ValidFindings.{AreValidFindings}
use Rattle.tf_fix.specs.Selection.{selected_from, selected}
use Rattle.tf_fix.proofs.comment.comment_edits.Given as goal

-- the edits up to here, with those of the rule's findings that are left, are all
abbrev pub invariant-loop-one : goal.invariant-loop-one
invariant-loop-one l =
    (l.edits.items ++ map (comment_edit l.scanned.pairs) (selected_from l.past (filter (is_found_by l.fn.rule) (drop l.one-index l.findings))) ≡ map (comment_edit l.scanned.pairs) (selected (filter (is_found_by l.fn.rule) l.findings)))
    × AreValidFindings (length l.scanned.pairs) (filter (is_found_by l.fn.rule) (drop l.one-index l.findings))
