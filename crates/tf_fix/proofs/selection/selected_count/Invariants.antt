use Rattle.std.proofs.Common.{◌≡◌, ◌+◌, ◌≤◌, length, drop, filter}
use Rattle.tf_findings.specs.RuleFilter.{is_found_by}
use Rattle.tf_fix.specs.Selection.{selected_from, selected}
use Rattle.tf_fix.proofs.selection.selected_count.Given as goal

-- those counted, with those that are taken of the rule's findings that are left, are all
abbrev pub invariant-loop-one : goal.invariant-loop-one
invariant-loop-one l =
    (l.count + length (selected_from l.past (filter (is_found_by l.fn.rule) (drop l.one-index l.findings))) ≡ length (selected (filter (is_found_by l.fn.rule) l.findings))) × (l.count ≤ l.one-index)
