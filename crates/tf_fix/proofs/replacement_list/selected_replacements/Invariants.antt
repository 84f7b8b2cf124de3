use Rattle.std.proofs.Common.{◌≡◌, ◌≤◌, ◌++◌, length, drop, filter}
use Rattle.std.specs.List.{flat_map}
use Rattle.tf_findings.specs.RuleFilter.{is_found_by}
use Rattle.tf_fix.specs.Inner.Views.{replacements, HaveBytes}
use Rattle.tf_fix.specs.Edits.FindingReplacements.{finding_replacements, step_replacements}
use Rattle.tf_rules.specs.ValidFindings.{AreValidFindings}
use Rattle.tf_fix.specs.Selection.{selected_from, selected}
use Rattle.tf_fix.proofs.replacement_list.selected_replacements.Given as goal

-- what is replaced up to here, with what is replaced for the rule's findings that are left, is all
abbrev pub invariant-loop-one : goal.invariant-loop-one
invariant-loop-one l =
    (replacements l.scanned.pairs l.all.items ++ flat_map (finding_replacements l.scanned.pairs) (selected_from l.past (filter (is_found_by l.fn.rule) (drop l.one-index l.findings))) ≡ step_replacements l.scanned.pairs (filter (is_found_by l.fn.rule) l.findings))
    × HaveBytes l.scanned.pairs l.all.items
    × (length (selected_from l.past (filter (is_found_by l.fn.rule) (drop l.one-index l.findings))) ≤ length (selected (filter (is_found_by l.fn.rule) l.findings)))
    × AreValidFindings (length l.scanned.pairs) (filter (is_found_by l.fn.rule) (drop l.one-index l.findings))
