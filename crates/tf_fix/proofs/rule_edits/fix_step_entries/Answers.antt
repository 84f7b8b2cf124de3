use Rattle.std.proofs.Common.{filter}
use Rattle.tf_findings.specs.RuleFilter.{is_found_by}
use Rattle.tf_fix.proofs.SelectionLemmas.{step_order}
use Rattle.tf_fix.proofs.rule_edits.fix_step_entries.Goals as goal

pub replacement_edits-requires-clause-order : goal.replacement_edits-requires-clause-order
replacement_edits-requires-clause-order c =
    rw (c.deref.ensures.value, c.in_ok-all.ensures.items) (step_order c.args.scanned.now.pairs (filter (is_found_by c.args.rule) c.args.findings.now) c.requires.valid)
