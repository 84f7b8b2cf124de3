-- The reports of the findings up to here.
use Rattle.std.proofs.Common.{◌≡◌, take, map}
use Rattle.tf_lint.specs.Issues.{reports}
use Rattle.tf_lint.specs.Reports.{report_of}
use Rattle.tf_lint.proofs.issue_list.issues_of.Given as goal

abbrev pub invariant-loop-finding : goal.invariant-loop-finding
invariant-loop-finding l = record {
  reports : reports l.issues.items ≡ map (report_of l.fn.scanned.pairs) (take l.finding-index l.found);
  places : l.places ≡ l.fn.scanned.pairs;
}
