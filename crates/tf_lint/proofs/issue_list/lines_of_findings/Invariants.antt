-- The lines of the findings up to here.
use Rattle.std.proofs.Common.{◌≡◌, take, map}
use Rattle.std.specs.Prelude.{string_bytes}
use Rattle.hcl_token.specs.Place.{place_of}
use Rattle.tf_lint.specs.Reports.{report_of, report_lines}
use Rattle.tf_lint.proofs.issue_list.lines_of_findings.Given as goal

abbrev pub invariant-loop-finding : goal.invariant-loop-finding
invariant-loop-finding l = record {
  lines : string_bytes l.lines ≡ report_lines l.fn.name (map (report_of l.fn.scanned.pairs) (take l.finding-index l.found));
  places : l.places ≡ l.fn.scanned.pairs;
  place : l.place ≡ place_of l.fn.scanned.pairs l.last;
}
