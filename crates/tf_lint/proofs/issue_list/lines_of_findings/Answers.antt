-- One finding more.
use Rattle.std.proofs.Common.{◌∙◌, rules}
use Rattle.std.specs.Prelude.{string_bytes}
use Rattle.tf_lint.specs.Reports.{report_of}
use Rattle.tf_lint.proofs.LineLists.{one_more_line}
use Rattle.tf_lint.proofs.CachedPlace.{begins_there, place_there}
use Rattle.tf_lint.proofs.issue_list.lines_of_findings.Goals as goal

pub loop-finding-preserved : goal.loop-finding-preserved
loop-finding-preserved c = record {
  lines = one_more_line c.args.name.now (report_of c.args.scanned.now.pairs) c.args.found.now c.loop-finding.finding-index _ _ (string_bytes c.loop-finding.lines) _
      c.loop-finding-test.true c.finding-item.is c.loop-finding.invariant.lines c.in_ok-add_line.ensures;
  places = c.next_place-place.ensures.same ∙ c.loop-finding.invariant.places;
  place = place_there c.args.scanned.now.pairs _ _ _ c.loop-finding.invariant.places c.next_place-place.ensures.place;
}

pub next_place-place-requires-clause-within : goal.next_place-place-requires-clause-within
next_place-place-requires-clause-within c =
    rw (c.first-first.ensures, c.finding-item.is) (begins_there c.args.scanned.now.pairs _ c.args.found.now c.loop-finding.finding-index _ c.loop-finding.invariant.places (search rules) c.loop-finding-test.true)
