-- One finding more.
use Rattle.std.proofs.Common.{◌≡◌, ◌∙◌, List, ap, rules, subst, sym}
use Rattle.std.specs.Prelude.{IfSome}
use Rattle.hcl_token.specs.Place.{place_of}
use Rattle.hcl_token.specs.Tokens.{Pair}
use Rattle.tf_lint.specs.Reports.{report_of}
use Rattle.tf_lint.proofs.CachedPlace.{begins_there, one_cached, place_there}
use Rattle.tf_lint.proofs.issue_list.issues_of.Goals as goal

pub loop-finding-preserved : goal.loop-finding-preserved
loop-finding-preserved c = record {
  reports = one_cached c.args.scanned.now.pairs c.args.found.now c.loop-finding.finding-index _ c.loop-finding.issues.items c.push.new.self.items c.in_ok-issue.issue c.loop-finding-test.true
      c.loop-finding.invariant.reports (c.in_ok-issue.ensures ∙ ap (report_of c.args.scanned.now.pairs) c.finding-item.is) (search rules);
  places = c.of-place.ensures.same ∙ c.loop-finding.invariant.places;
}

pub of-place-requires : goal.of-place-requires
of-place-requires c =
    rw (c.first.ensures, c.finding-item.is) (begins_there c.args.scanned.now.pairs _ c.args.found.now c.loop-finding.finding-index _ c.loop-finding.invariant.places (search rules) c.loop-finding-test.true)
