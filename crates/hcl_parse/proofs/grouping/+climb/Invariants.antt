use Rattle.std.proofs.Common.{◌≡◌, ◌+◌, ◌*◌, suc, [], ◌++◌, length}
use Rattle.hcl_parse.specs.Chains.{before, after}
use Rattle.hcl_grammar.specs.Pure.NodeMakers as spec
use Rattle.hcl_parse.proofs.grouping.+climb.Given as goal

abbrev pub decreases-climb : goal.decreases-climb
decreases-climb l = 2 * l.level

abbrev pub decreases-links : goal.decreases-links
decreases-links l = 2 * l.level + 1

abbrev pub invariant-links-each : goal.invariant-links-each
invariant-links-each l = record {
  none : before l.level l.rest ≡ [];
  made : (spec.split_level l.level (spec.group l.level) (before (suc l.level) l.fn.rest)).1 ≡ l.found ++ (spec.split_level l.level (spec.group l.level) (before (suc l.level) l.rest)).1;
  ends : spec.chain_end l.past (before (suc l.level) l.fn.rest) ≡ spec.chain_end l.end (before (suc l.level) l.rest);
  left : after (suc l.level) l.fn.rest ≡ after (suc l.level) l.rest;
}

abbrev pub decreases-links-each : goal.decreases-links-each
decreases-links-each l = length l.rest
