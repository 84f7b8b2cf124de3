-- Which rule has found something.
use Rattle.std.specs.Prelude.{◌==◌, Bool}
use Rattle.tf_rules.specs.declared.finding.Finding.{Finding}
use Rattle.tf_rules.specs.declared.rule.Rule.{Rule}
use Rattle.tf_findings.specs.Order.{rank}

-- whether it is this rule that found it
abbrev pub is_found_by : Rule → Finding → Bool
is_found_by rule f = rank f.rule == rank rule
