-- What one rule finds is of that rule: the rule on comments finds comments that begin with `//`, and the others find none.
use Rattle.std.proofs.Common.{List, [], ◌∷◌}
use Rattle.std.specs.List.{AllByRecursion}
use Rattle.hcl_token.specs.Tokens.{Pair}
use Rattle.tf_rules.specs.declared.finding.Finding.{Finding}
use Rattle.tf_rules.specs.declared.rule.Rule.{Rule}
use Rattle.tf_rules.specs.declared.rule.Rule.TheVariants.{CommentSyntax}
use Rattle.tf_rules_laws.specs.OneRule.{MatchesRule}
use Rattle.tf_fix.specs.OfRule.{IsOfRule, AreOfRule}

of_one : (rule : Rule) (pairs : List Pair) (f : Finding) → MatchesRule pairs rule f → IsOfRule rule pairs f
of_one CommentSyntax pairs f o = (o.inside, o.has_slashes o.inside)
of_one rule pairs f o = o.inside

pub of_all : (rule : Rule) (pairs : List Pair) (fs : List Finding) → AllByRecursion (MatchesRule pairs rule) fs → AreOfRule rule pairs fs
of_all rule pairs [] h = tt
of_all rule pairs (f ∷ fs) h = (of_one rule pairs f h.0, of_all rule pairs fs h.1)
