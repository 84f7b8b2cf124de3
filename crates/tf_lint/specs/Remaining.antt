-- What a fix leaves.
use Rattle.std.specs.Prelude.{ℕ, List, length}
use Rattle.hcl_scan.specs.TokenLists.{IsTokenListOf}
use Rattle.tf_rules.specs.declared.rule_set.RuleSet.{RuleSet}
use Rattle.tf_rules.specs.ValidFindings.{AreValidFindings}
use Rattle.tf_fix.specs.declared.parsed.Parsed.{Parsed}
use Rattle.tf_fix.specs.OneStep.{RulesFind}
use Rattle.tf_fix.specs.ParsedTexts.{IsParseOf}
use Rattle.tf_lint.specs.declared.remaining.Remaining.{Remaining}

-- how many issues are left
abbrev pub remaining_count : Remaining → ℕ
remaining_count r = length r.found.items

-- these are the tokens of the text, which parses, and what the rules of the set find in it
abbrev pub IsRemaining : RuleSet → List ℕ → Remaining → Type 0
IsRemaining rules text r =
    (p : Parsed) × IsParseOf text p × IsTokenListOf p.scanned r.tokens × RulesFind rules p r.found.items
    × AreValidFindings (length p.scanned.pairs) r.found.items
