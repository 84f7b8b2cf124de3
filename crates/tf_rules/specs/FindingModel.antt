-- What a finding says.
use Rattle.std.specs.Prelude.{ℕ, Option}
use Rattle.tf_rules.specs.declared.finding.Message.{Message}
use Rattle.tf_rules.specs.declared.fix.Fix.{Fix}
use Rattle.tf_rules.specs.declared.rule.Rule.{Rule}

-- its rule, its tokens from number `first` to number `past` (exclusive), its message, and its fix
pub record FindingModel : Type 0 where
  pub rule : Rule
  pub first : ℕ
  pub past : ℕ
  pub message : Message
  pub fix : Option Fix
