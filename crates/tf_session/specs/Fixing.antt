-- What `fix` makes of a text: the steps of its rules one after another.
use Rattle.std.specs.Prelude.{ℕ, List, Result, Ok, Err}
use Rattle.hcl_scan.specs.Fault.{IsFault}
use Rattle.tf_rules.specs.declared.rule_set.RuleSet.{RuleSet}
use Rattle.tf_session.specs.declared.command.Fault.{Fault}
use Rattle.tf_session.specs.declared.command.Fault.TheVariants.{Scan, Parse, FixBroken, TooLong}
use Rattle.tf_lint.specs.declared.fault.FixFault.{FixFault}
use Rattle.tf_lint.specs.ParseFaults.{IsParseFault}
use Rattle.tf_lint.specs.Steps.{Rewrite, FixesText, Fixes, Breaks}

-- what a fix makes of a text, whatever its edits are, or why it refuses it
abbrev pub FixRewrites : RuleSet → List ℕ → Result Rewrite Fault → Type 0
FixRewrites rules text (Ok made) = FixesText rules text made
FixRewrites rules text (Err (Scan fault)) = IsFault text fault
FixRewrites rules text (Err (Parse fault)) = IsParseFault text fault
FixRewrites rules text (Err (FixBroken rule)) = Breaks rules text (FixFault.FixBroken rule)
FixRewrites rules text (Err TooLong) = Breaks rules text FixFault.TooLong
FixRewrites rules text (Err _) = ⊥

-- what a fix makes of a text, by the edits of its steps, or why it refuses it
abbrev pub FixRewritesBy : RuleSet → List ℕ → Result Rewrite Fault → Type 0
FixRewritesBy rules text (Ok made) = Fixes rules text made
FixRewritesBy rules text (Err fault) = FixRewrites rules text (Err fault)
