-- What a command makes of a text. By which edits a fix makes it, `FixRewritesBy` says.
use Rattle.std.specs.Prelude.{ℕ, Bool, true, false, List, Result, MatchBool, Err}
use Rattle.hcl_scan.specs.Fault.{IsFault}
use Rattle.tf_session.specs.declared.command.Command.{Command}
use Rattle.tf_session.specs.declared.command.Command.TheVariants.{Fmt, Fix, Revert, Take}
use Rattle.tf_session.specs.declared.command.Fault.{Fault}
use Rattle.tf_session.specs.declared.command.Fault.TheVariants.{Scan, Parse, Memory}
use Rattle.tf_lint.specs.ParseFaults.{IsUtf8WithinLimit, IsParseFault}
use Rattle.tf_lint.specs.Steps.{Rewrite}
use Rattle.tf_session.specs.Fixing.{FixRewrites}
use Rattle.tf_session.specs.Formatting.{FmtRewrites}

-- revert and take make no text of the top
abbrev pub Rewrites : Command → List ℕ → Result Rewrite Fault → Type 0
Rewrites Fmt text answer = FmtRewrites text answer
Rewrites (Fix rules) text answer = FixRewrites rules text answer
Rewrites Revert text answer = ⊥
Rewrites (Take n) text answer = ⊥

-- whether memory ran out inside the command
abbrev pub is_memory_fault : Fault → Bool
is_memory_fault Memory = true
is_memory_fault _ = false

-- why a text is not read: it has no tokens, it does not parse, or memory ran out while it was read
abbrev pub IsSyntaxFault : List ℕ → Fault → Type 0
IsSyntaxFault text (Scan fault) = IsFault text fault
IsSyntaxFault text (Parse fault) = IsParseFault text fault
IsSyntaxFault text Memory = IsUtf8WithinLimit text
IsSyntaxFault text _ = ⊥

-- why a command refuses a text: it can't make another of it, or memory ran out while it read it
abbrev pub RefusesText : Command → List ℕ → Fault → Type 0
RefusesText command text fault =
    MatchBool (is_memory_fault fault) (IsUtf8WithinLimit text) (Rewrites command text (Err fault))
