-- What `fmt` makes of a text: its layout.
use Rattle.std.specs.Prelude.{◌≡◌, ◌≤◌, ℕ, List, length, Result, Ok, Err}
use Rattle.hcl_scan.specs.Tokenization.{MAX_TEXT}
use Rattle.hcl_scan.specs.Fault.{IsFault}
use Rattle.hcl_layout.specs.Gaps.Layout.{layout_edits}
use Rattle.hcl_layout.specs.Layouts.{IsLayout, IsTooLong}
use Rattle.tf_session.specs.declared.command.Fault.{Fault}
use Rattle.tf_session.specs.declared.command.Fault.TheVariants.{Scan, Parse, TooLong}
use Rattle.tf_session.specs.Parsing.{DoesParse}
use Rattle.tf_fix.specs.declared.parsed.Parsed.{Parsed}
use Rattle.tf_fix.specs.ParsedTexts.{IsParseOf}
use Rattle.tf_lint.specs.ParseFaults.{IsParseFault}
use Rattle.tf_lint.specs.Steps.{Rewrite}

-- A text that parses becomes its layout, if that is within the limit. The edits are exactly the
-- gaps that differ, each from the whole old gap to the whole new one. Nothing is fixed and no issue
-- is counted.
pub record Formats (text : List ℕ) (made : Rewrite) : Type 0 where
  pub parsed : Parsed
  pub reads : IsParseOf text parsed
  pub layout : IsLayout text made.text
  pub short : length made.text ≤ MAX_TEXT
  pub edits_are : made.edits ≡ layout_edits parsed.scanned
  pub fixed_is : made.fixed ≡ 0
  pub left_is : made.left ≡ 0

-- what a fmt makes of a text, or why it refuses it
abbrev pub FmtRewrites : List ℕ → Result Rewrite Fault → Type 0
FmtRewrites text (Ok made) = Formats text made
FmtRewrites text (Err (Scan fault)) = IsFault text fault
FmtRewrites text (Err (Parse fault)) = IsParseFault text fault
FmtRewrites text (Err TooLong) = DoesParse text × IsTooLong text
FmtRewrites text (Err _) = ⊥
