-- The lines of the issues of a text, and what a call that lints a stream read, wrote and returns.
use Rattle.std.specs.Prelude.{◌≡◌, ℕ, List, length}
use Rattle.tf_rules.specs.declared.rule_set.RuleSet.{RuleSet}
use Rattle.tf_lint.specs.Issues.{AreReports}
use Rattle.tf_lint.specs.Reports.{Report, report_lines}
use Rattle.tf_stream.specs.Streams.{Source, Target, WritesBytes}
use Rattle.tf_session.specs.declared.fault.RunFault.{RunFault}
use Rattle.tf_fix.specs.declared.parsed.Parsed.{Parsed}
use Rattle.tf_fix.specs.ParsedTexts.{IsParseOf}
use Rattle.tf_session.specs.Rewrites.{IsSyntaxFault}
use Rattle.tf_session.specs.Streams.{ReadsText, StreamFault}

-- the text parses, and these are the issues of the rules in it
abbrev pub HasIssues : RuleSet → List ℕ → List Report → Type 0
HasIssues rules text found =
    (p : Parsed) × IsParseOf text p × AreReports rules p.scanned.pairs p.tree.body.members found

-- these are the lines of the issues of a text, and this is their number
abbrev pub AreLines : List ℕ → RuleSet → List ℕ → List ℕ → ℕ → Type 0
AreLines name rules text lines count =
    (found : List Report) × HasIssues rules text found × (lines ≡ report_lines name found)
    × (count ≡ length found)

-- these are the lines of the issues of a text
abbrev pub HasLines : List ℕ → RuleSet → List ℕ → List ℕ → Type 0
HasLines name rules text lines = (count : ℕ) × AreLines name rules text lines count

-- The source had a whole text, and the lines of its issues, in this number, were written to the
-- target.
abbrev pub LintsStream : List ℕ → RuleSet → ℕ → Source → Target → Type 0
LintsStream name rules count source target =
    (text : List ℕ) × (lines : List ℕ) × ReadsText source text
    × AreLines name rules text lines count × WritesBytes target lines

-- There is no whole text, or it does not parse, or not all lines were written.
abbrev pub LintStreamFault : List ℕ → RuleSet → RunFault → Source → Target → Type 0
LintStreamFault name rules fault source target =
    StreamFault IsSyntaxFault (HasLines name rules) fault source target
