-- A text that was searched, and its tree.
use Rattle.std.specs.Prelude.{◌≡◌, length}
use Rattle.hcl_scan.specs.TokenLists.{IsTokenListOf}
use Rattle.tf_lint.specs.LintedMembers.{AreLintedMembers}
use Rattle.tf_rules.specs.ValidFindings.{AreValidFindings}
use Rattle.tf_fix.specs.ParsedTexts.{IsParseOf}
use Rattle.tf_fix.specs.OneStep.{RulesFind}
use Rattle.tf_fix.specs.declared.parsed.Parsed.{Parsed}
use Rattle.tf_lint.specs.declared.linted_text.PreviousText.{PreviousText}
use Rattle.tf_lint.specs.declared.linted_text.LintedText.{LintedText}

-- this is the text, with the tree over its tokens, in which the rules found that
pub record IsLintOf (p : Parsed) (linted : LintedText) : Type 0 where
  pub same : p.scanned ≡ linted.scanned
  pub reads : IsParseOf p.scanned.text p
  pub findings_are : RulesFind linted.rules p linted.found.items
  pub valid : AreValidFindings (length p.scanned.pairs) linted.found.items
  -- and so they found in each attribute and block of its body
  pub members_linted : AreLintedMembers linted.rules linted.scanned.pairs linted.members.items

-- this is what is kept of the text, with the tree over its tokens
pub record IsPreviousOf (p : Parsed) (before : PreviousText) : Type 0 where
  pub tokens : IsTokenListOf p.scanned before.tokens
  pub reads : IsParseOf p.scanned.text p
  pub members_linted : AreLintedMembers before.rules p.scanned.pairs before.members.items
