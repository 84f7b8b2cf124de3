-- A text that was searched.
use Rattle.std.proofs.Common.{◌≡◌, ◌≤◌, ◌⊎◌, ℕ, List, length, refl, sym, subst, inl, inr}
use Rattle.std.specs.Prelude.{IsUtf8}
use Rattle.hcl_grammar.specs.Bodies.{IsFile}
use Rattle.hcl_grammar.specs.declared.tree.Tree.{Tree}
use Rattle.hcl_grammar.specs.declared.bounds.TheConstants.{MAX_NESTING}
use Rattle.hcl_text_laws.specs.Parses.{Parses}
use Rattle.hcl_scan.specs.Tokenization.{MAX_TEXT, IsTokenization}
use Rattle.hcl_scan.specs.Fault.{IsFault}
use Rattle.hcl_scan.specs.declared.fault.ScanFault.{ScanFault}
use Rattle.hcl_scan.specs.declared.fault.ScanFault.TheVariants as scan
use Rattle.hcl_scan.specs.Follows.{tokens_of}
use Rattle.hcl_text_laws.specs.Faults.{IsMemory, IsMemoryOrDeep}
use Rattle.hcl_text_laws.specs.declared.fault.ParseFault.{ParseFault}
use Rattle.hcl_token.specs.TokenizedText.{TokenizedText}
use Rattle.tf_findings.specs.Findings.{AreFindings}
use Rattle.tf_lint.specs.LintedMembers.{AreLintedMembers}
use Rattle.tf_rules.specs.ValidFindings.{AreValidFindings}
use Rattle.tf_lint.proofs.DoesNotParse.{not_parsed}
use Rattle.tf_lint.specs.Faults.{fault_of_scan, fault_of_parse, fault_of_lint}
use Rattle.tf_fix.specs.OneStep.{RulesFind, AreFindingsOf, IsTooLong}
use Rattle.tf_fix.specs.ParsedTexts.{IsParseOf}
use Rattle.tf_lint.specs.ParseFaults.{IsReadFault}
use Rattle.tf_lint.specs.LintedText.{IsLintOf}
use Rattle.tf_lint.specs.Steps.{CannotStep}
use Rattle.tf_lint.specs.declared.fault.FixFault.{FixFault}
use Rattle.tf_lint.specs.declared.fault.FixFault.TheVariants.{TooLong, Memory}
use Rattle.tf_fix.specs.declared.fault.LintFault.{LintFault}
use Rattle.tf_fix.specs.declared.fault.LintFault.TheVariants as lint
use Rattle.tf_fix.specs.declared.parsed.Parsed.{Parsed}
use Rattle.tf_rules.specs.declared.finding.Finding.{Finding}
use Rattle.tf_rules.specs.declared.rule.Rule.{Rule}
use Rattle.tf_lint.specs.declared.linted_text.LintedText.{LintedText}

-- a text that was scanned and searched is read, and this is what was found in it
pub read_whole : (text : List ℕ) (s : LintedText) → s.scanned.text ≡ text → IsTokenization text s.scanned.pairs s.scanned.last
    → (t : Tree) × IsFile (tokens_of s.scanned.pairs) MAX_NESTING t × AreFindings s.rules s.scanned.pairs t.body.members s.found.items
    → AreLintedMembers s.rules s.scanned.pairs s.members.items → AreValidFindings (length s.scanned.pairs) s.found.items → (p : Parsed) × IsParseOf text p × IsLintOf p s
read_whole text s same tokenized read seen valid =
    let p : Parsed = record { scanned = s.scanned; tree = read.0 } in
    let own = subst (λ (t : List ℕ). IsTokenization t s.scanned.pairs s.scanned.last) (sym same) tokenized in
    (p, (same, own, read.1), record { same = refl; reads = (refl, own, read.1); findings_are = read.2; valid = valid; members_linted = seen })

-- a text that is not tokenized
is_fault : (text : List ℕ) (why : ScanFault) → IsFault text why → IsReadFault text (fault_of_scan why)
is_fault text scan.Memory (inl long) = absurd (cc long.0)
is_fault text scan.Memory (inr (inl not_utf8)) = absurd (cc not_utf8.1)
is_fault text scan.Memory (inr (inr stops)) = (stops.0, stops.1)
is_fault text _ fault = fault

pub not_tokenized : (text : List ℕ) (why : ScanFault) → ((why ≡ scan.Memory) × (length text ≤ MAX_TEXT) × IsUtf8 text) ⊎ IsFault text why → IsReadFault text (fault_of_scan why)
not_tokenized text why (inl wanted) = subst (λ (f : ScanFault). IsReadFault text (fault_of_scan f)) (sym wanted.0) (wanted.1, wanted.2)
not_tokenized text why (inr fault) = is_fault text why fault

-- a text that was scanned, and does not parse
pub not_whole : (text : List ℕ) (tokenized : TokenizedText) (why : ParseFault) (fault : FixFault) → tokenized.text ≡ text → IsTokenization text tokenized.pairs tokenized.last → fault ≡ fault_of_parse why
    → ((t : Tree) → Parses tokenized.text t → IsMemory why) → ((d : ℕ) (t : Tree) → IsFile (tokens_of tokenized.pairs) d t → IsMemoryOrDeep why) → IsReadFault text fault
not_whole text tokenized why fault same is e only deeper =
    subst (IsReadFault text) (sym e) (not_parsed text tokenized.pairs tokenized.last why is (λ t p. only t (subst (λ (x : List ℕ). Parses x t) (sym same) p)) deeper)

-- the text, by its tree, is one in which that was found
pub is_found : (p : Parsed) (s : LintedText) (found : List Finding) → found ≡ s.found.items → IsLintOf p s → AreFindingsOf s.rules p s.scanned found
is_found p s found is h = (h.same, h.reads, subst (λ fs. RulesFind s.rules p fs) (sym is) h.findings_are)

pub valid_of : (p : Parsed) (s : LintedText) → IsLintOf p s → AreValidFindings (length s.scanned.pairs) s.found.items
valid_of p s h = subst (λ (t : TokenizedText). AreValidFindings (length t.pairs) s.found.items) h.same h.valid

-- why a step is refused, as a `FixFault`
pub cannot : (rule : Rule) (p : Parsed) (fault : LintFault) → (fault ≡ lint.Memory) ⊎ ((fault ≡ lint.TooLong) × IsTooLong rule p)
    → (fault_of_lint fault ≡ Memory) ⊎ ((fault_of_lint fault ≡ TooLong) × CannotStep rule p (fault_of_lint fault))
cannot rule p fault (inl memory) = rw memory (inl refl)
cannot rule p fault (inr (is, long)) = rw is (inr (refl, long))
