-- What the steps of a fix say of a text, as a session says it.
use Rattle.std.proofs.Common.{ℕ, List, Err, inl, inr}
use Rattle.tf_rules.specs.declared.finding.Finding.{Finding}
use Rattle.tf_rules.specs.declared.rule.Rule.{Rule}
use Rattle.tf_rules.specs.declared.rule_set.RuleSet.{RuleSet}
use Rattle.tf_session.specs.declared.command.Command.TheVariants.{Fix}
use Rattle.tf_session.specs.Inner.Faults.{fault_of_fix}
use Rattle.tf_session.specs.Rewrites.{IsSyntaxFault, RefusesText}
use Rattle.tf_session.specs.Parsing.{DoesParse}
use Rattle.tf_lint.proofs.DoesNotParse.{parses_of}
use Rattle.tf_lint.specs.declared.fault.FixFault.{FixFault}
use Rattle.tf_lint.specs.declared.fault.FixFault.TheVariants.{Scan, Parse, FixBroken, TooLong, Memory}
use Rattle.tf_fix.specs.declared.parsed.Parsed.{Parsed}
use Rattle.tf_lint.specs.ParseFaults as steps
use Rattle.tf_fix.specs.ParsedTexts.{IsParseOf}
use Rattle.tf_lint.specs.ParseFaults.{IsUtf8WithinLimit}
use Rattle.tf_lint.specs.Steps.{StepBreaks, RunSteps, not_in_set, breaks, breaks_later, Refuses}

pub does_parse : (text : List ℕ) (p : Parsed) → IsParseOf text p → DoesParse text
does_parse text p reads = (p.tree, parses_of text p reads)

pub not_read : (text : List ℕ) (fault : FixFault) → steps.IsReadFault text fault → IsSyntaxFault text (fault_of_fix fault)
not_read text (Scan fault) h = h
not_read text (Parse fault) h = h
not_read text (FixBroken rule) h = h
not_read text TooLong h = h
not_read text Memory h = h

-- ---- what ends a run of steps

abbrev EndsSteps : FixFault → Type 0
EndsSteps (Scan fault) = ⊥
EndsSteps (Parse fault) = ⊥
EndsSteps (FixBroken rule) = Unit {0}
EndsSteps TooLong = Unit {0}
EndsSteps Memory = ⊥

ended_by : (rule : Rule) (p : Parsed) (found : List Finding) (fault : FixFault) → StepBreaks rule p found fault → EndsSteps fault
ended_by rule p found (Scan fault) h = h
ended_by rule p found (Parse fault) h = h
ended_by rule p found (FixBroken broken) h = tt
ended_by rule p found TooLong h = tt
ended_by rule p found Memory h = h

ends : {rules : RuleSet} {order : List Rule} {p : Parsed} {fault : FixFault} → RunSteps rules order p (Err fault) → EndsSteps fault
ends (not_in_set absent runs) = ends runs
ends (breaks {rule = rule} {p = p} {fault = fault} found has finds broken) = ended_by rule p found fault broken
ends (breaks_later found has finds short reads runs) = ends runs

-- why a fix refuses a text
pub refused_fix : (rules : RuleSet) (text : List ℕ) (fault : FixFault) → Refuses rules text fault → RefusesText (Fix rules) text (fault_of_fix fault)
refused_fix rules text (Scan fault) (inl h) = h
refused_fix rules text (Parse fault) (inl h) = h
refused_fix rules text (FixBroken rule) (inl h) = absurd h
refused_fix rules text TooLong (inl h) = absurd h
refused_fix rules text Memory (inl h) = h
refused_fix rules text (Scan fault) (inr h) = absurd (ends {fault = Scan fault} h.2)
refused_fix rules text (Parse fault) (inr h) = absurd (ends {fault = Parse fault} h.2)
refused_fix rules text (FixBroken rule) (inr h) = h
refused_fix rules text TooLong (inr h) = h
refused_fix rules text Memory (inr h) = absurd (ends {fault = Memory} h.2)
