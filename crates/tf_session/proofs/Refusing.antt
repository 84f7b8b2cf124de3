-- What a stream answers where the whole text is refused, and what it does to a text alone.
use Rattle.std.proofs.Common.{◌≡◌, ℕ, List, [], subst, refl, inl, inr}
use Rattle.tf_rules.specs.declared.rule_set.RuleSet.{RuleSet}
use Rattle.tf_stream.specs.Streams.{Source, Target, ReadAtFault, Untouched}
use Rattle.tf_stream.specs.declared.fault.ReadFault.{ReadFault}
use Rattle.tf_session.specs.declared.command.Command.{Command}
use Rattle.tf_session.specs.declared.command.Command.TheVariants.{Fmt}
use Rattle.tf_session.specs.declared.command.Done.{Done}
use Rattle.tf_session.specs.declared.command.Fault.{Fault}
use Rattle.tf_session.specs.Faults.{run_fault_of}
use Rattle.tf_session.specs.Inner.Faults.{run_fault_of_read}
use Rattle.tf_session.specs.Streams.{ReadsText, ReadAllFault}
use Rattle.tf_session.specs.Rewrites.{IsSyntaxFault, RefusesText}
use Rattle.tf_session.specs.Records.{DoesStep, RefusesStep}
use Rattle.tf_session.specs.Session.{SessionContents, without_records}
use Rattle.tf_session.specs.LintStream.{LintStreamFault}
use Rattle.tf_session.specs.Streaming.{StepStreamFault, CheckStreamFault}

-- ---- a session with a text and no record

alone : (contents : SessionContents) (text : List ℕ) → contents.text ≡ text → contents.records ≡ [] → contents ≡ without_records text
alone contents text same none = λ i. record { text = same i; records = none i }

pub steps_alone : (command : Command) (contents : SessionContents) (text : List ℕ) (d : Done) (new : SessionContents) → contents.text ≡ text → contents.records ≡ []
    → DoesStep command contents d new → DoesStep command (without_records text) d new
steps_alone command contents text d new same none does = subst (λ (x : SessionContents). DoesStep command x d new) (alone contents text same none) does

pub refuses_alone : (command : Command) (contents : SessionContents) (text : List ℕ) (refusal : Fault) → contents.text ≡ text → contents.records ≡ []
    → RefusesStep command contents refusal → RefusesStep command (without_records text) refusal
refuses_alone command contents text refusal same none why = subst (λ (x : SessionContents). RefusesStep command x refusal) (alone contents text same none) why

-- ---- errors

pub not_all_read : (limit : ℕ) (fault : ReadFault) (source : Source) → ReadAtFault limit fault source → ReadAllFault limit (run_fault_of_read fault) source
not_all_read limit ReadFault.Read source read = read
not_all_read limit ReadFault.Endless source read = read
not_all_read limit ReadFault.Memory source read = read

pub not_linted : (name : List ℕ) (rules : RuleSet) (refusal : Fault) (source : Source) (target : Target) (text : List ℕ)
    → ReadsText source text → IsSyntaxFault text refusal → Untouched target → LintStreamFault name rules (run_fault_of refusal) source target
not_linted name rules refusal source target text taken why still = inr (inl ((text, taken, refusal, refl, why), still))

pub not_stepped : (command : Command) (refusal : Fault) (source : Source) (target : Target) (text : List ℕ)
    → ReadsText source text → RefusesStep command (without_records text) refusal → Untouched target → StepStreamFault command (run_fault_of refusal) source target
not_stepped command refusal source target text taken why still = inr (inl ((text, taken, refusal, refl, why), still))

pub not_checked : (refusal : Fault) (source : Source) (text : List ℕ)
    → ReadsText source text → RefusesText Fmt text refusal → CheckStreamFault (run_fault_of refusal) source
not_checked refusal source text taken why = inr (text, taken, refusal, refl, why)
