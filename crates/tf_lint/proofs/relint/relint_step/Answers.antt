-- A text that is not read, although memory did not run out, does not parse.
use Rattle.std.proofs.Common.{◌≡◌, ◌≢◌, ◌⊎◌, ℕ, List, Result, Ok, Err, inl, inr, subst}
use Rattle.std.specs.Prelude.{IfErr}
use Rattle.tf_rules.specs.declared.rule.Rule.{Rule}
use Rattle.tf_lint.specs.ParseFaults.{DoesNotParse, IsReadFault}
use Rattle.tf_lint.specs.declared.fault.FixFault.{FixFault}
use Rattle.tf_lint.specs.declared.fault.FixFault.TheVariants.{FixBroken, Memory}
use Rattle.tf_lint.proofs.DoesNotParse.{unread}
use Rattle.tf_lint.proofs.relint.relint_step.Goals as goal

named : {T : Type 0} (rule : Rule) (text : List ℕ) (result given : Result T FixFault) → ((why : FixFault) → IsReadFault text why → (why ≡ Memory) ⊎ DoesNotParse text)
    → IfErr result (λ e. (why : FixFault) × (given ≡ Err why) × (((why ≡ Memory) × (e ≡ Memory)) ⊎ ((why ≢ Memory) × (e ≡ FixBroken rule))))
    → IfErr given (IsReadFault text) → IfErr result (λ e. (e ≡ Memory) ⊎ ((e ≡ FixBroken rule) × DoesNotParse text))
named rule text (Ok x) given cases is read = tt
named {T} rule text (Err e) given cases (why, is, which) read = elim which [
  | inl memory ↦ inl memory.1
  | inr broken ↦ elim (cases why (subst (λ (g : Result T FixFault). IfErr g (IsReadFault text)) is read)) [
    | inl memory ↦ absurd (broken.0 memory)
    | inr not_parsed ↦ inr (broken.1, not_parsed)
  ]
]

pub returns-clause-fault : goal.returns-clause-fault
returns-clause-fault c =
    named c.args.rule c.args.text.now c.name_broken_step.result c.relint_text-relinted.result (unread c.one_tokenization.ensures c.no_tokenization_with_fault.ensures c.args.text.now)
    c.name_broken_step.ensures.err c.relint_text-relinted.ensures.fault
