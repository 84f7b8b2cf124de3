use Rattle.std.proofs.Common.{◌≡◌, ℕ, ◌<◌, ◌+◌, false, List, get_or, inl, inr, refl, sym, ap, ◌∙◌, arith}
use Rattle.std.proofs.lemmas.Bool.Decides.{eqb_tells, not_from_Decides}
use Rattle.std.proofs.lemmas.Slice.Eq.{bytes_eq-Decides}
use Rattle.std.specs.Str.{bytes_eq}
use Rattle.tf_cli.specs.declared.options.Subcommand.{Subcommand}
use Rattle.tf_cli.specs.Options.{subcommand_name}
use Rattle.tf_cli.proofs.Commands.{all_commands, number_of}
use Rattle.tf_cli.proofs.options.Subcommand.by_name.Goals as goal

-- each command is at its number
name_at_number : (command d : Subcommand) → subcommand_name (get_or all_commands (number_of command) d) ≡ subcommand_name command
name_at_number Subcommand.Fmt d = refl
name_at_number Subcommand.Lint d = refl
name_at_number Subcommand.Fix d = refl
name_at_number Subcommand.Revert d = refl

differ : (xs ys : List ℕ) → false ≡ bytes_eq xs ys → xs ≡ ys → ⊥
differ xs ys e = not_from_Decides (bytes_eq xs ys) (bytes_eq-Decides xs ys) (sym e)

next : (name : List ℕ) (i : ℕ) (d : Subcommand) → ((command : Subcommand) → number_of command < i → name ≡ subcommand_name command → ⊥) → (name ≡ subcommand_name (get_or all_commands i d) → ⊥)
    → (command : Subcommand) → number_of command < i + 1 → name ≡ subcommand_name command → ⊥
next name i d so_far here command below same = elim (eqb_tells (number_of command) i) [
  | inl a ↦ here (same ∙ (sym (name_at_number command d) ∙ ap (λ k. subcommand_name (get_or all_commands k d)) a.1))
  | inr a ↦ so_far command (omega (arith, below, a.1)) same
]

pub loop-i-preserved : goal.loop-i-preserved
loop-i-preserved c = next c.args.name.now c.loop-i.i _ c.loop-i.invariant (λ same. differ c.args.name.now _ (sym c.if-eq.false ∙ c.eq.ensures) (same ∙ sym c.name.ensures))
