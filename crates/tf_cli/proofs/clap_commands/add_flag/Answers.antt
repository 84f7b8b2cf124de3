-- The command has the option or not.
use Rattle.std.proofs.Common.{◌∙◌, inl, inr, refl, rules, sym}
use Rattle.tf_cli.proofs.clap_commands.add_flag.Goals as goal

pub returns-then-not-is_of : goal.returns-then-not-is_of
returns-then-not-is_of c = inl (sym c.is_of.ensures ∙ c.if-not-is_of.true, refl)

pub returns : goal.returns
returns c =
    inr (sym c.is_of.ensures ∙ c.if-not-is_of.false, c.option_argument-argument.result, c.option_argument-argument.ensures, search rules)
