-- How many files the command takes is in its row.
use Rattle.std.proofs.Common.{◌∙◌, refl, subst, sym}
use Rattle.tf_cli.specs.Parsing.{with_file_count}
use Rattle.tf_cli.specs.Inner.ClapValues.{HasChangedRule}
use Rattle.tf_cli.specs.declared.options.FileCount.{FileCount}
use Rattle.tf_cli.proofs.clap_commands.with_file_count.Goals as goal

pub returns-in-Several : goal.returns-in-Several
returns-in-Several c =
    subst (λ (count : FileCount). HasChangedRule (with_file_count count) c.args.argument c.as_files.result) (sym c.in-Several.is ∙ c.info.ensures.file_count) c.as_files.ensures

pub returns-in-One : goal.returns-in-One
returns-in-One c =
    subst (λ (count : FileCount). HasChangedRule (with_file_count count) c.args.argument c.args.argument) (sym c.in-One.is ∙ c.info.ensures.file_count) (refl, refl)
