-- clap reads the option by its name.
use Rattle.std.proofs.Common.{◌∙◌, ℕ, List, ap}
use Rattle.clap.specs.Words.{found_of, one_of}
use Rattle.clap.proofs.WalkLemmas.{one_text-rows}
use Rattle.tf_cli.specs.Inner.ClapValues.{rows_in}
use Rattle.tf_cli.proofs.tasks.is_given.Goals as goal

pub returns : goal.returns
returns c =
    let read = one_text-rows (found_of c.args.matches.now) c.name.result.now ∙ ap (λ (id : List ℕ). one_of id (rows_in c.args.matches.now)) c.name.ensures in (
      λ yes. c.get_flag.ensures.value (read ∙ yes),
      λ no. c.get_flag.ensures.other (read ∙ no),
      λ none. c.get_flag.ensures.none (read ∙ none),
    )
