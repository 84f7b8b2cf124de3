-- clap reads the option by its name, as a number of 32 bits.
use Rattle.std.proofs.Common.{◌∙◌, ℕ, List, ap}
use Rattle.std.specs.Str.Parse.{ParsesUnsigned, ExplainsUnsignedError, HasUnsignedDigitsIfOk}
use Rattle.clap.specs.Words.{found_of, one_of}
use Rattle.clap.proofs.WalkLemmas.{one_text-rows}
use Rattle.tf_cli.specs.Inner.ClapValues.{rows_in}
use Rattle.tf_cli.proofs.Values.{number_read}
use Rattle.tf_cli.proofs.tasks.taken_number.Goals as goal

pub returns : goal.returns
returns c =
    let read = one_text-rows (found_of c.args.matches.now) c.name.result.now ∙ ap (λ (id : List ℕ). one_of id (rows_in c.args.matches.now)) c.name.ensures in (
      λ none. c.get_one.ensures.none (read ∙ none),
      λ text some. number_read _ (λ bs r. ParsesUnsigned 32 10 bs r × ExplainsUnsignedError 10 bs r × HasUnsignedDigitsIfOk bs r) (λ bs r given. given.0)
          text c.get_one.result (c.get_one.ensures.value text (read ∙ some)),
    )
