-- An error of another kind is not the end of memory.
use Rattle.std.proofs.Common.{◌∙◌, sym}
use Rattle.std.proofs.lemmas.Bool.{false≢true}
use Rattle.tf_cli.proofs.exits.exit_for.Goals as goal

pub returns-clause-memory : goal.returns-clause-memory
returns-clause-memory c = λ memory. absurd (false≢true (sym c.if-is_out_of_memory.false ∙ c.is_out_of_memory.ensures.1 memory))
