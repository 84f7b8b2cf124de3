-- What is no regular file may not be taken, whoever has it.
use Rattle.std.proofs.Common.{◌∙◌, refl, sym}
use Rattle.std.proofs.lemmas.Bool.{false≢true}
use Rattle.std.specs.Fs.{metadata_mode}
use Rattle.tf_files.proofs.leftovers.refusal_by.Goals as goal

pub returns-then-not-is_file : goal.returns-then-not-is_file
returns-then-not-is_file c = (
  record { owner = 0; group = 0; mode = metadata_mode c.args.found.now },
  refl,
  (λ e. absurd (false≢true e), λ may. absurd (false≢true (sym c.if-not-is_file.true ∙ c.is_file.ensures.1 may.0))),
)
