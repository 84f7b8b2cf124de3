-- clap says of which kinds an error is that is printed on standard error.
use Rattle.std.proofs.Common.{◌∙◌, sym}
use Rattle.std.proofs.lemmas.Bool.{false≢true}
use Rattle.clap.specs.Values.{kind_of}
use Rattle.tf_cli.proofs.Reading.{help_or_version}
use Rattle.tf_cli.proofs.exits.exit_with_text.Goals as goal

pub returns-then-use_stderr : goal.returns-then-use_stderr
returns-then-use_stderr c = c.use_stderr.ensures.0 c.if-use_stderr.true

pub returns : goal.returns
returns c = help_or_version (kind_of c.args.error.now) (λ both. false≢true (sym c.if-use_stderr.false ∙ c.use_stderr.ensures.1 both))
