-- Whether what is said of arguments names a command that writes FILE.
use Rattle.std.specs.Prelude.{Bool, true, false, codes, bytes_eq}
use Rattle.tf_cli.specs.declared.advice.Advice.{Advice}
use Rattle.tf_cli.specs.declared.advice.Advice.TheVariants as said
use Rattle.tf_cli.specs.declared.counterparts.Line.{Line}
use Rattle.tf_cli.specs.declared.counterparts.Line.TheVariants.{Reads, Writes}

-- a line of a table, by the table that it is in
abbrev pub line_writes : Line → Bool
line_writes (Reads text) = false
line_writes (Writes text) = true

-- `--take` is of a command that writes FILE, and so are lines with its number
abbrev pub advice_writes : Advice → Bool
advice_writes (said.Unknown word line) = line_writes line
advice_writes (said.OneDash word name) = bytes_eq name.now (codes "take")
advice_writes (said.TakenForRule file option) = false
advice_writes (said.Number number) = true
advice_writes (said.NoFile number) = true
advice_writes (said.Several number) = true
advice_writes (said.Line line) = line_writes line
