-- The marker of an open heredoc is an identifier, since it was read as one.
use Rattle.std.specs.Prelude.{⊤}
use Rattle.hcl_scan.specs.Modes.{Mode}
use Rattle.hcl_scan.specs.Modes.Mode.{Heredoc}
use Rattle.hcl_scan.specs.Lexeme.{IsIdentifier}

abbrev pub HasMarker : Mode → Type 0
HasMarker (Heredoc name at_line_start) = IsIdentifier name
HasMarker _ = ⊤
