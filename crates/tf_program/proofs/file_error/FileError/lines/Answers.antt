-- The message and the second line are those of the error.
use Rattle.std.proofs.Common.{◌≡◌, ◌∙◌, ◌++◌, rules}
use Rattle.std.specs.Prelude.{codes, string_bytes}
use Rattle.tf_program.proofs.PrintedParts.{line_then}
use Rattle.tf_program.proofs.file_error.FileError.lines.Goals as goal

pub returns : goal.returns
returns c =
    let message = string_bytes c.in_ok-message.message in
    let second = string_bytes c.in_ok-second.second in
    let text : string_bytes c.in_ok-text.text ≡ codes "tfk: " ++ (c.args.name.now ++ (codes ": " ++ (message ++ (codes "\n" ++ second)))) = search rules in
    (message, c.in_ok-message.ensures, second, c.in_ok-second.ensures, text ∙ line_then c.args.name.now message second)
