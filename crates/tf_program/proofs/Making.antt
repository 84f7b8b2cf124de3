-- What a command makes of a file that was found and read.
use Rattle.std.proofs.Common.{◌≡◌, ℕ, Bool, List, Option, Some, None, Result, Ok, Err, ◌∙◌, sym, ap, subst, inr}
use Rattle.tf_session.specs.Invocations.{FileContents}
use Rattle.tf_session.specs.declared.command.Command.{Command}
use Rattle.tf_files.specs.Stores.{Files, Spot, IsSpotOf, HasContents, HasContentsAt, contents_at}
use Rattle.tf_program.specs.declared.file_error.FileError.{FileError}
use Rattle.tf_program.specs.declared.files.Made.{Made}
use Rattle.tf_program.specs.Inner.Entries.{IsResultIn, IsResultOf}

contents_of_name : (files : Option Files) (name : List ℕ) (spot : Spot) (contents : FileContents) → IsSpotOf files name spot → HasContentsAt files spot contents → HasContents files name contents
contents_of_name None name spot contents is has = tt
contents_of_name (Some files) name spot contents is has = has ∙ ap (contents_at files) is

made_in : {P : Type 0} (spot : P → Spot) (command : Command) (name : List ℕ) (locate : Bool) (files : Option Files) (place : P) (contents : FileContents) (result : Result (Made P) FileError)
    → IsSpotOf files name (spot place) → HasContents files name contents → IsResultOf command name place contents locate result → IsResultIn spot command name locate files result
made_in spot command name locate files place contents (Ok made) is has result = (place, is, result.0, (contents, has, result.1), result.2)
made_in spot command name locate files place contents (Err error) is has result = inr (contents, has, result.0, result.1)

pub made_of_read : {P : Type 0} (spot : P → Spot) (command : Command) (name : List ℕ) (locate : Bool) (files : Option Files) (found place : P) (contents : FileContents) (result : Result (Made P) FileError)
    → IsSpotOf files name (spot found) → spot place ≡ spot found → HasContentsAt files (spot found) contents → IsResultOf command name place contents locate result → IsResultIn spot command name locate files result
made_of_read spot command name locate files found place contents result is same has of =
    made_in spot command name locate files place contents result (subst (λ (s : Spot). IsSpotOf files name s) (sym same) is)
    (contents_of_name files name (spot found) contents is has) of
