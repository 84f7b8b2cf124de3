-- What is answered of a file.
use Rattle.std.proofs.Common.{◌≡◌, ◌∙◌, ℕ, Bool, true, false, List, Option, Result, inl, inr, sym, subst}
use Rattle.std.proofs.lemmas.Bool.{false≢true}
use Rattle.tf_cli.specs.declared.options.Action.{Action}
use Rattle.tf_cli.specs.declared.outcome.FileOutcome.{FileOutcome}
use Rattle.tf_files.specs.Stores.{Files, HasTextOf}
use Rattle.tf_program.specs.declared.file_error.FileError.{FileError}
use Rattle.tf_program.specs.Answers.{is_list, AnswersText, AnswersFile, IsNotOpened, KeepsOutputs, ListsFile}
use Rattle.tf_program.specs.Printing.{Console}

pub answered : (action : Action) (locate : Bool) (name : List ℕ) (files : Option Files) (met : Result FileOutcome FileError) (text read : List ℕ) (old new : Console)
    → is_list action ≡ false → HasTextOf files name text → read ≡ text → AnswersText action locate name read met old new → AnswersFile action locate name files met old new
answered action locate name files met text read old new other has same answers = (
  λ on. absurd (false≢true (sym other ∙ on)),
  λ no. inl (text, has, subst (λ (t : List ℕ). AnswersText action locate name t met old new) same answers),
)

pub listed : (action : Action) (locate : Bool) (name : List ℕ) (files : Option Files) (met : Result FileOutcome FileError) (old new : Console)
    → is_list action ≡ true → ListsFile name files met old new → AnswersFile action locate name files met old new
listed action locate name files met old new other lists = (λ on. lists, λ no. absurd (false≢true (sym no ∙ other)))
