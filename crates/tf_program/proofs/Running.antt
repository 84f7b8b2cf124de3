-- The files of a task, one after another.
use Rattle.std.proofs.Common.{◌≡◌, ℕ, Bool, List, [], ◌++◌, Option, None, Result, ◌∙◌, refl, sym, ap, subst, append_assoc, append-nil}
use Rattle.std.specs.Borrow.{Bor}
use Rattle.tf_cli.specs.declared.options.Action.{Action}
use Rattle.tf_cli.specs.declared.outcome.FileOutcome.{FileOutcome}
use Rattle.tf_session.specs.declared.command.Command.{Command}
use Rattle.tf_program.specs.declared.batch.Batch.{Batch}
use Rattle.tf_program.specs.declared.file_error.FileError.{FileError}
use Rattle.tf_program.specs.Answers.{AnswersName}
use Rattle.tf_program.specs.Inner.Entries.{Advances, names_of}
use Rattle.tf_program.specs.Printing.{Console}
use Rattle.tf_program.specs.Runs.{World, Works}
use Rattle.tf_program.specs.Tasks.{Progress, IsMet, DoesCommand, DoesFile, DoesEach, with_console}
use Rattle.tf_program.specs.Work.{file_command}
use Rattle.tf_program.proofs.Holding.{does_append}

-- the first of these names are done, in this order, and the others are held
pub record Ran {P : Type 0} (action : Action) (locate : Bool) (names : List (Bor (List ℕ))) (start : Progress) (batch : Batch P) (here : Progress) : Type 0 where
  pub done : List (Bor (List ℕ))
  pub parts : names ≡ done ++ names_of batch.entries.items
  pub does : DoesEach action locate done start here
  pub acts : batch.action ≡ action
  pub locates : batch.locate ≡ locate

pub ran_more : {P : Type 0} (action : Action) (locate : Bool) (names put : List (Bor (List ℕ))) (start here after : Progress) (a b : Batch P) → Ran action locate names start a here
    → Advances put a here b after → Ran action locate (names ++ put) start b after
ran_more action locate names put start here after a b ran step =
    let whole : names ++ put ≡ (ran.done ++ step.done) ++ names_of b.entries.items =
    ap (λ (ns : List (Bor (List ℕ))). ns ++ put) ran.parts ∙ append_assoc ran.done (names_of a.entries.items) put
    ∙ ap (λ (ns : List (Bor (List ℕ))). ran.done ++ ns) step.names ∙ sym (append_assoc ran.done step.done (names_of b.entries.items)) in
    let does = subst (λ (act : Action). DoesEach act a.locate step.done here after) ran.acts step.does in
    let does_here = subst (λ (l : Bool). DoesEach action l step.done here after) ran.locates does in
    record {
      done = ran.done ++ step.done;
      parts = whole;
      does = does_append action locate ran.done step.done start here after ran.does does_here;
      acts = step.action ∙ ran.acts;
      locates = step.locate ∙ ran.locates;
    }

-- nothing is held at the end
pub ran_all : {P : Type 0} (action : Action) (locate : Bool) (names : List (Bor (List ℕ))) (start here : Progress) (batch : Batch P) → batch.entries.items ≡ [] → Ran action locate names start batch here
    → DoesEach action locate names start here
ran_all {P} action locate names start here batch none ran =
    let all : ran.done ≡ names = sym (append-nil ran.done) ∙ ap (λ (ns : List (Bor (List ℕ))). ran.done ++ ns) (sym (ap names_of none)) ∙ sym ran.parts in
    subst (λ (ns : List (Bor (List ℕ))). DoesEach action locate ns start here) all ran.does

-- what changes no file is done
pub answer_does : (action : Action) (locate : Bool) (name : List ℕ) (here after : Progress) (met : Result FileOutcome FileError) (console : Console) → file_command action name ≡ None
    → AnswersName action locate name here.files met here.console console → IsMet name locate met (with_console here console) after → DoesFile action locate name here after
answer_does action locate name here after met console none answers is =
    subst (λ (c : Option Command). DoesCommand c action locate name here after) (sym none) (met, console, answers, is)

-- the same by an action that a batch has
pub answer_in : (action other : Action) (locate off : Bool) (name : List ℕ) (here after : Progress) (met : Result FileOutcome FileError) (console : Console) → other ≡ action → off ≡ locate
    → file_command action name ≡ None → AnswersName action locate name here.files met here.console console → IsMet name off met (with_console here console) after → DoesFile other off name here after
answer_in action other locate off name here after met console same located none answers is =
    subst (λ (act : Action). DoesFile act off name here after) (sym same)
    (subst (λ (l : Bool). DoesFile action l name here after) (sym located)
    (answer_does action locate name here after met console none answers (subst (λ (l : Bool). IsMet name l met (with_console here console) after) located is)))

-- ---- the same of what is equal

pub does_here : (names others : List (Bor (List ℕ))) (action : Action) (locate : Bool) (start here : Progress) → names ≡ others → DoesEach action locate names start here → DoesEach action locate others start here
does_here names others action locate start here same = subst (λ (ns : List (Bor (List ℕ))). DoesEach action locate ns start here) same

pub works_here : (args others : List (List ℕ)) (status : ℕ) (old new : World) → args ≡ others → Works args status old new → Works others status old new
works_here args others status old new same = subst (λ (words : List (List ℕ)). Works words status old new) same
