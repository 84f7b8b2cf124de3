-- What is reported of a file: what its command made, once that was saved.
use Rattle.std.proofs.Common.{◌≡◌, ℕ, ◌<◌, Bool, List, [], ◌∷◌, ◌++◌, length, get_or, Option, Some, None, Result, Ok, Err, refl, sym, ap, ap₂, subst, inl, inr}
use Rattle.std.specs.Global.{Vec}
use Rattle.tf_cli.specs.declared.options.Action.{Action}
use Rattle.tf_cli.specs.declared.outcome.FileOutcome.{FileOutcome}
use Rattle.tf_session.specs.Invocations.{FileContents}
use Rattle.tf_session.specs.declared.command.Command.{Command}
use Rattle.tf_session.specs.declared.saver.SavedTexts.{SavedTexts}
use Rattle.tf_files.specs.Stores.{Files, Spot, IsSpotOf, IsSaveResult, Saves, SavesEach, contents_to_save}
use Rattle.tf_files.specs.declared.cause.Trouble.{Trouble}
use Rattle.tf_files.specs.declared.store.ChangedFile.{ChangedFile}
use Rattle.tf_program.specs.declared.file_error.FileError.{FileError}
use Rattle.tf_program.specs.declared.files.Made.{Made}
use Rattle.tf_program.specs.Printing.{Channel}
use Rattle.tf_program.specs.Tasks.{Progress, SavesTexts, PrintsLines, IsMet, DoesCommand, DoesFile, DoesEach, with_output, contents_saved}
use Rattle.tf_program.specs.Work.{file_command}
use Rattle.tf_program.specs.declared.batch.Batch.{Batch}
use Rattle.tf_program.specs.declared.entry.Entry.{Entry}
use Rattle.tf_program.specs.Inner.Entries.{IsToSave, IsResultIn, IsEntryIn, WasSaved, PrintsMade, AreWaiting, AreApartFrom, KeepsBatch, KeepsName, TakesResult, file_of, files_of, names_of}
use Rattle.tf_program.proofs.Holding.{does_more}
use Rattle.tf_program.proofs.Keeping.{keeps_here, keeps_then, was_saved_keeps, all_apart_stay, apart_at, waiting_stay, taken_save}

saves_texts : {P : Type 0} (spot : P → Spot) (name : List ℕ) (place : P) (saved : Option SavedTexts) (file : Option (ChangedFile P)) (result : Result (Unit {0}) Trouble) (old new : Option Files)
    → IsSpotOf old name (spot place) → IsToSave place saved file → WasSaved spot file result old new → SavesTexts name saved result old new
saves_texts spot name place None None result old new is to was = was
saves_texts spot name place None (Some file) result old new is to was = absurd to
saves_texts spot name place (Some saved) None result old new is to was = absurd to
saves_texts spot name place (Some saved) (Some file) result old new is to was =
    let same : contents_to_save file ≡ contents_saved saved = ap₂ (λ (t j : Vec ℕ). record { text = t.items; journal = j.items }) to.1 to.2 in
    let saves = subst (λ (c : FileContents). Saves (spot file.place) c result old new) same was.0 in
    (spot place, is, subst (λ (s : Spot). Saves s (contents_saved saved) result old new) (ap spot to.0) saves, subst (λ (s : Spot). IsSaveResult old s result) (ap spot to.0) was.1)

pub made_does : {P : Type 0} (spot : P → Spot) (action : Action) (command : Command) (locate : Bool) (name : List ℕ) (made : Made P) (saved : Result (Unit {0}) Trouble) (met : Result FileOutcome FileError)
    (here after : Progress) (files : Option Files) (output : Channel) → file_command action name ≡ Some command → IsResultIn spot command name locate here.files (Ok made)
    → WasSaved spot made.file saved here.files files → PrintsMade made saved met here.console.output output → IsMet name locate met (with_output here output files) after
    → DoesFile action locate name here after
made_does spot action command locate name made saved met here after files output does result was prints is =
    let texts = saves_texts spot name result.0 result.2.saved made.file saved here.files files result.1 result.4.2 was in
    let lines = subst (λ (v : Vec ℕ). PrintsLines v.items made.outcome saved met here.console.output output) result.4.1 prints in
    subst (λ (c : Option Command). DoesCommand c action locate name here after) (sym does)
    (met, files, output, inl (result.2, result.3, made.outcome, result.4.0, saved, texts, lines), is)

pub error_does : {P : Type 0} (spot : P → Spot) (action : Action) (command : Command) (locate : Bool) (name : List ℕ) (error : FileError)
    (here after : Progress) (files : Option Files) → file_command action name ≡ Some command → IsResultIn spot command name locate here.files (Err error)
    → files ≡ here.files → IsMet name locate (Err error) (with_output here here.console.output files) after → DoesFile action locate name here after
error_does spot action command locate name error here after files does result same is =
    subst (λ (c : Option Command). DoesCommand c action locate name here after) (sym does)
    (Err error, files, here.console.output, inr (result, same, refl), is)

-- ---- a batch that keeps its action

pub does_as : {P : Type 0} (count : ℕ) (a b : Batch P) (name : List ℕ) (x y : Progress) → KeepsBatch count a b → DoesFile b.action b.locate name x y → DoesFile a.action a.locate name x y
does_as count a b name x y keeps does =
    subst (λ (action : Action). DoesFile action a.locate name x y) keeps.action (subst (λ (locate : Bool). DoesFile b.action locate name x y) keeps.locate does)

pub entry_as : {P : Type 0} (spot : P → Spot) (count : ℕ) (a b : Batch P) (files : Option Files) (entry : Entry P) → KeepsBatch count a b → IsEntryIn spot a.action a.locate files entry → IsEntryIn spot b.action b.locate files entry
entry_as spot count a b files entry keeps is =
    subst (λ (action : Action). IsEntryIn spot action b.locate files entry) (sym keeps.action) (subst (λ (locate : Bool). IsEntryIn spot a.action locate files entry) (sym keeps.locate) is)

pub first_waiting : {P : Type 0} (spot : P → Spot) (action : Action) (locate : Bool) (files : Option Files) (entries others : List (Entry P)) (entry : Entry P) → entries ≡ entry ∷ others
    → AreWaiting spot action locate files entries → IsEntryIn spot action locate files entry
first_waiting {P} spot action locate files entries others entry same waiting = (subst (λ (es : List (Entry P)). AreWaiting spot action locate files es) same waiting).0

-- ---- the entries of a batch, one after another

-- The first entries are reported, and their saves were done; the others' have these results.
pub record ReportsSome {P : Type 0} (spot : P → Spot) (action : Action) (locate : Bool) (first rest : List (Entry P)) (results : List (Result (Unit {0}) Trouble)) (start : Progress) (here : Option Files → Progress) (new : Option Files) : Type 0 where
  pub mid : Option Files
  pub does : DoesEach action locate (names_of first) start (here mid)
  pub waiting : AreWaiting spot action locate mid rest
  pub saves : SavesEach spot (files_of rest) results mid new

pub reports_none : {P : Type 0} (spot : P → Spot) (action : Action) (locate : Bool) (entries : List (Entry P)) (results rest : List (Result (Unit {0}) Trouble)) (start : Progress) (here : Option Files → Progress) (old new : Option Files)
    → here old ≡ start → rest ≡ results → AreWaiting spot action locate old entries → SavesEach spot (files_of entries) results old new → ReportsSome spot action locate [] entries rest start here new
reports_none spot action locate entries results rest start here old new same taken waiting saves = record {
  mid = old;
  does = same;
  waiting = waiting;
  saves = subst (λ (rs : List (Result (Unit {0}) Trouble)). SavesEach spot (files_of entries) rs old new) (sym taken) saves;
}

pub reports_more : {P : Type 0} (spot : P → Spot) (action : Action) (locate : Bool) (first : List (Entry P)) (entry : Entry P) (others : List (Entry P)) (results rest : List (Result (Unit {0}) Trouble)) (saved : Result (Unit {0}) Trouble)
    (start : Progress) (here after : Option Files → Progress) (new : Option Files) → TakesResult (file_of entry.made) saved results rest
    → ((spot : P → Spot) (old new : Option Files) → IsEntryIn spot action locate old entry → WasSaved spot (file_of entry.made) saved old new → DoesFile action locate entry.name.now (here old) (after new))
    → ReportsSome spot action locate first (entry ∷ others) results start here new → ReportsSome spot action locate (first ++ entry ∷ []) others rest start after new
reports_more spot action locate first entry others results rest saved start here after new takes reports some =
    let (mid, was, saves) = taken_save spot (file_of entry.made) (files_of others) saved results rest some.mid new takes some.saves in
    record {
      mid = mid;
      does = does_more action locate first entry start (here some.mid) (after mid) some.does (reports spot some.mid mid some.waiting.0 was);
      waiting = waiting_stay spot action locate saved some.mid mid entry others was some.waiting.1 some.waiting.2;
      saves = saves;
    }

-- the same, as it is met in the loop: the entry is the next of a list
pub reports_next : {P : Type 0} (spot : P → Spot) (action : Action) (locate : Bool) (first next taken : List (Entry P)) (entry : Entry P) (others : List (Entry P)) (results rest : List (Result (Unit {0}) Trouble)) (saved : Result (Unit {0}) Trouble)
    (start : Progress) (here after : Option Files → Progress) (new : Option Files) → taken ≡ first ++ entry ∷ [] → next ≡ entry ∷ others → TakesResult (file_of entry.made) saved results rest
    → ((spot : P → Spot) (old new : Option Files) → IsEntryIn spot action locate old entry → WasSaved spot (file_of entry.made) saved old new → DoesFile action locate entry.name.now (here old) (after new))
    → ReportsSome spot action locate first next results start here new → ReportsSome spot action locate taken others rest start after new
reports_next {P} spot action locate first next taken entry others results rest saved start here after new all left takes reports some =
    subst (λ (es : List (Entry P)). ReportsSome spot action locate es others rest start after new) (sym all)
    (reports_more spot action locate first entry others results rest saved start here after new takes reports
    (subst (λ (es : List (Entry P)). ReportsSome spot action locate first es results start here new) left some))

-- The first entries are saved and reported, and the others are still what their commands make.
pub record FinishesSome {P : Type 0} (spot : P → Spot) (action : Action) (locate : Bool) (all first rest : List (Entry P)) (start here : Progress) : Type 0 where
  pub does : DoesEach action locate (names_of first) start here
  pub waiting : AreWaiting spot action locate here.files rest
  pub kept : (name : List ℕ) → AreApartFrom spot start.files all name → KeepsName name start.files here.files × AreApartFrom spot here.files all name

pub finishes_more : {P : Type 0} (spot : P → Spot) (action : Action) (locate : Bool) (all first : List (Entry P)) (entry : Entry P) (others : List (Entry P)) (i : ℕ) (saved : Result (Unit {0}) Trouble)
    (start here after : Progress) → i < length all → entry ≡ get_or all i entry → WasSaved spot (file_of entry.made) saved here.files after.files
    → DoesFile action locate entry.name.now here after → FinishesSome spot action locate all first (entry ∷ others) start here → FinishesSome spot action locate all (first ++ entry ∷ []) others start after
finishes_more spot action locate all first entry others i saved start here after below is was does some = record {
  does = does_more action locate first entry start here after some.does does;
  waiting = waiting_stay spot action locate saved here.files after.files entry others was some.waiting.1 some.waiting.2;
  kept = λ name apart.
      let (kept, still) = some.kept name apart in
      let here_apart = apart_at spot here.files name all i entry below is still in (
        keeps_then name start.files here.files after.files kept (was_saved_keeps spot (file_of entry.made) saved here.files after.files name was here_apart),
        all_apart_stay spot (file_of entry.made) saved here.files after.files all name was still,
      );
}

-- the same, as it is met in the loop
pub finishes_next : {P : Type 0} (spot : P → Spot) (action : Action) (locate : Bool) (all first next taken : List (Entry P)) (entry : Entry P) (others : List (Entry P)) (i : ℕ) (saved : Result (Unit {0}) Trouble)
    (start here after : Progress) → taken ≡ first ++ entry ∷ [] → next ≡ entry ∷ others → i < length all → entry ≡ get_or all i entry → WasSaved spot (file_of entry.made) saved here.files after.files
    → DoesFile action locate entry.name.now here after → FinishesSome spot action locate all first next start here → FinishesSome spot action locate all taken others start after
finishes_next {P} spot action locate all first next taken entry others i saved start here after more left below is was does some =
    subst (λ (es : List (Entry P)). FinishesSome spot action locate all es others start after) (sym more)
    (finishes_more spot action locate all first entry others i saved start here after below is was does
    (subst (λ (es : List (Entry P)). FinishesSome spot action locate all first es start here) left some))
