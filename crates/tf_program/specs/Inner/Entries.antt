-- What a batch holds of files whose commands are done and not reported yet.
use Rattle.std.specs.Prelude.{◌≡◌, ◌⊎◌, ◌+◌, ◌<◌, ℕ, Bool, List, [], ◌∷◌, ◌++◌, length, map}
use Rattle.std.specs.Prelude.{Option, Some, None, Result, Ok, Err, IfOk, IfErr, vec_len}
use Rattle.std.specs.Borrow.{Bor}
use Rattle.tf_cli.specs.declared.options.Action.{Action}
use Rattle.tf_cli.specs.declared.outcome.FileOutcome.{FileOutcome}
use Rattle.tf_session.specs.Invocations.{FileContents, HasEffect, HasNoEffect}
use Rattle.tf_session.specs.declared.command.Command.{Command}
use Rattle.tf_session.specs.declared.invocation.Effect.{Effect}
use Rattle.tf_session.specs.declared.saver.SavedTexts.{SavedTexts}
use Rattle.tf_files.specs.Stores.{Files, Spot, IsSpotOf, AreApart, IfKnown, MayFail, Saves, IsSaveResult}
use Rattle.tf_files.specs.Stores.{contents_at, contents_to_save}
use Rattle.tf_files.specs.declared.cause.Trouble.{Trouble}
use Rattle.tf_files.specs.declared.store.ChangedFile.{ChangedFile}
use Rattle.tf_program.specs.Answers.{IsOutcomeOf}
use Rattle.tf_program.specs.Location.{IsLocatedIn}
use Rattle.tf_program.specs.Printing.{Channel, Console}
use Rattle.tf_program.specs.Tasks.{Progress, IsReadError, HasEffectIn, HasNoEffectIn, PrintsLines, DoesEach}
use Rattle.tf_program.specs.Work.{file_command}
use Rattle.tf_program.specs.declared.batch.Batch.{Batch}
use Rattle.tf_program.specs.declared.entry.Entry.{Entry}
use Rattle.tf_program.specs.declared.file_error.FileError.{FileError}
use Rattle.tf_program.specs.declared.files.Made.{Made}

-- where the file of this name is, or an error that it may have
abbrev pub IsFoundIn : {P : Type 0} → (P → Spot) → Option Files → List ℕ → Result P Trouble → Type 0
IsFoundIn spot files name found =
    IfOk found (λ place. IsSpotOf files name (spot place))
    × IfErr found (λ trouble. MayFail files name trouble.fault)

-- ---- what a command has made

-- the file at this place, with the texts that a command made, if it made some
abbrev pub IsToSave : {P : Type 0} → P → Option SavedTexts → Option (ChangedFile P) → Type 0
IsToSave place None None = Unit {0}
IsToSave place None (Some file) = ⊥
IsToSave place (Some saved) None = ⊥
IsToSave place (Some saved) (Some file) =
    (file.place ≡ place) × (file.text ≡ saved.text) × (file.journal ≡ saved.journal)

abbrev pub IsMadeOf : {P : Type 0} → P → Effect → Made P → Type 0
IsMadeOf place effect made =
    IsOutcomeOf made.outcome effect.done.left × (made.lines ≡ effect.lines)
    × IsToSave place effect.saved made.file

-- what a command made of these contents at this place, or why nothing
abbrev pub IsResultOf : {P : Type 0} → Command → List ℕ → P → FileContents → Bool
    → Result (Made P) FileError → Type 0
IsResultOf command name place contents locate (Ok made) =
    (effect : Effect) × HasEffect command name contents.text contents.journal effect
    × IsMadeOf place effect made
IsResultOf command name place contents locate (Err error) =
    HasNoEffect command contents.text contents.journal error.fault
    × IsLocatedIn contents.text locate error

-- what it made of the file of this name
abbrev pub IsResultIn : {P : Type 0} → (P → Spot) → Command → List ℕ → Bool → Option Files
    → Result (Made P) FileError → Type 0
IsResultIn {P} spot command name locate files (Ok made) =
    (place : P) × IsSpotOf files name (spot place)
    × (effect : Effect) × HasEffectIn command name files effect × IsMadeOf place effect made
IsResultIn spot command name locate files (Err error) =
    IsReadError files name error ⊎ HasNoEffectIn command name locate files error

-- how many bytes are held of a file that is to be saved
abbrev pub size_of : {P : Type 0} → Option (ChangedFile P) → ℕ
size_of None = 0
size_of (Some file) = length file.text.items + length file.journal.items

-- ---- how it is saved and reported

-- the file that is to be saved, if there is one
abbrev pub file_of : {P : Type 0} → Result (Made P) FileError → Option (ChangedFile P)
file_of (Ok made) = made.file
file_of (Err error) = None

-- it was saved with this result; or nothing was to be saved
abbrev pub WasSaved : {P : Type 0} → (P → Spot) → Option (ChangedFile P) → Result (Unit {0}) Trouble
    → Option Files → Option Files → Type 0
WasSaved spot None result old new = (result ≡ Ok tt) × (new ≡ old)
WasSaved spot (Some file) result old new =
    Saves (spot file.place) (contents_to_save file) result old new
    × IsSaveResult old (spot file.place) result

-- The result of the save of one more file is the first of these, if there is one; where nothing was
-- to be saved, none is taken.
abbrev pub TakesResult : {P : Type 0} → Option (ChangedFile P) → Result (Unit {0}) Trouble
    → List (Result (Unit {0}) Trouble) → List (Result (Unit {0}) Trouble) → Type 0
TakesResult None saved old new = (saved ≡ Ok tt) × (new ≡ old)
TakesResult (Some file) saved [] new = Unit {0}
TakesResult (Some file) saved (result ∷ results) new = (saved ≡ result) × (new ≡ results)

-- the lines of what was made, after its save with this result
abbrev pub PrintsMade : {P : Type 0} → Made P → Result (Unit {0}) Trouble
    → Result FileOutcome FileError → Channel → Channel → Type 0
PrintsMade made saved met old new = PrintsLines made.lines.items made.outcome saved met old new

-- ---- what is held

-- what the action's command made of the file of an entry's name
abbrev pub IsEntryIn : {P : Type 0} → (P → Spot) → Action → Bool → Option Files → Entry P → Type 0
IsEntryIn spot action locate files entry =
    (command : Command) × (file_command action entry.name.now ≡ Some command)
    × IsResultIn spot command entry.name.now locate files entry.made

-- what is at a place is nothing of the file of this name
abbrev pub IsApartFrom : Option Files → Spot → List ℕ → Type 0
IsApartFrom None spot name = Unit {0}
IsApartFrom (Some files) spot name = AreApart spot (files.spot name)

-- a file that is to be saved is apart from that of this name
abbrev pub IsApartFromName : {P : Type 0} → (P → Spot) → Option Files → Option (ChangedFile P) → List ℕ
    → Type 0
IsApartFromName spot files None name = Unit {0}
IsApartFromName spot files (Some file) name = IsApartFrom files (spot file.place) name

-- all entries are apart from a name
abbrev pub AreApartFrom : {P : Type 0} → (P → Spot) → Option Files → List (Entry P) → List ℕ → Type 0
AreApartFrom spot files [] name = Unit {0}
AreApartFrom spot files (entry ∷ entries) name =
    IsApartFromName spot files (file_of entry.made) name × AreApartFrom spot files entries name

-- an entry is apart from all names of others
abbrev pub IsApartFromAll : {P : Type 0} → (P → Spot) → Option Files → Entry P → List (Entry P) → Type 0
IsApartFromAll spot files entry [] = Unit {0}
IsApartFromAll spot files entry (other ∷ others) =
    IsApartFromName spot files (file_of entry.made) other.name.now
    × IsApartFromAll spot files entry others

-- each is what its command makes of the store's files, and is apart from those after it
abbrev pub AreWaiting : {P : Type 0} → (P → Spot) → Action → Bool → Option Files → List (Entry P) → Type 0
AreWaiting spot action locate files [] = Unit {0}
AreWaiting spot action locate files (entry ∷ entries) =
    IsEntryIn spot action locate files entry
    × IsApartFromAll spot files entry entries × AreWaiting spot action locate files entries

-- with one more, if there is one
abbrev pub with_file : {P : Type 0} → Option (ChangedFile P) → List (ChangedFile P) → List (ChangedFile P)
with_file None files = files
with_file (Some file) files = file ∷ files

-- the files that are to be saved
abbrev pub files_of : {P : Type 0} → List (Entry P) → List (ChangedFile P)
files_of [] = []
files_of (entry ∷ entries) = with_file (file_of entry.made) (files_of entries)

-- ---- how far a run has come

abbrev pub names_of : {P : Type 0} → List (Entry P) → List (Bor (List ℕ))
names_of entries = map (λ entry. entry.name) entries

abbrev pub progress : {P : Type 0} → Batch P → Console → Option Files → Progress
progress batch console files =
    record { outcome = batch.outcome; console = console; files = files }

-- not all files that are left are held: one more can be put in
abbrev pub HasNext : {P : Type 0} → Batch P → Type 0
HasNext batch = vec_len batch.entries < batch.outcome.left

-- `put` files were put in, and as many are reported as are not held any more
abbrev pub ReportsRest : {P : Type 0} → ℕ → Batch P → Batch P → Type 0
ReportsRest put old new =
    new.outcome.left + (vec_len old.entries + put) ≡ old.outcome.left + vec_len new.entries

-- what it holds is what the commands make of the store's files
abbrev pub IsWaitingIn : {P : Type 0} → (P → Spot) → Batch P → Option Files → Type 0
IsWaitingIn spot batch files = AreWaiting spot batch.action batch.locate files batch.entries.items

-- Names of those that were held, and after them of those that are put in: the first are done, in this
-- order, and the others are held.
pub record Advances {P : Type 0} (put : List (Bor (List ℕ))) (old : Batch P) (before : Progress)
    (new : Batch P) (after : Progress) : Type 0 where
  pub done : List (Bor (List ℕ))
  pub names : names_of old.entries.items ++ put ≡ done ++ names_of new.entries.items
  pub does : DoesEach old.action old.locate done before after
  pub action : new.action ≡ old.action
  pub locate : new.locate ≡ old.locate

-- the file of a name is the one that it was, with the same bytes, and may have the same errors
abbrev pub KeepsName : List ℕ → Option Files → Option Files → Type 0
KeepsName name None None = Unit {0}
KeepsName name None (Some new) = ⊥
KeepsName name (Some old) None = ⊥
KeepsName name (Some old) (Some new) =
    (new.spot name ≡ old.spot name) × (contents_at new (old.spot name) ≡ contents_at old (old.spot name))
    × (new.refuses ≡ old.refuses)

-- what is held may be finished, or stays
pub record MayFinish {P : Type 0} (spot : P → Spot) (old : Batch P) (before : Progress)
    (new : Batch P) (after : Progress) : Type 0 where
  pub reported : ReportsRest 0 old new
  pub waiting : IsWaitingIn spot new after.files
  pub advances : Advances [] old before new after
  -- the file of a name that the entries are apart from stays, and those that are left are, too
  pub kept : (name : List ℕ) → AreApartFrom spot before.files old.entries.items name
      → KeepsName name before.files after.files
  pub apart : (name : List ℕ) → AreApartFrom spot before.files old.entries.items name
      → AreApartFrom spot after.files new.entries.items name

-- the file of one more name is done, or held
pub record PutsIn {P : Type 0} (spot : P → Spot) (name : Bor (List ℕ)) (old : Batch P)
    (before : Progress) (new : Batch P) (after : Progress) : Type 0 where
  pub reported : ReportsRest 1 old new
  pub waiting : IsWaitingIn spot new after.files
  pub advances : Advances (name ∷ []) old before new after

-- this many more are reported, and what it holds stays
pub record KeepsBatch {P : Type 0} (count : ℕ) (old new : Batch P) : Type 0 where
  pub left : new.outcome.left + count ≡ old.outcome.left
  pub len : vec_len new.entries ≡ vec_len old.entries
  pub entries : new.entries.items ≡ old.entries.items
  pub action : new.action ≡ old.action
  pub locate : new.locate ≡ old.locate

-- the file of each name that all entries are apart from stays
abbrev pub KeepsNames : {P : Type 0} → (P → Spot) → List (Entry P) → Option Files → Option Files → Type 0
KeepsNames spot entries old new = (name : List ℕ) → AreApartFrom spot old entries name
    → KeepsName name old new

-- ---- looks at an entry

-- what is borrowed of an option
abbrev pub IsBorrowed : {X : Type 0} → Option X → Option (Bor X) → Type 0
IsBorrowed None None = Unit {0}
IsBorrowed None (Some borrowed) = ⊥
IsBorrowed (Some value) None = ⊥
IsBorrowed (Some value) (Some borrowed) = borrowed.now ≡ value

-- a file that is to be saved is apart from this place
abbrev pub IsPlacedApart : {P : Type 0} → (P → Spot) → Option Files → Option (ChangedFile P) → P → Type 0
IsPlacedApart spot files None other = Unit {0}
IsPlacedApart spot files (Some file) other = IfKnown files (AreApart (spot file.place) (spot other))

abbrev pub ArePlacedApart : {P : Type 0} → (P → Spot) → Option Files → List (Entry P) → P → Type 0
ArePlacedApart spot files [] other = Unit {0}
ArePlacedApart spot files (entry ∷ entries) other =
    IsPlacedApart spot files (file_of entry.made) other × ArePlacedApart spot files entries other
