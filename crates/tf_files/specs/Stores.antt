-- What a store of files holds, and what its methods do to that. Of a store of which it is not known
-- what it holds nothing is stated.
use Rattle.std.specs.Prelude.{◌≡◌, ◌⊎◌, ℕ, Bool, true, List, [], ◌∷◌}
use Rattle.std.specs.Prelude.{Option, Some, None, Result, Ok, Err, IfErr}
use Rattle.tf_session.specs.Invocations.{FileContents}
use Rattle.tf_session.specs.declared.fault.RunFault.{RunFault}
use Rattle.tf_session.specs.declared.fault.RunFault.TheVariants.{Memory}
use Rattle.tf_files.specs.Opening.{is_file_fault}
use Rattle.tf_files.specs.declared.cause.Trouble.{Trouble}
use Rattle.tf_files.specs.declared.store.ChangedFile.{ChangedFile}
use Rattle.tf_files.specs.declared.store.ReadFile.{ReadFile}

-- a text and a journal, each by a number
pub record Spot : Type 0 where
  pub text : ℕ
  pub journal : ℕ

-- Which text and which journal each name leads to, the bytes of each, and which errors the two files
-- at a place may have when they are read or saved. Two names may lead to one file. A journal that is
-- not there is empty.
pub record Files : Type 0 where
  pub spot : List ℕ → Spot
  pub bytes : ℕ → List ℕ
  pub refuses : Spot → RunFault → Bool

-- the bytes of the text and of the journal at a place
abbrev pub contents_at : Files → Spot → FileContents
contents_at files spot =
    record { text = files.bytes spot.text; journal = files.bytes spot.journal }

-- they have neither a text nor a journal in common
abbrev pub AreApart : Spot → Spot → Type 0
AreApart ours others =
    ¬ (ours.text ≡ others.text) × ¬ (ours.text ≡ others.journal)
    × ¬ (ours.journal ≡ others.text) × ¬ (ours.journal ≡ others.journal)

-- what is at this place may have this error when it is read or saved; memory may always run out
abbrev pub MayFailAt : Option Files → Spot → RunFault → Type 0
MayFailAt None spot fault = is_file_fault fault ≡ true
MayFailAt (Some files) spot fault =
    (is_file_fault fault ≡ true) × ((fault ≡ Memory) ⊎ (files.refuses spot fault ≡ true))

-- and so may the file of this name
abbrev pub MayFail : Option Files → List ℕ → RunFault → Type 0
MayFail None name fault = is_file_fault fault ≡ true
MayFail (Some files) name fault = MayFailAt (Some files) (files.spot name) fault

-- a place is that of a name
abbrev pub IsSpotOf : Option Files → List ℕ → Spot → Type 0
IsSpotOf None name spot = Unit {0}
IsSpotOf (Some files) name spot = spot ≡ files.spot name

-- what was read of a file and its journal
abbrev pub contents_read : ReadFile → FileContents
contents_read read = record { text = read.text.items; journal = read.journal.items }

-- the file of a name and its journal have these bytes
abbrev pub HasContents : Option Files → List ℕ → FileContents → Type 0
HasContents None name contents = Unit {0}
HasContents (Some files) name contents = contents ≡ contents_at files (files.spot name)

-- where it is known what is held, this is so
abbrev pub IfKnown : Option Files → Type 0 → Type 0
IfKnown None holds = Unit {0}
IfKnown (Some files) holds = holds

-- the file at a place and its journal have these bytes
abbrev pub HasContentsAt : Option Files → Spot → FileContents → Type 0
HasContentsAt None spot contents = Unit {0}
HasContentsAt (Some files) spot contents = contents ≡ contents_at files spot

-- the file of a name has this text
abbrev pub HasTextOf : Option Files → List ℕ → List ℕ → Type 0
HasTextOf None name text = Unit {0}
HasTextOf (Some files) name text = text ≡ files.bytes (files.spot name).text

-- The text and the journal at a place are these, all other bytes are as they were, and so are where
-- names lead to and which errors there may be.
pub record HasSaved (spot : Spot) (contents : FileContents) (old new : Files) : Type 0 where
  pub holds : contents_at new spot ≡ contents
  pub others : (id : ℕ) → ¬ (id ≡ spot.text) → ¬ (id ≡ spot.journal) → new.bytes id ≡ old.bytes id
  pub names : new.spot ≡ old.spot
  pub refuses : new.refuses ≡ old.refuses

-- Both were saved. After an error nothing has changed, or both were saved all the same, as where a
-- folder can't be synced.
abbrev pub SavesIn : Spot → FileContents → Result (Unit {0}) Trouble → Files → Files → Type 0
SavesIn spot contents (Ok saved) old new = HasSaved spot contents old new
SavesIn spot contents (Err error) old new = (new ≡ old) ⊎ HasSaved spot contents old new

abbrev pub Saves : Spot → FileContents → Result (Unit {0}) Trouble → Option Files → Option Files → Type 0
Saves spot contents result None None = Unit {0}
Saves spot contents result None (Some new) = ⊥
Saves spot contents result (Some old) None = ⊥
Saves spot contents result (Some old) (Some new) = SavesIn spot contents result old new

-- if the save failed, what is at the place may have this error
abbrev pub IsSaveResult : Option Files → Spot → Result (Unit {0}) Trouble → Type 0
IsSaveResult files spot result = IfErr result (λ trouble. MayFailAt files spot trouble.fault)

-- what a file and its journal are to have
abbrev pub contents_to_save : {P : Type 0} → ChangedFile P → FileContents
contents_to_save file = record { text = file.text.items; journal = file.journal.items }

-- files were saved one after another, each with its result
abbrev pub SavesEach : {P : Type 0} → (P → Spot) → List (ChangedFile P)
    → List (Result (Unit {0}) Trouble) → Option Files → Option Files → Type 0
SavesEach spot [] [] old new = new ≡ old
SavesEach spot [] (result ∷ results) old new = ⊥
SavesEach spot (file ∷ files) [] old new = ⊥
SavesEach spot (file ∷ files) (result ∷ results) old new =
    (mid : Option Files)
    × Saves (spot file.place) (contents_to_save file) result old mid
    × IsSaveResult old (spot file.place) result × SavesEach spot files results mid new
