-- What a save leaves as it was: the files that it is apart from.
use Rattle.std.proofs.lemmas.List.{take_more, drop_more, map-append}
use Rattle.std.proofs.Common.{◌≡◌, ℕ, ◌+◌, ◌<◌, zero, suc, Bool, List, [], ◌∷◌, ◌++◌, length, get_or, take, drop, Option, Some, None, Result, Ok, Err, ◌∙◌, refl, sym, ap, ap₂, subst, inl, inr, arith, map, append-nil}
use Rattle.std.specs.Borrow.{Bor}
use Rattle.tf_cli.specs.declared.options.Action.{Action}
use Rattle.tf_session.specs.Invocations.{FileContents}
use Rattle.tf_session.specs.declared.command.Command.{Command}
use Rattle.tf_session.specs.declared.fault.RunFault.{RunFault}
use Rattle.tf_files.specs.Stores.{Files, Spot, AreApart, IsSpotOf, HasContents, HasSaved, MayFail, Saves, SavesIn, SavesEach, contents_at, contents_to_save}
use Rattle.tf_files.specs.declared.cause.Trouble.{Trouble}
use Rattle.tf_files.specs.declared.store.ChangedFile.{ChangedFile}
use Rattle.tf_program.specs.declared.entry.Entry.{Entry}
use Rattle.tf_program.specs.declared.file_error.FileError.{FileError}
use Rattle.tf_program.specs.declared.files.Made.{Made}
use Rattle.tf_program.specs.Inner.Entries.{KeepsName, IsResultIn, IsEntryIn, IsApartFrom, IsApartFromName, IsApartFromAll, AreApartFrom, AreWaiting, IsPlacedApart, ArePlacedApart, TakesResult, WasSaved, file_of, files_of, with_file, IsBorrowed}

-- ---- one name

pub keeps_here : (name : List ℕ) (files : Option Files) → KeepsName name files files
keeps_here name None = tt
keeps_here name (Some files) = (refl, refl, refl)

pub keeps_then : (name : List ℕ) (a b c : Option Files) → KeepsName name a b → KeepsName name b c → KeepsName name a c
keeps_then name None None None first next = tt
keeps_then name None None (Some c) first next = next
keeps_then name None (Some b) c first next = absurd first
keeps_then name (Some a) None c first next = absurd first
keeps_then name (Some a) (Some b) None first next = absurd next
keeps_then name (Some a) (Some b) (Some c) first next =
    let there = subst (λ (s : Spot). contents_at c s ≡ contents_at b s) first.0 next.1 in
    (next.0 ∙ first.0, there ∙ first.1, next.2 ∙ first.2)

-- ---- a save

saved_keeps : (spot : Spot) (contents : FileContents) (old new : Files) (name : List ℕ) → HasSaved spot contents old new → AreApart spot (old.spot name)
    → KeepsName name (Some old) (Some new)
saved_keeps spot contents old new name saved apart =
    let text = saved.others (old.spot name).text (λ same. apart.0 (sym same)) (λ same. apart.2 (sym same)) in
    let journal = saved.others (old.spot name).journal (λ same. apart.1 (sym same)) (λ same. apart.3 (sym same)) in
    (ap (λ (f : List ℕ → Spot). f name) saved.names, ap₂ (λ (t j : List ℕ). record { text = t; journal = j }) text journal, saved.refuses)

save_keeps_in : (spot : Spot) (contents : FileContents) (result : Result (Unit {0}) Trouble) (old new : Files) (name : List ℕ) → SavesIn spot contents result old new
    → AreApart spot (old.spot name) → KeepsName name (Some old) (Some new)
save_keeps_in spot contents (Ok done) old new name saved apart = saved_keeps spot contents old new name saved apart
save_keeps_in spot contents (Err trouble) old new name (inl same) apart = subst (λ (files : Files). KeepsName name (Some old) (Some files)) (sym same) (refl, refl, refl)
save_keeps_in spot contents (Err trouble) old new name (inr saved) apart = saved_keeps spot contents old new name saved apart

save_keeps : (spot : Spot) (contents : FileContents) (result : Result (Unit {0}) Trouble) (old new : Option Files) (name : List ℕ) → Saves spot contents result old new
    → IsApartFrom old spot name → KeepsName name old new
save_keeps spot contents result None None name saved apart = tt
save_keeps spot contents result None (Some new) name saved apart = absurd saved
save_keeps spot contents result (Some old) None name saved apart = absurd saved
save_keeps spot contents result (Some old) (Some new) name saved apart = save_keeps_in spot contents result old new name saved apart

-- where names lead to stays
names_stay_in : (spot : Spot) (contents : FileContents) (result : Result (Unit {0}) Trouble) (old new : Files) → SavesIn spot contents result old new → new.spot ≡ old.spot
names_stay_in spot contents (Ok done) old new saved = saved.names
names_stay_in spot contents (Err trouble) old new (inl same) = ap (λ (files : Files). files.spot) same
names_stay_in spot contents (Err trouble) old new (inr saved) = saved.names

apart_stays : (spot other : Spot) (contents : FileContents) (result : Result (Unit {0}) Trouble) (old new : Option Files) (name : List ℕ) → Saves spot contents result old new
    → IsApartFrom old other name → IsApartFrom new other name
apart_stays spot other contents result None None name saved apart = tt
apart_stays spot other contents result None (Some new) name saved apart = absurd saved
apart_stays spot other contents result (Some old) None name saved apart = absurd saved
apart_stays spot other contents result (Some old) (Some new) name saved apart =
    subst (λ (s : Spot). AreApart other s) (sym (ap (λ (f : List ℕ → Spot). f name) (names_stay_in spot contents result old new saved))) apart

-- ---- the save of an entry

pub was_saved_keeps : {P : Type 0} (spot : P → Spot) (file : Option (ChangedFile P)) (result : Result (Unit {0}) Trouble) (old new : Option Files) (name : List ℕ)
    → WasSaved spot file result old new → IsApartFromName spot old file name → KeepsName name old new
was_saved_keeps spot None result old new name saved apart = subst (λ (files : Option Files). KeepsName name old files) (sym saved.1) (keeps_here name old)
was_saved_keeps spot (Some file) result old new name saved apart = save_keeps (spot file.place) (contents_to_save file) result old new name saved.0 apart

name_apart_stays : {P : Type 0} (spot : P → Spot) (file other : Option (ChangedFile P)) (result : Result (Unit {0}) Trouble) (old new : Option Files) (name : List ℕ)
    → WasSaved spot file result old new → IsApartFromName spot old other name → IsApartFromName spot new other name
name_apart_stays spot file None result old new name saved apart = tt
name_apart_stays spot None (Some other) result old new name saved apart = subst (λ (files : Option Files). IsApartFrom files (spot other.place) name) (sym saved.1) apart
name_apart_stays spot (Some file) (Some other) result old new name saved apart =
    apart_stays (spot file.place) (spot other.place) (contents_to_save file) result old new name saved.0 apart

pub all_apart_stay : {P : Type 0} (spot : P → Spot) (file : Option (ChangedFile P)) (result : Result (Unit {0}) Trouble) (old new : Option Files) (entries : List (Entry P)) (name : List ℕ)
    → WasSaved spot file result old new → AreApartFrom spot old entries name → AreApartFrom spot new entries name
all_apart_stay spot file result old new [] name saved apart = tt
all_apart_stay spot file result old new (entry ∷ entries) name saved apart =
    (name_apart_stays spot file (file_of entry.made) result old new name saved apart.0, all_apart_stay spot file result old new entries name saved apart.1)

from_all_stays : {P : Type 0} (spot : P → Spot) (file : Option (ChangedFile P)) (result : Result (Unit {0}) Trouble) (old new : Option Files) (entry : Entry P) (entries : List (Entry P))
    → WasSaved spot file result old new → IsApartFromAll spot old entry entries → IsApartFromAll spot new entry entries
from_all_stays spot file result old new entry [] saved apart = tt
from_all_stays spot file result old new entry (other ∷ others) saved apart =
    (name_apart_stays spot file (file_of entry.made) result old new other.name.now saved apart.0, from_all_stays spot file result old new entry others saved apart.1)

-- ---- what was made of a file that stays

spot_stays : (name : List ℕ) (old new : Option Files) (spot : Spot) → KeepsName name old new → IsSpotOf old name spot → IsSpotOf new name spot
spot_stays name None None spot keeps is = tt
spot_stays name None (Some new) spot keeps is = absurd keeps
spot_stays name (Some old) None spot keeps is = absurd keeps
spot_stays name (Some old) (Some new) spot keeps is = is ∙ sym keeps.0

contents_stay : (name : List ℕ) (old new : Option Files) (contents : FileContents) → KeepsName name old new → HasContents old name contents → HasContents new name contents
contents_stay name None None contents keeps has = tt
contents_stay name None (Some new) contents keeps has = absurd keeps
contents_stay name (Some old) None contents keeps has = absurd keeps
contents_stay name (Some old) (Some new) contents keeps has =
    has ∙ sym keeps.1 ∙ ap (λ (s : Spot). contents_at new s) (sym keeps.0)

faults_stay : (name : List ℕ) (old new : Option Files) (fault : RunFault) → KeepsName name old new → MayFail old name fault → MayFail new name fault
faults_stay name None None fault keeps may = may
faults_stay name None (Some new) fault keeps may = absurd keeps
faults_stay name (Some old) None fault keeps may = absurd keeps
faults_stay name (Some old) (Some new) fault keeps (is, inl memory) = (is, inl memory)
faults_stay name (Some old) (Some new) fault keeps (is, inr refuses) =
    let here : new.refuses (new.spot name) fault ≡ old.refuses (old.spot name) fault = ap₂ (λ (f : Spot → RunFault → Bool) (s : Spot). f s fault) keeps.2 keeps.0 in
    (is, inr (here ∙ refuses))

result_stays : {P : Type 0} (spot : P → Spot) (command : Command) (name : List ℕ) (locate : Bool) (old new : Option Files) (made : Result (Made P) FileError) → KeepsName name old new
    → IsResultIn spot command name locate old made → IsResultIn spot command name locate new made
result_stays spot command name locate old new (Ok made) keeps is =
    let effect = is.3 in
    (is.0, spot_stays name old new (spot is.0) keeps is.1, is.2, (effect.0, contents_stay name old new effect.0 keeps effect.1, effect.2), is.4)
result_stays spot command name locate old new (Err error) keeps (inl unread) = inl (faults_stay name old new error.fault keeps unread.0, unread.1)
result_stays spot command name locate old new (Err error) keeps (inr refused) = inr (refused.0, contents_stay name old new refused.0 keeps refused.1, refused.2, refused.3)

pub entry_stays : {P : Type 0} (spot : P → Spot) (action : Action) (locate : Bool) (old new : Option Files) (entry : Entry P) → KeepsName entry.name.now old new
    → IsEntryIn spot action locate old entry → IsEntryIn spot action locate new entry
entry_stays spot action locate old new entry keeps is = (is.0, is.1, result_stays spot is.0 entry.name.now locate old new entry.made keeps is.2)

-- what is held stays, once an entry is saved that is apart from all
pub waiting_stay : {P : Type 0} (spot : P → Spot) (action : Action) (locate : Bool) (result : Result (Unit {0}) Trouble) (old new : Option Files) (entry : Entry P) (entries : List (Entry P))
    → WasSaved spot (file_of entry.made) result old new → IsApartFromAll spot old entry entries → AreWaiting spot action locate old entries → AreWaiting spot action locate new entries
waiting_stay spot action locate result old new entry [] saved apart waiting = tt
waiting_stay spot action locate result old new entry (other ∷ others) saved apart waiting = (
  entry_stays spot action locate old new other (was_saved_keeps spot (file_of entry.made) result old new other.name.now saved apart.0) waiting.0,
  from_all_stays spot (file_of entry.made) result old new other others saved waiting.1,
  waiting_stay spot action locate result old new entry others saved apart.1 waiting.2,
)

-- ---- entries of a list

pub apart_at : {P : Type 0} (spot : P → Spot) (files : Option Files) (name : List ℕ) (entries : List (Entry P)) (i : ℕ) (entry : Entry P) → i < length entries → entry ≡ get_or entries i entry
    → AreApartFrom spot files entries name → IsApartFromName spot files (file_of entry.made) name
apart_at spot files name [] i entry below is apart = absurd (omega (arith, below))
apart_at {P} spot files name (first ∷ entries) zero entry below is apart = subst (λ (e : Entry P). IsApartFromName spot files (file_of e.made) name) (sym is) apart.0
apart_at spot files name (first ∷ entries) (suc i) entry below is apart = apart_at spot files name entries i entry (omega (arith, below)) is apart.1

-- an entry is apart from a file at the place of a name
placed_apart_of : {P : Type 0} (spot : P → Spot) (files : Option Files) (name : List ℕ) (place : P) (file : Option (ChangedFile P)) → IsSpotOf files name (spot place)
    → IsPlacedApart spot files file place → IsApartFromName spot files file name
placed_apart_of spot None name place None is apart = tt
placed_apart_of spot None name place (Some file) is apart = tt
placed_apart_of spot (Some files) name place None is apart = tt
placed_apart_of spot (Some files) name place (Some file) is apart = subst (λ (s : Spot). AreApart (spot file.place) s) is apart

pub placed_apart : {P : Type 0} (spot : P → Spot) (files : Option Files) (name : List ℕ) (place : P) (entries : List (Entry P)) → IsSpotOf files name (spot place)
    → ArePlacedApart spot files entries place → AreApartFrom spot files entries name
placed_apart spot files name place [] is apart = tt
placed_apart spot files name place (entry ∷ entries) is apart =
    (placed_apart_of spot files name place (file_of entry.made) is apart.0, placed_apart spot files name place entries is apart.1)

pub placed_one_more : {P : Type 0} (spot : P → Spot) (files : Option Files) (other : P) (entries : List (Entry P)) (entry : Entry P) → ArePlacedApart spot files entries other
    → IsPlacedApart spot files (file_of entry.made) other → ArePlacedApart spot files (entries ++ entry ∷ []) other
placed_one_more spot files other [] entry all apart = (apart, tt)
placed_one_more spot files other (first ∷ entries) entry all apart = (all.0, placed_one_more spot files other entries entry all.1 apart)

-- ---- saves of many

-- the first of them: what was made of one file was saved, and then the others
pub record FirstSaved {P : Type 0} (spot : P → Spot) (file : Option (ChangedFile P)) (files : List (ChangedFile P)) (results : List (Result (Unit {0}) Trouble)) (old new : Option Files) : Type 0 where
  pub result : Result (Unit {0}) Trouble
  pub mid : Option Files
  pub rest : List (Result (Unit {0}) Trouble)
  pub was : WasSaved spot file result old mid
  pub saves : SavesEach spot files rest mid new

first_saved : {P : Type 0} (spot : P → Spot) (file : Option (ChangedFile P)) (files : List (ChangedFile P)) (results : List (Result (Unit {0}) Trouble)) (old new : Option Files)
    → SavesEach spot (with_file file files) results old new → FirstSaved spot file files results old new
first_saved spot None files results old new saves = record { result = Ok tt; mid = old; rest = results; was = (refl, refl); saves = saves }
first_saved spot (Some file) files [] old new saves = absurd saves
first_saved spot (Some file) files (result ∷ results) old new saves =
    record { result = result; mid = saves.0; rest = results; was = (saves.1, saves.2); saves = saves.3 }

pub saves_keep : {P : Type 0} (spot : P → Spot) (entries : List (Entry P)) (results : List (Result (Unit {0}) Trouble)) (old new : Option Files) (name : List ℕ)
    → SavesEach spot (files_of entries) results old new → AreApartFrom spot old entries name → KeepsName name old new
saves_keep spot [] [] old new name saves apart = subst (λ (files : Option Files). KeepsName name old files) (sym saves) (keeps_here name old)
saves_keep spot [] (result ∷ results) old new name saves apart = absurd saves
saves_keep spot (entry ∷ entries) results old new name saves apart =
    let one = first_saved spot (file_of entry.made) (files_of entries) results old new saves in
    keeps_then name old one.mid new (was_saved_keeps spot (file_of entry.made) one.result old one.mid name one.was apart.0)
    (saves_keep spot entries one.rest one.mid new name one.saves (all_apart_stay spot (file_of entry.made) one.result old one.mid entries name one.was apart.1))

-- the save whose result was taken
pub taken_save : {P : Type 0} (spot : P → Spot) (file : Option (ChangedFile P)) (files : List (ChangedFile P)) (saved : Result (Unit {0}) Trouble) (results rest : List (Result (Unit {0}) Trouble)) (old new : Option Files)
    → TakesResult file saved results rest → SavesEach spot (with_file file files) results old new
    → (mid : Option Files) × WasSaved spot file saved old mid × SavesEach spot files rest mid new
taken_save spot None files saved results rest old new takes saves =
    (old, (takes.0, refl), subst (λ (rs : List (Result (Unit {0}) Trouble)). SavesEach spot files rs old new) (sym takes.1) saves)
taken_save spot (Some file) files saved [] rest old new takes saves = absurd saves
taken_save spot (Some file) files saved (result ∷ results) rest old new takes saves = (
  saves.0,
  subst (λ (r : Result (Unit {0}) Trouble). WasSaved spot (Some file) r old saves.0) (sym takes.0) (saves.1, saves.2),
  subst (λ (rs : List (Result (Unit {0}) Trouble)). SavesEach spot files rs saves.0 new) (sym takes.1) saves.3,
)

-- ---- the files of entries

with_append : {P : Type 0} (file : Option (ChangedFile P)) (files others : List (ChangedFile P)) → with_file file (files ++ others) ≡ with_file file files ++ others
with_append None files others = refl
with_append (Some file) files others = refl

pub files_more : {P : Type 0} (entries : List (Entry P)) (entry : Entry P) → files_of (entries ++ entry ∷ []) ≡ files_of entries ++ with_file (file_of entry.made) []
files_more [] entry = refl
files_more (first ∷ entries) entry = ap (with_file (file_of first.made)) (files_more entries entry) ∙ with_append (file_of first.made) (files_of entries) (with_file (file_of entry.made) [])

pub no_file : {P : Type 0} (file : Option (ChangedFile P)) (files : List (ChangedFile P)) → IsBorrowed file None → files ≡ files ++ with_file file []
no_file None files is = sym (append-nil files)
no_file (Some file) files is = absurd is

-- ---- where nothing is held

pub none_apart : {P : Type 0} (spot : P → Spot) (files : Option Files) (entries : List (Entry P)) (name : List ℕ) → entries ≡ [] → AreApartFrom spot files entries name
none_apart {P} spot files entries name none = subst (λ (es : List (Entry P)). AreApartFrom spot files es name) (sym none) tt

-- ---- one more of a list

pub taken_entry : {X : Type 0} (xs : List X) (i : ℕ) (x : X) → i < length xs → x ≡ get_or xs i x → take (i + 1) xs ≡ take i xs ++ x ∷ []
taken_entry xs i x below is = take_more xs i x below ∙ ap (λ y. take i xs ++ y ∷ []) (sym is)

pub left_entry : {X : Type 0} (xs : List X) (i : ℕ) (x : X) → i < length xs → x ≡ get_or xs i x → drop i xs ≡ x ∷ drop (i + 1) xs
left_entry xs i x below is = drop_more xs i x below ∙ ap (λ y. y ∷ drop (i + 1) xs) (sym is)
