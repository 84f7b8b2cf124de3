-- Disks from which every recovery finds one text and its journal. A reader of the laws need not
-- believe these definitions: what the laws take for granted is in Adoption, a disk without new
-- files is stable (`InitialIsStable`), and what a command leaves is stable again.
use Rattle.std.specs.Prelude.{◌≡◌, ◌⊎◌, ℕ, List, [], ◌∷◌, Option, Some, None}
use Rattle.tf_saving.specs.Adoption.{IsAdoptable, IsUnadoptable}
use Rattle.tf_saving.specs.Disk.{File, Durable, Names, Directory, Checks, Disk}
use Rattle.tf_saving.specs.Runs.{Pair, found}

abbrev pub Each : (Names → Type 0) → List Names → Type 0
Each P [] = Unit {0}
Each P (n ∷ ns) = P n × Each P ns

-- it holds of what the next call finds, and of all that a power loss may leave
abbrev pub InAll : (Names → Type 0) → Directory → Type 0
InAll P f = P f.current × Each P f.possible

abbrev pub Owns : Option File → Names → Type 0
Owns file n = n.own ≡ file

abbrev pub HasNoNew : Names → Type 0
HasNoNew n = n.new ≡ None

abbrev pub HasNew : Names → Type 0
HasNew n = (file : File) × (n.new ≡ Some file)

-- this is the part's own file, and there is no new one
abbrev pub OwnsAlone : Option File → Names → Type 0
OwnsAlone file n = Owns file n × HasNoNew n

-- no new file was renamed; there is no new journal, or there is a new text too
pub record IsUnrenamed (p : Pair) (d : Disk) : Type 0 where
  pub text : InAll (Owns p.text) d.text
  pub journal : InAll (Owns p.journal) d.journal
  pub no_lone_journal : InAll HasNoNew d.journal ⊎ InAll HasNew d.text

-- this journal is in place, or is the new file, whole
abbrev pub HoldsJournal : Option File → Names → Type 0
HoldsJournal journal n =
    OwnsAlone journal n
    ⊎ ((bytes : List ℕ) × (n.new ≡ Some (Durable bytes)) × (journal ≡ Some (Durable bytes)))

-- the new text was renamed; the new journal was, or still is to be
pub record IsRenamed (p : Pair) (d : Disk) : Type 0 where
  pub can_adopt : IsAdoptable d.checks p
  pub text : InAll (OwnsAlone p.text) d.text
  pub journal : InAll (HoldsJournal p.journal) d.journal

-- the journal is in place; a new one, if any, may not be adopted
abbrev pub MayHaveStray : Checks → Pair → Names → Type 0
MayHaveStray checks p n = Owns p.journal n × (HasNoNew n ⊎ IsUnadoptable checks p n.new)

-- there is no new text, and no new journal that may be adopted
pub record HasOnlyStray (p : Pair) (d : Disk) : Type 0 where
  pub text : InAll (OwnsAlone p.text) d.text
  pub journal : InAll (MayHaveStray d.checks p) d.journal

abbrev pub RecoversTo : Pair → Disk → Type 0
RecoversTo p d = IsUnrenamed p d ⊎ IsRenamed p d ⊎ HasOnlyStray p d

-- and this is what a command finds that need not recover
pub record IsStable (p : Pair) (d : Disk) : Type 0 where
  pub recovers : RecoversTo p d
  pub is_found : found d ≡ p
  pub is_recovered : HasNoNew d.journal.current ⊎ HasNew d.text.current
