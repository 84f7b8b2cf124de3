-- Disks while a save renames its files: a power loss may still undo it.
use Rattle.std.specs.Prelude.{◌⊎◌, Option}
use Rattle.tf_saving.specs.Adoption.{IsAdoptable}
use Rattle.tf_saving.specs.Disk.{File, Names, Disk}
use Rattle.tf_saving.specs.Runs.{Pair}
use Rattle.tf_saving.specs.Stable.{Each, InAll, Owns, HasNew, OwnsAlone, HoldsJournal, RecoversTo}

-- this is the part's own file, and there is a new one
abbrev pub OwnsWithNew : Option File → Names → Type 0
OwnsWithNew file n = Owns file n × HasNew n

-- the new text was renamed, which a power loss may still undo
pub record IsRenaming (old new : Pair) (d : Disk) : Type 0 where
  pub can_adopt : IsAdoptable d.checks new
  pub current : OwnsAlone new.text d.text.current
  pub possible : Each (λ n. OwnsWithNew old.text n ⊎ OwnsAlone new.text n) d.text.possible
  pub journal : InAll (λ n. OwnsWithNew old.journal n × HoldsJournal new.journal n) d.journal

-- text and journal are both old or both new
abbrev pub IsOldOrNew : Pair → Pair → Disk → Type 0
IsOldOrNew old new d = RecoversTo old d ⊎ IsRenaming old new d ⊎ RecoversTo new d
