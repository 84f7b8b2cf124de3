-- A text, its journal, and their new files on a disk: what each system call does to them, and what
-- a crash or a power loss leaves. A new file has a name of its own next to the file that it
-- replaces.
use Rattle.std.specs.Prelude.{ℕ, List, [], ◌∷◌, ◌++◌, map, Option, Some, None, Bool, true, false}
use Rattle.tf_saving.specs.declared.call.SavedFile.{SavedFile}
use Rattle.tf_saving.specs.declared.call.SavedFile.TheVariants.{Text, Journal}
use Rattle.tf_saving.specs.declared.call.Syscall.{Syscall}
use Rattle.tf_saving.specs.declared.call.Syscall.TheVariants.{Open, FindNew, CreateNew, CopyAttributes, Write}
use Rattle.tf_saving.specs.declared.call.Syscall.TheVariants.{Sync, SyncDirectory, CompareNew, Compare}
use Rattle.tf_saving.specs.declared.call.Syscall.TheVariants.{CanAdopt, Rename, Remove}
use Rattle.tf_saving.specs.declared.call.Reply.{Reply}
use Rattle.tf_saving.specs.declared.call.Reply.TheVariants.{Done, NotFound, CannotReplace, Failed}

-- a file, by its content
pub data File : Type 0 where
  -- these bytes, durable
  Durable : (bytes : List ℕ) → File
  -- these bytes, until the power fails
  Unsynced : (bytes : List ℕ) → File
  -- newly created
  Empty : File
  -- part of some bytes
  Torn : File

-- what a power loss leaves of a file
abbrev pub after_power_loss : File → File
after_power_loss (Durable bytes) = Durable bytes
after_power_loss (Unsynced bytes) = Torn
after_power_loss Empty = Torn
after_power_loss Torn = Torn

-- the file under a part's own name, and the one under its new file's name
pub record Names : Type 0 where
  pub own : Option File
  pub new : Option File

-- what the next call finds in a directory, and every content that a power loss may leave there
pub record Directory : Type 0 where
  pub current : Names
  pub possible : List Names

-- what a command finds out by comparing files and by reading them; another program may change it
pub record Checks : Type 0 where
  -- text and journal are still the files that the command read
  pub is_unchanged : Bool
  -- the part's new file is still the one that the command created
  pub is_ours : SavedFile → Bool
  -- with this text and this journal, that new journal may be adopted
  pub can_adopt : Option File → Option File → Option File → Bool

pub record Disk : Type 0 where
  pub text : Directory
  pub journal : Directory
  pub checks : Checks

-- A change of names may become durable at once, later or never, whatever other changes do.
abbrev pub maybe_changed : (Names → Names) → List Names → List Names
maybe_changed change names = map change names ++ names

-- with this new file, or none
abbrev pub with_new : Option File → Names → Names
with_new file names = record { own = names.own; new = file }

-- the new file has replaced the part's own
abbrev pub with_own : File → Names → Names
with_own file names = record { own = Some file; new = None }

-- an empty new file is created where there is none
abbrev pub created : Option File → Directory → Directory
created None f =
    record {
      current = with_new (Some Empty) f.current;
      possible = maybe_changed (with_new (Some Torn)) f.possible;
    }
created (Some file) f = f

-- All bytes are written to an empty file. After other bytes they would not be those that were
-- meant.
abbrev pub written : List ℕ → File → File
written bytes Empty = Unsynced bytes
written bytes (Durable others) = Torn
written bytes (Unsynced others) = Torn
written bytes Torn = Torn

abbrev pub new_written : List ℕ → Option File → Directory → Directory
new_written bytes None f = f
new_written bytes (Some file) f =
    record { current = with_new (Some (written bytes file)) f.current; possible = f.possible }

-- a write that fails, or is interrupted, leaves part of the bytes
abbrev pub new_torn : Option File → Directory → Directory
new_torn None f = f
new_torn (Some file) f = record { current = with_new (Some Torn) f.current; possible = f.possible }

-- the file's bytes are durable
abbrev pub made_durable : File → File
made_durable (Unsynced bytes) = Durable bytes
made_durable (Durable bytes) = Durable bytes
made_durable Empty = Durable []
made_durable Torn = Torn

-- where there is a new file, it is this one
abbrev pub replaced_new : Option File → File → Names → Names
replaced_new None file names = names
replaced_new (Some other) file names = with_new (Some file) names

abbrev pub if_new : File → Names → Names
if_new file names = replaced_new names.new file names

abbrev pub new_synced : Option File → Directory → Directory
new_synced None f = f
new_synced (Some file) f =
    record {
      current = with_new (Some (made_durable file)) f.current;
      possible = maybe_changed (if_new (made_durable file)) f.possible;
    }

-- what a power loss leaves of a new file, if there is one
abbrev pub new_after_power_loss : Option File → Option File
new_after_power_loss None = None
new_after_power_loss (Some file) = Some (after_power_loss file)

-- The names are durable, whatever the files' bytes.
abbrev pub directory_synced : Directory → Directory
directory_synced f =
    record {
      current = f.current;
      possible = with_new (new_after_power_loss f.current.new) f.current ∷ [];
    }

-- A file that is renamed before its bytes are durable counts as torn from then on.
abbrev pub renamed : Option File → Directory → Directory
renamed None f = f
renamed (Some file) f =
    record {
      current = with_own (after_power_loss file) f.current;
      possible = maybe_changed (with_own (after_power_loss file)) f.possible;
    }

abbrev pub new_removed : Directory → Directory
new_removed f =
    record { current = with_new None f.current; possible = maybe_changed (with_new None) f.possible }

-- the bytes that are to be saved
pub record Contents : Type 0 where
  pub text : List ℕ
  pub journal : List ℕ

abbrev pub bytes_of : SavedFile → Contents → List ℕ
bytes_of Text s = s.text
bytes_of Journal s = s.journal

abbrev pub directory_of : SavedFile → Disk → Directory
directory_of Text d = d.text
directory_of Journal d = d.journal

abbrev pub with_directory : SavedFile → Directory → Disk → Disk
with_directory Text f d = record { text = f; journal = d.journal; checks = d.checks }
with_directory Journal f d = record { text = d.text; journal = f; checks = d.checks }

-- the disk after a call was done
abbrev pub when_done : Syscall → Contents → Disk → Disk
when_done (Open part) s d = d
when_done (FindNew part) s d = d
when_done (CopyAttributes part) s d = d
when_done (CreateNew part) s d =
    with_directory part (created (directory_of part d).current.new (directory_of part d)) d
when_done (Write part) s d =
    with_directory part (new_written (bytes_of part s)
    (directory_of part d).current.new (directory_of part d)) d
when_done (Sync part) s d =
    with_directory part (new_synced (directory_of part d).current.new (directory_of part d)) d
when_done (SyncDirectory part) s d = with_directory part (directory_synced (directory_of part d)) d
when_done (CompareNew part) s d = d
when_done Compare s d = d
when_done CanAdopt s d = d
when_done (Rename part) s d =
    with_directory part (renamed (directory_of part d).current.new (directory_of part d)) d
when_done (Remove part) s d = with_directory part (new_removed (directory_of part d)) d

-- the disk after a call failed
abbrev pub when_failed : Syscall → Disk → Disk
when_failed (Write part) d =
    with_directory part (new_torn (directory_of part d).current.new (directory_of part d)) d
when_failed _ d = d

abbrev pub if_found : Option File → Reply
if_found None = NotFound
if_found (Some file) = Done

abbrev pub if_not_found : Option File → Reply
if_not_found None = Done
if_not_found (Some file) = CannotReplace

abbrev pub if_same : Bool → Reply
if_same true = Done
if_same false = Failed

abbrev pub if_adoptable : Bool → Reply
if_adoptable true = Done
if_adoptable false = NotFound

-- the reply to a call that does not fail
abbrev pub reply_when_done : Syscall → Disk → Reply
reply_when_done (Open part) d = if_found (directory_of part d).current.own
reply_when_done (FindNew part) d = if_found (directory_of part d).current.new
reply_when_done (CreateNew part) d = if_not_found (directory_of part d).current.new
reply_when_done (CopyAttributes part) d = Done
reply_when_done (Write part) d = if_found (directory_of part d).current.new
reply_when_done (Sync part) d = if_found (directory_of part d).current.new
reply_when_done (SyncDirectory part) d = Done
reply_when_done (CompareNew part) d = if_same (d.checks.is_ours part)
reply_when_done Compare d = if_same d.checks.is_unchanged
reply_when_done CanAdopt d =
    if_adoptable (d.checks.can_adopt d.text.current.own d.journal.current.own d.journal.current.new)
reply_when_done (Rename part) d = if_found (directory_of part d).current.new
reply_when_done (Remove part) d = if_found (directory_of part d).current.new
