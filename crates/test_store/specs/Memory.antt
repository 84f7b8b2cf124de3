-- What files in memory hold, all of which is known.
use Rattle.std.specs.Prelude.{ℕ, zero, suc, ◌+◌, Bool, false, not, List, [], ◌∷◌, length, nat_eq, nat_lt}
use Rattle.std.specs.Prelude.{if◌then◌else◌, bytes_eq, string_bytes}
use Rattle.tf_session.specs.declared.fault.RunFault.{RunFault}
use Rattle.tf_files.specs.Stores.{Files, Spot}
use Rattle.tf_files.specs.declared.store.ReadFile.{ReadFile}
use Rattle.test_store.specs.declared.memory_files.Name.{Name}
use Rattle.test_store.specs.declared.memory_files.MemoryFiles.{MemoryFiles}

-- the number of the file that a name leads to: that of the first of these names which it is, or `none`
abbrev pub number_of : List Name → ℕ → List ℕ → ℕ
number_of [] none name = none
number_of (first ∷ names) none name =
    if bytes_eq (string_bytes first.name) name then first.file else number_of names none name

-- where the text and the journal of the file of this number are
abbrev pub spot_of : ℕ → Spot
spot_of number = record { text = number + number; journal = suc (number + number) }

-- the bytes at each place; none where there is no file
abbrev pub bytes_in : List ReadFile → ℕ → List ℕ
bytes_in [] place = []
bytes_in (file ∷ files) zero = file.text.items
bytes_in (file ∷ files) (suc zero) = file.journal.items
bytes_in (file ∷ files) (suc (suc place)) = bytes_in files place

-- Of `count` files, one of which can't be saved, what is at this place may have this error: it can't
-- be read, if there is none, nor be saved, if it is that one.
abbrev pub refuses : ℕ → ℕ → Spot → RunFault → Bool
refuses count refused spot RunFault.Read = not (nat_lt spot.text (count + count))
refuses count refused spot (RunFault.Write part sent) = nat_eq spot.text (refused + refused)
refuses count refused spot fault = false

abbrev pub files_in : MemoryFiles → Files
files_in memory = record {
  spot = λ name. spot_of (number_of memory.names.items (length memory.files.items) name);
  bytes = bytes_in memory.files.items;
  refuses = refuses (length memory.files.items) memory.refused;
}
