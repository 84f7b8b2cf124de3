-- Which files two files with their journals have in common.
use Rattle.std.specs.Prelude.{◌≡◌, ◌⊎◌, Option, Some, None, is_some, if◌then◌else◌}
use Rattle.tf_files.specs.declared.found_files.FileId.{FileId}
use Rattle.tf_files.specs.declared.found_files.FoundFiles.{FoundFiles}
use Rattle.tf_files.specs.declared.snapshot.Snapshot.{Snapshot}
use Rattle.tf_files.specs.declared.snapshot.Snapshots.{Snapshots}

-- ---- the files of a text and a journal that were read, where there are no new files

-- the file, if it is a regular one
abbrev pub regular_id : Snapshot → Option FileId
regular_id seen = if is_some seen.regular then Some seen.id else None

-- both, if they are regular files
abbrev pub both_read : Option FileId → Option FileId → Option FoundFiles
both_read (Some text) (Some journal) =
    Some (record { text = text; journal = Some journal; new_text = None; new_journal = None })
both_read _ _ = None

-- the text alone, if it is a regular file
abbrev pub text_read : Option FileId → Option FoundFiles
text_read (Some text) =
    Some (record { text = text; journal = None; new_text = None; new_journal = None })
text_read None = None

abbrev pub files_seen : Snapshot → Option Snapshot → Option FoundFiles
files_seen text (Some journal) = both_read (regular_id text) (regular_id journal)
files_seen text None = text_read (regular_id text)

-- as they were found before they were read, if that is known
abbrev pub files_read : Option Snapshots → Option FoundFiles
files_read (Some seen) = files_seen seen.text seen.journal
files_read None = None

-- ---- what two files have in common

-- this is one of the files that were found
abbrev pub IsFileOf : FileId → FoundFiles → Type 0
IsFileOf id found =
    (id ≡ found.text) ⊎ (found.journal ≡ Some id) ⊎ (found.new_text ≡ Some id)
    ⊎ (found.new_journal ≡ Some id)

-- there is such a file, and it is one of those that were found
abbrev pub IsSomeFileOf : Option FileId → FoundFiles → Type 0
IsSomeFileOf None found = ⊥
IsSomeFileOf (Some id) found = IsFileOf id found

-- one of the files is one of the others, too
abbrev pub HaveCommon : FoundFiles → FoundFiles → Type 0
HaveCommon ours others =
    IsFileOf ours.text others ⊎ IsSomeFileOf ours.journal others ⊎ IsSomeFileOf ours.new_text others
    ⊎ IsSomeFileOf ours.new_journal others

-- one of the files may be one of the others: it is not known which these are, or one is
abbrev pub MayHaveCommon : Option FoundFiles → Option FoundFiles → Type 0
MayHaveCommon None others = Unit {0}
MayHaveCommon (Some ours) None = Unit {0}
MayHaveCommon (Some ours) (Some others) = HaveCommon ours others
