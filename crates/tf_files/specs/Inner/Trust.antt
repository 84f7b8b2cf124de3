-- Whose journals and new files are taken beside a text.
use Rattle.std.specs.Prelude.{ℕ, Bool, false, Option, Some, None, ◌==◌, ◌&&◌, ◌||◌, not, bit_and}
use Rattle.tf_files.specs.declared.trust.Access.{Access}

-- it belongs to this user, if one is known
abbrev pub is_of : Access → Option ℕ → Bool
is_of file (Some user) = file.owner == user
is_of file None = false

-- bits of a mode: POSIX, S_IWGRP, 0o020, and S_IWOTH, 0o002
abbrev pub may_group_write : Access → Bool
may_group_write file = not (bit_and file.mode 16 == 0)

abbrev pub may_others_write : Access → Bool
may_others_write file = not (bit_and file.mode 2 == 0)

-- besides its owner, only members of this group may create files in the folder
abbrev pub may_only_group_create : Access → ℕ → Bool
may_only_group_create folder group =
    not (may_others_write folder) && (not (may_group_write folder) || (folder.group == group))

-- the file has the text's group, whose members may write the text, and nobody else can have made or
-- written it
abbrev pub is_of_team : Access → Access → Access → Bool
is_of_team file text folder =
    ((file.group == text.group) && may_group_write text)
    && (not (may_others_write file) && may_only_group_create folder text.group)

-- in a folder of which this is known
abbrev pub is_of_team_in : Access → Access → Option Access → Bool
is_of_team_in file text (Some folder) = is_of_team file text folder
is_of_team_in file text None = false

-- those who may write the file may write the text, apart from the file's owner
abbrev pub is_written_alike : Access → Access → Bool
is_written_alike file text =
    not (may_others_write file)
    && (not (may_group_write file) || ((file.group == text.group) && may_group_write text))

-- it belongs to the caller or to the text's owner, and nobody else can have written it
abbrev pub is_of_owner : Access → Access → Option ℕ → Bool
is_of_owner file text caller =
    (is_of file caller || (file.owner == text.owner)) && is_written_alike file text

-- everybody may write the text, or it is the team's, or the owner's
abbrev pub is_trusted : Access → Access → Option Access → Option ℕ → Bool
is_trusted file text folder caller =
    may_others_write text || (is_of_team_in file text folder || is_of_owner file text caller)
